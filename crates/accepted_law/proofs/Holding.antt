-- The memory that a settled file is emitted as holds its contents and its lists.
use Rattle.std.proofs.Common.{◌≡◌, ◌⊎◌, inl, inr, ℕ, zero, suc, ◌+◌, ◌<◌, ◌≤◌, Bool, true, false, List, [], ◌∷◌, ◌++◌, None, length, slice_index, refl, sym, ap, subst, arith, ◌∙◌, rules}
use Rattle.std.proofs.lemmas.{Bool.cases_lt, List.append_assoc, Grind.common_steps, Bool.Decides.nat_tests}
use Rattle.std.specs.List.{AllByRecursion}
use Rattle.field_words.specs.{Questions.first_of, Words.IsBytes, Writes.Part, Writes.parts_placed, Writes.zeros}
use Rattle.field_words.proofs.Nones.{front_none}
use Rattle.buffer_table.specs.{declared.buffer.Buffer.Buffer, Table.buffer_at}
use Rattle.machine_plan.specs.Memory.{bytes_at}
use Rattle.bin_list.specs.{Packets.packets_passed, Emitted.bin_text, Rules.given_of, Rules.questions_of_packets, Rules.questions_of, Rules.bin_questions}
use Rattle.shader_records.specs.Emitted.{streams_place}
use Rattle.render_list.specs.Text.{render_slots, render_text}
use Rattle.job_format.specs.Model.{FileModel}
use Rattle.job_check.specs.Jobs.{job_of, has_bin, grid_of, slot_of, places_in, input_for, layout_of, bin_list_of, records_of, streams_of, render_list_of}
use Rattle.job_check.specs.Emit.{PartsFit, content_parts, part, list_parts, later_parts, memory_parts, jobs_parts, memory_of}
use Rattle.job_check.specs.Shaders.{table_of, content_of}
use Rattle.job_check.proofs.Layouts.{layout_numbers, lists_inside, layout_apart, begin_from, lists_apart as jobs_apart}
use Rattle.job_check.proofs.Views.{no_bin_list, no_records, no_streams, records_within, streams_within, records_are, streams_are, list_length}
use Rattle.job_check.proofs.{Codes.as_many, Codes.content_long, Windows.length_placed}
use Rattle.job_check.proofs.Emission.{placed-append, contents_fit}
use Rattle.accepted_law.specs.Settled.{Settled, AreSettled, Holds, ListsEnd}
use Rattle.accepted_law.proofs.ByteTexts.{bytes_none, bytes_zeros, bytes_placed, parts_append, bytes_passed, bytes_texts, bytes_records, bytes_uniforms, bytes_slots}
use Rattle.accepted_law.proofs.Placing.{bytes_are, IsClear, Misses, misses_append, placed_part, fit_append, contents_parts_fit, content_lies}
use Rattle.accepted_law.proofs.{BinRoom.list_within, RenderWalking.frame_setup, RenderWalking.frame_fits}
use Rattle.accepted_law.proofs.Tables.{buffer_sound, buffers_apart, lists_apart}
use Rattle.field_words.proofs.Writes.{length_zeros}

-- The emitted lists are no longer than their room.
rules_of_list : (list : List ℕ) (declared : ℕ) (f : FileModel) (handles : List ℕ) → first_of (bin_questions list declared (table_of f) handles) ≡ None
    → first_of (questions_of_packets (given_of list declared (table_of f) handles) (packets_passed list)) ≡ None
unfolding questions_of
rules_of_list list declared f handles none = grind (arith, common_steps, nat_tests, front_none)

pub bin_is : (f : FileModel) (j : ℕ) → has_bin f j ≡ true → bin_list_of f j ≡ bin_text (job_of f j).bin (job_of f j).declared (table_of f) (job_of f j).handles (layout_of f j)
unfolding bin_list_of
bin_is f j some = rw some refl

bin_by : (f : FileModel) (j : ℕ) (b : Bool) → has_bin f j ≡ b → Settled f j → length (bin_list_of f j) ≤ length (job_of f j).bin
bin_by f j b some s = search (rules, arith, bin_is, list_within, rules_of_list, no_bin_list)

records_by : (f : FileModel) (j : ℕ) (b : Bool) → has_bin f j ≡ b → Settled f j → length (records_of f j) ≤ length (job_of f j).records
records_by f j b some s = search (rules, arith, records_within, no_records)

streams_by : (f : FileModel) (j : ℕ) (b : Bool) → has_bin f j ≡ b → Settled f j → length (streams_of f j) ≤ length (job_of f j).uniforms
streams_by f j b some s = search (rules, arith, streams_within, no_streams)

pub lists_end : (f : FileModel) (j : ℕ) → Settled f j → ListsEnd f j
lists_end f j s = search (rules, arith, layout_apart, bin_by, records_by, streams_by, list_length, frame_setup)

-- They are bytes.
bin_bytes : (f : FileModel) (j : ℕ) (b : Bool) → has_bin f j ≡ b → Settled f j → IsBytes (bin_list_of f j)
bin_bytes f j b some s = search (rules, arith, bin_is, bytes_texts, bytes_passed, no_bin_list, bytes_none)

records_bytes : (f : FileModel) (j : ℕ) (b : Bool) → has_bin f j ≡ b → IsBytes (records_of f j)
records_bytes f j true some = subst IsBytes (records_are f j some) (bytes_records (input_for f j) (streams_place (layout_of f j)) (length (input_for f j).states))
records_bytes f j false none = subst IsBytes (sym (no_records f j none)) bytes_none

streams_bytes : (f : FileModel) (j : ℕ) (b : Bool) → has_bin f j ≡ b → IsBytes (streams_of f j)
streams_bytes f j true some = subst IsBytes (streams_are f j some) (bytes_uniforms (input_for f j) (streams_place (layout_of f j)) (length (input_for f j).states))
streams_bytes f j false none = subst IsBytes (sym (no_streams f j none)) bytes_none

render_bytes : (f : FileModel) (j : ℕ) → Settled f j → IsBytes (render_list_of f j)
unfolding render_list_of render_text
render_bytes f j s = bytes_slots (render_slots (job_of f j).frame (places_in f j) (grid_of f j) (slot_of f j)) (frame_fits f j s)

-- The memory: contents first, then the four lists of each job.
abbrev pub with_contents : FileModel → List ℕ
with_contents f = parts_placed (zeros f.mem_size) (content_parts f.buffers f.contents)

abbrev pub four_parts : FileModel → ℕ → List Part
four_parts f j =
    part ((layout_of f j).place + (layout_of f j).bin) (bin_list_of f j)
    ∷ (part ((layout_of f j).place + (layout_of f j).records) (records_of f j)
    ∷ (part ((layout_of f j).place + (layout_of f j).uniforms) (streams_of f j)
    ∷ (part ((layout_of f j).place + (layout_of f j).render) (render_list_of f j) ∷ [])))

unfoldable pub all_parts : FileModel → List Part
all_parts f = jobs_parts f (length f.jobs)

pub memory_is : (f : FileModel) → memory_of f ≡ parts_placed (zeros f.mem_size) (content_parts f.buffers f.contents ++ all_parts f)
unfolding memory_of all_parts
memory_is f = refl

lists_behind : (f : FileModel) → memory_of f ≡ parts_placed (with_contents f) (all_parts f)
lists_behind f = memory_is f ∙ placed-append (zeros f.mem_size) (content_parts f.buffers f.contents) (all_parts f)

-- What is true of the parts of each job is true of all.
jobs_fit : (f : FileModel) (n : ℕ) → ((j : ℕ) → j < n → PartsFit f.mem_size (four_parts f j)) → PartsFit f.mem_size (jobs_parts f n)
unfolding jobs_parts memory_parts list_parts later_parts
jobs_fit f zero each = tt
jobs_fit f (suc n) each = fit_append f.mem_size (jobs_parts f n) (four_parts f n) (jobs_fit f n (λ j below. each j (omega (arith, below)))) (each n (omega arith))

jobs_bytes : (f : FileModel) (n : ℕ) → ((j : ℕ) → j < n → AllByRecursion (λ part. IsBytes part.bytes) (four_parts f j)) → AllByRecursion (λ part. IsBytes part.bytes) (jobs_parts f n)
unfolding jobs_parts memory_parts list_parts later_parts
jobs_bytes f zero each = tt
jobs_bytes f (suc n) each = parts_append (jobs_parts f n) (four_parts f n) (jobs_bytes f n (λ j below. each j (omega (arith, below)))) (each n (omega arith))

pub jobs_miss : (f : FileModel) (q n : ℕ) → ((j : ℕ) → j < n → Misses q (four_parts f j)) → Misses q (jobs_parts f n)
unfolding jobs_parts memory_parts list_parts later_parts
jobs_miss f q zero each = tt
jobs_miss f q (suc n) each = misses_append q (jobs_parts f n) (four_parts f n) (jobs_miss f q n (λ j below. each j (omega (arith, below)))) (each n (omega arith))

pub contents_in : (f : FileModel) (j : ℕ) → Settled f j → PartsFit f.mem_size (content_parts f.buffers f.contents)
contents_in f j s = contents_parts_fit f.mem_size f.buffers f.contents (contents_fit f s.sound s.well_formed.contents)

four_in : (f : FileModel) (j : ℕ) → Settled f j → PartsFit f.mem_size (four_parts f j)
four_in f j s = search (rules, arith, lists_end, lists_inside)

pub all_in : (f : FileModel) → AreSettled f → PartsFit f.mem_size (all_parts f)
unfolding all_parts
all_in f all = jobs_fit f (length f.jobs) (λ j inside. four_in f j (all j inside))

pub zeros_fit : (size : ℕ) (parts : List Part) → PartsFit size parts → PartsFit (length (zeros size)) parts
zeros_fit size parts fit = subst (λ n. PartsFit n parts) (sym (length_zeros size)) fit

pub long_contents : (f : FileModel) (j : ℕ) → Settled f j → length (with_contents f) ≡ f.mem_size
long_contents f j s = length_placed (zeros f.mem_size) (content_parts f.buffers f.contents) (zeros_fit f.mem_size (content_parts f.buffers f.contents) (contents_in f j s)) ∙ length_zeros f.mem_size

all_fit : (f : FileModel) (j : ℕ) → Settled f j → AreSettled f → PartsFit (length (with_contents f)) (all_parts f)
all_fit f j s all = subst (λ n. PartsFit n (all_parts f)) (sym (long_contents f j s)) (all_in f all)

memory_long : (f : FileModel) (j : ℕ) → Settled f j → AreSettled f → length (memory_of f) ≡ f.mem_size
memory_long f j s all = ap length (lists_behind f) ∙ length_placed (with_contents f) (all_parts f) (all_fit f j s all) ∙ long_contents f j s

parts_bytes : (buffers : List Buffer) (contents : List (List ℕ)) → AllByRecursion IsBytes contents → AllByRecursion (λ part. IsBytes part.bytes) (content_parts buffers contents)
unfolding content_parts
parts_bytes [] contents all = tt
parts_bytes (buffer ∷ buffers) [] all = tt
parts_bytes (buffer ∷ buffers) (content ∷ contents) all = (all.0, parts_bytes buffers contents all.1)

four_bytes : (f : FileModel) (j : ℕ) → Settled f j → AllByRecursion (λ part. IsBytes part.bytes) (four_parts f j)
four_bytes f j s = (bin_bytes f j (has_bin f j) refl s, (records_bytes f j (has_bin f j) refl, (streams_bytes f j (has_bin f j) refl, (render_bytes f j s, tt))))

memory_bytes : (f : FileModel) (j : ℕ) → Settled f j → AreSettled f → IsBytes (memory_of f)
unfolding all_parts
memory_bytes f j s all = search (arith, bytes_placed, bytes_zeros, parts_bytes, lists_behind, jobs_bytes, four_bytes)

-- The parts of job j among those of the first n jobs: those of later jobs lie behind its lists.
record Split (f : FileModel) (j n : ℕ) : Type 0 where
  front : List Part
  rest : List Part
  is : jobs_parts f n ≡ front ++ (four_parts f j ++ rest)
  misses : (q : ℕ) → q < (layout_of f j).place + (layout_of f j).end → Misses q rest

later_miss : (f : FileModel) (j k q : ℕ) → j < k → q < (layout_of f j).place + (layout_of f j).end → Misses q (four_parts f k)
later_miss f j k q before below = search (rules, arith, jobs_apart)

split : (f : FileModel) (j n : ℕ) → j < n → Split f j n
unfolding jobs_parts memory_parts list_parts later_parts
split f j zero below = absurd (omega (arith, below))
split f j (suc n) below =
    elim (cases_lt j n) [
      | inl earlier ↦
          let at = split f j n earlier in
          record {
            front = at.front;
            rest = at.rest ++ four_parts f n;
            is = ap (λ parts. parts ++ four_parts f n) at.is
                ∙ append_assoc at.front (four_parts f j ++ at.rest) (four_parts f n)
                ∙ ap (λ parts. at.front ++ parts) (append_assoc (four_parts f j) at.rest (four_parts f n));
            misses = λ q inside. misses_append q at.rest (four_parts f n) (at.misses q inside) (later_miss f j n q earlier inside);
          }
      | inr past ↦
          let same : n ≡ j = omega (arith, below, past) in
          subst (λ k. Split f k (suc n)) same (record { front = jobs_parts f n; rest = []; is = refl; misses = λ q inside. tt })
    ]

-- The lists stand: none touches another.
record ListsStand (f : FileModel) (j : ℕ) : Type 0 where
  bin : bytes_at (memory_of f) ((layout_of f j).place + (layout_of f j).bin) (length (bin_list_of f j)) ≡ bin_list_of f j
  records : bytes_at (memory_of f) ((layout_of f j).place + (layout_of f j).records) (length (records_of f j)) ≡ records_of f j
  uniforms : bytes_at (memory_of f) ((layout_of f j).place + (layout_of f j).uniforms) (length (streams_of f j)) ≡ streams_of f j
  render : bytes_at (memory_of f) ((layout_of f j).place + (layout_of f j).render) (length (render_list_of f j)) ≡ render_list_of f j

-- a part of the four, with what is in front of it and behind
part_stands : (f : FileModel) (j : ℕ) (before : List Part) (one : Part) (behind : List Part) → Settled f j → AreSettled f → (at : Split f j (length f.jobs))
    → four_parts f j ++ at.rest ≡ before ++ (one ∷ (behind ++ at.rest)) → one.place + length one.bytes ≤ (layout_of f j).place + (layout_of f j).end
    → ((i : ℕ) → i < length one.bytes → Misses (one.place + i) behind) → bytes_at (memory_of f) one.place (length one.bytes) ≡ one.bytes
unfolding all_parts
part_stands f j before one behind s all at is upto misses =
    let front : List Part = at.front ++ before in
    let rest : List Part = behind ++ at.rest in
    let cut : all_parts f ≡ front ++ (one ∷ rest) = at.is ∙ ap (λ parts. at.front ++ parts) is ∙ sym (append_assoc at.front before (one ∷ rest)) in
    bytes_are (memory_of f) one.place one.bytes (λ i below.
    ap (λ m. slice_index m (one.place + i)) (lists_behind f ∙ ap (parts_placed (with_contents f)) cut)
    ∙ placed_part (with_contents f) front one rest i (subst (PartsFit (length (with_contents f))) cut (all_fit f j s all)) below
    (misses_append (one.place + i) behind at.rest (misses i below) (at.misses (one.place + i) (omega (arith, upto, below)))))

lists_stand : (f : FileModel) (j : ℕ) → Settled f j → AreSettled f → ListsStand f j
lists_stand f j s all =
    let ends = lists_end f j s in
    let at = split f j (length f.jobs) s.inside in
    let place = (layout_of f j).place in
    let first = part (place + (layout_of f j).bin) (bin_list_of f j) in
    let second = part (place + (layout_of f j).records) (records_of f j) in
    let third = part (place + (layout_of f j).uniforms) (streams_of f j) in
    let fourth = part (place + (layout_of f j).render) (render_list_of f j) in
    let render : (layout_of f j).render ≤ (layout_of f j).end = omega (arith, ends.render) in
    let uniforms : (layout_of f j).uniforms ≤ (layout_of f j).render = omega (arith, ends.uniforms) in
    let records : (layout_of f j).records ≤ (layout_of f j).uniforms = omega (arith, ends.records) in
    record {
      bin = part_stands f j [] first (second ∷ (third ∷ (fourth ∷ []))) s all at refl (omega (arith, ends.bin, records, uniforms, render))
          (λ i below. (inl (omega (arith, below, ends.bin)), (inl (omega (arith, below, ends.bin, records)), (inl (omega (arith, below, ends.bin, records, uniforms)), tt))));
      records = part_stands f j (first ∷ []) second (third ∷ (fourth ∷ [])) s all at refl (omega (arith, ends.records, uniforms, render))
          (λ i below. (inl (omega (arith, below, ends.records)), (inl (omega (arith, below, ends.records, uniforms)), tt)));
      uniforms = part_stands f j (first ∷ (second ∷ [])) third (fourth ∷ []) s all at refl (omega (arith, ends.uniforms, render)) (λ i below. (inl (omega (arith, below, ends.uniforms)), tt));
      render = part_stands f j (first ∷ (second ∷ (third ∷ []))) fourth [] s all at refl (omega (arith, ends.render)) (λ i below. tt);
    }

-- The contents of a buffer stand: buffers are apart from each other and from the lists.
-- a byte of one of two that are apart is clear of a front of the other
pub clear_of : (p n q size i : ℕ) → (p + n ≤ q) ⊎ (q + size ≤ p) → (m : ℕ) → m ≤ size → i < n → IsClear (p + i) q m
clear_of p n q size i h5 m front below = search (rules, arith)

clear_later : (f : FileModel) (j : ℕ) → Settled f j → (number i : ℕ) → number < length f.buffers → i < (buffer_at f.buffers number).size
    → (k : ℕ) → number < k → k < length f.buffers → IsClear ((buffer_at f.buffers number).place + i) (buffer_at f.buffers k).place (length (content_of f k))
clear_later f j s number i inside below k less there =
    clear_of (buffer_at f.buffers number).place (buffer_at f.buffers number).size (buffer_at f.buffers k).place (buffer_at f.buffers k).size i
    (buffers_apart f.mem_size f.regions f.buffers s.sound number k less there) (length (content_of f k))
    (omega (arith, content_long f k s.well_formed there, (buffer_sound f.mem_size f.regions f.buffers s.sound k there).content)) below

-- A byte outside the lists' region is clear of each list of job j; a byte of a buffer is such a one.
clear_list : (f : FileModel) (j : ℕ) → Settled f j → (q : ℕ) → IsClear q f.regions.lists_place f.regions.lists_size
    → (offset n : ℕ) → offset + n ≤ (layout_of f j).end → IsClear q ((layout_of f j).place + offset) n
clear_list f j s q (inl before) offset n upto = let begins = begin_from f j in let numbers = layout_numbers f j (layout_of f j) refl in inl (omega (arith, before, numbers.0, begins))
clear_list f j s q (inr behind) offset n upto = inr (omega (arith, behind, s.lists, upto))

pub misses_four : (f : FileModel) (j : ℕ) → Settled f j → (q : ℕ) → IsClear q f.regions.lists_place f.regions.lists_size → Misses q (four_parts f j)
misses_four f j s q off =
    let ends = lists_end f j s in
    let render : (layout_of f j).render ≤ (layout_of f j).end = omega (arith, ends.render) in
    let clear = clear_list f j s q off in (
      clear (layout_of f j).bin (length (bin_list_of f j)) (omega (arith, ends.bin, render, ends.uniforms, ends.records)),
      (
        clear (layout_of f j).records (length (records_of f j)) (omega (arith, ends.records, render, ends.uniforms)),
        (clear (layout_of f j).uniforms (length (streams_of f j)) (omega (arith, ends.uniforms, render)), (clear (layout_of f j).render (length (render_list_of f j)) ends.render, tt)),
      ),
    )

pub buffer_off_lists : (f : FileModel) (j : ℕ) → Settled f j → (number i : ℕ) → number < length f.buffers → i < (buffer_at f.buffers number).size
    → IsClear ((buffer_at f.buffers number).place + i) f.regions.lists_place f.regions.lists_size
buffer_off_lists f j s number i inside below =
    elim (lists_apart f.mem_size f.regions f.buffers s.sound number inside) [
      | inl before ↦ inr (omega (arith, before))
      | inr behind ↦ inl (omega (arith, behind, below))
    ]

pub content_byte : (f : FileModel) (j : ℕ) → Settled f j → AreSettled f → (number i : ℕ) → number < length f.buffers → i < length (content_of f number)
    → slice_index (memory_of f) ((buffer_at f.buffers number).place + i) ≡ slice_index (content_of f number) i
unfolding content_of buffer_at all_parts
content_byte f j s all number i inside below =
    let own = buffer_sound f.mem_size f.regions f.buffers s.sound number inside in
    let parts = content_parts f.buffers f.contents ++ all_parts f in
    let fit : PartsFit f.mem_size parts = fit_append f.mem_size (content_parts f.buffers f.contents) (all_parts f) (contents_in f j s) (all_in f all) in
    let room : i < (buffer_at f.buffers number).size = omega (arith, below, content_long f number s.well_formed inside, own.content) in
    ap (λ m. slice_index m ((buffer_at f.buffers number).place + i)) (memory_is f)
    ∙ content_lies (zeros f.mem_size) f.buffers f.contents (all_parts f) number i ((buffer_at f.buffers number).place + i) (zeros_fit f.mem_size parts fit) inside
    (omega (arith, as_many f s.well_formed, inside)) below refl
    (λ k less there some. clear_later f j s number i inside room k less there)
    (jobs_miss f ((buffer_at f.buffers number).place + i) (length f.jobs) (λ k there. misses_four f k (all k there) ((buffer_at f.buffers number).place + i) (buffer_off_lists f j s number i inside room)))

content_lies_apart : (f : FileModel) (j : ℕ) → Settled f j → AreSettled f → (number : ℕ) → number < length f.buffers
    → bytes_at (memory_of f) (buffer_at f.buffers number).place (length (content_of f number)) ≡ content_of f number
content_lies_apart f j s all number inside = grind (arith, common_steps, nat_tests, bytes_are, content_byte)

pub holds_all : (f : FileModel) (j : ℕ) → Settled f j → AreSettled f → Holds f j (memory_of f)
holds_all f j s all =
    let lists = lists_stand f j s all in
    record {
      long = memory_long f j s all;
      bytes = memory_bytes f j s all;
      contents = content_lies_apart f j s all;
      bin = lists.bin;
      records = lists.records;
      uniforms = lists.uniforms;
      render = lists.render;
    }
