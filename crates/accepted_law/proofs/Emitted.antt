-- The memory of an accepted file byte by byte. So two neighbours whose jobs of a client hold the same are emitted alike to it.
use Rattle.std.proofs.Common.{◌≡◌, inl, inr, ℕ, suc, ◌+◌, ◌-◌, ◌<◌, ◌≤◌, Bool, true, if◌then◌else◌, List, [], ◌∷◌, ◌++◌, length, slice_index, refl, sym, ap, subst, arith, ◌∙◌, rules}
use Rattle.std.proofs.lemmas.{Bool.cases_lt, List.get_or_past, List.get_or-replicate, Grind.common_steps, Bool.Decides.nat_tests}
use Rattle.field_words.specs.{Sizes.slot_size, Writes.zeros}
use Rattle.buffer_table.specs.{Table.buffer_at, Handles.data_of, Handles.code_of}
use Rattle.buffer_table.proofs.Named.{data_is, code_is}
use Rattle.job_format.specs.Model.{FileModel}
use Rattle.job_check.specs.Jobs.{job_of, slot_of, layout_of, bin_list_of, records_of, streams_of, render_list_of}
use Rattle.job_check.specs.{Shaders.table_of, Shaders.content_of, Emit.lengths_of, Emit.memory_of}
use Rattle.job_check.proofs.{Codes.content_long}
use Rattle.machine_plan.proofs.Words.{byte_read}
use Rattle.machine_plan.specs.{Memory.bytes_at, Regions.Interval, Regions.LiesIn, Regions.Inside, Regions.Rights, Regions.rights_of}
use Rattle.promises.specs.Apart.{regions_of, jobs_of, reach_of, named_at, PlacedAlike, AreNeighbourFiles}
use Rattle.promises.specs.Holdings.{interval, plain_of, codes_of, lists_of, slot_in, job_rights, file_rights}
use Rattle.promises.specs.{Rights.IsOneOf, Trail.Client}
use Rattle.machine_law.proofs.Apart.{inside_either}
use Rattle.accepted_law.specs.Neighbours.{FilledAlike, EmittedAlike}
use Rattle.accepted_law.specs.Settled.{Settled, AreSettled}
use Rattle.accepted_law.proofs.Holding.{all_parts, four_parts, memory_is, contents_in, all_in, zeros_fit, jobs_miss, misses_four, clear_of, buffer_off_lists, content_byte, holds_all}
use Rattle.accepted_law.proofs.{ByJob.rights_are, Intervals.named_by, Grounds.slot_apart, Grounds.two_apart}
use Rattle.accepted_law.proofs.{Fixed.LiesInOne, Fixed.in_one, Settling.files_settle_law}
use Rattle.accepted_law.proofs.Placing.{IsClear, Misses, placed_kept, misses_contents, fit_append}
use Rattle.accepted_law.proofs.Tables.{buffer_sound, tiles_apart, regions_apart, slot_inside}
use Rattle.accepted_law.proofs.Unshared.{job_is_of, data_number, code_number}
use Rattle.relocation.specs.declared.layout.Layout.{Layout}
use Rattle.field_words.proofs.Writes.{length_zeros}

pub zero_byte : (n q : ℕ) → slice_index (zeros n) q ≡ 0
unfolding zeros
zero_byte n q = grind (arith, common_steps, nat_tests, cases_lt, get_or-replicate, get_or_past, length_zeros)

-- A byte that no part of the memory touches is zero.
untouched : (f : FileModel) (j q : ℕ) → Settled f j → AreSettled f
    → ((k : ℕ) → k < length f.buffers → IsClear q (buffer_at f.buffers k).place (length (content_of f k)))
    → ((k : ℕ) → k < length f.jobs → Misses q (four_parts f k)) → slice_index (memory_of f) q ≡ 0
unfolding content_of buffer_at all_parts
untouched f j q s all contents lists = search (rules, arith, all_parts, fit_append, contents_in, all_in, memory_is, placed_kept, zeros_fit, misses_contents, jobs_miss, zero_byte)

content_inside : (f : FileModel) (j : ℕ) → Settled f j → (k : ℕ) → k < length f.buffers → length (content_of f k) ≤ (buffer_at f.buffers k).size
content_inside f j s k there = let own = buffer_sound f.mem_size f.regions f.buffers s.sound k there in omega (arith, content_long f k s.well_formed there, own.content)

-- The tile slot is zero.
slot_off_lists : (f : FileModel) (j i : ℕ) → Settled f j → i < slot_size → IsClear (slot_of f j + i) f.regions.lists_place f.regions.lists_size
slot_off_lists f j i s below =
    let slot = slot_inside f j s.well_formed s.sound s.inside in
    elim (regions_apart f.mem_size f.regions f.buffers s.sound) [
      | inl before ↦ inr (omega (arith, before, slot.from))
      | inr behind ↦ inl (omega (arith, behind, below, slot.upto))
    ]

slot_byte : (f : FileModel) (j i : ℕ) → Settled f j → AreSettled f → i < slot_size → slice_index (memory_of f) (slot_of f j + i) ≡ 0
slot_byte f j i s all below =
    untouched f j (slot_of f j + i) s all
    (λ k there.
    clear_of (slot_of f j) slot_size (buffer_at f.buffers k).place (buffer_at f.buffers k).size i
    (slot_apart f j j (buffer_at f.buffers k).place (buffer_at f.buffers k).size s s.inside (tiles_apart f.mem_size f.regions f.buffers s.sound k there))
    (length (content_of f k)) (content_inside f j s k there) below)
    (λ k there. misses_four f k (all k there) (slot_of f j + i) (slot_off_lists f j i s below))

-- A buffer holds its contents, and zeros behind them.
content_clear : (f : FileModel) (j : ℕ) → Settled f j → (number i : ℕ) → number < length f.buffers → i < (buffer_at f.buffers number).size → length (content_of f number) ≤ i
    → (k : ℕ) → k < length f.buffers → IsClear ((buffer_at f.buffers number).place + i) (buffer_at f.buffers k).place (length (content_of f k))
content_clear f j s number i inside below past k there = search (arith, IsClear, clear_of, two_apart, content_inside, cases_lt)

pub buffer_byte : (f : FileModel) (j : ℕ) → Settled f j → AreSettled f → (number i : ℕ) → number < length f.buffers → i < (buffer_at f.buffers number).size
    → slice_index (memory_of f) ((buffer_at f.buffers number).place + i) ≡ slice_index (content_of f number) i
buffer_byte f j s all number i inside below =
    elim (cases_lt i (length (content_of f number))) [
      | inl within ↦ content_byte f j s all number i inside within
      | inr past ↦
          untouched f j ((buffer_at f.buffers number).place + i) s all (content_clear f j s number i inside below past)
          (λ k there. misses_four f k (all k there) ((buffer_at f.buffers number).place + i) (buffer_off_lists f j s number i inside below))
          ∙ sym (get_or_past (content_of f number) i 0 past)
    ]

-- Two files with a job that holds the same in the same places.
record HoldsAlike (f g : FileModel) (j : ℕ) : Type 0 where
  one : Settled f j
  all : AreSettled f
  other : Settled g j
  others : AreSettled g
  places : PlacedAlike f g j
  filled : FilledAlike f g j

-- So the bytes of its slot are the same,
slots_same : (f g : FileModel) (j : ℕ) → layout_of f j ≡ layout_of g j → slot_of f j ≡ slot_of g j
unfolding layout_of
slots_same f g j layout = ap (λ l. l.slot) layout

slot_same : (f g : FileModel) (j p : ℕ) → HoldsAlike f g j → LiesIn p 1 (slot_in f j) → slice_index (memory_of f) p ≡ slice_index (memory_of g) p
unfolding slot_in
slot_same f g j p has lies =
    let there : slot_of g j + (p - slot_of f j) ≡ p = omega (arith, lies.from, slots_same f g j has.places.layout) in
    let below : p - slot_of f j < slot_size = omega (arith, lies.from, lies.upto) in
    sym (ap (slice_index (memory_of f)) (omega (arith, lies.from))) ∙ slot_byte f j (p - slot_of f j) has.one has.all below
    ∙ sym (slot_byte g j (p - slot_of f j) has.other has.others below) ∙ ap (slice_index (memory_of g)) there

-- those of the buffers that its handles name,
record IsAtHandle (f : FileModel) (j place size : ℕ) : Type 0 where
  handle : ℕ
  handle_in : handle < length (job_of f j).handles
  place_is : place ≡ (named_at f j handle).place
  size_is : size ≡ (named_at f j handle).size

at_handle : (f : FileModel) (j place size handle number : ℕ) → handle < length (job_of f j).handles → slice_index (job_of f j).handles handle ≡ number
    → place ≡ (buffer_at f.buffers number).place → size ≡ (buffer_at f.buffers number).size → IsAtHandle f j place size
at_handle f j place size handle number inside is place_is size_is = search (rules, arith)

plain_handle : (f : FileModel) (j place size : ℕ) → IsOneOf (plain_of f j) place size → IsAtHandle f j place size
unfolding plain_of
plain_handle f j place size one =
    let handles : List ℕ = (job_of f j).handles in
    let by = named_by (data_of (table_of f) handles) f.buffers (length handles) place size one in
    let of = data_is (table_of f) handles by.handle by.number by.named in
    at_handle f j place size by.handle by.number of.handle_in (data_number (table_of f) handles by.handle by.number by.named) by.place_is by.size_is

code_handle : (f : FileModel) (j place size : ℕ) → IsOneOf (codes_of f j) place size → IsAtHandle f j place size
unfolding codes_of
code_handle f j place size one =
    let handles : List ℕ = (job_of f j).handles in
    let by = named_by (code_of (table_of f) handles) f.buffers (length handles) place size one in
    let of = code_is (table_of f) handles by.handle by.number by.named in
    at_handle f j place size by.handle by.number of.handle_in (code_number (table_of f) handles by.handle by.number by.named) by.place_is by.size_is

buffer_same : (f g : FileModel) (j p place size : ℕ) → HoldsAlike f g j → IsAtHandle f j place size → place ≤ p → p + 1 ≤ place + size
    → slice_index (memory_of f) p ≡ slice_index (memory_of g) p
buffer_same f g j p place size has at from upto =
    let i : ℕ = at.handle in
    let one : ℕ = slice_index (job_of f j).handles i in
    let other : ℕ = slice_index (job_of g j).handles i in
    let many = has.places.handles in
    let alike = has.places.named i at.handle_in in
    let first = buffer_byte f j has.one has.all one (p - place) (has.one.numbers i at.handle_in) (omega (arith, from, upto, at.size_is)) in
    let second = buffer_byte g j has.other has.others other (p - place) (has.other.numbers i (omega (arith, at.handle_in, many))) (omega (arith, from, upto, at.size_is, alike.size)) in
    sym (ap (slice_index (memory_of f)) (omega (arith, from, at.place_is))) ∙ first
    ∙ ap (λ content. slice_index content (p - place)) (has.filled.contents i at.handle_in)
    ∙ sym second ∙ ap (slice_index (memory_of g)) (omega (arith, from, at.place_is, alike.place))

-- and those of its lists.
text_same : (m k : List ℕ) (p at to : ℕ) (text other : List ℕ) (place size : ℕ) → bytes_at m at (length text) ≡ text → bytes_at k to (length other) ≡ other
    → at ≡ to → text ≡ other → interval at (length text) ≡ interval place size → place ≤ p → p + 1 ≤ place + size → slice_index m p ≡ slice_index k p
text_same m k p at to text other place size stands stand same_place same_text is from upto =
    let place_is : at ≡ place = ap (λ i. i.place) is in
    let here : at + (p - at) ≡ p = omega (arith, from, place_is) in
    let there : to + (p - at) ≡ p = omega (arith, from, place_is, same_place) in
    let below : p - at < length text = omega (arith, from, upto, place_is, ap (λ i. i.size) is) in
    let one : slice_index m (at + (p - at)) ≡ slice_index text (p - at) = sym (byte_read m at (length text) (p - at) below) ∙ ap (λ t. slice_index t (p - at)) stands in
    let two : slice_index k (to + (p - at)) ≡ slice_index other (p - at) =
    sym (byte_read k to (length other) (p - at) (omega (arith, below, ap length same_text))) ∙ ap (λ t. slice_index t (p - at)) stand in
    sym (ap (slice_index m) here) ∙ one ∙ ap (λ t. slice_index t (p - at)) same_text ∙ sym two ∙ ap (slice_index k) there

list_same : (f g : FileModel) (j p : ℕ) → HoldsAlike f g j → LiesInOne (lists_of f j) p 1 → slice_index (memory_of f) p ≡ slice_index (memory_of g) p
unfolding lists_of lengths_of
list_same f g j p has found =
    let m = holds_all f j has.one has.all in
    let k = holds_all g j has.other has.others in
    let same : (part : Layout → ℕ) (text other : List ℕ) → bytes_at (memory_of f) ((layout_of f j).place + part (layout_of f j)) (length text) ≡ text
    → bytes_at (memory_of g) ((layout_of g j).place + part (layout_of g j)) (length other) ≡ other → text ≡ other
    → interval ((layout_of f j).place + part (layout_of f j)) (length text) ≡ interval found.place found.size → slice_index (memory_of f) p ≡ slice_index (memory_of g) p =
    λ part text other stands stand texts is.
    text_same (memory_of f) (memory_of g) p ((layout_of f j).place + part (layout_of f j)) ((layout_of g j).place + part (layout_of g j)) text other found.place found.size
    stands stand (ap (λ l. l.place + part l) has.places.layout) texts is found.from found.upto in
    elim found.one [
      | inl is ↦ same (λ l. l.bin) (bin_list_of f j) (bin_list_of g j) m.bin k.bin has.filled.bin is
      | inr (inl is) ↦ same (λ l. l.records) (records_of f j) (records_of g j) m.records k.records has.filled.records is
      | inr (inr (inl is)) ↦ same (λ l. l.uniforms) (streams_of f j) (streams_of g j) m.uniforms k.uniforms has.filled.streams is
      | inr (inr (inr (inl is))) ↦ same (λ l. l.render) (render_list_of f j) (render_list_of g j) m.render k.render has.filled.render is
      | inr (inr (inr (inr none))) ↦ absurd none
    ]

-- So are all that the job may reach.
named_same : (f g : FileModel) (j p : ℕ) → HoldsAlike f g j → (named : List Interval) → ((place size : ℕ) → IsOneOf named place size → IsAtHandle f j place size)
    → Inside named p 1 → slice_index (memory_of f) p ≡ slice_index (memory_of g) p
named_same f g j p has named at lies = search (rules, arith, in_one, buffer_same)

behind_same : (f g : FileModel) (j p : ℕ) → HoldsAlike f g j → Inside (lists_of f j ++ codes_of f j) p 1 → slice_index (memory_of f) p ≡ slice_index (memory_of g) p
behind_same f g j p has lies =
    elim (inside_either (lists_of f j) (codes_of f j) p 1 lies) [
      | inl list ↦ list_same f g j p has (in_one (lists_of f j) p 1 list)
      | inr code ↦ named_same f g j p has (codes_of f j) (code_handle f j) code
    ]

region_same : (f g : FileModel) (j p : ℕ) → HoldsAlike f g j → Inside (job_rights f j).region p 1 → slice_index (memory_of f) p ≡ slice_index (memory_of g) p
region_same f g j p has h5 = search (rules, arith, slot_same, inside_either, named_same, plain_handle, behind_same)

-- What is so of each byte of each region of the client's jobs is so of all.
of_first : (own : Bool) (P : ℕ → Type 0) (first rest : List Interval) (p : ℕ) → (own ≡ true → Inside first p 1 → P p) → (Inside rest p 1 → P p)
    → Inside (if own then first ++ rest else rest) p 1 → P p
of_first own P first rest p here later lies = search (rules, arith, inside_either)

of_all : (mine : Client) (P : ℕ → Type 0) (n : ℕ) (rights : List Rights) (p : ℕ) → ((j : ℕ) → mine (n + j) ≡ true → Inside (rights_of rights j).region p 1 → P p)
    → Inside (regions_of mine n rights) p 1 → P p
of_all mine P n [] p each lies = absurd lies
of_all mine P n (one ∷ others) p each lies =
    of_first (mine n) P one.region (regions_of mine (n + 1) others) p
    (λ own here. each 0 (let same : n + 0 ≡ n = omega arith in ap mine same ∙ own) here)
    (λ later. of_all mine P (n + 1) others p (λ j own there. each (suc j) (let same : n + suc j ≡ n + 1 + j = omega arith in ap mine same ∙ own) there) later)
    lies

holds_alike : (c : ℕ) (f g : FileModel) → AreSettled f → AreSettled g → AreNeighbourFiles c f g → ((j : ℕ) → jobs_of c f j ≡ true → FilledAlike f g j)
    → (j : ℕ) → jobs_of c f j ≡ true → HoldsAlike f g j
holds_alike c f g all others near filled j mine = search (rules, arith, job_is_of)

reach_same : (c : ℕ) (f g : FileModel) → ((j : ℕ) → jobs_of c f j ≡ true → HoldsAlike f g j) → (p : ℕ) → Inside (reach_of c f) p 1
    → slice_index (memory_of f) p ≡ slice_index (memory_of g) p
reach_same c f g holds p lies =
    of_all (jobs_of c f) (λ q. slice_index (memory_of f) q ≡ slice_index (memory_of g) q) 0 (file_rights f) p
    (λ j own reached.
    let mine : jobs_of c f j ≡ true = sym (ap (jobs_of c f) (omega arith)) ∙ own in
    region_same f g j p (holds j mine) (subst (λ r. Inside r.region p 1) (rights_are f j (job_is_of c f j mine).inside) reached))
    lies

pub emitted_alike_law : EmittedAlike
emitted_alike_law c f g one other near size filled =
    let all : AreSettled f = files_settle_law f one.well_formed one.fits one.none in
    let others : AreSettled g = files_settle_law g other.well_formed other.fits other.none in
    let long : length (memory_of f) ≡ length (memory_of g) =
    (holds_all f 0 (all 0 one.well_formed.some_job) all).long ∙ size ∙ sym (holds_all g 0 (others 0 other.well_formed.some_job) others).long in
    record {
      one = record { long = refl; same = λ p lies. refl };
      other = record { long = refl; same = λ p lies. refl };
      client = record { long = long; same = reach_same c f g (holds_alike c f g all others near filled) };
    }
