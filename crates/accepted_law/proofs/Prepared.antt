-- A memory that is prepared for the jobs of an accepted file has their lists and their code as the emitted one.
use Rattle.std.proofs.Common.{◌≡◌, inl, inr, ℕ, zero, suc, ◌+◌, ◌-◌, ◌<◌, ◌≤◌, List, ◌++◌, length, slice_index, refl, sym, ap, arith, ◌∙◌, rules}
use Rattle.std.proofs.lemmas.{Bool.cases_lt, List.places, List.get_or_past, Grind.common_steps, Bool.Decides.nat_tests}
use Rattle.field_words.proofs.Writes.{with_bytes-inside, length_zeros}
use Rattle.phys_mem.specs.Window.{window_of}
use Rattle.buffer_table.specs.Table.{buffer_at}
use Rattle.buffer_table.proofs.Named.{code_is}
use Rattle.relocation.specs.Layout.{region_end}
use Rattle.job_format.specs.Model.{FileModel}
use Rattle.job_check.specs.{Shaders.table_of, Shaders.content_of, Jobs.job_of, Jobs.layout_of}
use Rattle.job_check.specs.Emit.{PartsFit, list_parts, later_parts, parts_moved, memory_of}
use Rattle.job_check.specs.Region.{region_size, region_from, region_parts, regions_parts, region_of}
use Rattle.job_check.proofs.{Windows.length_placed, Layouts.lists_apart as jobs_apart, Layouts.lists_inside}
use Rattle.job_check.proofs.Regions.{fit_more, fit_moved, size_more, size_before, memory_made}
use Rattle.machine_plan.specs.Regions.{Inside}
use Rattle.promises.specs.Holdings.{lists_of, codes_of, fixed_below, fixed_of}
use Rattle.promises.specs.Prepared.{IsFaultless, content_filled, IsPrepared}
use Rattle.accepted_law.specs.Settled.{Settled, AreSettled}
use Rattle.accepted_law.specs.Prepared.{PreparedMemoriesAgree}
use Rattle.accepted_law.proofs.{Emitted.buffer_byte, Emitted.zero_byte, Intervals.code_held, Placing.fit_append}
use Rattle.accepted_law.proofs.{Fixed.in_one, Grounds.four_lie, Settling.files_settle_law}
use Rattle.accepted_law.proofs.Holding.{lists_end, holds_all, with_contents, long_contents, zeros_fit}
use Rattle.machine_law.proofs.Apart.{inside_either}

-- The lists of the first n jobs lie in their stretch of bytes.
list_fit : (f : FileModel) (j : ℕ) → Settled f j → PartsFit (layout_of f j).end (list_parts f j)
unfolding list_parts later_parts
list_fit f j s = search (arith, lists_end)

parts_fit : (f : FileModel) → AreSettled f → (n : ℕ) → n ≤ length f.jobs → PartsFit (region_size f n) (regions_parts f n)
unfolding regions_parts region_parts
parts_fit f all zero upto = tt
parts_fit f all (suc n) upto =
    let more = size_more f n in
    let front = parts_fit f all n (omega (arith, upto)) in
    let one = list_fit f n (all n (omega (arith, upto))) in
    fit_append (region_size f (suc n)) (regions_parts f n) (parts_moved (region_from f n) (list_parts f n))
    (fit_more (region_size f n) (region_size f (suc n)) (regions_parts f n) (omega (arith, more, size_before f n)) front)
    (fit_moved (region_from f n) (layout_of f n).end (region_size f (suc n)) (list_parts f n) (omega (arith, more)) one)

region_long : (f : FileModel) → AreSettled f → length (region_of f) ≡ region_size f (length f.jobs)
unfolding region_of
region_long f all = grind (arith, common_steps, nat_tests, length_placed, zeros_fit, parts_fit, length_zeros)

-- It ends where the lists of the last job end, and has those of each.
last_end : (f : FileModel) (n j : ℕ) → j < n → f.regions.lists_place ≤ (layout_of f j).place + (layout_of f j).end
    → (layout_of f j).place + (layout_of f j).end ≤ f.regions.lists_place + region_size f n
unfolding region_size
last_end f n j below from = search (rules, arith, cases_lt, jobs_apart)

region_upto : (f : FileModel) → AreSettled f → (n : ℕ) → n ≤ length f.jobs → f.regions.lists_place ≤ region_end f.regions → f.regions.lists_place + region_size f n ≤ region_end f.regions
unfolding region_size
region_upto f all n upto begins = search (rules, arith)

-- It ends in the lists' region.
pub region_within : (f : FileModel) → IsFaultless f → f.regions.lists_place + length (region_of f) ≤ region_end f.regions
region_within f file =
    let all : AreSettled f = files_settle_law f file.well_formed file.fits file.none in
    omega (arith, region_long f all, region_upto f all (length f.jobs) (omega arith) (omega arith))

-- The emitted memory has that stretch.
region_byte : (f : FileModel) (j q : ℕ) → Settled f j → AreSettled f → q < length (region_of f)
    → slice_index (memory_of f) (f.regions.lists_place + q) ≡ slice_index (region_of f) q
region_byte f j q s all below =
    let n = length f.jobs in
    let long = region_long f all in
    let lists = lists_inside f s.sound in
    let upto = region_upto f all n (omega arith) (omega arith) in
    let size = long_contents f j s in
    let made = memory_made f (with_contents f) refl size s.sound s.well_formed.contents (omega (arith, long, upto)) (parts_fit f all n (omega arith)) in
    sym (ap (λ m. slice_index m (f.regions.lists_place + q)) made)
    ∙ with_bytes-inside (with_contents f) f.regions.lists_place (region_of f) q (omega (arith, size, long, upto, lists)) below

-- a byte of a window
byte_in : (m : List ℕ) (place : ℕ) (bytes : List ℕ) (size q : ℕ) → window_of m place size ≡ bytes → q < size → slice_index m (place + q) ≡ slice_index bytes q
byte_in m place bytes size q is below = sym (grind (arith, places)) ∙ ap (λ w. slice_index w q) is

filled_byte : (content : List ℕ) (size q : ℕ) → slice_index (content_filled content size) q ≡ slice_index content q
filled_byte content size q = grind (arith, common_steps, nat_tests, cases_lt, places, zero_byte, get_or_past)

-- So a byte of a list is as the emitted memory's,
list_agrees : (f : FileModel) (m : List ℕ) (j p : ℕ) → Settled f j → AreSettled f → IsPrepared f m → Inside (lists_of f j) p 1
    → slice_index (memory_of f) p ≡ slice_index m p
list_agrees f m j p s all prepared lies =
    let found = in_one (lists_of f j) p 1 lies in
    let place = f.regions.lists_place in
    let there = four_lie f j (lists_end f j s) found.place found.size found.one in
    let within = there.within in
    let last = last_end f (length f.jobs) j s.inside (omega (arith, there.from, within)) in
    let below : p - place < length (region_of f) = omega (arith, found.from, found.upto, there.from, within, last, region_long f all) in
    let is : place + (p - place) ≡ p = omega (arith, found.from, there.from) in
    sym (ap (slice_index (memory_of f)) is)
    ∙ region_byte f j (p - place) s all below
    ∙ sym (byte_in m place (region_of f) (length (region_of f)) (p - place) prepared.lists below)
    ∙ ap (slice_index m) is

-- and so is a byte of a Code buffer.
code_agrees : (f : FileModel) (m : List ℕ) (j p : ℕ) → Settled f j → AreSettled f → IsPrepared f m → Inside (codes_of f j) p 1
    → slice_index (memory_of f) p ≡ slice_index m p
code_agrees f m j p s all prepared lies =
    let found = in_one (codes_of f j) p 1 lies in
    let code = code_held f j found.place found.size found.one in
    let buffer = buffer_at f.buffers code.number in
    let is_of = code_is (table_of f) (job_of f j).handles code.handle code.number code.named in
    let is : buffer.place + (p - buffer.place) ≡ p = omega (arith, found.from, code.place_is) in
    let below : p - buffer.place < buffer.size = omega (arith, found.from, found.upto, code.place_is, code.size_is) in
    let content = content_of f code.number in
    let has = prepared.code j s.inside code.handle code.number code.named in
    sym (ap (slice_index (memory_of f)) is)
    ∙ buffer_byte f j s all code.number (p - buffer.place) is_of.inside below
    ∙ sym (filled_byte content buffer.size (p - buffer.place))
    ∙ sym (byte_in m buffer.place (content_filled content buffer.size) buffer.size (p - buffer.place) has below)
    ∙ ap (slice_index m) is

job_agrees : (f : FileModel) (m : List ℕ) (j p : ℕ) → Settled f j → AreSettled f → IsPrepared f m → Inside (lists_of f j ++ codes_of f j) p 1
    → slice_index (memory_of f) p ≡ slice_index m p
job_agrees f m j p s all prepared lies = grind (arith, common_steps, nat_tests, inside_either, list_agrees, code_agrees)

below_agree : (f : FileModel) (m : List ℕ) (n p : ℕ) → n ≤ length f.jobs → AreSettled f → IsPrepared f m → Inside (fixed_below f n) p 1
    → slice_index (memory_of f) p ≡ slice_index m p
unfolding fixed_below
below_agree f m zero p upto all prepared lies = absurd lies
below_agree f m (suc n) p upto all prepared lies =
    elim (inside_either (fixed_below f n) (lists_of f n ++ codes_of f n) p 1 lies) [
      | inl before ↦ below_agree f m n p (omega (arith, upto)) all prepared before
      | inr here ↦ job_agrees f m n p (all n (omega (arith, upto))) all prepared here
    ]

pub prepared_memories_agree_law : PreparedMemoriesAgree
unfolding fixed_of
prepared_memories_agree_law f file m prepared =
    let all : AreSettled f = files_settle_law f file.well_formed file.fits file.none in
    record {
      long = (holds_all f 0 (all 0 file.well_formed.some_job) all).long ∙ sym prepared.long;
      same = λ p lies. below_agree f m (length f.jobs) p (omega arith) all prepared lies;
    }
