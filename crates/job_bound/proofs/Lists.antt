-- The emitted binner list of a job is a part of the region of all lists.
use Rattle.std.proofs.Common.{◌≡◌, ℕ, zero, suc, ◌+◌, ◌<◌, ◌≤◌, List, [], ◌∷◌, length, get_or, take, drop, zero-add, inl, inr, refl, sym, ap, subst, arith, ◌∙◌}
use Rattle.std.proofs.{lemmas.Bool.cases_lt, lemmas.List.places, lemmas.List.same_lists, lemmas.List.FromFn.get_or-map-range_with_len}
use Rattle.field_words.specs.{Sizes.most_list, Words.rounded_up, Writes.with_bytes, Writes.zeros}
use Rattle.buffer_table.specs.declared.buffer.Buffer.{Buffer}
use Rattle.relocation.specs.{declared.layout.Layout.Layout, declared.layout.Lengths.Lengths, Layout.region_end, Layout.records_start}
use Rattle.job_format.specs.Model.{FileModel}
use Rattle.job_check.specs.Emit.{PartsFit, ContentsFit, lengths_of, all_lengths_of, content_parts, fresh_memory_of, memory_of}
use Rattle.job_check.specs.Jobs.{job_of, layout_of, layouts_of, bin_list_of}
use Rattle.job_check.specs.Region.{region_size, region_from, regions_parts, region_of}
use Rattle.job_check.proofs.{Emission.contents_fit, Layouts.lists_inside, Layouts.lists_apart, Windows.length_placed}
use Rattle.job_check.proofs.Regions.{zeros_long, size_more, from_is, memory_made}
use Rattle.accepted_law.specs.Settled.{Settled, Grounds}
use Rattle.promises.specs.Prepared.{IsFaultless}
use Rattle.accepted_law.proofs.{Joining.all_ground, Streams.piece_at}
use Rattle.job_bound.proofs.Settled.{settled}

-- The memory before any list is as long as the file says.
parts_fit : (size : ℕ) (buffers : List Buffer) (contents : List (List ℕ)) → ContentsFit size buffers contents → PartsFit size (content_parts buffers contents)
unfolding content_parts ContentsFit
parts_fit size [] contents fit = tt
parts_fit size (buffer ∷ buffers) [] fit = tt
parts_fit size (buffer ∷ buffers) (content ∷ contents) fit = (fit.0, parts_fit size buffers contents fit.1)

fresh_long : (f : FileModel) (j : ℕ) → Settled f j → length (fresh_memory_of f) ≡ f.mem_size
fresh_long f j s =
    let blank = zeros_long f.mem_size in
    let fit = parts_fit f.mem_size f.buffers f.contents (contents_fit f s.sound s.well_formed.contents) in
    length_placed (zeros f.mem_size) (content_parts f.buffers f.contents) (subst (λ n. PartsFit n (content_parts f.buffers f.contents)) (sym blank) fit) ∙ blank

-- The lists of a job end where the region does, or before.
ends_before : (f : FileModel) (n j : ℕ) → j < n → region_from f j + (layout_of f j).end ≤ region_size f n
ends_before f zero j inside = absurd (omega (arith, inside))
ends_before f (suc n) j inside =
    let size = size_more f n in
    elim (cases_lt j n) [
      | inl earlier ↦ let apart = lists_apart f j n earlier in omega (arith, size, apart, from_is f j, from_is f n)
      | inr past ↦
          let same : j ≡ n = omega (arith, inside, past) in
          subst (λ k. region_from f k + (layout_of f k).end ≤ region_size f (suc n)) (sym same) (omega (arith, size))
    ]

region_long : (f : FileModel) → PartsFit (region_size f (length f.jobs)) (regions_parts f (length f.jobs)) → length (region_of f) ≡ region_size f (length f.jobs)
unfolding region_of
region_long f fit =
    let size : ℕ = region_size f (length f.jobs) in
    let blank = zeros_long size in
    length_placed (zeros size) (regions_parts f (length f.jobs)) (subst (λ k. PartsFit k (regions_parts f (length f.jobs))) (sym blank) fit) ∙ blank

-- Where the lists of a job lie, and how long its binner list is, as they are reported.
pub layout_is : (f : FileModel) (j : ℕ) (layouts : List Layout) (none : Layout) → layouts ≡ layouts_of f → j < length f.jobs → get_or layouts j none ≡ layout_of f j
unfolding layouts_of
layout_is f j layouts none same inside =
    ap (λ ls. get_or ls j none) same ∙ get_or-map-range_with_len (layout_of f) 0 (length f.jobs) j j none inside (zero-add j)

pub lengths_is : (f : FileModel) (j : ℕ) (all : List Lengths) (none : Lengths) → all ≡ all_lengths_of f → j < length f.jobs → (get_or all j none).bin ≡ length (bin_list_of f j)
unfolding all_lengths_of lengths_of
lengths_is f j all none same inside =
    ap (λ l. l.bin) (ap (λ ls. get_or ls j none) same ∙ get_or-map-range_with_len (lengths_of f) 0 (length f.jobs) j j none inside (zero-add j))

-- What was written into a memory stands there.
written : (m region : List ℕ) (from at n : ℕ) → at + n ≤ length region → from + length region ≤ length m → take n (drop (from + at) (with_bytes m from region)) ≡ take n (drop at region)
written m region from at n inside fits = same_lists _ _ (grind (arith, places)) (λ k d h. grind (arith, places))

pub record IsInRegion (f : FileModel) (j : ℕ) : Type 0 where
  pub inside : region_from f j + (layout_of f j).bin + length (bin_list_of f j) ≤ length (region_of f)
  pub is : take (length (bin_list_of f j)) (drop (region_from f j + (layout_of f j).bin) (region_of f)) ≡ bin_list_of f j

pub bin_there : (f : FileModel) (j : ℕ) → IsFaultless f → j < length f.jobs → f.regions.lists_place + length (region_of f) ≤ region_end f.regions
    → PartsFit (region_size f (length f.jobs)) (regions_parts f (length f.jobs)) → IsInRegion f j
bin_there f j faultless inside fits fit =
    let long = region_long f fit in
    let s : Settled f j = settled f j faultless inside in
    let grounds : Grounds f j (memory_of f) = all_ground f faultless.well_formed faultless.fits faultless.none j inside in
    let ends = grounds.ends in
    let list : List ℕ = bin_list_of f j in
    let from : ℕ = f.regions.lists_place in
    let at : ℕ = region_from f j + (layout_of f j).bin in
    let fresh : List ℕ = fresh_memory_of f in
    let size = fresh_long f j s in
    let last = ends_before f (length f.jobs) j inside in
    let room : at + length list ≤ length (region_of f) = omega (arith, ends.bin, ends.records, ends.uniforms, ends.render, last, long) in
    let within : from + length (region_of f) ≤ length fresh = omega (arith, size, fits, lists_inside f s.sound) in
    let made : with_bytes fresh from (region_of f) ≡ memory_of f = memory_made f fresh refl size s.sound s.well_formed.contents fits fit in
    let place : from + at ≡ (layout_of f j).place + (layout_of f j).bin = omega (arith, from_is f j) in
    let whole = grounds.holds.long in
    let piece = piece_at (memory_of f) ((layout_of f j).place + (layout_of f j).bin) list grounds.holds.bin (omega (arith, place, room, fits, whole, lists_inside f s.sound)) in
    record {
      inside = room;
      is =
          sym (written fresh (region_of f) from at (length list) room within)
          ∙ ap (λ m. take (length list) (drop (from + at) m)) made
          ∙ ap (λ p. take (length list) (drop p (memory_of f))) place
          ∙ piece.same;
    }

-- It is no longer than the room of its source, which has at most 1 MiB.
records_low : (n : ℕ) → n ≤ most_list → records_start n ≤ most_list
unfolding records_start rounded_up
records_low n small = omega (arith, small)

pub list_short : (f : FileModel) (j : ℕ) → IsFaultless f → j < length f.jobs → length (bin_list_of f j) ≤ most_list
unfolding layout_of
list_short f j faultless inside =
    let grounds : Grounds f j (memory_of f) = all_ground f faultless.well_formed faultless.fits faultless.none j inside in
    let ends = grounds.ends in
    omega (arith, ends.bin, records_low (length (job_of f j).bin) grounds.settled.limits.bin)
