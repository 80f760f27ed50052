-- The check of the jobs, one after the other: what is known once no rule of the first n is broken.
use Rattle.std.proofs.Common.{◌≡◌, ℕ, suc, ◌+◌, ◌-◌, ◌<◌, ◌≤◌, List, [], ◌∷◌, ◌++◌, length, map, None, refl, sym, ap, subst, arith, ◌∙◌, zero-add}
use Rattle.std.proofs.lemmas.List.{length-append, FromFn.map-range_with_len_more}
use Rattle.std.specs.List.{AllByRecursion, range_with_len}
use Rattle.field_words.specs.{declared.stop.Stop.Stop, declared.stop.Stop.TheVariants.Fault, declared.stop.Stop.TheVariants.NoMemory}
use Rattle.field_words.specs.{Questions.first_of, Questions.each, Questions.Refuses, Writes.parts_placed, Writes.memory_emitted, Writes.zeros}
use Rattle.field_words.proofs.Questions.{each_on, each_stop, each_end}
use Rattle.buffer_table.specs.Sound.{IsSound}
use Rattle.job_format.specs.{declared.rule.Refusal.Refusal, Model.FileModel}
use Rattle.relocation.specs.{declared.layout.Layout.Layout, declared.layout.Lengths.Lengths, Layout.region_end, Layout.begins_after}
use Rattle.job_check.specs.Emit.{PartsFit, list_parts, lengths_of, all_lengths_of, InOrder, IsInside}
use Rattle.job_check.specs.Region.{region_size, region_from, region_parts, regions_parts, region_of, IsLaid, IsRegion}
use Rattle.job_check.specs.{declared.region.Region.Region, Faults.job_stages}
use Rattle.job_check.specs.Jobs.{lists_room, lists_begin, layout_of, layouts_of}
use Rattle.job_check.proofs.Regions.{emitted_grown, fit_more, fit_moved, fit_append, size_more, size_before, from_is}
use Rattle.job_check.proofs.{Emission.placed-append, Layouts.layout_order, Layouts.next_inside}

-- Whatever is reported of the shaders: where the lists of the first n jobs lie, and how many bytes of the region they take.
pub record Laid (f : FileModel) (n : ℕ) (bytes : List ℕ) (layouts : List Layout) (lengths : List Lengths) (place : ℕ) : Type 0 where
  pub size : length bytes ≡ region_size f n
  pub room : f.regions.lists_place + region_size f n ≤ region_end f.regions
  pub layouts_are : layouts ≡ map (layout_of f) (range_with_len 0 n)
  pub count : length lengths ≡ n
  pub inside : AllByRecursion (IsInside (region_end f.regions)) layouts
  pub place_is : place ≡ lists_begin f n
  pub begins : place ≤ region_end f.regions

-- And where that is true.
pub record SoFar (f : FileModel) (n : ℕ) (bytes : List ℕ) (lengths : List Lengths) : Type 0 where
  pub asked : first_of (each (job_stages f) n (length f.jobs - n)) ≡ first_of (each (job_stages f) 0 (length f.jobs))
  pub bytes_are : bytes ≡ memory_emitted (region_size f n) (regions_parts f n)
  pub fit : PartsFit (region_size f n) (regions_parts f n)
  pub lengths_are : lengths ≡ map (lengths_of f) (range_with_len 0 n)

-- before the first job
pub none_laid : (f : FileModel) → Laid f 0 [] [] [] f.regions.lists_place
unfolding region_size lists_begin
none_laid f = record { size = refl; room = omega arith; layouts_are = refl; count = refl; inside = tt; place_is = refl; begins = omega arith }

pub none : (f : FileModel) → SoFar f 0 [] []
unfolding regions_parts region_size zeros
none f = let all : length f.jobs - 0 ≡ length f.jobs = omega arith in record { asked = ap (λ n. first_of (each (job_stages f) 0 n)) all; bytes_are = refl; fit = tt; lengths_are = refl }

-- one more passes
more_begins : (f : FileModel) (n place : ℕ) (layout : Layout) → layout ≡ layout_of f n → place ≡ begins_after layout.place layout.end → place ≡ lists_begin f (n + 1)
unfolding lists_begin layout_of lists_room
more_begins f n place layout is after =
    let one : n + 1 ≡ suc n = omega arith in
    after ∙ ap (λ (l : Layout). begins_after l.place l.end) is ∙ ap (lists_begin f) (sym one)

more_inside : (size : ℕ) (layouts : List Layout) (layout : Layout) → AllByRecursion (IsInside size) layouts → IsInside size layout → AllByRecursion (IsInside size) (layouts ++ (layout ∷ []))
more_inside size [] layout all last = (last, tt)
more_inside size (one ∷ layouts) layout all last = (all.0, more_inside size layouts layout all.1 last)

-- the region with the lists of one job more
more_size : (f : FileModel) (n : ℕ) → region_size f (n + 1) ≡ region_from f n + (layout_of f n).end
more_size f n = let one : n + 1 ≡ suc n = omega arith in ap (region_size f) one ∙ size_more f n

more_parts : (f : FileModel) (n : ℕ) → regions_parts f (n + 1) ≡ regions_parts f n ++ region_parts f n
unfolding regions_parts
more_parts f n = let one : n + 1 ≡ suc n = omega arith in ap (regions_parts f) one

more_fit : (f : FileModel) (n : ℕ) → PartsFit (region_size f n) (regions_parts f n) → PartsFit (layout_of f n).end (list_parts f n) → PartsFit (region_size f (n + 1)) (regions_parts f (n + 1))
unfolding region_parts
more_fit f n before here =
    let size = more_size f n in
    subst (PartsFit (region_size f (n + 1))) (sym (more_parts f n))
    (fit_append (region_size f (n + 1)) (regions_parts f n) (region_parts f n)
    (fit_more (region_size f n) (region_size f (n + 1)) (regions_parts f n) (omega (arith, size, size_before f n)) before)
    (fit_moved (region_from f n) (layout_of f n).end (region_size f (n + 1)) (list_parts f n) (omega (arith, size)) here))

more_bytes : (f : FileModel) (n : ℕ) (bytes after : List ℕ) → bytes ≡ memory_emitted (region_size f n) (regions_parts f n) → length bytes ≡ region_size f n → PartsFit (region_size f n) (regions_parts f n)
    → after ≡ parts_placed (bytes ++ zeros (region_size f (n + 1) - length bytes)) (region_parts f n)
    → after ≡ memory_emitted (region_size f (n + 1)) (regions_parts f (n + 1))
more_bytes f n bytes after is size fit put =
    let a = region_size f n in
    let b = region_size f (n + 1) in
    put
    ∙ ap (λ k. parts_placed (bytes ++ zeros (b - k)) (region_parts f n)) size
    ∙ ap (λ m. parts_placed (m ++ zeros (b - a)) (region_parts f n)) is
    ∙ ap (λ m. parts_placed m (region_parts f n)) (emitted_grown a b (regions_parts f n) (omega (arith, more_size f n, size_before f n)) fit)
    ∙ sym (placed-append (zeros b) (regions_parts f n) (region_parts f n))
    ∙ ap (memory_emitted b) (sym (more_parts f n))

pub next_laid : (f : FileModel) (n : ℕ) (bytes after : List ℕ) (layouts : List Layout) (lengths : List Lengths) (place begin : ℕ) (layout : Layout) (long : Lengths)
    → Laid f n bytes layouts lengths place → IsSound f.mem_size f.regions f.buffers → layout ≡ layout_of f n → length after ≡ region_size f (n + 1)
    → layout.place + layout.end ≤ region_end f.regions → begin ≡ begins_after layout.place layout.end
    → Laid f (n + 1) after (layouts ++ (layout ∷ [])) (lengths ++ (long ∷ [])) begin
next_laid f n bytes after layouts lengths place begin layout long laid sound is size inside next_place =
    let here : IsInside (region_end f.regions) layout = record { inside = inside; order = subst InOrder (sym is) (layout_order f n) } in
    record {
      size = size;
      room = omega (arith, more_size f n, from_is f n, ap (λ l. l.place) is, ap (λ l. l.end) is, inside);
      layouts_are =
          ap (λ l. l ++ (layout ∷ [])) laid.layouts_are
          ∙ ap (λ x. map (layout_of f) (range_with_len 0 n) ++ (x ∷ [])) is
          ∙ sym (map-range_with_len_more (layout_of f) 0 n n (zero-add n));
      count = length-append lengths (long ∷ []) ∙ ap (λ k. k + 1) laid.count;
      inside = more_inside (region_end f.regions) layouts layout laid.inside here;
      place_is = more_begins f n begin layout is next_place;
      begins = subst (λ k. k ≤ region_end f.regions) (sym next_place) (next_inside f layout.place layout.end sound inside);
    }

pub next : (f : FileModel) (n : ℕ) (bytes after : List ℕ) (lengths : List Lengths) (long : Lengths)
    → SoFar f n bytes lengths → length bytes ≡ region_size f n → n < length f.jobs → first_of (job_stages f n) ≡ None → long ≡ lengths_of f n
    → after ≡ parts_placed (bytes ++ zeros (region_size f (n + 1) - length bytes)) (region_parts f n) → PartsFit (layout_of f n).end (list_parts f n)
    → SoFar f (n + 1) after (lengths ++ (long ∷ []))
next f n bytes after lengths long so_far size below passes is put fit = record {
  asked = each_on (job_stages f) n (length f.jobs) below passes ∙ so_far.asked;
  bytes_are = more_bytes f n bytes after so_far.bytes_are size so_far.fit put;
  fit = more_fit f n so_far.fit fit;
  lengths_are =
      ap (λ l. l ++ (long ∷ [])) so_far.lengths_are
      ∙ ap (λ x. map (lengths_of f) (range_with_len 0 n) ++ (x ∷ [])) is
      ∙ sym (map-range_with_len_more (lengths_of f) 0 n n (zero-add n));
}

-- what lies inside the region lies inside the memory
pub wider : (a b : ℕ) (layouts : List Layout) → a ≤ b → AllByRecursion (IsInside a) layouts → AllByRecursion (IsInside b) layouts
wider a b [] below all = tt
wider a b (layout ∷ layouts) below all = (record { inside = omega (arith, below, all.0.inside); order = all.0.order }, wider a b layouts below all.1)

-- a rule of job n is broken
pub refused : (f : FileModel) (n : ℕ) (bytes : List ℕ) (lengths : List Lengths) (stop : Stop Refusal) → SoFar f n bytes lengths → n < length f.jobs
    → Refuses (job_stages f n) stop → Refuses (each (job_stages f) 0 (length f.jobs)) stop
refused f n bytes lengths (Fault refusal) so_far below refuses = sym so_far.asked ∙ each_stop (job_stages f) n (length f.jobs) refusal below refuses
refused f n bytes lengths NoMemory so_far below refuses = tt

-- All have passed: their lists are laid, and where what is reported of the shaders is true, no rule is broken by any, and the bytes are the region.
pub all_laid : (f : FileModel) (n : ℕ) (place : ℕ) (region : Region) → Laid f n region.bytes.items region.layouts.items region.lengths.items place → n ≡ length f.jobs → IsLaid f region
unfolding layouts_of
all_laid f n place region laid end = record {
  size = laid.size ∙ ap (region_size f) end;
  layouts_are = laid.layouts_are ∙ ap (λ k. map (layout_of f) (range_with_len 0 k)) end;
  count = laid.count ∙ end;
  fits = subst (λ k. f.regions.lists_place + region_size f k ≤ region_end f.regions) end laid.room;
}

pub all : (f : FileModel) (n : ℕ) (place : ℕ) (region : Region) → Laid f n region.bytes.items region.layouts.items region.lengths.items place
    → SoFar f n region.bytes.items region.lengths.items → n ≡ length f.jobs → (first_of (each (job_stages f) 0 (length f.jobs)) ≡ None) × IsRegion f region
unfolding layouts_of all_lengths_of region_of
all f n place region laid so_far end =
    let bytes_are = so_far.bytes_are ∙ ap (λ k. memory_emitted (region_size f k) (regions_parts f k)) end in
    let long : length (region_of f) ≡ region_size f n = sym (ap length bytes_are) ∙ laid.size in (
      sym so_far.asked ∙ each_end (job_stages f) n (length f.jobs) (omega (arith, end)),
      record {
        bytes_are = bytes_are;
        layouts_are = laid.layouts_are ∙ ap (λ k. map (layout_of f) (range_with_len 0 k)) end;
        lengths_are = so_far.lengths_are ∙ ap (λ k. map (lengths_of f) (range_with_len 0 k)) end;
        fits = omega (arith, long, laid.room);
        parts_fit = subst (λ k. PartsFit (region_size f k) (regions_parts f k)) end so_far.fit;
        each_job = laid.inside;
      },
    )
