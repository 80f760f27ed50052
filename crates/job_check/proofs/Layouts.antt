-- The layouts of the jobs: their numbers, what fits where, and that the lists of each job lie behind those of the jobs before it.
use Rattle.std.proofs.Common.{◌≡◌, ℕ, zero, suc, ◌+◌, ◌%◌, ◌<◌, ◌≤◌, Bool, List, length, Option, ◌⊎◌, inl, inr, refl, sym, subst, arith, lit≤, ◌*◌}
use Rattle.std.proofs.lemmas.Bool.{cases_lt}
use Rattle.field_words.specs.{Words.rounded_up, Sizes.most_list}
use Rattle.field_words.proofs.Numbers.{rounded}
use Rattle.buffer_table.specs.{Table.TableModel, Table.most_place, Sound.IsSound}
use Rattle.job_format.specs.{declared.file.Frame.Frame, File.IsWellFormed, File.IsJobWellFormed, Model.FileModel, Model.JobModel}
use Rattle.qpu_isa.specs.Shader.{ShaderModel}
use Rattle.relocation.specs.Layout.{records_start, uniforms_start, render_start, region_end, begins_after, StandApart}
use Rattle.relocation.specs.declared.layout.Layout.{Layout}
use Rattle.render_list.specs.{Frame.IsTileSet, Length.render_length}
use Rattle.job_check.specs.Jobs.{job_of, slot_of, has_bin, has_tiles, render_room, lists_room, lists_begin, layout_of}
use Rattle.job_check.specs.{Context.InView, Context.IsContext, Emit.InOrder}

-- a set of tiles has its length as room
pub room_is : (frame : Frame) (has_bin : Bool) → IsTileSet frame → render_room frame has_bin ≡ render_length frame has_bin
unfolding render_room has_tiles
room_is frame has_bin tiles = grind (arith, tiles.across, tiles.down)

pub layout_numbers : (f : FileModel) (j : ℕ) (layout : Layout) → layout ≡ layout_of f j
    → (layout.place ≡ lists_begin f j) × (layout.slot ≡ slot_of f j) × (layout.render + render_room (job_of f j).frame (has_bin f j) ≡ layout.end)
unfolding layout_of
layout_numbers f j layout e =
    let P : Layout → Type 0 = λ l. (l.place ≡ lists_begin f j) × (l.slot ≡ slot_of f j) × (l.render + render_room (job_of f j).frame (has_bin f j) ≡ l.end) in
    subst P (sym e) (refl, refl, refl)

-- the lists' region lies inside the memory
pub lists_inside : (f : FileModel) → IsSound f.mem_size f.regions f.buffers → region_end f.regions ≤ f.mem_size
lists_inside f sound = let s = sound.each_item 0 (omega arith) in s.inside

-- the parts of a layout lie apart, and so in order
pub layout_apart : (f : FileModel) (j : ℕ) → StandApart (layout_of f j) (length (job_of f j).bin) (length (job_of f j).records) (length (job_of f j).uniforms) (render_room (job_of f j).frame (has_bin f j))
unfolding layout_of records_start uniforms_start render_start
layout_apart f j =
    let bin = length (job_of f j).bin in
    let records = length (job_of f j).records in
    let uniforms = length (job_of f j).uniforms in
    let a = rounded bin 16 (lit≤ tt) in
    let b = rounded (rounded_up bin 16 + records) 16 (lit≤ tt) in
    let c = rounded (rounded_up (rounded_up bin 16 + records) 16 + uniforms) 16 (lit≤ tt) in
    record {
      first = omega (arith, a.least);
      second = b.least;
      third = c.least;
      last = refl;
      records_aligned = a.multiple;
      uniforms_aligned = b.multiple;
      render_aligned = c.multiple;
    }

pub layout_order : (f : FileModel) (j : ℕ) → InOrder (layout_of f j)
layout_order f j =
    let apart = layout_apart f j in
    record {
      bin = omega (arith, apart.first);
      records = omega (arith, apart.second);
      uniforms = omega (arith, apart.third);
      render = omega (arith, apart.last);
    }

-- The lists of a job begin a multiple of 16, in the lists' region or behind it.
pub begin_whole : (f : FileModel) (j : ℕ) → IsSound f.mem_size f.regions f.buffers → lists_begin f j % 16 ≡ 0
unfolding lists_begin begins_after
begin_whole f zero sound = let lists = sound.each_item 0 (omega arith) in omega (arith, lists.place)
begin_whole f (suc j) sound = let r = rounded (lists_begin f j + lists_room f j) 16 (lit≤ tt) in r.multiple

-- behind the lists of the job before
pub next_begins : (f : FileModel) (j : ℕ) → lists_begin f j + lists_room f j ≤ lists_begin f (suc j)
unfolding lists_begin begins_after
next_begins f j = let r = rounded (lists_begin f j + lists_room f j) 16 (lit≤ tt) in r.least

pub begin_from : (f : FileModel) (j : ℕ) → f.regions.lists_place ≤ lists_begin f j
unfolding lists_begin
begin_from f zero = omega arith
begin_from f (suc j) = omega (arith, begin_from f j, next_begins f j)

pub begin_behind : (f : FileModel) (i j : ℕ) → i < j → lists_begin f i + lists_room f i ≤ lists_begin f j
begin_behind f i zero before = absurd (omega arith)
begin_behind f i (suc j) before =
    elim (cases_lt i j) [
      | inl earlier ↦ omega (arith, begin_behind f i j earlier, next_begins f j)
      | inr last ↦ let same : i ≡ j = omega (arith, before, last) in subst (λ k. lists_begin f i + lists_room f i ≤ lists_begin f (suc k)) same (next_begins f i)
    ]

-- so the lists of two jobs lie apart
pub lists_apart : (f : FileModel) (j k : ℕ) → j < k → (layout_of f j).place + (layout_of f j).end ≤ (layout_of f k).place
unfolding layout_of lists_room
lists_apart f j k before = begin_behind f j k before

-- Lists that follow lists inside the region begin inside it, since it ends with a page.
pub next_inside : (f : FileModel) (place end : ℕ) → IsSound f.mem_size f.regions f.buffers → place + end ≤ region_end f.regions → begins_after place end ≤ region_end f.regions
unfolding begins_after
next_inside f place end sound inside =
    let lists = sound.each_item 0 (omega arith) in
    let r = rounded (place + end) 16 (lit≤ tt) in
    omega (arith, lists.place, lists.size, r.multiple, r.near, inside)

-- The tile region holds a slot for each job: it isn't empty, and in version 2 has a slot for each where it has any.
known_version : (v : ℕ) → 1 ≤ v → v ≤ 2 → (v ≡ 1) ⊎ (v ≡ 2)
known_version zero some known = absurd (omega arith)
known_version (suc zero) some known = inl refl
known_version (suc (suc zero)) some known = inr refl
known_version (suc (suc (suc v))) some known = absurd (omega arith)

pub slots_for : (f : FileModel) → IsWellFormed f → 0 < f.regions.tile_slots → length f.jobs ≤ f.regions.tile_slots
slots_for f h some =
    elim (known_version f.version h.a_version h.known) [
      | inl first ↦ let limits = h.first first in omega (arith, limits.one_job, some)
      | inr second ↦ h.slots second some
    ]

pub enough_slots : (f : FileModel) → IsWellFormed f → IsSound f.mem_size f.regions f.buffers → length f.jobs ≤ f.regions.tile_slots
enough_slots f h sound = let tiles = sound.each_item 1 (omega arith) in slots_for f h (omega (arith, tiles.not_empty))

-- The lists of a job begin inside the greatest memory, and so does its slot; records and uniforms begin behind 1 MiB and 2 MiB at most.
pub layout_low : (f : FileModel) (j : ℕ) → IsSound f.mem_size f.regions f.buffers → length f.jobs ≤ f.regions.tile_slots → lists_begin f j ≤ region_end f.regions → j < length f.jobs → IsJobWellFormed (job_of f j)
    → ((layout_of f j).place ≤ most_place) × ((layout_of f j).records ≤ most_list + 16) × ((layout_of f j).uniforms ≤ 2 * most_list + 32) × ((layout_of f j).slot ≤ most_place)
unfolding layout_of records_start uniforms_start slot_of
layout_low f j sound slots begins inside small =
    let lists = lists_inside f sound in
    let tiles = sound.each_item 1 (omega arith) in
    let near = rounded (length (job_of f j).bin) 16 (lit≤ tt) in
    let next = rounded (rounded_up (length (job_of f j).bin) 16 + length (job_of f j).records) 16 (lit≤ tt) in (
      omega (arith, begins, lists, sound.limit),
      omega (arith, near.near, small.bin),
      omega (arith, near.near, next.near, small.bin, small.records),
      omega (arith, tiles.inside, sound.limit, slots, inside),
    )

-- so of the layout that the check keeps of a job in view
pub record IsLow (layout : Layout) : Type 0 where
  pub place : layout.place ≤ most_place
  pub records : layout.records ≤ most_list + 16
  pub uniforms : layout.uniforms ≤ 2 * most_list + 32
  pub slot : layout.slot ≤ most_place

pub kept_low : (v : InView) (job : JobModel) (table : TableModel) (shaders : List (Option ShaderModel)) (handles : List ℕ) (layout : Layout) → IsContext v job table shaders handles layout → IsLow layout
kept_low v job table shaders handles layout h =
    let low = layout_low v.file v.number h.sound (enough_slots v.file h.well_formed h.sound) h.begins h.inside (subst IsJobWellFormed h.job_is h.limits) in
    subst IsLow (sym h.layout_is) (record { place = low.0; records = low.1; uniforms = low.2; slot = low.3 })
