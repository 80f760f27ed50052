-- The parts of a job's bound.
use Rattle.std.proofs.Common.{◌≡◌, ℕ, zero, suc, ◌+◌, ◌*◌, ◌<◌, Bool, true, false, ◌||◌, nat_le, List, [], length, Option, Some, None, is_some, if◌then◌else◌, refl, sym, ap, subst, arith, ◌∙◌}
use Rattle.std.proofs.lemmas.List.Sums.{sum_by-cons}
use Rattle.std.specs.List.{range_with_len, sum_by}
use Rattle.bin_walks.specs.Walks.{nothing_kept}
use Rattle.bin_list.specs.{Packets.packets, Packets.packets_passed, Seen.seen_before}
use Rattle.job_format.specs.{declared.file.Frame.Frame, Model.FileModel}
use Rattle.render_list.specs.{Frame.IsTileSet, Surfaces.is_outside_grid, Text.number_where, Text.render_slots}
use Rattle.job_check.specs.{Emit.memory_of, Shaders.table_of}
use Rattle.job_check.specs.Jobs.{job_of, has_bin, grid_from, grid_of, slot_of, places_in, bin_list_of}
use Rattle.accepted_law.specs.{Ends.DrawShaders, Holdings.config_for, Parts.BinWalks}
use Rattle.promises.specs.Steps.{room_of, bin_steps, render_steps, job_steps}
use Rattle.promises.specs.{Prepared.IsFaultless, Bounded.job_bound, Bounded.longest_of}
use Rattle.accepted_law.specs.Settled.{Settled, Grounds}
use Rattle.accepted_law.proofs.{BinWalking.bins_walk_law, Joining.all_ground, RenderWalking.frame_setup, RenderWalking.in_grid}
use Rattle.ends_law.specs.Left.{AllWhole}
use Rattle.ends_law.proofs.Begins.{walks_whole}
use Rattle.accepted_ends.proofs.Cut.{packets_walk}
use Rattle.job_bound.specs.Frames.{frame_steps}
use Rattle.job_bound.proofs.{Settled.settled, Tiles.steps_render, Visits.IsAcross, Visits.visits_render}

pub list_whole : (f : FileModel) (j : ℕ) → IsFaultless f → j < length f.jobs → AllWhole (packets (bin_list_of f j))
list_whole f j faultless inside =
    let m : List ℕ = memory_of f in
    let grounds : Grounds f j m = all_ground f faultless.well_formed faultless.fits faultless.none j inside in
    let bin : BinWalks f j m = bins_walk_law f j m grounds in
    let same : packets (bin_list_of f j) ≡ bin.packets = ap packets bin.text ∙ packets_walk (config_for f j) (DrawShaders f j m) nothing_kept bin.packets bin.walks in
    subst AllWhole (sym same) (walks_whole (config_for f j) (DrawShaders f j m) nothing_kept bin.packets bin.walks)

across_by : (frame : Frame) (grid : Option (ℕ × ℕ)) → is_outside_grid frame grid ≡ false → IsAcross frame grid
unfolding is_outside_grid
across_by frame None none = tt
across_by frame (Some grid) none =
    let outside : (nat_le grid.0 frame.max_x || nat_le grid.1 frame.max_y) ≡ false = none in
    grind (arith, outside)

has_grid : (b : Bool) (grid : ℕ × ℕ) → is_some (if b then Some grid else None) ≡ b
has_grid true grid = refl
has_grid false grid = refl

grid_there : (f : FileModel) (j : ℕ) → is_some (grid_of f j) ≡ has_bin f j
unfolding grid_of
grid_there f j = has_grid (has_bin f j) (grid_from (seen_before (packets_passed (job_of f j).bin)))

pub frame_set : (f : FileModel) (j : ℕ) → IsFaultless f → j < length f.jobs → IsTileSet (job_of f j).frame
frame_set f j faultless inside = (frame_setup f j (settled f j faultless inside)).tiles

-- The bound of a job, part by part.
pub job_is : (f : FileModel) (j : ℕ) → IsFaultless f → j < length f.jobs
    → job_bound f j ≡ bin_steps (longest_of f) (packets (bin_list_of f j)) + room_of (packets (bin_list_of f j)) * (1 + number_where (has_bin f j) 1) + frame_steps (job_of f j).frame (has_bin f j)
unfolding job_bound job_steps
job_is f j faultless inside =
    let s : Settled f j = settled f j faultless inside in
    let frame : Frame = (job_of f j).frame in
    let setup = frame_setup f j s in
    let across = across_by frame (grid_of f j) (in_grid frame (grid_of f j) (table_of f) (job_of f j).handles s.surfaces) in
    let there = grid_there f j in
    let visits = visits_render frame (places_in f j) (grid_of f j) (slot_of f j) setup.present setup.tiles across ∙ ap (λ b. number_where b 1) there in
    let steps = steps_render frame (places_in f j) (grid_of f j) (slot_of f j) setup.present setup.tiles ∙ ap (frame_steps frame) there in
    let first : ℕ = bin_steps (longest_of f) (packets (bin_list_of f j)) in
    ap (λ n. first + room_of (packets (bin_list_of f j)) * (1 + n) + render_steps (render_slots frame (places_in f j) (grid_of f j) (slot_of f j))) visits
    ∙ ap (λ n. first + room_of (packets (bin_list_of f j)) * (1 + number_where (has_bin f j) 1) + n) steps

-- The sum of one job more.
sum_from : (number : ℕ → ℕ) (j n : ℕ) → sum_by number (range_with_len j (suc n)) ≡ sum_by number (range_with_len j n) + number (j + n)
sum_from number j zero =
    let here = sum_by-cons number j [] in
    let same : number (j + 0) ≡ number j = let e : j + 0 ≡ j = omega arith in ap number e in
    omega (arith, here, same)
sum_from number j (suc n) =
    let all = sum_by-cons number j (range_with_len (j + 1) (suc n)) in
    let most = sum_by-cons number j (range_with_len (j + 1) n) in
    let later = sum_from number (j + 1) n in
    let same : number (j + 1 + n) ≡ number (j + suc n) = let e : j + 1 + n ≡ j + suc n = omega arith in ap number e in
    omega (arith, all, most, later, same)

pub sum_more : (number : ℕ → ℕ) (n : ℕ) → sum_by number (range_with_len 0 (n + 1)) ≡ sum_by number (range_with_len 0 n) + number n
sum_more number n =
    let one : n + 1 ≡ suc n = omega arith in
    let none : number (0 + n) ≡ number n = let e : 0 + n ≡ n = omega arith in ap number e in
    ap (λ k. sum_by number (range_with_len 0 k)) one ∙ sum_from number 0 n ∙ ap (λ k. sum_by number (range_with_len 0 n) + k) none
