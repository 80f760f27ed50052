-- The numbers bound each run.
use Rattle.std.proofs.Common.{◌≡◌, ◌≤◌, ◌<◌, ℕ, zero, suc, ◌+◌, ◌*◌, List, length, Option, Some, None, refl, ap, subst, arith}
use Rattle.std.proofs.Math.Nat.{mul-le-mul_left}
use Rattle.std.specs.List.{range_with_len, sum_by}
use Rattle.bin_list.specs.Packets.{packets}
use Rattle.machine_plan.specs.Regions.{Rights, Agree}
use Rattle.machine.specs.State.{State, units_start}
use Rattle.machine_law.specs.{Units.EachAt}
use Rattle.machine_law.proofs.{Begins.each_begins, Owes.start_fine}
use Rattle.field_words.specs.Words.{IsBytes}
use Rattle.job_format.specs.{Model.FileModel, Reading.file_at}
use Rattle.job_check.specs.{Emit.memory_of, Jobs.bin_list_of, Whole.refusal_of}
use Rattle.accepted_law.specs.Settled.{Grounds}
use Rattle.promises.specs.Holdings.{fixed_of, plain_of, file_rights, file_starts, start_of}
use Rattle.promises.specs.{Prepared.IsFaultless, Bounded.Ends, Bounded.longest_of, Bounded.bound_of, Steps.room_of, Steps.stay_count}
use Rattle.accepted_law.proofs.{BinWalking.bins_walk_law, ByJob.each_from}
use Rattle.accepted_law.proofs.Joining.{all_begin, all_ground, files_begin_law, has_read_only, job_begins}
use Rattle.job_safety.proofs.Safety.{bytes_spell, faultless}
use Rattle.accepted_ends.proofs.Files.{files_end_by_law, packets_are}
use Rattle.accepted_served.proofs.Files.{files_finish_law}
use Rattle.job_bound.specs.{Back.first_place, Bound.bound_by, Bound.bound_in, Items.item_stays, Items.items_in, Items.items_of, Law.RunsWithin, Law.KeepsBound, Law.KeepsEnd, Law.BoundHolds, Law.EndHolds}
use Rattle.job_bound.specs.declared.bound.Bound.TheVariants.{Steps}
use Rattle.job_bound.specs.declared.named.Sought.TheVariants.{LeadsBack, MayWait}
use Rattle.job_bound.proofs.Backs.{none_without_loop, none_where_served}
use Rattle.job_bound.proofs.Items.{sum_more}
use Rattle.job_bound.proofs.Rooms.{RoomBegins, all_start, few_items, run_stays, total_below}

-- what it means that the bound is three numbers
pub record AreNumbers (found : Option ℕ) (f : FileModel) (most stay items : ℕ) (wait : Option ℕ) : Type 0 where
  pub none : found ≡ None
  pub most_is : bound_of f ≡ most
  pub stay_is : 1 + longest_of f ≡ stay
  pub items_is : items_of f ≡ items
  pub wait_is : first_place MayWait f ≡ wait

numbers_by : (found : Option ℕ) (f : FileModel) (most stay items : ℕ) (wait : Option ℕ) → bound_by found f ≡ Steps most stay items wait → AreNumbers found f most stay items wait
numbers_by None f most stay items wait is =
    let other : longest_of f + 1 ≡ stay = cc in record { none = refl; most_is = cc; stay_is = omega (arith, other); items_is = cc; wait_is = cc }
numbers_by (Some offset) f most stay items wait is = absurd cc

pub numbers_are : (f : FileModel) (most stay items : ℕ) (wait : Option ℕ) → bound_in f ≡ Steps most stay items wait → AreNumbers (first_place LeadsBack f) f most stay items wait
unfolding bound_in
numbers_are f most stay items wait is = numbers_by (first_place LeadsBack f) f most stay items wait is

-- The jobs of a file begin with binner lists that make room for so many items.
room_begins : (f : FileModel) (j : ℕ) → j < length f.jobs → Grounds f j (memory_of f) → RoomBegins (file_rights f) (plain_of f) (memory_of f) (length f.jobs) (items_in f) j (start_of f j)
unfolding job_begins items_in
room_begins f j inside grounds =
    let m : List ℕ = memory_of f in
    let same : room_of (packets (bin_list_of f j)) ≡ room_of (bins_walk_law f j m grounds).packets = ap room_of (packets_are f j m (bins_walk_law f j m grounds)) in
    record { inside = inside; begins = job_begins f j grounds; room = omega (arith, same) }

all_room : (f : FileModel) → ((j : ℕ) → j < length f.jobs → RoomBegins (file_rights f) (plain_of f) (memory_of f) (length f.jobs) (items_in f) j (start_of f j))
    → EachAt (RoomBegins (file_rights f) (plain_of f) (memory_of f) (length f.jobs) (items_in f)) 0 (file_starts f)
unfolding file_starts
all_room f each = each_from (RoomBegins (file_rights f) (plain_of f) (memory_of f) (length f.jobs) (items_in f)) (start_of f) (length f.jobs) 0 (λ j from upto. each j (omega (arith, upto)))

total_sum : (n : ℕ) (number : ℕ → ℕ) → total_below n number ≡ sum_by number (range_with_len 0 n)
total_sum zero number = refl
total_sum (suc n) number =
    let one : n + 1 ≡ suc n = omega arith in
    let more = sum_more number n in
    let same : sum_by number (range_with_len 0 (n + 1)) ≡ sum_by number (range_with_len 0 (suc n)) = ap (λ k. sum_by number (range_with_len 0 k)) one in
    let earlier = total_sum n number in
    omega (arith, more, same, earlier)

-- Each run keeps to them.
runs_within : (f : FileModel) (m : List ℕ) → IsFaultless f → Agree (fixed_of f) (memory_of f) m → Ends (file_rights f) m (units_start (file_starts f)) (longest_of f) (bound_of f)
    → RunsWithin (file_rights f) m (units_start (file_starts f)) (bound_of f) (1 + longest_of f) (items_of f)
unfolding items_of
runs_within f m fine agree ends =
    let rights : List Rights = file_rights f in
    let first : List ℕ = memory_of f in
    let count : ℕ = length f.jobs in
    let begins = files_begin_law f fine.well_formed fine.fits fine.none in
    let grounds = all_ground f fine.well_formed fine.fits fine.none in
    let known = start_fine rights (plain_of f) first (file_starts f) (each_begins rights (plain_of f) first 0 (file_starts f) (all_begin f begins.1)) in
    let keeps = all_start rights (plain_of f) first count (items_in f) 0 (file_starts f) (all_room f (λ j inside. room_begins f j inside (grounds j inside))) in
    record {
      every_run = ends.every_run;
      at_items = λ happenings found t K run few.
          let bounded = ends.every_run happenings found t run in
          let s : State = record { memory = m; units = units_start (file_starts f) } in
          let at = run_stays rights (plain_of f) first count (items_in f) happenings s begins.0 (record { units = known; has = has_read_only f m agree }) keeps run.allowed in
          let each = few_items count K (items_in f) (λ j n. item_stays j n s happenings) few in
          let sum : K * total_below count (items_in f) ≡ K * items_of f = ap (λ x. K * x) (total_sum count (items_in f)) in
          let few_stays : stay_count s happenings ≤ K * items_of f = omega (arith, at, each, sum) in
          let more = mul-le-mul_left (1 + longest_of f) few_stays in
          omega (arith, bounded, more);
    }

pub keeps_bound : (f : FileModel) → IsFaultless f → KeepsBound f
keeps_bound f fine most stay items wait is m agree =
    let numbers = numbers_are f most stay items wait is in
    let loopless = (none_without_loop f).0 numbers.none in
    let R = RunsWithin (file_rights f) m (units_start (file_starts f)) in
    let runs : R (bound_of f) (1 + longest_of f) (items_of f) = runs_within f m fine agree (files_end_by_law f fine.well_formed fine.fits fine.none loopless m agree) in
    subst (λ k. R most stay k) numbers.items_is (subst (λ k. R most k (items_of f)) numbers.stay_is (subst (λ k. R k (1 + longest_of f) (items_of f)) numbers.most_is runs))

pub keeps_end : (f : FileModel) → IsFaultless f → KeepsEnd f
keeps_end f fine most stay items is m agree =
    let numbers = numbers_are f most stay items None is in
    files_finish_law f fine.well_formed fine.fits fine.none ((none_where_served f).0 numbers.wait_is) m agree

of_bytes : (bytes : List ℕ) → IsBytes bytes → refusal_of bytes ≡ None → IsFaultless (file_at bytes)
unfolding refusal_of
of_bytes bytes fits none = faultless bytes (bytes_spell bytes fits none) none

pub bound_holds_law : BoundHolds
unfolding BoundHolds
bound_holds_law bytes fits none = keeps_bound (file_at bytes) (of_bytes bytes fits none)

pub end_holds_law : EndHolds
unfolding EndHolds
end_holds_law bytes fits none = keeps_end (file_at bytes) (of_bytes bytes fits none)
