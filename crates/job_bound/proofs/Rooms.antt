-- In each run a job has no more items than its binner list makes room for, and a renderer stays at one of these.
use Rattle.std.proofs.Common.{◌≡◌, ◌≤◌, ◌<◌, inl, inr, ℕ, zero, suc, ◌+◌, ◌-◌, ◌*◌, ◌%◌, ◌==◌, ◌&&◌, not, Bool, true, false, IsTrue, if◌then◌else◌, List, [], ◌∷◌, length, map, drop, Option, Some, None, IfSome, refl, sym, ap, arith}
use Rattle.std.proofs.lemmas.{Bool.false≢true, Bool.cases_lt, Grind.common_steps, List.length-drop}
use Rattle.std.proofs.lemmas.Bool.Decides.{nat_tests}
use Rattle.std.specs.Prelude.{is_some, unwrap_or}
use Rattle.field_words.specs.declared.access.Actor.TheVariants.{Binner as TheBinner, Renderer as TheRenderer, Qpu as TheQpu, Tmu as TheTmu}
use Rattle.field_words.specs.declared.access.Actor.{Actor}
use Rattle.field_words.specs.Pieces.{joined_texts as joined_bytes}
use Rattle.bin_walks.specs.Walks.{nothing_kept}
use Rattle.machine_plan.specs.Regions.{Interval, Inside, Rights, rights_of, IsSafeAccess, HasReadOnly}
use Rattle.machine_plan.specs.{declared.launch.Free.Free, declared.who.Who.Who, Choice.word_at, Glance.glance_result, Plan.Plan, World.plan_mapped}
use Rattle.machine_plan.specs.Others.{Happening, Steps, Changes, AllMayHappen}
use Rattle.machine_plan.proofs.{Others.Holds, Others.run_holds, Worlds.keeps_result}
use Rattle.list_machine.specs.Binner.{has_binner_work, binner_ready, binner_plan}
use Rattle.list_machine.specs.Lists.{Lists, Turned, binner_of, renderer_of}
use Rattle.list_machine.specs.Renderer.{has_renderer_work, renderer_ready, renderer_plan, first_of_tile, item_at}
use Rattle.list_machine.specs.{declared.state.Found.Found, declared.state.Item.Item, declared.state.SubList.SubList}
use Rattle.list_law.specs.Lists.{TurnedFine}
use Rattle.list_law.proofs.{Binning.binner_keeps, Rendering.renderer_keeps}
use Rattle.qpu_machine.specs.{declared.state.Qpu.Qpu, Qpu.qpu_plan, Qpu.tmu_plan, Qpu.free_in}
use Rattle.machine.specs.Step.{Event, with_lists, with_qpu, is_ahead, binner_may, renderer_may, binner_turn, renderer_turn, qpu_turn, tmu_turn, unit_ready, unit_turn, ready, turn, may, step}
use Rattle.machine.specs.{declared.job.Start.Start, State.Units, State.State, State.Picked, State.item_at as processor_at, State.binner_job, State.renderer_job, State.job_start}
use Rattle.machine_law.specs.{Begins.DrawBegins, Begins.JobBegins, Jobs.ArePlain, Jobs.JobFine, Jobs.LaunchFine, Laws.AreFine, Units.EachAt}
use Rattle.machine_law.proofs.{Begins.each_begins, Begins.text_stays, Owes.PickedFine, Owes.first_fine, Owes.put_each, Owes.not_held, Owes.units_owe_law}
use Rattle.promises.specs.Steps.{room_of, is_at_item, stays, renderer_stays, unit_stays, stay_count, one_if}
use Rattle.ends_law.proofs.{Begins.walks_whole, Machine.comes_by, Rooms.counted_none}
use Rattle.ends_law.proofs.Plans.{Comes, comes_into, keeps_both}
use Rattle.job_bound.specs.Items.{is_item, is_at, stays_at, renderer_stays_at, unit_stays_at, item_stays}
use Rattle.job_bound.proofs.Puts.{JobRoom, TurnedRoom, all_come, binner_goes, renderer_goes}

-- What is known of each job, by its number, stays known in a step of its list units over this memory.
pub record ListsKeep (P : ℕ → Lists → Type 0) (m : List ℕ) : Type 0 where
  pub binner : (j : ℕ) (s : Lists) (free : Free) (words : List ℕ) → P j s → glance_result (binner_ready s free) m ≡ true → Comes (binner_of j) (λ turned. P j turned.lists) (binner_plan s free words) m
  pub renderer : (j : ℕ) (s : Lists) (free : Free) (words : List ℕ) → P j s → glance_result (renderer_ready s) m ≡ true → Comes (renderer_of j) (λ turned. P j turned.lists) (renderer_plan s free words) m

abbrev pub AllKeep : (ℕ → Lists → Type 0) → Units → Type 0
AllKeep P u = EachAt P 0 u.jobs

-- So it stays known in a step of any unit.
binner_unit : (P : ℕ → Lists → Type 0) (u : Units) (found : Option (Picked Lists)) (words m : List ℕ) → ListsKeep P m → AllKeep P u → IfSome found (PickedFine P) → IsTrue (glance_result (binner_may u found) m)
    → Comes (binner_turn u found words).who (AllKeep P) (binner_turn u found words).plan m
binner_unit P u None words m keep all picked may = absurd (false≢true may)
binner_unit P u (Some b) words m keep all picked may =
    let free = free_in u.qpus in
    comes_into (binner_of b.number) (with_lists u b.number) (λ turned. P b.number turned.lists) (AllKeep P) (λ turned known. put_each P 0 b.number b.number u.jobs turned.lists (omega arith) known all) (binner_plan b.item free words) m
    (keep.binner b.number b.item free words picked (not_held (is_ahead b.number (renderer_job u)) (binner_ready b.item free) m may))

renderer_unit : (P : ℕ → Lists → Type 0) (u : Units) (found : Option (Picked Lists)) (words m : List ℕ) → ListsKeep P m → AllKeep P u → IfSome found (PickedFine P) → IsTrue (glance_result (renderer_may found) m)
    → Comes (renderer_turn u found words).who (AllKeep P) (renderer_turn u found words).plan m
renderer_unit P u None words m keep all picked may = absurd (false≢true may)
renderer_unit P u (Some r) words m keep all picked may =
    comes_into (renderer_of r.number) (with_lists u r.number) (λ turned. P r.number turned.lists) (AllKeep P) (λ turned known. put_each P 0 r.number r.number u.jobs turned.lists (omega arith) known all) (renderer_plan r.item (free_in u.qpus) words) m
    (keep.renderer r.number r.item (free_in u.qpus) words picked may)

qpu_unit : (P : ℕ → Lists → Type 0) (u : Units) (who : Who) (k : ℕ) (plan : Plan Qpu) (m : List ℕ) → AllKeep P u → Comes who (AllKeep P) (plan_mapped (with_qpu u k) plan) m
qpu_unit P u who k plan m all = comes_into who (with_qpu u k) (λ q. Unit {0}) (AllKeep P) (λ q any. all) plan m (all_come who (λ q. Unit {0}) (λ q. tt) plan m)

qpu_by : (P : ℕ → Lists → Type 0) (u : Units) (k : ℕ) (found : Option Qpu) (words m : List ℕ) → AllKeep P u → Comes (qpu_turn u k found words).who (AllKeep P) (qpu_turn u k found words).plan m
qpu_by P u k None words m all = all
qpu_by P u k (Some q) words m all = qpu_unit P u (qpu_turn u k (Some q) words).who k (qpu_plan q words) m all

tmu_by : (P : ℕ → Lists → Type 0) (u : Units) (k n : ℕ) (found : Option Qpu) (words m : List ℕ) → AllKeep P u → Comes (tmu_turn u k n found words).who (AllKeep P) (tmu_turn u k n found words).plan m
tmu_by P u k n None words m all = all
tmu_by P u k n (Some q) words m all = qpu_unit P u (tmu_turn u k n (Some q) words).who k (tmu_plan q n words) m all

pub unit_keeps : (P : ℕ → Lists → Type 0) (u : Units) (unit : Actor) (words m : List ℕ) → ListsKeep P m → AllKeep P u → IsTrue (glance_result (unit_ready u unit) m) → Comes (unit_turn u unit words).who (AllKeep P) (unit_turn u unit words).plan m
unit_keeps P u TheBinner words m keep all may = binner_unit P u (binner_job u) words m keep all (first_fine P has_binner_work 0 u.jobs all) may
unit_keeps P u TheRenderer words m keep all may = renderer_unit P u (renderer_job u) words m keep all (first_fine P has_renderer_work 0 u.jobs all) may
unit_keeps P u (TheQpu k) words m keep all may = qpu_by P u k (processor_at u.qpus k) words m all
unit_keeps P u (TheTmu k n) words m keep all may = tmu_by P u k n (processor_at u.qpus k) words m all

-- All that is known of a job, of `count` jobs, each with room for so many items.
pub record JobKeeps (rights : List Rights) (plains : ℕ → List Interval) (first : List ℕ) (count : ℕ) (most : ℕ → ℕ) (j : ℕ) (s : Lists) : Type 0 where
  pub inside : j < count
  pub fine : JobFine rights plains first j s
  pub room : JobRoom (HasReadOnly rights first) fine.config (most j) s

turned_keeps : (rights : List Rights) (plains : ℕ → List Interval) (first : List ℕ) (count : ℕ) (most : ℕ → ℕ) (j : ℕ) (s : Lists) (turned : Turned) → (keeps : JobKeeps rights plains first count most j s)
    → TurnedFine (rights_of rights j) (HasReadOnly rights first) (LaunchFine rights plains first j) keeps.fine.config keeps.fine.frame turned → TurnedRoom (HasReadOnly rights first) keeps.fine.config (most j) turned
    → JobKeeps rights plains first count most j turned.lists
turned_keeps rights plains first count most j s turned keeps fine room = record {
  inside = keeps.inside;
  fine = record { config = keeps.fine.config; frame = keeps.fine.frame; allocates = keeps.fine.allocates; lists = fine.lists };
  room = room;
}

pub binner_turned : (who : Who) (rights : List Rights) (plains : ℕ → List Interval) (first : List ℕ) (count : ℕ) (most : ℕ → ℕ) (j : ℕ) (s : Lists) (free : Free) (words m : List ℕ) → HasReadOnly rights first m
    → JobKeeps rights plains first count most j s → glance_result (binner_ready s free) m ≡ true → Comes who (λ turned. JobKeeps rights plains first count most j turned.lists) (binner_plan s free words) m
binner_turned who rights plains first count most j s free words m here keeps on =
    let r : Rights = rights_of rights j in
    let K = HasReadOnly rights first in
    let O = LaunchFine rights plains first j in
    let fine : JobFine rights plains first j s = keeps.fine in
    comes_by who (Inside r.region) r (λ turned. TurnedFine r K O fine.config fine.frame turned) (TurnedRoom K fine.config (most j)) (λ turned. JobKeeps rights plains first count most j turned.lists)
    (λ turned kept room. turned_keeps rights plains first count most j s turned keeps kept room) (binner_plan s free words) m
    (binner_keeps who r K O fine.config fine.frame s free words m fine.allocates here fine.lists on)
    (binner_goes who K fine.config (most j) s free words m here fine.lists.configs keeps.room on)

pub renderer_turned : (who : Who) (rights : List Rights) (plains : ℕ → List Interval) (first : List ℕ) (count : ℕ) (most : ℕ → ℕ) (j : ℕ) (s : Lists) (free : Free) (words m : List ℕ) → HasReadOnly rights first m
    → JobKeeps rights plains first count most j s → glance_result (renderer_ready s) m ≡ true → Comes who (λ turned. JobKeeps rights plains first count most j turned.lists) (renderer_plan s free words) m
renderer_turned who rights plains first count most j s free words m here keeps on =
    let r : Rights = rights_of rights j in
    let K = HasReadOnly rights first in
    let O = LaunchFine rights plains first j in
    let fine : JobFine rights plains first j s = keeps.fine in
    comes_by who (Inside r.region) r (λ turned. TurnedFine r K O fine.config fine.frame turned) (TurnedRoom K fine.config (most j)) (λ turned. JobKeeps rights plains first count most j turned.lists)
    (λ turned kept room. turned_keeps rights plains first count most j s turned keeps kept room) (renderer_plan s free words) m
    (renderer_keeps who r K O fine.config fine.frame s free words m here fine.lists on)
    (renderer_goes who K fine.config (most j) s free words m keeps.room)

step_keeps : (rights : List Rights) (plains : ℕ → List Interval) (first : List ℕ) (count : ℕ) (most : ℕ → ℕ) (s : State) (event : Event) → ArePlain rights plains → HasReadOnly rights first s.memory → AreFine rights plains first s.units
    → AllKeep (JobKeeps rights plains first count most) s.units → IsTrue (may s event) → AllKeep (JobKeeps rights plains first count most) (step s event).state.units
unfolding ready turn
step_keeps rights plains first count most s event plain has fine all on =
    let one = unit_turn s.units event.unit event.words in
    let L = Inside (rights_of rights one.who.job).region in
    let G = IsSafeAccess rights in
    let P = AreFine rights plains first in
    let J = JobKeeps rights plains first count most in
    let keep : ListsKeep J s.memory = record {
      binner = λ j lists free words known ready_is. binner_turned (binner_of j) rights plains first count most j lists free words s.memory has known ready_is;
      renderer = λ j lists free words known ready_is. renderer_turned (renderer_of j) rights plains first count most j lists free words s.memory has known ready_is;
    } in
    let both = keeps_both one.who L G P (AllKeep J) one.plan s.memory ((units_owe_law rights plains first plain).keeps s.units s.memory event fine has on) (unit_keeps J s.units event.unit event.words s.memory keep all on) in
    let now = keeps_result one.who L G (λ next. P next × AllKeep J next) (λ wild. wild.tame refl) one.plan s.memory one.wild both in
    now.1

-- The sum of the numbers with an index below n.
abbrev pub total_below : ℕ → (ℕ → ℕ) → ℕ
total_below zero number = 0
total_below (suc n) number = total_below n number + number n

pub part_below : (n i : ℕ) (number : ℕ → ℕ) → i < n → number i ≤ total_below n number
part_below zero i number below = absurd (omega (arith, below))
part_below (suc n) i number below =
    elim (cases_lt i n) [
      | inl earlier ↦ let part = part_below n i number earlier in omega (arith, part)
      | inr past ↦ let same_number : number i ≡ number n = ap number (omega (arith, below, past)) in omega (arith, same_number)
    ]

pub total_add : (n : ℕ) (a b : ℕ → ℕ) → total_below n (λ i. a i + b i) ≡ total_below n a + total_below n b
total_add zero a b = refl
total_add (suc n) a b = let earlier = total_add n a b in omega (arith, earlier)

-- of all items of all jobs
abbrev pub all_items : (count : ℕ) (most : ℕ → ℕ) (number : ℕ → ℕ → ℕ) → ℕ
all_items count most number = total_below count (λ j. total_below (most j) (number j))

all_add : (count : ℕ) (most : ℕ → ℕ) (a b : ℕ → ℕ → ℕ) → all_items count most (λ j n. a j n + b j n) ≡ all_items count most a + all_items count most b
all_add zero most a b = refl
all_add (suc count) most a b =
    let earlier = all_add count most a b in
    let here = total_add (most count) (a count) (b count) in
    omega (arith, earlier, here)

-- Where none is greater than K, all together are no greater than K for each item.
pub few_below : (n K : ℕ) (number : ℕ → ℕ) → ((i : ℕ) → number i ≤ K) → total_below n number ≤ K * n
few_below zero K number few = omega arith
few_below (suc n) K number few =
    let earlier = few_below n K number few in
    let here = few n in
    let more : K * suc n ≡ K * n + K = grind (arith, common_steps) in
    omega (arith, earlier, here, more)

pub few_items : (count K : ℕ) (most : ℕ → ℕ) (number : ℕ → ℕ → ℕ) → ((j n : ℕ) → number j n ≤ K) → all_items count most number ≤ K * total_below count most
few_items zero K most number few = omega arith
few_items (suc count) K most number few =
    let earlier = few_items count K most number few in
    let here = few_below (most count) K (number count) (few count) in
    let more : K * (total_below count most + most count) ≡ K * total_below count most + K * most count = grind (arith, common_steps) in
    omega (arith, earlier, here, more)

-- An item that is found is one of the job's.
found_first : (tile n : ℕ) (items : List Item) (item : Item) (found : Found) (b : Bool) → (first_of_tile tile (n + 1) items ≡ Some found → (n + 1 ≤ found.number) × (found.number < n + 1 + length items))
    → (if b then Some (record { number = n; item = item }) else first_of_tile tile (n + 1) items) ≡ Some found → (n ≤ found.number) × (found.number < n + length (item ∷ items))
found_first tile n items item found true later is = let e : n ≡ found.number = ap (λ (o : Option Found). (unwrap_or o found).number) is in (omega (arith, e), omega (arith, e))
found_first tile n items item found false later is = let both = later is in (let from = both.0 in omega (arith, from), let upto = both.1 in omega (arith, upto))

found_below : (tile n : ℕ) (items : List Item) (found : Found) → first_of_tile tile n items ≡ Some found → (n ≤ found.number) × (found.number < n + length items)
found_below tile n [] found is = absurd cc
found_below tile n (item ∷ items) found is = found_first tile n items item found (item.tile == tile) (λ later. found_below tile (n + 1) items found later) is

found_item : (sub : SubList) (items : List Item) (found : Found) → item_at sub items ≡ Some found → found.number < length items
unfolding item_at
found_item sub items found is =
    let both = found_below sub.tile sub.at (drop sub.at items) found is in
    let long : length (drop sub.at items) ≡ length items - sub.at = length-drop sub.at items in
    omega (arith, both.0, both.1, long)

-- Where a renderer stays, it is at one of the items of its job.
pub same_self : (n : ℕ) → (n == n) ≡ true
same_self n = grind (arith, common_steps, nat_tests)

stays_found : (most : ℕ) (passes : Bool) (found : Option Found) → IfSome found (λ one. one.number < most) → one_if (is_some found && not passes) ≤ total_below most (λ n. one_if (is_item n found && not passes))
stays_found most passes None inside = omega arith
stays_found most passes (Some found) inside =
    let own : one_if ((found.number == found.number) && not passes) ≡ one_if (true && not passes) = ap (λ b. one_if (b && not passes)) (same_self found.number) in
    let part = part_below most found.number (λ n. one_if ((found.number == n) && not passes)) inside in
    omega (arith, own, part)

if_found : (most : ℕ) (sub : SubList) (items : List Item) (found : Option Found) → length items ≤ most → item_at sub items ≡ found → IfSome found (λ one. one.number < most)
if_found most sub items None few is = tt
if_found most sub items (Some one) few is = let below = found_item sub items one is in omega (arith, below, few)

pub stays_in : (most : ℕ) (s : Lists) (passes : Bool) (inside : Option SubList) → length s.items ≤ most → one_if (is_at_item s inside && not passes) ≤ total_below most (λ n. one_if (is_at n s inside && not passes))
stays_in most s passes None few = omega arith
stays_in most s passes (Some sub) few = stays_found most passes (item_at sub s.items) (if_found most sub s.items (item_at sub s.items) few refl)

renderer_at : (rights : List Rights) (plains : ℕ → List Interval) (first : List ℕ) (count : ℕ) (most : ℕ → ℕ) (found : Option (Picked Lists)) (words : List ℕ) → IfSome found (PickedFine (JobKeeps rights plains first count most))
    → one_if (renderer_stays found words) ≤ all_items count most (λ j n. one_if (renderer_stays_at j n found words))
unfolding stays
renderer_at rights plains first count most None words keeps = omega arith
renderer_at rights plains first count most (Some r) words keeps =
    let mine : ℕ → Bool → ℕ = λ (j : ℕ) (own : Bool). total_below (most j) (λ n. one_if (own && stays_at n r.item words)) in
    let here = stays_in (most r.number) r.item (word_at words 0 % 4 == 3) r.item.renderer.inside keeps.room.few in
    let own : mine r.number (r.number == r.number) ≡ mine r.number true = ap (mine r.number) (same_self r.number) in
    let part : mine r.number (r.number == r.number) ≤ all_items count most (λ j n. one_if (renderer_stays_at j n (Some r) words)) = part_below count r.number (λ j. mine j (r.number == j)) keeps.inside in
    omega (arith, here, own, part)

unit_at : (rights : List Rights) (plains : ℕ → List Interval) (first : List ℕ) (count : ℕ) (most : ℕ → ℕ) (u : Units) (unit : Actor) (words : List ℕ) → AllKeep (JobKeeps rights plains first count most) u
    → one_if (unit_stays u unit words) ≤ all_items count most (λ j n. one_if (unit_stays_at j n u unit words))
unit_at rights plains first count most u TheBinner words all = omega arith
unit_at rights plains first count most u TheRenderer words all = renderer_at rights plains first count most (renderer_job u) words (first_fine (JobKeeps rights plains first count most) has_renderer_work 0 u.jobs all)
unit_at rights plains first count most u (TheQpu k) words all = omega arith
unit_at rights plains first count most u (TheTmu k n) words all = omega arith

-- So in a run.
pub run_stays : (rights : List Rights) (plains : ℕ → List Interval) (first : List ℕ) (count : ℕ) (most : ℕ → ℕ) (happenings : List (Happening Event)) (s : State) → ArePlain rights plains → Holds rights first (AreFine rights plains first) s
    → AllKeep (JobKeeps rights plains first count most) s.units → AllMayHappen ready turn rights s happenings → stay_count s happenings ≤ all_items count most (λ j n. item_stays j n s happenings)
run_stays rights plains first count most [] s plain holds all on = omega arith
run_stays rights plains first count most (Steps event ∷ later) s plain holds all on =
    let next = run_holds ready turn rights first (AreFine rights plains first) (units_owe_law rights plains first plain) (Steps event ∷ []) s holds (on.0, tt) in
    let still = step_keeps rights plains first count most s event plain holds.has holds.units all on.0 in
    let here = unit_at rights plains first count most s.units event.unit event.words all in
    let ran = run_stays rights plains first count most later (step s event).state plain next.0 still on.1 in
    let both = all_add count most (λ j n. one_if (unit_stays_at j n s.units event.unit event.words)) (λ j n. item_stays j n (step s event).state later) in
    omega (arith, here, ran, both)
run_stays rights plains first count most (Changes m ∷ later) s plain holds all on =
    let next = run_holds ready turn rights first (AreFine rights plains first) (units_owe_law rights plains first plain) (Changes m ∷ []) s holds (on.0, tt) in
    run_stays rights plains first count most later (record { memory = m; units = s.units }) plain next.0 all on.1

-- What is known at the start of jobs whose binner lists make room for no more items.
pub record RoomBegins (rights : List Rights) (plains : ℕ → List Interval) (first : List ℕ) (count : ℕ) (most : ℕ → ℕ) (j : ℕ) (start : Start) : Type 0 where
  pub inside : j < count
  pub begins : JobBegins rights plains first j start
  pub room : room_of begins.packets ≤ most j

pub start_keeps : (rights : List Rights) (plains : ℕ → List Interval) (first : List ℕ) (count : ℕ) (most : ℕ → ℕ) (j : ℕ) (start : Start) → RoomBegins rights plains first count most j start → JobKeeps rights plains first count most j (job_start start)
start_keeps rights plains first count most j start room =
    let begins = room.begins in
    let fine : JobFine rights plains first j (job_start start) = (each_begins rights plains first j (start ∷ []) (begins, tt)).0 in
    record {
      inside = room.inside;
      fine = fine;
      room = record {
        packets = begins.packets;
        ends = ap (λ n. start.bin_place + n) (sym begins.bin_len);
        stands = text_stays rights first j start.bin_place (joined_bytes begins.packets) begins.bin_text;
        whole = walks_whole begins.config (DrawBegins rights plains first j) nothing_kept begins.packets begins.bin_walks;
        counted = counted_none fine.config;
        few = omega arith;
        kept_room = omega arith;
        rest_room = room.room;
      };
    }

pub all_start : (rights : List Rights) (plains : ℕ → List Interval) (first : List ℕ) (count : ℕ) (most : ℕ → ℕ) (k : ℕ) (starts : List Start) → EachAt (RoomBegins rights plains first count most) k starts
    → EachAt (JobKeeps rights plains first count most) k (map job_start starts)
all_start rights plains first count most k [] all = tt
all_start rights plains first count most k (start ∷ starts) all = (start_keeps rights plains first count most k start all.0, all_start rights plains first count most (k + 1) starts all.1)
