-- Which threads are free bears on a list unit's step by the slot alone in which a program starts.
use Rattle.std.proofs.Common.{◌≡◌, ℕ, Bool, true, false, if◌then◌else◌, List, Option, Some, None, refl, sym, ◌∙◌, ap, arith, rules}
use Rattle.std.proofs.lemmas.Bool.{false≢true}
use Rattle.std.specs.Prelude.{is_some, option_map}
use Rattle.machine_plan.specs.{declared.launch.Free.Free, declared.launch.Launch.Launch, declared.launch.Slot.Slot, declared.who.Who.Who}
use Rattle.machine_plan.specs.{World.plan_mapped}
use Rattle.machine_plan.specs.Plan.{Plan, Done, outcome_of}
use Rattle.machine_plan.proofs.Worlds.{handed, carried_mapped}
use Rattle.list_machine.specs.declared.state.Program.TheVariants.{Coordinate}
use Rattle.list_machine.specs.Renderer.{renderer_plan, plan_in, found_plan, choice_plan, program_plan}
use Rattle.list_machine.specs.{declared.state.Found.Found, declared.state.Program.Program, declared.state.SubList.SubList}
use Rattle.list_machine.specs.{declared.state.Work.Work, Binner.binner_plan, Binner.binner_by, Binner.work_plan, Binner.started_with}
use Rattle.list_machine.specs.{Lists.Lists, Lists.Turned, Lists.turned_to}
use Rattle.list_machine.specs.Start.{can_start, launch_plan, start_as, start_plan}
use Rattle.qpu_machine.specs.{declared.state.Qpu.Qpu, Qpu.slot_from, Qpu.free_in}
use Rattle.promises.specs.Trail.{slot_for, launch_in}

-- a program can start where a slot is found for it
can_is : (threaded : Bool) (qpus : List Qpu) → is_some (slot_from threaded 0 qpus) ≡ can_start threaded (free_in qpus)
can_is threaded qpus = search (rules, arith)

no_slot : (place : Option Slot) → is_some place ≡ true → place ≡ None → ⊥
no_slot place there none = false≢true (sym (ap (λ p. is_some p) none) ∙ there)

-- where a program starts that a plan came to
abbrev starts : {R : Type 0} → (R → Option Launch) → Option R → List Qpu → Option Slot
starts launch None qpus = None
starts launch (Some r) qpus = slot_for (launch r) qpus

abbrev own_launch : Option Launch → Option Launch
own_launch launch = launch

-- the plan does the same whichever threads are free, where what it comes to starts in the same slot
abbrev SameStart : {R : Type 0} → (R → Option Launch) → Who → List ℕ → (us vs : List Qpu) → (one other : Plan R) → Type 0
SameStart launch who m us vs one other =
    starts launch (outcome_of who one m).result us ≡ starts launch (outcome_of who other m).result vs → outcome_of who one m ≡ outcome_of who other m

abbrev start_by : Bool → Program → Bool → ℕ → Plan (Option Launch)
start_by can program threaded word = if can then launch_plan program threaded word else Done None

start_alike_by : (program : Program) (threaded : Bool) (word : ℕ) (who : Who) (m : List ℕ) (us vs : List Qpu) (can there : Bool) → is_some (slot_from threaded 0 us) ≡ can → is_some (slot_from threaded 0 vs) ≡ there
    → SameStart own_launch who m us vs (start_by can program threaded word) (start_by there program threaded word)
unfolding launch_plan
start_alike_by program threaded word who m us vs can there here other same = search (rules, arith, no_slot)

start_as_alike : (program : Program) (threaded : Bool) (word : ℕ) (who : Who) (m : List ℕ) (us vs : List Qpu) → SameStart own_launch who m us vs (start_as program threaded (free_in us) word) (start_as program threaded (free_in vs) word)
unfolding start_as
start_as_alike program threaded word who m us vs = search (rules, arith, start_alike_by, can_is)

start_alike : (program : Program) (word : ℕ) (who : Who) (m : List ℕ) (us vs : List Qpu) → SameStart own_launch who m us vs (start_plan program (free_in us) word) (start_plan program (free_in vs) word)
unfolding start_plan
start_alike program word who m us vs = search (rules, arith, start_as_alike)

-- the launch where the program that is started is handed on
launch_handed : (put : Option Launch → Turned) → ((launch : Option Launch) → (put launch).launch ≡ launch) → (result : Option (Option Launch)) (qpus : List Qpu)
    → starts own_launch result qpus ≡ starts (λ (turned : Turned). turned.launch) (option_map put result) qpus
launch_handed put same result qpus = search (rules, arith)

abbrev launch_of_turned : Turned → Option Launch
launch_of_turned turned = turned.launch

handed_alike : (put : Option Launch → Turned) → ((launch : Option Launch) → (put launch).launch ≡ launch) → (who : Who) (m : List ℕ) (us vs : List Qpu) (one other : Plan (Option Launch))
    → SameStart own_launch who m us vs one other → SameStart launch_of_turned who m us vs (plan_mapped put one) (plan_mapped put other)
handed_alike put same who m us vs one other alike starts_same = search (rules, arith, carried_mapped, launch_handed, handed)

-- the binner's step
binner_due : (s : Lists) (w : Work) (due : Bool) (rest : Plan Turned) (who : Who) (m : List ℕ) (us vs : List Qpu)
    → SameStart launch_of_turned who m us vs (if due then plan_mapped (started_with s w) (start_plan Coordinate (free_in us) w.word) else rest) (if due then plan_mapped (started_with s w) (start_plan Coordinate (free_in vs) w.word) else rest)
binner_due s w true rest who m us vs = search (rules, arith, handed_alike, start_alike)
binner_due s w false rest who m us vs = λ same. refl

binner_work : (s : Lists) (work : Option Work) (words : List ℕ) (who : Who) (m : List ℕ) (us vs : List Qpu) → SameStart launch_of_turned who m us vs (binner_by s work (free_in us) words) (binner_by s work (free_in vs) words)
unfolding work_plan
binner_work s work words who m us vs = search (rules, arith, binner_due)

-- the slot of an outcome's launch, as entries have it
slot_is : (result : Option Turned) (qpus : List Qpu) → slot_for (launch_in result) qpus ≡ starts launch_of_turned result qpus
slot_is result qpus = search (rules, arith)

abbrev pub DoesSame : Who → List ℕ → (us vs : List Qpu) → (Free → Plan Turned) → Type 0
DoesSame who m us vs plan =
    slot_for (launch_in (outcome_of who (plan (free_in us)) m).result) us ≡ slot_for (launch_in (outcome_of who (plan (free_in vs)) m).result) vs
    → outcome_of who (plan (free_in us)) m ≡ outcome_of who (plan (free_in vs)) m

same_does : (who : Who) (m : List ℕ) (us vs : List Qpu) (plan : Free → Plan Turned) → SameStart launch_of_turned who m us vs (plan (free_in us)) (plan (free_in vs)) → DoesSame who m us vs plan
same_does who m us vs plan alike same = search (rules, arith, slot_is)

pub binner_does_same : (s : Lists) (words : List ℕ) (who : Who) (m : List ℕ) (us vs : List Qpu) → DoesSame who m us vs (λ free. binner_plan s free words)
unfolding binner_plan
binner_does_same s words who m us vs = same_does who m us vs (λ free. binner_plan s free words) (binner_work s s.binner.work words who m us vs)

-- the renderer's step
program_alike : (s : Lists) (program : Program) (word : ℕ) (who : Who) (m : List ℕ) (us vs : List Qpu)
    → SameStart launch_of_turned who m us vs (plan_mapped (turned_to s) (start_plan program (free_in us) word)) (plan_mapped (turned_to s) (start_plan program (free_in vs) word))
program_alike s program word who m us vs = search (rules, arith, handed_alike, start_alike)

abbrev four_ways : (vertex first second : Bool) → (a b c d : Plan Turned) → Plan Turned
four_ways vertex first second a b c d = if vertex then a else (if first then b else (if second then c else d))

choice_by : (vertex first second : Bool) (a b c e f d : Plan Turned) (who : Who) (m : List ℕ) (us vs : List Qpu) → SameStart launch_of_turned who m us vs b c → SameStart launch_of_turned who m us vs e f
    → SameStart launch_of_turned who m us vs (four_ways vertex first second a b e d) (four_ways vertex first second a c f d)
choice_by vertex first second a b c e f d who m us vs one other = search (rules, arith)

choice_alike : (s : Lists) (words : List ℕ) (sub : SubList) (found : Found) (who : Who) (m : List ℕ) (us vs : List Qpu) → SameStart launch_of_turned who m us vs (choice_plan s (free_in us) words sub found) (choice_plan s (free_in vs) words sub found)
unfolding choice_plan program_plan
choice_alike s words sub found who m us vs = search (rules, arith, choice_by, program_alike)

found_alike : (s : Lists) (words : List ℕ) (sub : SubList) (found : Option Found) (who : Who) (m : List ℕ) (us vs : List Qpu) → SameStart launch_of_turned who m us vs (found_plan s (free_in us) words sub found) (found_plan s (free_in vs) words sub found)
found_alike s words sub found who m us vs = search (rules, arith, choice_alike)

inside_alike : (s : Lists) (words : List ℕ) (inside : Option SubList) (who : Who) (m : List ℕ) (us vs : List Qpu) → SameStart launch_of_turned who m us vs (plan_in s (free_in us) words inside) (plan_in s (free_in vs) words inside)
inside_alike s words inside who m us vs = search (rules, arith, found_alike)

pub renderer_does_same : (s : Lists) (words : List ℕ) (who : Who) (m : List ℕ) (us vs : List Qpu) → DoesSame who m us vs (λ free. renderer_plan s free words)
unfolding renderer_plan
renderer_does_same s words who m us vs = same_does who m us vs (λ free. renderer_plan s free words) (inside_alike s words s.renderer.inside who m us vs)
