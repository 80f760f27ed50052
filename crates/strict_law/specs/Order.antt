-- The order in which a processor sends requests to a TMU, whichever of its threads does, and the law that they are loaded in that order.
--
-- The machine keeps requests and results by thread, and loads the oldest of the thread's own. By the guide a processor has one queue.
use Rattle.std.specs.Prelude.{◌≡◌, ◌<◌, ℕ, ◌==◌, Bool, true, not, if◌then◌else◌, List, [], ◌∷◌, ◌++◌, Option, Some, None}
use Rattle.std.specs.Int.{from_le_bytes, w64}
use Rattle.field_words.specs.declared.access.{Access.Access, Actor.Actor}
use Rattle.field_words.specs.declared.access.Actor.TheVariants.{Binner as TheBinner, Renderer as TheRenderer, Qpu as TheQpu, Tmu as TheTmu}
use Rattle.qpu_isa.specs.Terms.{writes_s, loads}
use Rattle.machine_plan.specs.Memory.{bytes_at}
use Rattle.qpu_machine.specs.{declared.state.Qpu.Qpu, declared.state.Thread.Thread, Qpu.active_of}
use Rattle.machine_plan.specs.{Regions.Interval, Regions.Rights, Regions.HasReadOnly}
use Rattle.machine_plan.specs.Others.{Happening as Sole, OthersRun}
use Rattle.machine.specs.{declared.job.Start.Start, State.State, State.Units, State.item_at, State.units_start, Step.Event, Step.ready, Step.turn}
use Rattle.machine_law.specs.{Jobs.ArePlain, Units.EachAt}
use Rattle.day_law.specs.Day.{AllMayHappen}
use Rattle.promises.specs.Days.{Day, Happening, after, dawn}
use Rattle.strict_law.specs.{Days.AdmitStrict, Forbidden.Executes, Kept.Keeping, Kept.kept_along, Kept.kept_of, Strict.JobStrict}

-- Of each request it says whether the second thread sent it, or the first one did. Here a thread's oldest is left out.
abbrev pub without : Bool → List Bool → List Bool
without second [] = []
without second (one ∷ later) = if (if second then one else not one) then later else one ∷ without second later

-- what an instruction leaves of it that loads or not, and sends or not: what is sent is the youngest
abbrev pub order_with : Bool → Bool → Bool → List Bool → List Bool
order_with load send second order = (if load then without second order else order) ++ (if send then second ∷ [] else [])

-- what it leaves of the requests that its processor has sent to the TMU and not loaded, oldest first
abbrev pub order_after : ℕ → ℕ → Bool → List Bool → List Bool
order_after tmu word second order = order_with (loads word tmu) (writes_s word tmu) second order

abbrev pub order_by : Option Thread → Bool → List ℕ → ℕ → List Bool → List Bool
order_by None second m tmu order = order
order_by (Some t) second m tmu order = order_after tmu (from_le_bytes w64 (bytes_at m t.place 8)) second order

abbrev pub order_in : Option Qpu → List ℕ → ℕ → List Bool → List Bool
order_in None m tmu order = order
order_in (Some q) m tmu order = order_by (active_of q) q.second m tmu order

-- by processor and TMU
abbrev pub Orders : Type 0
Orders = ℕ → ℕ → List Bool

-- a step of a unit over this memory
abbrev pub orders_after : Units → Actor → List ℕ → Orders → Orders
orders_after u TheBinner m orders = orders
orders_after u TheRenderer m orders = orders
orders_after u (TheTmu k n) m orders = orders
orders_after u (TheQpu k) m orders = λ j tmu. if j == k then order_in (item_at u.qpus k) m tmu (orders j tmu) else orders j tmu

-- along a run of jobs that begin together, and where jobs come and go; a reset leaves none
abbrev pub orders_kept : Keeping Orders
orders_kept = record { step = λ u unit words m orders. orders_after u unit m orders; admit = λ j orders. orders; reset = λ orders j tmu. [] }

abbrev pub orders_along : State → List (Sole Event) → Orders → Orders
orders_along s happenings orders = kept_along orders_kept s happenings orders

abbrev pub orders_of : Day → List Happening → Orders → Orders
orders_of d happenings orders = kept_of orders_kept d happenings orders

abbrev pub oldest_of : List Bool → Option Bool
oldest_of [] = None
oldest_of (one ∷ later) = Some one

-- In each run of strict jobs, also while others write: a load takes the oldest request that the processor has sent to the TMU and not
-- loaded, both threads' counted. So one queue for both, and no names of threads in it, would behave alike.
abbrev pub RunsTakeOldest : Type 0
RunsTakeOldest =
    (rights : List Rights) (plains : ℕ → List Interval) (first m : List ℕ) (starts : List Start)
    → ArePlain rights plains → HasReadOnly rights first m → EachAt (JobStrict rights plains first) 0 starts
    → (happenings : List (Sole Event)) (found : List Access) (s : State)
    → OthersRun ready turn rights (record { memory = m; units = units_start starts }) happenings found s
    → (event : Event) (q : Qpu) (t : Thread) (word : ℕ) → (one : Executes s event q t word) → (tmu : ℕ) → tmu < 2 → loads word tmu ≡ true
    → oldest_of (orders_along (record { memory = m; units = units_start starts }) happenings (λ j n. []) one.k tmu) ≡ Some q.second

-- So it is after whatever may happen to a machine to which only strict jobs are admitted.
abbrev pub LoadsTakeOldest : Type 0
LoadsTakeOldest =
    (memory : List ℕ) (happenings : List Happening) → AllMayHappen (dawn memory) happenings → AdmitStrict (dawn memory) happenings
    → (event : Event) (q : Qpu) (t : Thread) (word : ℕ) → (one : Executes (after (dawn memory) happenings).state event q t word)
    → (tmu : ℕ) → tmu < 2 → loads word tmu ≡ true → oldest_of (orders_of (dawn memory) happenings (λ j n. []) one.k tmu) ≡ Some q.second
