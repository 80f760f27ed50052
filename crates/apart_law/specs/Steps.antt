-- One step of the machine, to a client: a step for another client's job leaves its part alone, and a step for its own job does the same
-- from all states that are alike to it.
use Rattle.std.specs.Prelude.{◌≡◌, ℕ, IsTrue, true, false, List, [], Option, Some, None}
use Rattle.machine_plan.specs.{Plan.Keeps, Regions.Interval, Regions.Inside, Regions.IsIn, Regions.Every, Runs.Moved, World.Turn}
use Rattle.machine.specs.{State.Units, State.State, Step.Event, Step.job_of, Step.may, Step.step, Step.turn}
use Rattle.apart_law.specs.{Part.UnitsAlike, Part.StatesAlike, Tied.AreTied, Tied.RestsFresh}
use Rattle.promises.specs.Trail.{Client, accesses_of, entry_of}

-- A step for another client's job has no access of the client's, and leaves its part of what the units keep.
abbrev pub OthersStepsAreSilent : Type 0
OthersStepsAreSilent =
    (mine : Client) (s : State) (event : Event) → mine (job_of s event.unit) ≡ false → AreTied s.units.qpus → Every RestsFresh s.units.qpus
    → (accesses_of mine (step s event).accesses ≡ []) × UnitsAlike mine (step s event).state.units s.units

-- the turn looks and makes its accesses inside these intervals alone
abbrev pub StaysIn : List Interval → Turn Units → List ℕ → Type 0
StaysIn all t m = Keeps t.who (Inside all) (IsIn all) (λ k next. Unit {0}) t.plan m

-- what two steps gave is alike to the client
pub record GaveAlike (mine : Client) (all : List Interval) (one other : Moved State) : Type 0 where
  pub accesses : one.accesses ≡ other.accesses
  pub states : StatesAlike mine all one.state other.state

-- From two states that are alike to the client, two steps for jobs of it that have the same entry make the same accesses, and the states
-- are alike again, where the first looks and makes its accesses inside these intervals alone.
abbrev pub OwnStepsAreAlike : Type 0
OwnStepsAreAlike =
    (mine : Client) (all : List Interval) (s t : State) (event other : Event) → IsTrue (may s event) → IsTrue (may t other)
    → mine (job_of s event.unit) ≡ true → mine (job_of t other.unit) ≡ true → StatesAlike mine all s t
    → entry_of s event ≡ entry_of t other → StaysIn all (turn s.units event) s.memory → GaveAlike mine all (step s event) (step t other)

-- Requests stay tied to the threads of their jobs.
abbrev pub StepsKeepTied : Type 0
StepsKeepTied = (s : State) (event : Event) → AreTied s.units.qpus → AreTied (step s event).state.units.qpus

-- What two machines owe whose runs are compared: each keeps what is known of its states; a step without an entry has no access of the
-- client's, and leaves the states alike; and two steps with one entry make the same accesses of it, and leave the states alike.
pub record StepsAlike {S E X : Type 0} (entry : S → E → Option X) (move : S → E → Moved S) (mine : Client) (may might : S → E → Type 0) (I J : S → Type 0) (A : S → S → Type 0) : Type 0 where
  pub keeps : (s : S) (e : E) → I s → may s e → I (move s e).state
  pub others_keep : (t : S) (e : E) → J t → might t e → J (move t e).state
  pub quiet : (s t : S) (e : E) → I s → may s e → A s t → entry s e ≡ None
      → (accesses_of mine (move s e).accesses ≡ []) × A (move s e).state t
  pub others_quiet : (s t : S) (e : E) → J t → might t e → A s t → entry t e ≡ None
      → (accesses_of mine (move t e).accesses ≡ []) × A s (move t e).state
  pub both : (s t : S) (d e : E) (x : X) → I s → J t → may s d → might t e → A s t → entry s d ≡ Some x → entry t e ≡ Some x
      → (accesses_of mine (move s d).accesses ≡ accesses_of mine (move t e).accesses) × A (move s d).state (move t e).state
