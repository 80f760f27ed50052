-- A run by a script, which may favour a kind of unit. `Chooses step n m` says that at this step m is picked of n, `Answers step k word` that
-- its word k is this.
use Rattle.std.specs.Prelude.{◌≡◌, ◌≢◌, ◌≤◌, ◌<◌, ℕ, ◌+◌, ◌^◌, Bool, true, false, IsTrue, List, [], ◌∷◌, ◌++◌, length, map, slice_index, Option}
use Rattle.field_words.specs.declared.access.Access.{Access}
use Rattle.field_words.specs.declared.access.Actor.{Actor}
use Rattle.machine_plan.specs.Runs.{found_by, state_reached}
use Rattle.machine.specs.{State.State, Step.Event, Step.is_enabled, Step.is_finished, Step.job_of, Step.step, Step.IsRun}
use Rattle.replay.specs.declared.trace.Ending.TheVariants.{Finished, Waiting, Spent}
use Rattle.replay.specs.{declared.logged.Kept.Kept, declared.logged.Log.Log, declared.logged.Logged.Logged, declared.trace.Ending.Ending, declared.trace.Trace.Trace}
use Rattle.replay.specs.{declared.trace.TraceLine.TraceLine, declared.units.UnitKind.UnitKind, Trace.line_of}
use Rattle.replay.specs.Units.{unit_at, word_count, enabled_units, candidates}

-- what is asked of closures that give a script: at each step below 2^64 one may be picked of each number but 0, which is below
-- it, and each of 4,096 words may be asked for
abbrev pub MayChoose : (ℕ → ℕ → Type 0) → Type 0
MayChoose Pre = (step n : ℕ) → step < 2 ^ 64 → 1 ≤ n → n < 2 ^ 32 → Pre step n

abbrev pub IsBelow : (ℕ → ℕ → ℕ → Type 0) → Type 0
IsBelow Post = (step n picked : ℕ) → step < 2 ^ 64 → 1 ≤ n → n < 2 ^ 32 → Post step n picked → picked < n

abbrev pub MayAnswer : (ℕ → ℕ → Type 0) → Type 0
MayAnswer Pre = (step k : ℕ) → step < 2 ^ 64 → k < 4096 → Pre step k

-- at step i this unit was picked of these
pub record IsPicked (Chooses : ℕ → ℕ → ℕ → Type 0) (i : ℕ) (units : List ℕ) (unit : Actor) : Type 0 where
  pub place : ℕ
  pub picked : Chooses i (length units) place
  pub within : place < length units
  pub is : unit ≡ unit_at (slice_index units place)

-- Step number i is this event: the machine isn't finished; the unit is the one that was picked among those that may step, or
-- of these among the favoured ones where there are any, with as many words as it gets, and they are what was answered.
pub record IsTurn (Chooses Answers : ℕ → ℕ → ℕ → Type 0) (favoured : Option UnitKind) (i : ℕ) (s : State) (event : Event) : Type 0 where
  pub goes : is_finished s ≡ false
  pub picked : IsPicked Chooses i (candidates favoured (enabled_units s)) event.unit
  pub count : length event.words ≡ word_count event.unit
  pub words : (k : ℕ) → k < length event.words → Answers i k (slice_index event.words k)

-- the steps from number i on are these events
abbrev pub Follows : (ℕ → ℕ → ℕ → Type 0) → (ℕ → ℕ → ℕ → Type 0) → Option UnitKind → ℕ → State → List Event → Type 0
Follows Chooses Answers favoured i s [] = Unit {0}
Follows Chooses Answers favoured i s (event ∷ events) = IsTurn Chooses Answers favoured i s event × Follows Chooses Answers favoured (i + 1) (step s event).state events

-- a line for each event: its unit, the job for which that stepped, and what it did
abbrev pub lines_of : State → List Event → List TraceLine
lines_of s [] = []
lines_of s (event ∷ events) = line_of event.unit (job_of s event.unit) (step s event).accesses ∷ lines_of (step s event).state events

-- the accesses of the steps from number i on, in order, each with its step's number
abbrev pub accesses_numbered : ℕ → List Access → List Logged
accesses_numbered i accesses = map (λ a. record { step = i; access = a }) accesses

abbrev pub accesses_of : ℕ → State → List Event → List Logged
accesses_of i s [] = []
accesses_of i s (event ∷ events) = accesses_numbered i (step s event).accesses ++ accesses_of (i + 1) (step s event).state events

-- the run ended in this state, after so many of the steps that were asked for
abbrev pub IsEnded : State → ℕ → ℕ → Ending → Type 0
IsEnded s steps done Finished = is_finished s ≡ true
IsEnded s steps done Waiting = (is_finished s ≡ false) × (enabled_units s ≡ [])
IsEnded s steps done Spent = (done ≡ steps) × (is_finished s ≡ false) × (enabled_units s ≢ [])

-- why a machine in this state steps no further
abbrev pub IsOver : State → Ending → Type 0
IsOver s Finished = is_finished s ≡ true
IsOver s Waiting = (is_finished s ≡ false) × (enabled_units s ≡ [])
IsOver s Spent = ⊥

-- one step that the script gave: the state after it, its accesses, and its line
pub record StepsBy (Chooses Answers : ℕ → ℕ → ℕ → Type 0) (favoured : Option UnitKind) (i : ℕ) (s next : State) (listed : List Access) (line : TraceLine) : Type 0 where
  pub event : Event
  pub turn : IsTurn Chooses Answers favoured i s event
  pub may : IsTrue (is_enabled s event.unit)
  pub next_is : next ≡ (step s event).state
  pub listed_is : listed ≡ (step s event).accesses
  pub line_is : line ≡ line_of event.unit (job_of s event.unit) (step s event).accesses

-- The script gave the run of these events from this state, at most so many, and it ended so.
pub record IsRunBy (Chooses Answers : ℕ → ℕ → ℕ → Type 0) (favoured : Option UnitKind) (s : State) (steps : ℕ) (events : List Event) (ending : Ending) : Type 0 where
  pub run : IsRun s events (found_by step s events) (state_reached step s events)
  pub follows : Follows Chooses Answers favoured 0 s events
  pub most : length events ≤ steps
  pub ends : IsEnded (state_reached step s events) steps (length events) ending

-- The trace is that of this run.
pub record IsTrace (Chooses Answers : ℕ → ℕ → ℕ → Type 0) (favoured : Option UnitKind) (s : State) (steps : ℕ) (events : List Event) (trace : Trace) : Type 0 where
  pub by : IsRunBy Chooses Answers favoured s steps events trace.ending
  pub lines : trace.lines.items ≡ lines_of s events

-- some events are those of this trace
abbrev pub HasTrace : (Chooses Answers : ℕ → ℕ → ℕ → Type 0) → Option UnitKind → State → ℕ → Trace → Type 0
HasTrace Chooses Answers favoured s steps trace = (events : List Event) × IsTrace Chooses Answers favoured s steps events trace

-- The log is that of the same run: all accesses of its steps, which count from 0, how many steps there were, and how it ended.
pub record IsLog (Chooses Answers : ℕ → ℕ → ℕ → Type 0) (favoured : Option UnitKind) (s : State) (steps : ℕ) (events : List Event) (log : Log) : Type 0 where
  pub by : IsRunBy Chooses Answers favoured s steps events log.ending
  pub accesses : log.accesses.items ≡ accesses_of 0 s events
  pub count : log.steps ≡ length events

-- some events are those of this log
abbrev pub HasLog : (Chooses Answers : ℕ → ℕ → ℕ → Type 0) → Option UnitKind → State → ℕ → Log → Type 0
HasLog Chooses Answers favoured s steps log = (events : List Event) × IsLog Chooses Answers favoured s steps events log

-- what is kept of these events, where they are logged and where they aren't
abbrev pub IsKept : Bool → State → List Event → Kept → Type 0
IsKept true s events kept = kept.accesses.items ≡ accesses_of 0 s events
IsKept false s events kept = kept.lines.items ≡ lines_of s events

-- what is kept has one step more
abbrev pub HasMore : Bool → (i : ℕ) → TraceLine → List Access → (before after : Kept) → Type 0
HasMore true i line accesses before after = after.accesses.items ≡ before.accesses.items ++ accesses_numbered i accesses
HasMore false i line accesses before after = after.lines.items ≡ before.lines.items ++ line ∷ []

-- this is kept of some run of so many steps, which ended so
abbrev pub HasKept : (Chooses Answers : ℕ → ℕ → ℕ → Type 0) → Option UnitKind → State → ℕ → Kept → ℕ → Ending → Type 0
HasKept Chooses Answers favoured s steps kept done ending =
    (events : List Event) × IsRunBy Chooses Answers favoured s steps events ending × IsKept kept.logs s events kept × (done ≡ length events)
