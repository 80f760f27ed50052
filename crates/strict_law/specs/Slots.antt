-- How many of a processor's slots its requests fill, and the law that they have room.
--
-- A processor has eight slots, of which a threaded program may fill four. A request fills one for the write that sends it, and one for each
-- set-up word before that; words that are kept for a request to come fill one each. No request keeps how many words made it. So its slots are
-- kept beside the state, as its order is in `Order`.
use Rattle.std.specs.Prelude.{◌≡◌, ◌≤◌, ℕ, ◌+◌, ◌==◌, Bool, true, false, not, if◌then◌else◌, List, [], ◌∷◌, ◌++◌, drop, length, sum, Option, Some, None, IfSome}
use Rattle.std.specs.Int.{from_le_bytes, w64}
use Rattle.field_words.specs.declared.access.{Access.Access, Actor.Actor}
use Rattle.field_words.specs.declared.access.Actor.TheVariants.{Binner as TheBinner, Renderer as TheRenderer, Qpu as TheQpu, Tmu as TheTmu}
use Rattle.qpu_isa.specs.Terms.{writes_s, loads}
use Rattle.machine_plan.specs.{Memory.bytes_at, Regions.Interval, Regions.Rights, Regions.HasReadOnly}
use Rattle.machine_plan.specs.Others.{Happening as Sole, OthersRun}
use Rattle.qpu_machine.specs.{declared.state.Qpu.Qpu, declared.state.Thread.Thread, Qpu.active_of}
use Rattle.machine.specs.{declared.job.Start.Start, State.State, State.Units, State.item_at, State.units_start, Step.Event, Step.ready, Step.turn}
use Rattle.machine_law.specs.{Jobs.ArePlain, Units.EachAt}
use Rattle.day_law.specs.Day.{AllMayHappen}
use Rattle.promises.specs.Days.{Day, Happening, after, dawn}
use Rattle.strict_law.specs.{Days.AdmitStrict, Kept.Keeping, Kept.kept_along, Kept.kept_of, Strict.JobStrict}

-- the set-up words that a TMU keeps of a thread
abbrev pub words_kept : ℕ → Thread → ℕ
words_kept tmu t = length (if tmu == 0 then t.setups0.items else t.setups1.items)

-- Of a thread's requests that it sent to a TMU and hasn't loaded, oldest first, the slots of each: what an instruction leaves of them before
-- which so many words are kept. A load takes the oldest, and a write of S sends one.
abbrev pub slots_with : ℕ → ℕ → ℕ → List ℕ → List ℕ
slots_with tmu word kept slots = (if loads word tmu then drop 1 slots else slots) ++ (if writes_s word tmu then (kept + 1) ∷ [] else [])

abbrev pub slots_by : Option Thread → List ℕ → ℕ → List ℕ → List ℕ
slots_by None m tmu slots = slots
slots_by (Some t) m tmu slots = slots_with tmu (from_le_bytes w64 (bytes_at m t.place 8)) (words_kept tmu t) slots

-- what a step of a processor leaves of those of its second thread, or its first one: of the active thread's requests alone
abbrev pub slots_in : Option Qpu → List ℕ → ℕ → Bool → List ℕ → List ℕ
slots_in None m tmu second slots = slots
slots_in (Some q) m tmu second slots = if (if q.second then second else not second) then slots_by (active_of q) m tmu slots else slots

-- by processor, TMU and thread
abbrev pub Slots : Type 0
Slots = ℕ → ℕ → Bool → List ℕ

-- a step of a unit over this memory
abbrev pub slots_after : Units → Actor → List ℕ → Slots → Slots
slots_after u TheBinner m slots = slots
slots_after u TheRenderer m slots = slots
slots_after u (TheTmu k n) m slots = slots
slots_after u (TheQpu k) m slots = λ j tmu second. if j == k then slots_in (item_at u.qpus k) m tmu second (slots j tmu second) else slots j tmu second

-- along a run of jobs that begin together, and where jobs come and go; a reset leaves none
abbrev pub slots_kept : Keeping Slots
slots_kept = record { step = λ u unit words m slots. slots_after u unit m slots; admit = λ j slots. slots; reset = λ slots j tmu second. [] }

abbrev pub slots_along : State → List (Sole Event) → Slots → Slots
slots_along s happenings slots = kept_along slots_kept s happenings slots

abbrev pub slots_of : Day → List Happening → Slots → Slots
slots_of d happenings slots = kept_of slots_kept d happenings slots

-- how many slots a processor's second thread fills, or its first one, with its requests to both TMUs and the words that they keep
abbrev pub words_in : Option Thread → ℕ
words_in None = 0
words_in (Some t) = length t.setups0.items + length t.setups1.items

abbrev pub words_filled : (ℕ → Bool → List ℕ) → Bool → Option Thread → ℕ
words_filled slots second slot = (sum (slots 0 second) + sum (slots 1 second)) + words_in slot

-- both at most eight, and a threaded program at most four
pub record HasRoom (slots : ℕ → Bool → List ℕ) (q : Qpu) : Type 0 where
  pub all : words_filled slots false q.first + words_filled slots true q.other ≤ 8
  pub first : IfSome q.first (λ t. t.threaded ≡ true → words_filled slots false q.first ≤ 4)
  pub other : IfSome q.other (λ t. t.threaded ≡ true → words_filled slots true q.other ≤ 4)

-- In each state to which a run of strict jobs comes, also while others write, each processor has room.
abbrev pub RunsHaveRoom : Type 0
RunsHaveRoom =
    (rights : List Rights) (plains : ℕ → List Interval) (first m : List ℕ) (starts : List Start)
    → ArePlain rights plains → HasReadOnly rights first m → EachAt (JobStrict rights plains first) 0 starts
    → (happenings : List (Sole Event)) (found : List Access) (s : State)
    → OthersRun ready turn rights (record { memory = m; units = units_start starts }) happenings found s
    → (k : ℕ) (q : Qpu) → item_at s.units.qpus k ≡ Some q
    → HasRoom (slots_along (record { memory = m; units = units_start starts }) happenings (λ j tmu second. []) k) q

-- So it has after whatever may happen to a machine to which only strict jobs are admitted.
abbrev pub DaysHaveRoom : Type 0
DaysHaveRoom =
    (memory : List ℕ) (happenings : List Happening) → AllMayHappen (dawn memory) happenings → AdmitStrict (dawn memory) happenings
    → (k : ℕ) (q : Qpu) → item_at (after (dawn memory) happenings).state.units.qpus k ≡ Some q
    → HasRoom (slots_of (dawn memory) happenings (λ j tmu second. []) k) q
