-- Why the entry of a client's step tells the words, the active thread and where a program was started: two steps that are the same to it
-- but for one of these give what isn't alike to it.
use Rattle.std.specs.Prelude.{◌≡◌, ℕ, IsTrue, true, false, List, [], ◌∷◌, ◌++◌, None, Some}
use Rattle.machine_plan.specs.Regions.{Interval}
use Rattle.machine.specs.{State.State, Step.Event, Step.job_of, Step.may, Step.step, Step.turn}
use Rattle.apart_law.specs.{Part.StatesAlike, Steps.StaysIn, Steps.GaveAlike}
use Rattle.promises.specs.Trail.{Client, Entry, entry_of}
use Rattle.field_words.specs.declared.access.Actor.TheVariants.{Binner as TheBinner, Qpu as TheQpu}
use Rattle.qpu_machine.specs.{declared.state.Qpu.Qpu, declared.state.Thread.Thread, Qpu.idle_qpu}
use Rattle.apart_needs.specs.States.{one_job, state, running, new_thread, no_lists, bytes, signal, drawing, from_5, tiling, coordinate_record}
use Rattle.apart_needs.specs.Sharing.{client}

-- All that the law of own steps asks of two steps, but of their entries only that this part of them is the same; and yet what the steps
-- give isn't alike to the client.
pub record Refutes (part : Entry → Entry) (mine : Client) (all : List Interval) (s t : State) (event other : Event) : Type 0 where
  pub may_step : IsTrue (may s event)
  pub other_may : IsTrue (may t other)
  pub own : mine (job_of s event.unit) ≡ true
  pub other_own : mine (job_of t other.unit) ≡ true
  pub alike : StatesAlike mine all s t
  pub entries : part (entry_of s event) ≡ part (entry_of t other)
  pub stays : StaysIn all (turn s.units event) s.memory
  pub differ : GaveAlike mine all (step s event) (step t other) → ⊥

-- the entry without its words, without the thread that was active, and without where a program started
abbrev pub without_words : Entry → Entry
without_words entry = record entry { words = [] }

abbrev pub without_thread : Entry → Entry
without_thread entry = record entry { second = false }

abbrev pub without_starts : Entry → Entry
without_starts entry = record entry { starts = None }

-- The client's binner has a primitive whose vertices are done, for two tiles, in an allocation from place 256 on. The word chooses the
-- tile that gets an item.
abbrev pub allocation : List Interval
allocation = record { place = 256; size = 512 } ∷ []

abbrev pub tiling_state : State
tiling_state = one_job [] (tiling 512 0 [])

abbrev pub puts_on : ℕ → Event
puts_on tile = record { unit = TheBinner; words = tile ∷ [] }

abbrev pub WordsAreNeeded : Type 0
WordsAreNeeded = Refutes without_words client allocation tiling_state tiling_state (puts_on 0) (puts_on 1)

-- Both threads of processor 0 are the client's, at two places of code that does nothing. The one that is active reads its instruction.
abbrev pub code_bytes : List Interval
code_bytes = record { place = 0; size = 16 } ∷ []

abbrev pub two_threads : Qpu
two_threads = record idle_qpu { first = Some (new_thread true 0 0); other = Some (new_thread true 8 0) }

abbrev pub runs : Qpu → State
runs qpu = state (bytes (signal 1) ++ bytes (signal 1)) (no_lists ∷ []) qpu

abbrev pub takes_instruction : Event
takes_instruction = record { unit = TheQpu 0; words = [] }

abbrev pub ThreadsAreNeeded : Type 0
ThreadsAreNeeded =
    Refutes without_thread client code_bytes (runs two_threads) (runs (record two_threads { second = true }))
    takes_instruction takes_instruction

-- The client's binner has a coordinate program to start, whose record stands at place 16. In the second state a thread of another client
-- runs in processor 0, and so the program starts in processor 1 there.
abbrev pub record_bytes : List Interval
record_bytes = record { place = 0; size = 52 } ∷ []

abbrev pub due : Qpu → State
due qpu = state coordinate_record (drawing 17 (from_5 4) 4 true ∷ []) qpu

abbrev pub others_thread : Thread
others_thread = record (new_thread false 0 0) { job = 1 }

abbrev pub starts_program : Event
starts_program = record { unit = TheBinner; words = [] }

abbrev pub SlotsAreNeeded : Type 0
SlotsAreNeeded = Refutes without_starts client record_bytes (due idle_qpu) (due (running others_thread)) starts_program starts_program
