-- A run by its single steps, of an accepted file. Its triangle is binned; its fragment program starts, takes a texture, reads a table
-- directly and ends; the tile is stored, and the machine is finished.
use Rattle.std.specs.Prelude.{◌≡◌, ℕ, true, List, [], ◌∷◌, ◌++◌, length, replicate, Option, Some, None, option_map}
use Rattle.field_words.specs.declared.access.{Access.Access, Way.TheVariants.Read}
use Rattle.field_words.specs.declared.access.Actor.TheVariants.{Binner as TheBinner, Renderer as TheRenderer, Qpu as TheQpu, Tmu as TheTmu}
use Rattle.job_format.specs.{Model.FileModel, Reading.file_at}
use Rattle.job_check.specs.Emit.{memory_of}
use Rattle.machine_plan.specs.{Regions.Agree, Runs.state_reached}
use Rattle.qpu_machine.specs.{declared.state.Qpu.Qpu, Qpu.oldest, Qpu.queue_of}
use Rattle.qpu_machine.specs.declared.state.Ask.{Ask, TheVariants.Direct, TheVariants.Texture}
use Rattle.machine.specs.declared.job.Start.{Start}
use Rattle.machine.specs.State.{State, start_of, item_at}
use Rattle.machine.specs.Step.{Event, IsRun, step, is_finished}
use Rattle.promises.specs.Holdings.{interval, buffer_interval, fixed_of, file_starts}
use Rattle.textured_job.specs.Laws.{IsAccepted}

-- The units that step. The binner's choice word names the tile that gets an item, or says that the primitive is done; the renderer's says
-- what is done at an item.
abbrev pub binner : ℕ → Event
binner word = record { unit = TheBinner; words = word ∷ [] }

abbrev pub renderer : ℕ → Event
renderer word = record { unit = TheRenderer; words = word ∷ [] }

abbrev pub processor : Event
processor = record { unit = TheQpu 0; words = [] }

abbrev pub texture_unit : Event
texture_unit = record { unit = TheTmu 0 0; words = [] }

-- Five packets, to the primitive; its three vertices; its coordinate program; an item on the one tile, and no more; then the semaphore is
-- incremented, and the list flushed.
abbrev pub binning : List Event
binning =
    binner 0 ∷ binner 0 ∷ binner 0 ∷ binner 0 ∷ binner 0
    ∷ binner 0 ∷ binner 0 ∷ binner 0
    ∷ binner 0 ∷ processor ∷ processor ∷ processor
    ∷ binner 0 ∷ binner 1
    ∷ binner 0 ∷ binner 0 ∷ []

-- Four packets, into the tile's list; the fragment program of its item starts, sends for a texel, and switches, with no other thread to go on.
abbrev pub to_texture : List Event
to_texture =
    binning
    ++ (renderer 0 ∷ renderer 0 ∷ renderer 0 ∷ renderer 0
    ∷ renderer 2 ∷ processor ∷ processor ∷ processor ∷ processor ∷ processor ∷ [])

-- The texel comes, and by it the program sends for a word of the table, and switches again.
abbrev pub to_direct : List Event
to_direct = to_texture ++ (texture_unit ∷ processor ∷ processor ∷ processor ∷ processor ∷ processor ∷ processor ∷ processor ∷ [])

-- The word comes, and the program ends; the renderer goes past the item and out of the tile's list, and stores the tile.
abbrev pub whole_run : List Event
whole_run =
    to_direct
    ++ (texture_unit ∷ processor ∷ processor ∷ processor ∷ processor ∷ processor
    ∷ renderer 3 ∷ renderer 0 ∷ renderer 0 ∷ [])

-- the state after such events, of jobs that begin there over a memory
abbrev pub after : List Start → List ℕ → List Event → State
after starts m events = state_reached step (start_of m starts) events

-- what TMU 0 of the first processor is asked for next
abbrev pub ask_of : Option Qpu → Option Ask
ask_of None = None
ask_of (Some q) = option_map (λ request. request.ask) (oldest (queue_of q 0))

-- its read of so many bytes from a place on, for job 0
abbrev pub read_access : (place len : ℕ) → Access
read_access place len = record { way = Read; place = place; len = len; unit = TheTmu 0 0; job = 0 }

-- It is asked for this, and its step makes these accesses.
pub record Serves (s : State) (ask : Ask) (accesses : List Access) : Type 0 where
  pub asked : ask_of (item_at s.units.qpus 0) ≡ Some ask
  pub made : (step s texture_unit).accesses ≡ accesses

-- It is asked for the texture at 0x84000, of which each of its 128 reads takes the first 64 bytes; or directly for the words at 16 addresses,
-- which are one, and reads them.
abbrev pub TakesTexture : State → Type 0
TakesTexture s = Serves s (Texture (0x84000 ∷ 0x800800 ∷ 0 ∷ 0 ∷ [])) (replicate 128 (read_access 0x84000 64))

abbrev pub ReadsDirectly : State → Type 0
ReadsDirectly s = Serves s (Direct (replicate 16 0x84400)) (replicate 16 (read_access 0x84400 4))

-- These 43 events are a run, at whose end the machine is finished; and on the way the texture unit does both.
pub record Happens (starts : List Start) (m : List ℕ) : Type 0 where
  pub found : List Access
  pub run : IsRun (start_of m starts) whole_run found (after starts m whole_run)
  pub steps : length whole_run ≡ 43
  pub ends : is_finished (after starts m whole_run) ≡ true
  pub texture : TakesTexture (after starts m to_texture)
  pub direct : ReadsDirectly (after starts m to_direct)

-- In a file with this buffer it is a run from the emitted memory, and from each other of that length that has its lists and its code.
pub record FileRuns (f : FileModel) : Type 0 where
  pub buffer : buffer_interval f.buffers 3 ≡ interval 0x84000 0x1000
  pub emitted : Happens (file_starts f) (memory_of f)
  pub anywhere : (m : List ℕ) → Agree (fixed_of f) (memory_of f) m → Happens (file_starts f) m

-- So it is of the file that these accepted bytes hold.
pub record ARunHappens (bytes : List ℕ) : Type 0 where
  pub accepted : IsAccepted bytes
  pub runs : FileRuns (file_at bytes)
