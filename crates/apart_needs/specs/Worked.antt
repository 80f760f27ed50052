-- A worked step of each unit: a state of the machine, the unit that steps with its choice words, and by hand what follows.
use Rattle.std.specs.Prelude.{◌≡◌, ℕ, ◌+◌, ◌*◌, ◌^◌, true, false, List, [], ◌∷◌, ◌++◌, replicate, None, Some}
use Rattle.field_words.specs.declared.access.Access.{Access}
use Rattle.field_words.specs.declared.access.Actor.{Actor}
use Rattle.field_words.specs.declared.access.Actor.TheVariants.{Binner as TheBinner, Renderer as TheRenderer, Qpu as TheQpu, Tmu as TheTmu}
use Rattle.list_machine.specs.Lists.{Lists}
use Rattle.list_machine.specs.declared.state.Item.{Item}
use Rattle.machine.specs.{State.State, Step.is_enabled, Step.step}
use Rattle.qpu_machine.specs.declared.state.Ask.TheVariants.{Direct}
use Rattle.qpu_machine.specs.declared.state.Request.{Request}
use Rattle.qpu_machine.specs.declared.state.Thread.{Thread}
use Rattle.apart_needs.specs.States.{reads, writes, state, one_job, no_lists, new_thread, running, bytes, from_5, tiling}

-- In this state the unit may step. With these choice words its step does these accesses, in order, and the machine is then in the
-- next state.
pub record Steps (s : State) (unit : Actor) (words : List ℕ) (found : List Access) (next : State) : Type 0 where
  pub may : is_enabled s unit ≡ true
  pub accesses : (step s (record { unit = unit; words = words })).accesses ≡ found
  pub last : (step s (record { unit = unit; words = words })).state ≡ next

-- The binner puts a second item on tile 1, as choice word 0 says: the tile's block is full, so the link is written and the next further
-- block taken; then the item is written.
abbrev pub item_at : ℕ → Item
item_at place = record { tile = 1; place = place; word = 17; primitive = from_5 4 }

abbrev pub BinnerPuts : Type 0
BinnerPuts = Steps
    (one_job [] (tiling 512 0 (item_at 288 ∷ []))) TheBinner (1 ∷ [])
    (writes TheBinner 304 16 ∷ writes TheBinner 384 16 ∷ [])
    (one_job [] (tiling 512 1 (item_at 288 ∷ item_at 384 ∷ [])))

-- At opcode 24 the renderer stores a frame of one pixel of four bytes at place 5. The bytes are those of choice word 0, little endian.
abbrev pub at_frame : ℕ → Lists
at_frame place = record no_lists {
  renderer = record { place = place; end = 20; frame = Some (record { address = 5; width = 1; height = 1; bits = 4 }); x = 0; y = 0; waiting = None; inside = None };
}

abbrev pub RendererStores : Type 0
RendererStores = Steps
    (one_job (9 ∷ 9 ∷ 24 ∷ 9 ∷ 9 ∷ 9 ∷ 9 ∷ 9 ∷ 9 ∷ 9 ∷ []) (at_frame 2)) TheRenderer (0x04030201 ∷ [])
    (reads TheRenderer 2 1 ∷ writes TheRenderer 5 4 ∷ [])
    (one_job (9 ∷ 9 ∷ 24 ∷ 9 ∷ 9 ∷ 1 ∷ 2 ∷ 3 ∷ 4 ∷ 9 ∷ []) (at_frame 3))

-- A processor moves a uniform to r0 by its add unit: the 4 bytes at the uniforms' address are read, and the address goes on by 4.
abbrev pub moves_uniform : ℕ
moves_uniform = 2 ^ 60 + 2 ^ 49 + 32 * 2 ^ 38 + 39 * 2 ^ 32 + 21 * 2 ^ 24 + 32 * 2 ^ 18 + 39 * 2 ^ 12 + 6 * 2 ^ 9 + 6 * 2 ^ 6

abbrev pub worked_thread : Thread
worked_thread = record (new_thread false 0 8) { fresh = false }

abbrev pub QpuReadsUniform : Type 0
QpuReadsUniform = Steps
    (state (bytes moves_uniform ++ (5 ∷ 1 ∷ 0 ∷ 0 ∷ [])) [] (running worked_thread)) (TheQpu 0) []
    (reads (TheQpu 0) 0 8 ∷ reads (TheQpu 0) 8 4 ∷ [])
    (state (bytes moves_uniform ++ (5 ∷ 1 ∷ 0 ∷ 0 ∷ [])) [] (running (record worked_thread {
      place = 8;
      uniforms = 12;
      acc = replicate 16 261 ∷ replicate 5 (replicate 16 0);
      last1 = record { word = moves_uniform; to = None };
    })))

-- A texture and memory unit serves a direct request: it reads for each element the 4 bytes at the address without its low two bits, and
-- the thread has the words as its result.
abbrev pub two_words : List ℕ
two_words = 1 ∷ 0 ∷ 0 ∷ 0 ∷ 2 ∷ 1 ∷ 0 ∷ 0 ∷ []

abbrev pub asking : Request
asking = record { second = false; job = 0; ask = Direct (7 ∷ 0 ∷ replicate 14 1002) }

abbrev pub TmuServes : Type 0
TmuServes = Steps
    (state two_words [] (record (running worked_thread) { queue0 = record { items = asking ∷ [] } })) (TheTmu 0 0) []
    (reads (TheTmu 0 0) 4 4 ∷ reads (TheTmu 0 0) 0 4 ∷ replicate 14 (reads (TheTmu 0 0) 1000 4))
    (state two_words [] (running (record worked_thread { results0 = record { items = Some (258 ∷ 1 ∷ replicate 14 0) ∷ [] } })))

-- a step of each unit
pub record WorkedSteps : Type 0 where
  pub binner : BinnerPuts
  pub renderer : RendererStores
  pub qpu : QpuReadsUniform
  pub tmu : TmuServes
