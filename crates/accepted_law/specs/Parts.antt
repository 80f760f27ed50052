-- The parts of what each job of an accepted file begins with.
use Rattle.std.specs.Prelude.{◌≡◌, ◌<◌, ◌⊎◌, ℕ, ◌+◌, true, false, not, List, length, None}
use Rattle.field_words.specs.{Pieces.joined_texts, Questions.first_of}
use Rattle.emitted_facts.specs.Records.{is_single}
use Rattle.packets.specs.{Opcode.indexed_primitive_list, Opcode.array_primitive_list, Packet.slots_text}
use Rattle.bin_list.specs.Packets.{opcode}
use Rattle.bin_walks.specs.{Draws.IsDrawn, Walks.nothing_kept, Walks.Walks}
use Rattle.render_list.specs.Text.{render_slots}
use Rattle.render_walks.specs.Walks.{at_start, WalksTo, AllFit}
use Rattle.shader_records.specs.Sources.{record_offset}
use Rattle.job_format.specs.{File.IsWellFormed, File.Fits, Model.FileModel}
use Rattle.job_check.specs.Jobs.{job_of, has_bin, grid_of, slot_of, places_in, input_for, layout_of, states_in, bin_list_of, render_list_of}
use Rattle.job_check.specs.{Shaders.table_of, Emit.memory_of, Faults.place_stages}
use Rattle.list_machine.specs.Fetch.{record_place}
use Rattle.list_law.specs.{Binning.Allocates, Emitted.words_in, Emitted.program_in, Rendering.MayDo, Rendering.NoMatter, Rendering.AllSet}
use Rattle.machine_law.specs.{Begins.LaunchBegins, Begins.JobBegins, Jobs.ArePlain}
use Rattle.accepted_law.specs.Holdings.{config_for, frame_for}
use Rattle.promises.specs.Holdings.{OfEachJob, plain_of, file_rights, rights_at, start_of}
use Rattle.accepted_law.specs.{Ends.IsShaderOf, Ends.AreHandlesOf, Ends.DrawShaders, Settled.AreSettled, Settled.Grounds}

-- From the file: where no rule is broken, all this is known of it, and of the memory that it is emitted as.
abbrev pub FilesSettle : Type 0
FilesSettle = (f : FileModel) → IsWellFormed f → Fits f → first_of (place_stages f) ≡ None → AreSettled f

abbrev pub FilesGround : Type 0
FilesGround = (f : FileModel) → AreSettled f → OfEachJob f (λ j. Grounds f j (memory_of f))

-- The configuration of the job's grid is the job's to write.
abbrev pub FilesAllocate : Type 0
FilesAllocate = (f : FileModel) (j : ℕ) → Grounds f j (memory_of f) → Allocates (rights_at f j) (config_for f j)

-- A word whose record is that of state k: its three programs may be started from the first memory on, and each is of a shader that a
-- handle of the record names.
pub record RecordLaunches (f : FileModel) (j : ℕ) (m : List ℕ) (word : ℕ) : Type 0 where
  pub fragment : LaunchBegins (file_rights f) (plain_of f) m j (program_in m word (not (is_single (words_in m word))) 0)
  pub vertex : LaunchBegins (file_rights f) (plain_of f) m j (program_in m word false 1)
  pub coordinate : LaunchBegins (file_rights f) (plain_of f) m j (program_in m word false 2)
  pub of_fragment : IsShaderOf f j fragment.home.code
  pub of_vertex : IsShaderOf f j vertex.home.code
  pub of_coordinate : IsShaderOf f j coordinate.home.code
  pub handles : AreHandlesOf f j of_fragment.handle of_vertex.handle of_coordinate.handle

abbrev pub RecordsLaunch : Type 0
RecordsLaunch =
    (f : FileModel) (j : ℕ) (m : List ℕ) (k word : ℕ) → Grounds f j m → has_bin f j ≡ true → k < length (states_in f j)
    → record_place word ≡ (layout_of f j).place + (layout_of f j).records + record_offset (input_for f j) k
    → RecordLaunches f j m word

-- So each primitive of the emitted binner list may be drawn,
abbrev pub DrawsBegin : Type 0
DrawsBegin =
    (f : FileModel) (j : ℕ) (m : List ℕ) (word : ℕ) (packet : List ℕ) → Grounds f j m → has_bin f j ≡ true
    → IsDrawn (table_of f) (job_of f j).handles (layout_of f j) (states_in f j) word packet
    → (opcode packet ≡ indexed_primitive_list) ⊎ (opcode packet ≡ array_primitive_list)
    → DrawShaders f j m word packet

-- and the list walks.
pub record BinWalks (f : FileModel) (j : ℕ) (m : List ℕ) : Type 0 where
  pub packets : List (List ℕ)
  pub text : bin_list_of f j ≡ joined_texts packets
  pub walks : Walks (config_for f j) (DrawShaders f j m) nothing_kept packets

abbrev pub BinsWalk : Type 0
BinsWalk = (f : FileModel) (j : ℕ) (m : List ℕ) → Grounds f j m → BinWalks f j m

-- So does the renderer list.
pub record RenderWalks (f : FileModel) (j : ℕ) : Type 0 where
  pub text : render_list_of f j ≡ slots_text (render_slots (job_of f j).frame (places_in f j) (grid_of f j) (slot_of f j))
  pub walks : WalksTo (MayDo (rights_at f j) (config_for f j) (frame_for f j)) NoMatter at_start (render_slots (job_of f j).frame (places_in f j) (grid_of f j) (slot_of f j))
  pub fits : AllFit (render_slots (job_of f j).frame (places_in f j) (grid_of f j) (slot_of f j))
  pub sets : AllSet (frame_for f j) (render_slots (job_of f j).frame (places_in f j) (grid_of f j) (slot_of f j))

abbrev pub RendersWalk : Type 0
RendersWalk = (f : FileModel) (j : ℕ) (m : List ℕ) → Grounds f j m → RenderWalks f j

-- The whole: what each job of an accepted file begins with is what the laws of the machine's units ask of it, and of its data buffers.
abbrev pub FilesBegin : Type 0
FilesBegin =
    (f : FileModel) → IsWellFormed f → Fits f → first_of (place_stages f) ≡ None
    → ArePlain (file_rights f) (plain_of f)
    × OfEachJob f (λ j. JobBegins (file_rights f) (plain_of f) (memory_of f) j (start_of f j))
