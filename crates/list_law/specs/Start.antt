-- What stands at the start.
use Rattle.std.specs.Prelude.{◌≡◌, ℕ, Bool, List, Option, length}
use Rattle.field_words.specs.Pieces.{joined_texts}
use Rattle.job_format.specs.declared.file.Frame.{Frame as JobFrame}
use Rattle.packets.specs.{Packet.slots_text, declared.packet.Packet.Packet, declared.config.Config.Config}
use Rattle.machine_plan.specs.{declared.launch.Launch.Launch, Memory.bytes_at, Regions.Inside, Regions.Rights, Regions.HasReadOnly}
use Rattle.bin_walks.specs.Walks.{nothing_kept, Walks}
use Rattle.render_list.specs.{Frame.place_at, Text.color_place, Text.color_bits, Text.render_slots}
use Rattle.render_walks.specs.Walks.{at_start, WalksTo, AllFit}
use Rattle.list_machine.specs.{declared.state.Frame.Frame, Lists.lists_start}
use Rattle.list_law.specs.{Binning.DrawsSo, Rendering.MayDo, Rendering.NoMatter, Rendering.AllSet, Lists.ListsFine, Laws.Passes}

-- the frame that the head of a job's renderer list sets
abbrev pub frame_of : JobFrame → List (Option ℕ) → Frame
frame_of frame places = record { address = color_place (place_at places 1); width = frame.width; height = frame.height; bits = color_bits frame (place_at places 1) }

-- A binner list of these packets that stands at a place in each memory of K, lies in the region and walks.
pub record BinnerBegins (r : Rights) (K : List ℕ → Type 0) (O : Launch → Type 0) (c : Config) (place : ℕ) (packets : List (List ℕ)) : Type 0 where
  pub walks : Walks c (DrawsSo r K O) nothing_kept packets
  pub stands : (m : List ℕ) → K m → bytes_at m place (length (joined_texts packets)) ≡ joined_texts packets
  pub reads : Inside r.region place (length (joined_texts packets))

-- A renderer list of these packets, likewise, whose numbers fit their fields and which sets the job's one frame.
pub record RendererBegins (r : Rights) (K : List ℕ → Type 0) (c : Config) (f : Frame) (place : ℕ) (slots : List (Option Packet)) : Type 0 where
  pub walks : WalksTo (MayDo r c f) NoMatter at_start slots
  pub fit : AllFit slots
  pub sets : AllSet f slots
  pub stands : (m : List ℕ) → K m → bytes_at m place (length (slots_text slots)) ≡ slots_text slots
  pub reads : Inside r.region place (length (slots_text slots))

-- From two such lists all stands at the start of a job's list units.
abbrev pub ListsBegin : Type 0
ListsBegin =
    (r : Rights) (jobs : List Rights) (first : List ℕ) (may : Launch → Bool) (c : Config) (f : Frame) (bin_place render_place : ℕ) (packets : List (List ℕ)) (slots : List (Option Packet))
    → BinnerBegins r (HasReadOnly jobs first) (Passes may) c bin_place packets → RendererBegins r (HasReadOnly jobs first) c f render_place slots
    → ListsFine r (HasReadOnly jobs first) (Passes may) c f (lists_start bin_place (length (joined_texts packets)) render_place (length (slots_text slots)))

-- Of a job's renderer list its head alone sets a frame.
abbrev pub HeadSets : Type 0
HeadSets = (frame : JobFrame) (places : List (Option ℕ)) (grid : Option (ℕ × ℕ)) (slot : ℕ) → AllSet (frame_of frame places) (render_slots frame places grid slot)
