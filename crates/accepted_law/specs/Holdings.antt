-- The one configuration and the one frame of each job of an accepted file.
use Rattle.std.specs.Prelude.{ℕ, ◌+◌, ◌*◌, ◌-◌}
use Rattle.field_words.specs.Sizes.{slot_size}
use Rattle.tile_memory.specs.Slots.{alloc_offset}
use Rattle.bin_list.specs.{Packets.packets_passed, Seen.seen_before}
use Rattle.job_format.specs.Model.{FileModel}
use Rattle.job_check.specs.Jobs.{job_of, slot_of, places_in}
use Rattle.packets.specs.declared.config.Config.{Config}
use Rattle.list_machine.specs.declared.state.Frame.{Frame}
use Rattle.list_law.specs.Start.{frame_of}

-- the tiles of the binner's grid; none where there is no binner list
abbrev pub across_of : FileModel → ℕ → ℕ
across_of f j = (seen_before (packets_passed (job_of f j).bin)).tiles_x

abbrev pub down_of : FileModel → ℕ → ℕ
down_of f j = (seen_before (packets_passed (job_of f j).bin)).tiles_y

-- The configuration of job j: the tiles' states stand at the slot's beginning, and their lists behind.
unfoldable pub config_for : FileModel → ℕ → Config
config_for f j = record {
  address = slot_of f j + alloc_offset (across_of f j * down_of f j);
  size = slot_size - alloc_offset (across_of f j * down_of f j);
  states = slot_of f j;
  tiles_x = across_of f j;
  tiles_y = down_of f j;
}

-- and its frame
unfoldable pub frame_for : FileModel → ℕ → Frame
frame_for f j = frame_of (job_of f j).frame (places_in f j)
