-- A list of packets that the binner may read, one after the other.
use Rattle.std.specs.Prelude.{◌≡◌, ◌≢◌, ℕ, Bool, true, false, ◌==◌, List, [], ◌∷◌, length, Option, Some, None, if◌then◌else◌}
use Rattle.field_words.specs.Words.{u32_at}
use Rattle.packets.specs.Opcode.{halt, flush, start_tile_binning, indexed_primitive_list, array_primitive_list, gl_shader_state, tile_binning_mode, buffer_handles}
use Rattle.packets.specs.{Length.bin_length, declared.config.Config.Config, Config.config_in}
use Rattle.bin_list.specs.Packets.{opcode}

-- what the binner keeps of the packets that it went past
pub record Kept : Type 0 where
  pub config : Option Config
  pub word : Option ℕ
  pub started : Bool

abbrev pub nothing_kept : Kept
nothing_kept = record { config = None; word = None; started = false }

unfoldable pub kept_after : Kept → List ℕ → Kept
kept_after kept packet = record {
  config = (if opcode packet == tile_binning_mode then Some (config_in packet) else kept.config);
  word = (if opcode packet == gl_shader_state then Some (u32_at packet 1) else kept.word);
  started = (if opcode packet == start_tile_binning then true else kept.started);
}

-- a primitive is drawn under a state word, behind the start, and R allows it
pub record Drawing (R : ℕ → List ℕ → Type 0) (kept : Kept) (packet : List ℕ) : Type 0 where
  pub word : ℕ
  pub kept_word : kept.word ≡ Some word
  pub started : kept.started ≡ true
  pub allowed : R word packet

-- The packet is whole, known and no halt; a configuration is the job's one; a start and a flush come behind it; and a
-- primitive is one that may be drawn.
pub record Tame (config : Config) (R : ℕ → List ℕ → Type 0) (kept : Kept) (packet : List ℕ) : Type 0 where
  pub whole : length packet ≡ bin_length (opcode packet)
  pub known : bin_length (opcode packet) ≢ 0
  pub no_halt : opcode packet ≢ halt
  pub no_handles : opcode packet ≢ buffer_handles
  pub configures : opcode packet ≡ tile_binning_mode → config_in packet ≡ config
  pub starts : opcode packet ≡ start_tile_binning → kept.config ≡ Some config
  pub indexed : opcode packet ≡ indexed_primitive_list → Drawing R kept packet
  pub array : opcode packet ≡ array_primitive_list → Drawing R kept packet
  pub closes : opcode packet ≡ flush → kept.config ≡ Some config

-- so is each packet, by what was kept of those before it
abbrev pub Walks : Config → (ℕ → List ℕ → Type 0) → Kept → List (List ℕ) → Type 0
Walks config R kept [] = Unit {0}
Walks config R kept (packet ∷ packets) = Tame config R kept packet × Walks config R (kept_after kept packet) packets
