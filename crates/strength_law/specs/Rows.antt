-- Rules that keep a job meaningful, and that no law of safety asks for, worked at rows: here the rule is broken, and there none is.
use Rattle.std.specs.Prelude.{◌≡◌, ℕ, List, [], ◌∷◌, ◌++◌, replicate, None, Some}
use Rattle.field_words.specs.Questions.{first_of}
use Rattle.buffer_table.specs.Table.{TableModel}
use Rattle.job_format.specs.declared.file.Frame.{Frame}
use Rattle.job_check.specs.Jobs.{no_frame}
use Rattle.packets.specs.Opcode.{flush, start_tile_binning, increment_semaphore, tile_binning_mode}
use Rattle.bin_list.specs.Rules.{bin_questions}
use Rattle.render_list.specs.Surfaces.{frame_questions}

-- A list of one tile whose configuration has these flags: it starts binning, raises the semaphore and flushes.
abbrev pub list_with_flags : ℕ → List ℕ
list_with_flags flags =
    tile_binning_mode ∷ (replicate 12 0 ++ (1 ∷ 1 ∷ flags ∷ start_tile_binning ∷ increment_semaphore ∷ flush ∷ []))

abbrev pub no_table : TableModel
no_table = record { memory = 0; regions = record { lists_place = 0; lists_size = 0; tile_place = 0; tile_slots = 0 }; buffers = [] }

-- B16 stands at flag bits 1 and 7, alone and together, and at no other bit.
abbrev pub IsFlagRefused : ℕ → Type 0
IsFlagRefused flags = first_of (bin_questions (list_with_flags flags) 0 no_table []) ≡ Some (record { number = 16; at = 0 })

abbrev pub IsFlagTaken : ℕ → Type 0
IsFlagTaken flags = first_of (bin_questions (list_with_flags flags) 0 no_table []) ≡ None

pub record ConfigurationFlags : Type 0 where
  pub bit_1 : IsFlagRefused 2
  pub bit_7 : IsFlagRefused 128
  pub both : IsFlagRefused 130
  pub none : IsFlagTaken 0
  pub all_others : IsFlagTaken 125

-- A frame of this width and height in pixels, whose tiles go up to this one across and down. It has no multisample surface.
abbrev pub frame_of_size : ℕ → ℕ → ℕ → ℕ → Frame
frame_of_size width height across down = record no_frame { width = width; height = height; max_x = across; max_y = down }

-- G3 stands where the last tile across, or down, begins at the frame's edge or beyond.
pub record FrameEdges : Type 0 where
  pub across : first_of (frame_questions (frame_of_size 128 64 2 0) None) ≡ Some (record { number = 3; item = 0 })
  pub down : first_of (frame_questions (frame_of_size 64 128 0 2) None) ≡ Some (record { number = 3; item = 0 })
  pub beyond : first_of (frame_questions (frame_of_size 64 128 0 3) None) ≡ Some (record { number = 3; item = 0 })
  pub one_pixel : first_of (frame_questions (frame_of_size 129 129 2 2) None) ≡ None
  pub whole : first_of (frame_questions (frame_of_size 128 64 1 0) None) ≡ None
