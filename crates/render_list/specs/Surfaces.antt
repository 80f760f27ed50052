-- The rules of a frame and its surfaces, in the order of refusal: first the frame, which is item 0,
-- then the surfaces, which are items 1 to 6, then the whole, which is item 7; at an item by number.
use Rattle.std.specs.Prelude.{ℕ, ◌+◌, ◌-◌, ◌*◌, ◌%◌, Bool, false, not, ◌&&◌, ◌||◌, nat_lt, nat_le, ◌==◌, bit_and, List, [], ◌∷◌, ◌++◌, map, Option, Some, None, is_some, if◌then◌else◌}
use Rattle.std.specs.List.{range_with_len}
use Rattle.field_words.specs.Questions.{Question, Ask, each}
use Rattle.buffer_table.specs.{Table.TableModel, Table.buffer_at, Handles.data_of, Handles.size_in}
use Rattle.job_format.specs.{declared.file.Frame.Frame, declared.file.Surface.Surface}
use Rattle.texture_layouts.specs.{declared.surface.Tiling.Tiling, declared.format.Style.Style, Surface.size_for}
use Rattle.texture_layouts.specs.Format.{general_tiling, general_pixel, frame_tiling, frame_pixel, style_named}
use Rattle.render_list.specs.declared.fault.FrameRule.TheVariants.{Reversed, OutsideGrid, OutsideFrame, UnknownFlag, UnknownBit, Unnamed, UnlistedTiling, UnlistedFormat, Unaligned, TooLarge, FullWithBits, TooLargeFull, NothingWritten}
use Rattle.render_list.specs.Frame.{color_write, zs_write, multisample_color, multisample_zs, surface_at, is_present, is_full, tile_side, full_tile}
use Rattle.render_list.specs.{declared.fault.RenderFault.RenderFault, declared.fault.FrameRule.FrameRule}

-- the number of a rule G
abbrev pub number_of : FrameRule → ℕ
number_of Reversed = 1
number_of OutsideGrid = 2
number_of OutsideFrame = 3
number_of UnknownFlag = 4
number_of UnknownBit = 5
number_of Unnamed = 6
number_of UnlistedTiling = 7
number_of UnlistedFormat = 8
number_of Unaligned = 9
number_of TooLarge = 10
number_of FullWithBits = 11
number_of TooLargeFull = 12
number_of NothingWritten = 13

-- the rule at an item
abbrev pub fault : FrameRule → ℕ → RenderFault
fault rule item = record { number = number_of rule; item = item }

-- G1: a smallest tile number is over its largest
unfoldable pub is_reversed : Frame → Bool
is_reversed frame = nat_lt frame.max_x frame.min_x || nat_lt frame.max_y frame.min_y

-- G2: there is a binner list, and the largest tile isn't in its grid of tiles across and down
unfoldable pub is_outside_grid : Frame → Option (ℕ × ℕ) → Bool
is_outside_grid frame None = false
is_outside_grid frame (Some grid) = nat_le grid.0 frame.max_x || nat_le grid.1 frame.max_y

-- G3: the largest tile begins at the frame's right or lower edge or beyond
unfoldable pub is_outside_frame : Frame → Bool
is_outside_frame frame = nat_le frame.width (frame.max_x * tile_side frame) || nat_le frame.height (frame.max_y * tile_side frame)

unfoldable pub frame_questions : Frame → Option (ℕ × ℕ) → List (Question RenderFault)
frame_questions frame grid =
    Ask (is_reversed frame) (fault Reversed 0)
    ∷ (Ask (is_outside_grid frame grid) (fault OutsideGrid 0)
    ∷ (Ask (is_outside_frame frame) (fault OutsideFrame 0) ∷ []))

-- the surfaces that are loaded or stored by general bits may be in full resolution
abbrev pub may_be_full : ℕ → Bool
may_be_full k = (k == 0) || ((k == 2) || (k == 3))

-- G4: a flag that the surface doesn't have
unfoldable pub has_unknown_flag : ℕ → Surface → Bool
has_unknown_flag k surface = nat_lt (if may_be_full k then 1 else 0) surface.flags

-- The fields of a surface's bits. Colour write: multisample 0, format 3:2, decimate 5:4, tiling 7:6.
-- The others: buffer 2:0, tiling 5:4, format 9:8.
abbrev pub fields_of_bits : ℕ → ℕ
fields_of_bits k = if k == 1 then 1 + 12 + 48 + 192 else 7 + 48 + 768

-- the bits of sixteen outside them
abbrev pub unnamed_bits : ℕ → ℕ
unnamed_bits k = 65535 - fields_of_bits k

-- G5: a bit outside them
unfoldable pub has_unknown_bit : ℕ → Surface → Bool
has_unknown_bit k surface = not (is_full k surface) && not (bit_and surface.bits (unnamed_bits k) == 0)

-- G6: the handle names no data buffer
unfoldable pub is_unnamed : TableModel → List ℕ → Surface → Bool
is_unnamed table handles surface = not (is_some (data_of table handles surface.hindex))

-- how its pixels lie, by its bits
unfoldable pub surface_tiling : ℕ → Surface → Option Tiling
surface_tiling k surface = if k == 1 then frame_tiling surface.bits else general_tiling surface.bits

unfoldable pub surface_pixel : ℕ → Surface → Option ℕ
surface_pixel k surface = if k == 1 then frame_pixel surface.bits else general_pixel surface.bits

abbrev pub surface_style : ℕ → Surface → Option Style
surface_style k surface = style_named (surface_tiling k surface) (surface_pixel k surface)

-- G7: a tiling that there isn't
unfoldable pub has_unlisted_tiling : ℕ → Surface → Bool
has_unlisted_tiling k surface = not (is_full k surface) && not (is_some (surface_tiling k surface))

-- G8: a buffer and format that there aren't
unfoldable pub has_unlisted_format : ℕ → Surface → Bool
has_unlisted_format k surface = not (is_full k surface) && not (is_some (surface_pixel k surface))

-- G9: the offset is no multiple of 16
unfoldable pub is_unaligned : Surface → Bool
is_unaligned surface = not (surface.offset % 16 == 0)

-- the bytes of the buffer that a surface lies in, 0 where it names none
unfoldable pub buffer_size : TableModel → List ℕ → Surface → ℕ
buffer_size table handles surface = size_in table (data_of table handles surface.hindex)

-- how many bytes a surface of the frame takes, of a style that is listed
abbrev pub styled_size : Frame → Option Style → ℕ
styled_size frame None = 0
styled_size frame (Some style) = size_for style.tiling frame.width frame.height style.cpp

-- where the surface ends in its buffer
unfoldable pub plain_end : Frame → ℕ → Surface → ℕ
plain_end frame k surface = surface.offset + styled_size frame (surface_style k surface)

-- G10: the frame is over 4,096 pixels wide or high, or the surface goes past its buffer
unfoldable pub is_too_large : Frame → ℕ → Surface → ℕ → Bool
is_too_large frame k surface size = not (is_full k surface) && (nat_lt 4096 frame.width || (nat_lt 4096 frame.height || nat_lt size (plain_end frame k surface)))

-- G11: ZS write in full resolution, or full resolution with bits
unfoldable pub is_full_with_bits : ℕ → Surface → Bool
is_full_with_bits k surface = is_full k surface && ((k == 3) || not (surface.bits == 0))

-- where the frame's last tile ends in the buffer of a full-resolution surface
unfoldable pub full_end : Frame → Surface → ℕ
full_end frame surface = surface.offset + 16384 * (full_tile frame frame.max_x frame.max_y + 1)

-- G12: that is past the buffer
unfoldable pub is_too_large_full : Frame → ℕ → Surface → ℕ → Bool
is_too_large_full frame k surface size = is_full k surface && nat_lt size (full_end frame surface)

-- what is asked of a surface that is present: its flags and bits, and its place in the buffer
unfoldable pub shape_questions : ℕ → Surface → TableModel → List ℕ → List (Question RenderFault)
shape_questions k surface table handles =
    Ask (has_unknown_flag k surface) (fault UnknownFlag (k + 1))
    ∷ (Ask (has_unknown_bit k surface) (fault UnknownBit (k + 1))
    ∷ (Ask (is_unnamed table handles surface) (fault Unnamed (k + 1))
    ∷ (Ask (has_unlisted_tiling k surface) (fault UnlistedTiling (k + 1))
    ∷ (Ask (has_unlisted_format k surface) (fault UnlistedFormat (k + 1))
    ∷ (Ask (is_unaligned surface) (fault Unaligned (k + 1)) ∷ [])))))

unfoldable pub size_questions : Frame → ℕ → Surface → ℕ → List (Question RenderFault)
size_questions frame k surface size =
    Ask (is_too_large frame k surface size) (fault TooLarge (k + 1))
    ∷ (Ask (is_full_with_bits k surface) (fault FullWithBits (k + 1))
    ∷ (Ask (is_too_large_full frame k surface size) (fault TooLargeFull (k + 1)) ∷ []))

-- an absent surface is asked nothing
unfoldable pub surface_questions : Frame → TableModel → List ℕ → ℕ → List (Question RenderFault)
surface_questions frame table handles k =
    if is_present (surface_at frame k)
    then shape_questions k (surface_at frame k) table handles ++ size_questions frame k (surface_at frame k) (buffer_size table handles (surface_at frame k))
    else []

-- G13: nothing is written
unfoldable pub is_written : Frame → Bool
is_written frame = is_present (surface_at frame color_write) || (is_present (surface_at frame zs_write) || (is_present (surface_at frame multisample_color) || is_present (surface_at frame multisample_zs)))

unfoldable pub whole_questions : Frame → List (Question RenderFault)
whole_questions frame = Ask (not (is_written frame)) (fault NothingWritten 7) ∷ []

-- all rules in the order of refusal
unfoldable pub surface_faults : Frame → Option (ℕ × ℕ) → TableModel → List ℕ → List (Question RenderFault)
surface_faults frame grid table handles = frame_questions frame grid ++ (each (surface_questions frame table handles) 0 6 ++ whole_questions frame)

-- the absolute place of a surface: its buffer's place and its offset
abbrev pub place_behind : TableModel → ℕ → Option ℕ → Option ℕ
place_behind table offset None = None
place_behind table offset (Some number) = Some ((buffer_at table.buffers number).place + offset)

unfoldable pub place_in : TableModel → List ℕ → Surface → Option ℕ
place_in table handles surface = if is_present surface then place_behind table surface.offset (data_of table handles surface.hindex) else None

-- the places of the six surfaces, in the order of the frame
abbrev pub places_of : Frame → TableModel → List ℕ → List (Option ℕ)
places_of frame table handles = map (λ k. place_in table handles (surface_at frame k)) (range_with_len 0 6)
