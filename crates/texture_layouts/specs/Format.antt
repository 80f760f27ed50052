-- How the pixels of a frame's surfaces lie, by the bits of the packets that load and store them.
use Rattle.std.specs.Prelude.{◌≡◌, ◌⊎◌, ℕ, ◌==◌, ◌&&◌, if◌then◌else◌, Option, Some, None}
use Rattle.field_words.specs.Words.{bits_of}
use Rattle.texture_layouts.specs.declared.surface.Tiling.TheVariants.{Raster, T, Lt}
use Rattle.texture_layouts.specs.{declared.surface.Tiling.Tiling, declared.format.Style.Style}

-- The tiling of this number in bits; there is none of number 3.
abbrev pub tiling_named : ℕ → Option Tiling
tiling_named n = if n == 0 then Some Raster else (if n == 1 then Some T else (if n == 2 then Some Lt else None))

-- The bytes of a pixel by a buffer and its format. Buffer 1 is colour, with four bytes in format 0 and two
-- in formats 1 and 2; buffer 2 is depth and stencil, with four in format 0. There are no others.
abbrev pub buffer_pixel : ℕ → ℕ → Option ℕ
buffer_pixel buffer format =
    if buffer == 1 then (if format == 0 then Some 4 else (if format == 3 then None else Some 2))
    else (if buffer == 2 && format == 0 then Some 4 else None)

-- The bytes of a pixel by the frame's own format: four in format 1, two in formats 0 and 2.
abbrev pub written_pixel : ℕ → Option ℕ
written_pixel format = if format == 1 then Some 4 else (if format == 3 then None else Some 2)

-- General bits, of a load or store: buffer 2:0, tiling 5:4, format 9:8.
unfoldable pub general_tiling : ℕ → Option Tiling
general_tiling bits = tiling_named (bits_of bits 5 4)

unfoldable pub general_pixel : ℕ → Option ℕ
general_pixel bits = buffer_pixel (bits_of bits 2 0) (bits_of bits 9 8)

-- The frame's bits: format 3:2, tiling 7:6.
unfoldable pub frame_tiling : ℕ → Option Tiling
frame_tiling bits = tiling_named (bits_of bits 7 6)

unfoldable pub frame_pixel : ℕ → Option ℕ
frame_pixel bits = written_pixel (bits_of bits 3 2)

-- both, where both are listed
abbrev pub styled_with : Tiling → Option ℕ → Option Style
styled_with tiling None = None
styled_with tiling (Some cpp) = Some (record { tiling = tiling; cpp = cpp })

abbrev pub style_named : Option Tiling → Option ℕ → Option Style
style_named None cpp = None
style_named (Some tiling) cpp = styled_with tiling cpp

abbrev pub general_style : ℕ → Option Style
general_style bits = style_named (general_tiling bits) (general_pixel bits)

abbrev pub frame_style : ℕ → Option Style
frame_style bits = style_named (frame_tiling bits) (frame_pixel bits)

-- the pixels of a surface take two bytes or four
abbrev pub IsShort : ℕ → Type 0
IsShort cpp = (cpp ≡ 2) ⊎ (cpp ≡ 4)
