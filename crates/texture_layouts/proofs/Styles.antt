-- The pixels of a surface whose style is listed take two bytes or four.
use Rattle.std.proofs.Common.{ℕ, ◌==◌, ◌&&◌, Bool, true, false, if◌then◌else◌, Option, Some, None, refl, inl, inr}
use Rattle.std.specs.Prelude.{IfSome}
use Rattle.field_words.specs.Words.{bits_of}
use Rattle.texture_layouts.specs.Format.{general_tiling, general_pixel, frame_tiling, frame_pixel, style_named, general_style, frame_style, IsShort}
use Rattle.texture_layouts.specs.{declared.surface.Tiling.Tiling, Surface.IsPixelSize}

pub short_pixel : (cpp : ℕ) → IsShort cpp → IsPixelSize cpp
short_pixel cpp (inl two) = inr (inl two)
short_pixel cpp (inr four) = inr (inr (inl four))

styled_short : (tiling : Option Tiling) (pixel : Option ℕ) → IfSome pixel IsShort → IfSome (style_named tiling pixel) (λ s. IsShort s.cpp)
styled_short None pixel short = tt
styled_short (Some tiling) None short = tt
styled_short (Some tiling) (Some cpp) short = short

by_format : (four none : Bool) → IfSome (if four then Some 4 else (if none then None else Some 2)) IsShort
by_format true none = inr refl
by_format false true = tt
by_format false false = inl refl

by_buffer : (color four none zs : Bool) → IfSome (if color then (if four then Some 4 else (if none then None else Some 2)) else (if zs then Some 4 else None)) IsShort
by_buffer true four none zs = by_format four none
by_buffer false four none true = inr refl
by_buffer false four none false = tt

pub general_short : (bits : ℕ) → IfSome (general_style bits) (λ s. IsShort s.cpp)
unfolding general_pixel
general_short bits =
    styled_short (general_tiling bits) (general_pixel bits)
    (by_buffer (bits_of bits 2 0 == 1) (bits_of bits 9 8 == 0) (bits_of bits 9 8 == 3) (bits_of bits 2 0 == 2 && bits_of bits 9 8 == 0))

pub frame_short : (bits : ℕ) → IfSome (frame_style bits) (λ s. IsShort s.cpp)
unfolding frame_pixel
frame_short bits = styled_short (frame_tiling bits) (frame_pixel bits) (by_format (bits_of bits 3 2 == 1) (bits_of bits 3 2 == 3))
