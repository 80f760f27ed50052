-- Pictures: the words that name one, and what commands on them answer.
use Rattle.std.specs.Prelude.{◌≡◌, ◌≢◌, ◌⊎◌, ℕ, ◌==◌, ◌||◌, List, ◌++◌, codes, length, slice_index, bytes_eq, Option, Some, None, if◌then◌else◌, decimal}
use Rattle.rule_words.specs.{declared.name.RuleName.RuleName, Names.name_text}
use Rattle.texture_layouts.specs.{declared.surface.Tiling.Tiling, Setup.texture_of}
use Rattle.texture_layouts.specs.declared.surface.Tiling.TheVariants.{T, Lt}
use Rattle.tile_convert.specs.{declared.level.LevelFault.LevelFault, Level.IsLevelPicture}
use Rattle.tile_convert.specs.{declared.order.Picture.Picture, Picture.surface_bytes, Picture.pixel_bytes, Picture.IsPicture, Picture.IsSurface}
use Rattle.commands.specs.{declared.surfaces.TexturePart.TexturePart, Cause.level_fault, Cause.level_rule}

abbrev pub tiling_named : List ℕ → Option Tiling
tiling_named word = if bytes_eq word (codes "t") then Some T else (if bytes_eq word (codes "lt") then Some Lt else None)

-- a pixel has 1, 2, 4 or 8 bytes
abbrev pub pixel_of : ℕ → Option ℕ
pixel_of cpp = if (cpp == 1) || ((cpp == 2) || ((cpp == 4) || (cpp == 8))) then Some cpp else None

abbrev pub pixel_by : Option ℕ → Option ℕ
pixel_by None = None
pixel_by (Some cpp) = pixel_of cpp

-- a line for a length that isn't the wanted one
unfoldable pub length_wanted_text : ℕ → ℕ → List ℕ
length_wanted_text n wanted = codes "length " ++ (decimal n ++ (codes " wants " ++ (decimal wanted ++ codes "\n")))

-- As many bytes as wanted are answered with these, any other number by naming both.
abbrev pub IsSizedAnswer : List ℕ → ℕ → (List ℕ → Type 0) → ℕ → List ℕ → Type 0
IsSizedAnswer bytes wanted IsOut status out =
    ((length bytes ≡ wanted) × (status ≡ 0) × IsOut out)
    ⊎ ((length bytes ≢ wanted) × (status ≡ 1) × (out ≡ length_wanted_text (length bytes) wanted))

-- A surface is answered with its pixels by rows, and rows of pixels with their surface, which is zero where no pixel lies.
abbrev pub IsUntileAnswer : Picture → List ℕ → ℕ → List ℕ → Type 0
IsUntileAnswer p bytes status out =
    IsSizedAnswer bytes (surface_bytes p) (IsPicture p bytes) status out

abbrev pub IsTileAnswer : Picture → List ℕ → ℕ → List ℕ → Type 0
IsTileAnswer p bytes status out =
    IsSizedAnswer bytes (pixel_bytes p) (IsSurface p bytes) status out

-- a line for the rule that refuses a level
unfoldable pub level_refusal : RuleName → List ℕ
level_refusal name = codes "refused " ++ (name_text name ++ codes " at 0\n")

-- Where no rule is broken a level is answered with its pixels by rows, or its blocks; else with the first rule that does.
abbrev pub IsLevelVerdict : TexturePart → List ℕ → Option LevelFault → ℕ → List ℕ → Type 0
IsLevelVerdict part bytes None status out = (status ≡ 0)
    × IsLevelPicture (texture_of (slice_index part.setup 0) (slice_index part.setup 1) (slice_index part.setup 2) (slice_index part.setup 3)) part.face part.level bytes out
IsLevelVerdict part bytes (Some fault) status out = (status ≡ 1) × (out ≡ level_refusal (level_rule fault))

abbrev pub IsLevelAnswer : TexturePart → List ℕ → ℕ → List ℕ → Type 0
IsLevelAnswer part bytes status out = IsLevelVerdict part bytes (level_fault part bytes) status out
