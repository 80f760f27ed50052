-- What the four set-up words of a texture say.
--
-- Word 0: base 31:12 in pages of 4,096 bytes, cube mode 9, type 7:4, levels 3:0. Word 1: the type's
-- bit four 31, height 30:20, width 18:8. Words 2 and 3: kind 31:30 (1 a cube stride, 2 and 3 a child
-- image), cube stride 29:12 in pages. A word that isn't there is 0.
use Rattle.std.specs.Prelude.{◌≡◌, ◌≤◌, ◌⊎◌, ℕ, zero, suc, ◌+◌, ◌*◌, ◌-◌, ◌==◌, ◌||◌, Bool, if◌then◌else◌, List, slice_index}
use Rattle.std.specs.Int.{div_ceil}
use Rattle.field_words.specs.{Sizes.page_size, Words.bits_of}
use Rattle.texture_layouts.specs.{declared.surface.Tiling.Tiling, Surface.IsPixelSize, Level.level_side_of, Level.level_tiling_of, Level.level_size_of}

-- What contracts see of a Texture. Sides count pixels, or with type 8 blocks of 4x4 pixels; a pixel
-- (or block) takes cpp bytes, and cpp is 0 where the type is no listed one.
pub record TextureModel : Type 0 where
  pub base : ℕ
  pub is_cube : Bool
  pub stride : ℕ
  pub levels : ℕ
  pub width : ℕ
  pub height : ℕ
  pub cpp : ℕ
  pub is_raster : Bool

unfoldable pub base_of : ℕ → ℕ
base_of p0 = page_size * bits_of p0 31 12

unfoldable pub is_cube_word : ℕ → Bool
is_cube_word p0 = bits_of p0 9 9 == 1

unfoldable pub levels_of : ℕ → ℕ
levels_of p0 = bits_of p0 3 0

unfoldable pub type_of : ℕ → ℕ → ℕ
type_of p0 p1 = bits_of p0 7 4 + 16 * bits_of p1 31 31

-- the kind and the stride of word 2 or 3
unfoldable pub kind_of : ℕ → ℕ
kind_of word = bits_of word 31 30

unfoldable pub stride_of : ℕ → ℕ
stride_of word = page_size * bits_of word 29 12

-- the stride from a face to the next: that of the word of kind 1, and 0 where there is none
unfoldable pub cube_stride_of : ℕ → ℕ → ℕ
cube_stride_of p2 p3 = if kind_of p2 == 1 then stride_of p2 else (if kind_of p3 == 1 then stride_of p3 else 0)

-- bytes by type: 4, 2 or 1 a pixel, and 8 a block of ETC1
unfoldable pub pixel_bytes_of : ℕ → ℕ
pixel_bytes_of kind =
    if kind == 0 || (kind == 1 || kind == 16) then 4
    else (if kind == 2 || (kind == 3 || (kind == 4 || (kind == 7 || (kind == 9 || kind == 11)))) then 2
    else (if kind == 5 || (kind == 6 || kind == 10) then 1 else (if kind == 8 then 8 else 0)))

-- a side's field, of which 0 means 2,048 pixels
unfoldable pub pixels_of : ℕ → ℕ
pixels_of field = if field == 0 then 2048 else field

-- a side in what the type's bytes are for: pixels, or blocks of ETC1
unfoldable pub side_of : ℕ → ℕ → ℕ
side_of kind field = if kind == 8 then div_ceil (pixels_of field) 4 else pixels_of field

-- the texture that the four words describe
unfoldable pub texture_of : ℕ → ℕ → ℕ → ℕ → TextureModel
texture_of p0 p1 p2 p3 =
    record {
      base = base_of p0;
      is_cube = is_cube_word p0;
      stride = cube_stride_of p2 p3;
      levels = levels_of p0;
      width = side_of (type_of p0 p1) (bits_of p1 18 8);
      height = side_of (type_of p0 p1) (bits_of p1 30 20);
      cpp = pixel_bytes_of (type_of p0 p1);
      is_raster = type_of p0 p1 == 16;
    }

-- the texture of the words as a row
abbrev pub texture_in : List ℕ → TextureModel
texture_in p = texture_of (slice_index p 0) (slice_index p 1) (slice_index p 2) (slice_index p 3)

-- what is true of each texture, since a field of a word has so many bits
pub record IsTexture (t : TextureModel) : Type 0 where
  pub base : t.base ≤ 4294963200
  pub stride : t.stride ≤ 1073737728
  pub levels : t.levels ≤ 15
  pub width_from : 1 ≤ t.width
  pub width_to : t.width ≤ 2048
  pub height_from : 1 ≤ t.height
  pub height_to : t.height ≤ 2048
  pub pixel : (t.cpp ≡ 0) ⊎ IsPixelSize t.cpp

-- six faces in cube mode, else one
unfoldable pub faces_of : TextureModel → ℕ
faces_of t = if t.is_cube then 6 else 1

abbrev pub level_width_of : TextureModel → ℕ → ℕ
level_width_of t level = level_side_of t.width level

abbrev pub level_height_of : TextureModel → ℕ → ℕ
level_height_of t level = level_side_of t.height level

-- the tiling and the bytes of a level of a face
abbrev pub tiling_at : TextureModel → ℕ → Tiling
tiling_at t level = level_tiling_of t.is_raster (level_width_of t level) (level_height_of t level) t.cpp

abbrev pub size_at : TextureModel → ℕ → ℕ
size_at t level = level_size_of t.is_raster t.width t.height t.cpp level

-- where a face's own pixels (its level 0) begin
abbrev pub face_place : TextureModel → ℕ → ℕ
face_place t face = t.base + face * t.stride

-- the bytes of levels 1 to n of a face, which lie one below the other below the face's own pixels
unfoldable pub size_below : TextureModel → ℕ → ℕ
size_below t zero = 0
size_below t (suc n) = size_below t n + size_at t (n + 1)

-- where a level of a face begins: level 1 ends where the face's own pixels begin, and each further
-- level ends where the one before begins. This is the place where it isn't below 0.
abbrev pub level_place_of : TextureModel → ℕ → ℕ → ℕ
level_place_of t face level = face_place t face - size_below t level
