-- The rules of textures, U2 to U9, over four set-up words and the bytes of the buffer.
use Rattle.std.specs.Prelude.{◌≤◌, ◌<◌, ℕ, ◌+◌, ◌==◌, ◌&&◌, ◌||◌, nat_lt, nat_le, Bool, List, [], ◌∷◌, Result, Ok, Err, slice_index}
use Rattle.std.specs.List.{list_any, range_with_len}
use Rattle.field_words.specs.{Questions.Question, Questions.Ask, Least.IsBroken, Least.IsLeast}
use Rattle.texture_layouts.specs.declared.rule.TextureRule.TheVariants.{BaseOutside, BoundOutside, TwoStrides, NoStride, UnlistedType, FaceOutside, LevelBelow, ChildImage}
use Rattle.texture_layouts.specs.Setup.{TextureModel, is_cube_word, kind_of, cube_stride_of, texture_of, faces_of, face_place, size_at, size_below, level_place_of}
use Rattle.texture_layouts.specs.{declared.rule.TextureRule.TextureRule, Surface.IsPixelSize}

-- the number of a rule U
abbrev pub number_of : TextureRule → ℕ
number_of BaseOutside = 2
number_of BoundOutside = 3
number_of TwoStrides = 4
number_of NoStride = 5
number_of UnlistedType = 6
number_of FaceOutside = 7
number_of LevelBelow = 8
number_of ChildImage = 9

-- U4: cube mode, and both words have a cube stride
unfoldable pub has_two_strides : ℕ → ℕ → ℕ → Bool
has_two_strides p0 p2 p3 = is_cube_word p0 && (kind_of p2 == 1 && kind_of p3 == 1)

-- U5: cube mode, and neither word has a cube stride, or it is 0
unfoldable pub lacks_stride : ℕ → ℕ → ℕ → Bool
lacks_stride p0 p2 p3 = is_cube_word p0 && cube_stride_of p2 p3 == 0

-- U6: the type isn't listed
unfoldable pub is_unlisted : TextureModel → Bool
is_unlisted t = t.cpp == 0

-- a face's own pixels end past the buffer
unfoldable pub is_face_past : TextureModel → ℕ → ℕ → Bool
is_face_past t size face = nat_lt size (face_place t face + size_at t 0)

-- U7: those of some face do
unfoldable pub has_face_past : TextureModel → ℕ → Bool
has_face_past t size = list_any (is_face_past t size) (range_with_len 0 (faces_of t))

-- U8: levels 1 and up take more bytes than there are below the base
unfoldable pub has_level_below : TextureModel → Bool
has_level_below t = nat_lt t.base (size_below t t.levels)

-- U9: a word has a child image
unfoldable pub has_child_image : ℕ → ℕ → Bool
has_child_image p2 p3 = nat_le 2 (kind_of p2) || nat_le 2 (kind_of p3)

-- U4 to U9, by number, of a texture in a buffer of so many bytes
unfoldable pub texture_questions : ℕ → ℕ → ℕ → ℕ → ℕ → List (Question ℕ)
texture_questions p0 p1 p2 p3 size =
    Ask (has_two_strides p0 p2 p3) (number_of TwoStrides)
    ∷ (Ask (lacks_stride p0 p2 p3) (number_of NoStride)
    ∷ (Ask (is_unlisted (texture_of p0 p1 p2 p3)) (number_of UnlistedType)
    ∷ (Ask (has_face_past (texture_of p0 p1 p2 p3) size) (number_of FaceOutside)
    ∷ (Ask (has_level_below (texture_of p0 p1 p2 p3)) (number_of LevelBelow) ∷ (Ask (has_child_image p2 p3) (number_of ChildImage) ∷ [])))))

-- U4 to U9 of the words as a row
abbrev pub texture_rules : List ℕ → ℕ → List (Question ℕ)
texture_rules p size = texture_questions (slice_index p 0) (slice_index p 1) (slice_index p 2) (slice_index p 3) size

-- U2 and U3, of a buffer that is read word by word: base plus 4, and base plus bound plus 4, are
-- past its end
unfoldable pub direct_questions : ℕ → ℕ → ℕ → List (Question ℕ)
direct_questions base bound size =
    Ask (nat_lt size (base + 4)) (number_of BaseOutside) ∷ (Ask (nat_lt size (base + bound + 4)) (number_of BoundOutside) ∷ [])

-- Ok comes exactly where no rule is broken, and a fault is the least number of those that are.
abbrev pub AnswersLeast : {T : Type 0} → List (Question ℕ) → Result T ℕ → Type 0
AnswersLeast questions (Ok _) = (number : ℕ) → ¬ IsBroken questions number
AnswersLeast questions (Err number) = IsLeast (λ n m. n ≤ m) questions number

-- A texture that breaks none of U4 to U9 lies in its buffer: each level of each face, level 0 among
-- them, begins not below the buffer and ends in it.
pub record IsInBuffer (t : TextureModel) (size : ℕ) : Type 0 where
  pub pixel : IsPixelSize t.cpp
  pub from : (face level : ℕ) → face < faces_of t → level ≤ t.levels → size_below t level ≤ face_place t face
  pub upto : (face level : ℕ) → face < faces_of t → level ≤ t.levels → level_place_of t face level + size_at t level ≤ size
