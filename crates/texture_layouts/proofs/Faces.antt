-- Of all faces the last one ends last.
use Rattle.std.proofs.Common.{◌≡◌, ℕ, ◌+◌, ◌-◌, ◌*◌, Bool, true, false, arith, ltb, ◌||◌, if◌then◌else◌}
use Rattle.std.proofs.lemmas.Bool.Decides.{nat_tests}
use Rattle.std.specs.List.{list_any, range_with_len}
use Rattle.texture_layouts.specs.Setup.{TextureModel, faces_of, face_place, size_at}
use Rattle.texture_layouts.specs.Fits.{is_face_past, has_face_past}

-- The six faces, or the one, as a test of plain numbers.
six : (b s n size : ℕ) → (ltb size (b + 0 * s + n) || (ltb size (b + 1 * s + n) || (ltb size (b + 2 * s + n) || (ltb size (b + 3 * s + n) || (ltb size (b + 4 * s + n) || (ltb size (b + 5 * s + n) || false)))))) ≡ ltb size (b + 5 * s + n)
six b s n size = grind (arith, nat_tests)

in_cube : (b s n size : ℕ) (cube : Bool) → list_any (λ k. ltb size (b + k * s + n)) (range_with_len 0 (if cube then 6 else 1)) ≡ ltb size (b + ((if cube then 6 else 1) - 1) * s + n)
in_cube b s n size true = six b s n size
in_cube b s n size false = grind (arith, nat_tests)

pub last_decides : (t : TextureModel) (size : ℕ) → has_face_past t size ≡ ltb size (face_place t (faces_of t - 1) + size_at t 0)
unfolding has_face_past is_face_past faces_of
last_decides t size = in_cube t.base t.stride (size_at t 0) size t.is_cube
