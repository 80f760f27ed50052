-- Where the tiles of a set lie.
use Rattle.std.proofs.{Common.ℕ, Common.◌≤◌, Common.List, Common.Option, Common.Some, Common.None, Common.arith, Math.Nat.mul-le-mul_left}
use Rattle.std.specs.Int.{div_ceil}
use Rattle.job_format.specs.declared.file.Frame.{Frame}
use Rattle.render_list.specs.Frame.{place_at, full_tile, full_place, FitsAt, TileFits, IsSetupFor}

-- A tile lies no higher than one to the right and below.
pub full_place_grows : (frame : Frame) (place x y x2 y2 : ℕ) → x ≤ x2 → y ≤ y2 → full_place frame place x y ≤ full_place frame place x2 y2
unfolding full_place full_tile
full_place_grows frame place x y x2 y2 right down = omega (arith, right, mul-le-mul_left (div_ceil frame.width 32) down)

fits_at : (frame : Frame) (k : ℕ) (place : Option ℕ) (x y x2 y2 : ℕ) → x ≤ x2 → y ≤ y2 → FitsAt frame k place x2 y2 → FitsAt frame k place x y
fits_at frame k None x y x2 y2 right down fits = tt
fits_at frame k (Some place) x y x2 y2 right down fits = λ full. omega (arith, fits full, full_place_grows frame place x y x2 y2 right down)

-- So each tile of the set lies below 2^32.
pub tile_fits : (frame : Frame) (places : List (Option ℕ)) (x y : ℕ) → x ≤ frame.max_x → y ≤ frame.max_y → IsSetupFor frame places → TileFits frame places x y
tile_fits frame places x y right down setup k below = fits_at frame k (place_at places k) x y frame.max_x frame.max_y right down (setup.largest k below)
