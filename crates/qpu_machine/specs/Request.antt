-- What a texture and memory unit (TMU) does with a request.
use Rattle.std.specs.Prelude.{ℕ, zero, suc, ◌+◌, ◌-◌, ◌*◌, ◌%◌, ◌||◌, Bool, if◌then◌else◌, List, [], ◌∷◌, ◌++◌, Option, Some, None, slice_index}
use Rattle.field_words.specs.Words.{u32_at}
use Rattle.texture_layouts.specs.{Setup.TextureModel, Setup.texture_of, Setup.faces_of, Setup.level_width_of, Setup.level_height_of, Setup.tiling_at, Fetch.fetch_place_of, Fetch.fetch_size_of}
use Rattle.texture_layouts.specs.Fits.{has_two_strides, lacks_stride, is_unlisted, has_child_image}
use Rattle.machine_plan.specs.{Choice.word_at, Plan.Plan, Plan.Done, Plan.Wilds, Plan.Reads, World.plan_mapped}
use Rattle.qpu_machine.specs.State.{Ask, Direct, Texture}

-- A direct request reads for each element the word at its address without the low two bits, and they
-- are its result, behind those that were found before.
unfoldable pub direct_plan : List ℕ → List ℕ → Plan (List ℕ)
direct_plan [] found = Done found
direct_plan (address ∷ row) found = Reads (address - address % 4) 4 (λ bytes. direct_plan row (found ++ (u32_at bytes 0 ∷ [])))

-- Read m of a texture: choice words 4m to 4m + 3 choose a level, a face, and a pixel (or block) of the
-- level.
unfoldable pub chosen_level : TextureModel → List ℕ → ℕ → ℕ
chosen_level t words m = word_at words (4 * m) % (t.levels + 1)

unfoldable pub chosen_face : TextureModel → List ℕ → ℕ → ℕ
chosen_face t words m = word_at words (4 * m + 1) % faces_of t

unfoldable pub chosen_x : TextureModel → List ℕ → ℕ → ℕ
chosen_x t words m = word_at words (4 * m + 2) % level_width_of t (chosen_level t words m)

unfoldable pub chosen_y : TextureModel → List ℕ → ℕ → ℕ
chosen_y t words m = word_at words (4 * m + 3) % level_height_of t (chosen_level t words m)

-- what is fetched for the pixel
unfoldable pub chosen_place : TextureModel → List ℕ → ℕ → Option ℕ
chosen_place t words m = fetch_place_of t (chosen_face t words m) (chosen_level t words m) (chosen_x t words m) (chosen_y t words m)

unfoldable pub chosen_length : TextureModel → List ℕ → ℕ → ℕ
chosen_length t words m = fetch_size_of (tiling_at t (chosen_level t words m)) t.cpp

abbrev pub read_at : {R : Type 0} → Option ℕ → ℕ → Plan R → Plan R
read_at None len next = Wilds
read_at (Some place) len next = Reads place len (λ bytes. next)

-- n reads from read m on; what a texture unit makes of them is free
unfoldable pub texture_reads : TextureModel → List ℕ → ℕ → ℕ → Plan (Option (List ℕ))
texture_reads t words m zero = Done None
texture_reads t words m (suc n) = read_at (chosen_place t words m) (chosen_length t words m) (texture_reads t words (m + 1) n)

-- cube mode with two strides or none, a type that isn't listed, a child image
unfoldable pub is_undefined : ℕ → ℕ → ℕ → ℕ → Bool
is_undefined p0 p1 p2 p3 = (has_two_strides p0 p2 p3 || lacks_stride p0 p2 p3) || (is_unlisted (texture_of p0 p1 p2 p3) || has_child_image p2 p3)

unfoldable pub texture_plan : ℕ → ℕ → ℕ → ℕ → List ℕ → Plan (Option (List ℕ))
texture_plan p0 p1 p2 p3 words = if is_undefined p0 p1 p2 p3 then Wilds else texture_reads (texture_of p0 p1 p2 p3) words 0 128

-- What serving a request comes to: the words of a direct one, or None, a result whose words are free.
abbrev pub ask_plan : Ask → List ℕ → Plan (Option (List ℕ))
ask_plan (Direct row) words = plan_mapped Some (direct_plan row [])
ask_plan (Texture four) words = texture_plan (slice_index four 0) (slice_index four 1) (slice_index four 2) (slice_index four 3) words
