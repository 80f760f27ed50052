-- The side of a tile, the pixels that it covers, and the bytes that a store writes.
use Rattle.std.specs.Prelude.{ℕ, zero, suc, ◌-◌, ◌*◌, ◌/◌, ◌%◌, ◌^◌, ◌==◌, if◌then◌else◌, min, List, [], ◌∷◌}
use Rattle.field_words.specs.Words.{bits_of}
use Rattle.machine_plan.specs.Choice.{word_at}

-- the tile's side in pixels
unfoldable pub tile_side : ℕ → ℕ
tile_side bits = if bits_of bits 0 0 == 1 then 32 else 64

-- how many pixels of a row of this length a tile covers that begins at this one
unfoldable pub pixels_covered : ℕ → ℕ → ℕ → ℕ
pixels_covered start side length = min side (length - start)

-- byte k of the choice words, each little endian
unfoldable pub chosen_byte : List ℕ → ℕ → ℕ
chosen_byte words k = word_at words (k / 4) / 2 ^ (8 * (k % 4)) % 256

-- n of these bytes, from byte k on
unfoldable pub bytes_chosen : List ℕ → ℕ → ℕ → List ℕ
bytes_chosen words k zero = []
bytes_chosen words k (suc n) = chosen_byte words k ∷ bytes_chosen words (suc k) n
