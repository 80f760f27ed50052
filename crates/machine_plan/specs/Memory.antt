-- How the machine sees memory. A place outside it reads as zero, and a write there changes nothing.
use Rattle.std.specs.Prelude.{ℕ, zero, suc, List, [], ◌∷◌, slice_index, slice_set}

-- the n bytes from a place on
unfoldable pub bytes_at : List ℕ → ℕ → ℕ → List ℕ
bytes_at memory place zero = []
bytes_at memory place (suc n) = slice_index memory place ∷ bytes_at memory (suc place) n

-- the memory after these bytes are written from a place on, byte by byte
unfoldable pub bytes_stored : List ℕ → ℕ → List ℕ → List ℕ
bytes_stored memory place [] = memory
bytes_stored memory place (byte ∷ bytes) = bytes_stored (slice_set memory place byte) (suc place) bytes
