-- A part of the memory that is lent for writing.
use Rattle.std.specs.Prelude.{ℕ, List, ◌++◌, take, drop, length}
use Rattle.std.specs.Borrow.{Lends, MutBor, Fml, Array, u8}
use Rattle.phys_mem.specs.contracts.PhysMem.{the_row}

-- the `len` bytes from `place` on
abbrev pub window_of : List ℕ → ℕ → ℕ → List ℕ
window_of bytes place len = take len (drop place bytes)

-- the memory in which these bytes stand from `place` on: `with_bytes`, cut to the memory's length
abbrev pub with_window : List ℕ → ℕ → List ℕ → List ℕ
with_window bytes place inside =
    take (length bytes) (take place bytes ++ (inside ++ drop (length inside) (drop place bytes)))

-- when the borrow ends, the bytes inside are the window's and all others are as before: a window keeps
-- its length
abbrev pub LendsWindow : MutBor (List ℕ) → ℕ → MutBor (List ℕ) → Fml
LendsWindow m place r = Lends the_row (Array u8 0) m r (with_window m.now place)
