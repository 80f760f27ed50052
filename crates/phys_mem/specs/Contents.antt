-- What lies in a block while a part of it is lent.
use Rattle.std.specs.{Prelude.ℕ, Prelude.List, Borrow.Lends, Borrow.MutBor, Borrow.Fml, Borrow.Array, Borrow.u8}
use Rattle.phys_mem.specs.{declared.contents.Contents.Contents, contracts.contents.Contents.the_row, Window.with_window}

abbrev pub with_inside : Contents → ℕ → List ℕ → Contents
with_inside c from inside = record { at = c.at; bytes = with_window c.bytes from inside }

-- when the borrow ends, the bytes inside are the part's and all others are as before
abbrev pub LendsPart : MutBor Contents → ℕ → MutBor (List ℕ) → Fml
LendsPart c from r = Lends the_row (Array u8 0) c r (with_inside c.now from)
