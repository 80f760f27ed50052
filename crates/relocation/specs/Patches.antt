-- Words put into a window, one after the other.
use Rattle.std.specs.{Prelude.ℕ, Prelude.◌+◌, Prelude.◌≤◌, Prelude.List, Prelude.[], Prelude.◌∷◌, Int.to_le_bytes, Int.w32}
use Rattle.field_words.specs.Writes.{with_bytes}
use Rattle.relocation.specs.declared.patch.Patch.{Patch}

-- each patch lies inside a window of this length
abbrev pub AllInside : ℕ → List Patch → Type 0
AllInside size [] = Unit {0}
AllInside size (patch ∷ patches) = (patch.at + 4 ≤ size) × AllInside size patches

-- the window after each word has been put at its place, in order, and no other byte was changed
abbrev pub window_patched : List ℕ → List Patch → List ℕ
window_patched window [] = window
window_patched window (patch ∷ patches) = window_patched (with_bytes window patch.at (to_le_bytes w32 patch.word)) patches
