-- A window that keeps its length leaves all other bytes as they are.
use Rattle.std.proofs.{Common.◌≡◌, Common.ℕ, Common.◌+◌, Common.◌≤◌, Common.List, Common.length, Common.arith, lemmas.Grind.common_steps}
use Rattle.field_words.specs.Writes.{with_bytes}
use Rattle.phys_mem.specs.Window.{with_window}

pub window_is : (bytes : List ℕ) (place : ℕ) (inside : List ℕ) → place + length inside ≤ length bytes → with_window bytes place inside ≡ with_bytes bytes place inside
window_is bytes place inside fits = grind (arith, common_steps)
