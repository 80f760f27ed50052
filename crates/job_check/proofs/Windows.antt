-- Writing through a window of the memory.
use Rattle.std.proofs.Common.{◌≡◌, ℕ, ◌+◌, ◌≤◌, List, [], ◌∷◌, length, refl, sym, ap, subst, arith, ◌∙◌}
use Rattle.std.proofs.lemmas.List.{places, same_lists}
use Rattle.field_words.specs.Writes.{Part, parts_placed, with_bytes}
use Rattle.field_words.proofs.Writes.{length-with_bytes}
use Rattle.phys_mem.specs.Window.{window_of, with_window}
use Rattle.phys_mem.proofs.Parts.{window_long}
use Rattle.job_check.specs.Emit.{PartsFit, parts_moved}

pub length_placed : (memory : List ℕ) (parts : List Part) → PartsFit (length memory) parts → length (parts_placed memory parts) ≡ length memory
length_placed memory [] fit = refl
length_placed memory (part ∷ parts) fit =
    let same = length-with_bytes memory part.place part.bytes fit.0 in
    length_placed (with_bytes memory part.place part.bytes) parts (subst (λ n. PartsFit n parts) (sym same) fit.1) ∙ same

-- What is written beside a window's bytes shows in the window and nowhere else.
window_same : (m : List ℕ) (place len : ℕ) → place + len ≤ length m → with_window m place (window_of m place len) ≡ m
window_same m place len fits = same_lists _ _ (grind (arith, places)) (λ k d h. grind (arith, places))

written_shows : (m : List ℕ) (place len at : ℕ) (text : List ℕ) → place + len ≤ length m → at + length text ≤ len
    → with_bytes (window_of m place len) at text ≡ window_of (with_bytes m (place + at) text) place len
written_shows m place len at text fits room = same_lists _ _ (grind (arith, places)) (λ k d h. grind (arith, places))

written_hidden : (m : List ℕ) (place at : ℕ) (text inside : List ℕ) → place + length inside ≤ length m → at + length text ≤ length inside
    → with_window m place inside ≡ with_window (with_bytes m (place + at) text) place inside
written_hidden m place at text inside fits room = same_lists _ _ (grind (arith, places)) (λ k d h. grind (arith, places))

-- Parts put into a window are parts put into the memory.
pub window_placed : (m : List ℕ) (place len : ℕ) (parts : List Part) → place + len ≤ length m → PartsFit len parts
    → with_window m place (parts_placed (window_of m place len) parts) ≡ parts_placed m (parts_moved place parts)
window_placed m place len [] fits fit = window_same m place len fits
window_placed m place len (part ∷ parts) fits fit =
    let after : List ℕ = with_bytes m (place + part.place) part.bytes in
    let same : length after ≡ length m = length-with_bytes m (place + part.place) part.bytes (omega (arith, fits, fit.0)) in
    let room : place + len ≤ length after = omega (arith, fits, same) in
    let inside : List ℕ = parts_placed (window_of after place len) parts in
    let wide = window_long after place len room in
    let long : length inside ≡ len = length_placed (window_of after place len) parts (subst (λ n. PartsFit n parts) (sym wide) fit.1) ∙ wide in
    ap (λ w. with_window m place (parts_placed w parts)) (written_shows m place len part.place part.bytes fits fit.0)
    ∙ written_hidden m place part.place part.bytes inside (omega (arith, long, fits)) (omega (arith, long, fit.0))
    ∙ window_placed after place len parts room fit.1
