-- One line of assembler text more.
use Rattle.std.proofs.Common.{◌≡◌, ℕ, ◌≤◌, true, false, List, [], ◌∷◌, ◌++◌, length, codes, Result, Ok, Err, refl, sym, ◌∙◌, ap, append-nil, arith}
use Rattle.script.specs.Lines.{lines_of}
use Rattle.job_make.specs.{declared.fault.MakeFault.MakeFault, declared.fault.Mistake.TheVariants.NoEnd}
use Rattle.job_make.specs.Made.{says, asm_line, both, block_text}
use Rattle.job_make.proofs.Steps.{both_both, both_none}

-- a line that says `end` ends the block
pub block_ends : (line : ℕ) (out rest first : List ℕ) (lines : List (List ℕ)) (all : Result (List ℕ) MakeFault) → lines_of rest ≡ first ∷ lines
    → says (codes "end") first ≡ true → both (Ok out) (block_text line (lines_of rest)) ≡ both (Ok []) all → all ≡ Ok out
unfolding block_text
block_ends line out rest first lines all cut is same =
    let ended : block_text line (first ∷ lines) ≡ Ok [] = rw is refl in
    sym (both_none all) ∙ sym same ∙ ap (λ l. both (Ok out) (block_text line l)) cut ∙ ap (both (Ok out)) ended
    ∙ ap (λ (l : List ℕ). Ok l) (append-nil out)

-- any other is one of it
pub block_step : (line : ℕ) (out new rest first : List ℕ) (lines : List (List ℕ)) → lines_of rest ≡ first ∷ lines
    → says (codes "end") first ≡ false → new ≡ out ++ asm_line first
    → both (Ok new) (block_text line lines) ≡ both (Ok out) (block_text line (lines_of rest))
unfolding block_text
block_step line out new rest first lines cut is is_new =
    let more : block_text line (first ∷ lines) ≡ both (Ok (asm_line first)) (block_text line lines) = rw is refl in
    ap (λ n. both (Ok n) (block_text line lines)) is_new
    ∙ sym (both_both out (asm_line first) (block_text line lines))
    ∙ ap (both (Ok out)) (sym more)
    ∙ ap (λ l. both (Ok out) (block_text line l)) (sym cut)

-- and no line is a fault
pub block_open : (line : ℕ) (out rest : List ℕ) (all : Result (List ℕ) MakeFault) → length rest ≤ 0
    → both (Ok out) (block_text line (lines_of rest)) ≡ both (Ok []) all → all ≡ Err (record { line = line; column = 1; mistake = NoEnd })
unfolding block_text lines_of
block_open line out [] all none same = sym (both_none all) ∙ sym same
block_open line out (c ∷ rest) all none same = absurd (omega (arith, none))
