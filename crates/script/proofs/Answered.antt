-- The lines of a script, one after the other.
use Rattle.std.proofs.Common.{◌≡◌, ℕ, ◌+◌, ◌≤◌, Bool, true, false, List, [], ◌∷◌, ◌++◌, length, refl, sym, ◌∙◌, ap, append_assoc, append-nil, arith, None, Some}
use Rattle.script.specs.{Lines.lines_of, Lines.malformed_from, Replies.replies_from}

pub malformed_here : (formed : List ℕ → Bool) (lines later : List (List ℕ)) (first : List ℕ) (number : ℕ) → lines ≡ first ∷ later → formed first ≡ false
    → malformed_from formed number lines ≡ Some number
unfolding malformed_from
malformed_here formed lines later first number e report = rw (e, report) refl

pub malformed_later : (formed : List ℕ → Bool) (lines later : List (List ℕ)) (first : List ℕ) (number : ℕ) → lines ≡ first ∷ later → formed first ≡ true
    → malformed_from formed (number + 1) later ≡ malformed_from formed number lines
unfolding malformed_from
malformed_later formed lines later first number e report = rw (e, report) refl

pub malformed_end : (formed : List ℕ → Bool) (text : List ℕ) (number : ℕ) → length text ≤ 0 → malformed_from formed number (lines_of text) ≡ None
unfolding malformed_from lines_of
malformed_end formed [] number none = refl
malformed_end formed (byte ∷ bytes) number none = absurd (omega (arith, none))

-- Some lines are answered: what is written, and the past that they made, for which whoever answers stands.
pub record Answered (P : Type 0) (Stands : ℕ → P → Type 0) (reply : P → List ℕ → List ℕ) (after : P → List ℕ → P) (start : P) (text out rest : List ℕ) : Type 0 where
  pub lines : ℕ
  pub past : P
  pub stands : Stands lines past
  pub few : lines + length rest ≤ length text
  pub same : out ++ replies_from reply after past (lines_of rest) ≡ replies_from reply after start (lines_of text)

pub answered_more : (P : Type 0) (Stands Next : ℕ → P → Type 0) (reply : P → List ℕ → List ℕ) (after : P → List ℕ → P) (start : P) (text out more rest later first : List ℕ)
    (done : Answered P Stands reply after start text out rest) → lines_of rest ≡ first ∷ lines_of later → length later + 1 ≤ length rest
    → more ≡ out ++ reply done.past first → Next (done.lines + 1) (after done.past first) → Answered P Next reply after start text more later
unfolding replies_from
answered_more P Stands Next reply after start text out more rest later first done lines shorter put stands = record {
  lines = done.lines + 1;
  past = after done.past first;
  stands = stands;
  few = omega (arith, done.few, shorter);
  same =
      ap (λ o. o ++ replies_from reply after (after done.past first) (lines_of later)) put
      ∙ append_assoc out (reply done.past first) (replies_from reply after (after done.past first) (lines_of later))
      ∙ ap (λ ls. out ++ replies_from reply after done.past ls) (sym lines)
      ∙ done.same;
}

pub answered_all : (P : Type 0) (Stands : ℕ → P → Type 0) (reply : P → List ℕ → List ℕ) (after : P → List ℕ → P) (start : P) (text out rest : List ℕ) → length rest ≤ 0
    → Answered P Stands reply after start text out rest → out ≡ replies_from reply after start (lines_of text)
unfolding lines_of replies_from
answered_all P Stands reply after start text out [] none done = sym (append-nil out) ∙ done.same
answered_all P Stands reply after start text out (byte ∷ bytes) none done = absurd (omega (arith, none))
