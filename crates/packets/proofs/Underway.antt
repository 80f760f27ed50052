-- A loop that writes a text piece by piece.
use Rattle.std.proofs.Common.{◌≡◌, ℕ, ◌+◌, ◌≤◌, List, [], ◌++◌, length, refl, sym, ap, subst, arith, ◌∙◌, length-append}
use Rattle.field_words.specs.Writes.{with_bytes}
use Rattle.field_words.proofs.Writes.{length-with_bytes, with_nothing, with_two}

-- Of the whole text, which was to stand at a place of the window, the rest is left to be written.
pub record IsUnderway (window : List ℕ) (at : ℕ) (whole out : List ℕ) (here : ℕ) (rest : List ℕ) : Type 0 where
  pub bytes : with_bytes out here rest ≡ with_bytes window at whole
  pub place : here + length rest ≡ at + length whole
  pub room : here + length rest ≤ length out

pub begins : (window : List ℕ) (at : ℕ) (whole : List ℕ) → at + length whole ≤ length window → IsUnderway window at whole window at whole
begins window at whole fits = record { bytes = refl; place = refl; room = fits }

-- so many bytes are left for the next piece
pub next_room : (window : List ℕ) (at : ℕ) (whole out : List ℕ) (here : ℕ) (rest piece later : List ℕ) → IsUnderway window at whole out here rest → rest ≡ piece ++ later
    → here + length piece ≤ length out
next_room window at whole out here rest piece later state cut =
    let long : length rest ≡ length piece + length later = ap length cut ∙ length-append piece later in
    omega (arith, long, state.room)

pub goes_on : (window : List ℕ) (at : ℕ) (whole out : List ℕ) (here : ℕ) (rest piece later out2 : List ℕ) (here2 : ℕ)
    → IsUnderway window at whole out here rest → rest ≡ piece ++ later
    → out2 ≡ with_bytes out here piece → here2 ≡ here + length piece
    → IsUnderway window at whole out2 here2 later
goes_on window at whole out here rest piece later out2 here2 state cut puts moves =
    let long : length rest ≡ length piece + length later = ap length cut ∙ length-append piece later in
    let fits : here + length (piece ++ later) ≤ length out = subst (λ t. here + length t ≤ length out) cut state.room in
    let same : length out2 ≡ length out = ap length puts ∙ length-with_bytes out here piece (omega (arith, long, state.room)) in
    record {
      bytes =
          ap (λ o. with_bytes o here2 later) puts
          ∙ ap (λ h. with_bytes (with_bytes out here piece) h later) moves
          ∙ sym (with_two out here piece later fits)
          ∙ ap (λ t. with_bytes out here t) (sym cut)
          ∙ state.bytes;
      place = omega (arith, long, moves, state.place);
      room = omega (arith, long, moves, same, state.room);
    }

-- At the end the whole is written.
pub ends : (window : List ℕ) (at : ℕ) (whole out : List ℕ) (here : ℕ) (rest : List ℕ) → IsUnderway window at whole out here rest → rest ≡ []
    → (out ≡ with_bytes window at whole) × (here ≡ at + length whole)
ends window at whole out here rest state none =
    let short : length rest ≡ 0 = ap length none in (
      sym (with_nothing out here (omega (arith, short, state.room))) ∙ ap (λ t. with_bytes out here t) (sym none) ∙ state.bytes,
      omega (arith, short, state.place),
    )
