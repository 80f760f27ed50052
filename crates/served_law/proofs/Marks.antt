-- Where a thread stands by its marks.
use Rattle.std.proofs.Common.{◌≡◌, ◌≤◌, inl, inr, ℕ, ◌+◌, ◌-◌, Bool, true, false, List, if◌then◌else◌, refl, sym, ◌∙◌, ap, arith}
use Rattle.std.proofs.lemmas.Bool.{cases_lt, true≢false}
use Rattle.qpu_isa.specs.Terms.{is_end, is_switch}
use Rattle.shader_flow.specs.Flow.{word, end_of}
use Rattle.qpu_machine.specs.{declared.state.Mark.Mark, declared.state.Thread.Thread, Writes.fate_of}
use Rattle.qpu_machine.specs.declared.state.Fate.TheVariants.{Ends, Switches, GoesOn}
use Rattle.qpu_law.specs.Home.{Home, IsAt, MarkIs}
use Rattle.qpu_law.proofs.Going.{not_end}

-- Where the thread ends or switches, by the instruction two before.
ends_by : (ends switches : Bool) → (if ends then Ends else (if switches then Switches else GoesOn)) ≡ Ends → ends ≡ true
ends_by true switches is = refl
ends_by false true is = absurd cc
ends_by false false is = absurd cc

switches_by : (ends switches : Bool) → (if ends then Ends else (if switches then Switches else GoesOn)) ≡ Switches → switches ≡ true
switches_by true switches is = absurd cc
switches_by false true is = refl
switches_by false false is = absurd cc

-- an instruction before that is an end, or a switch, is one of the code's
pub end_before : (place : ℕ) (code : List ℕ) (n k : ℕ) (m : Mark) → MarkIs place code n k m → is_end m.word ≡ true → end_of code + k ≤ n
end_before place code n k m (inl exact) is =
    let back = exact.back in
    let here : is_end (word code (n - k)) ≡ true = ap is_end (sym exact.is) ∙ is in
    elim (cases_lt (n - k) (end_of code)) [
      | inl early ↦ absurd (true≢false (sym here ∙ not_end code (n - k) early))
      | inr late ↦ omega (arith, late, back)
    ]
end_before place code n k m (inr blank) is = absurd (true≢false (sym is ∙ blank.quiet.end))

pub at_end : (h : Home) (n : ℕ) (t : Thread) → IsAt h n t → fate_of t ≡ Ends → n ≡ end_of h.code + 2
unfolding fate_of
at_end h n t at over =
    let late = end_before h.place h.code n 2 t.last2 at.mark2 (ends_by (is_end t.last2.word) (is_switch t.last2.word) over) in
    let inside = at.inside in
    omega (arith, late, inside)

switch_mark : (place : ℕ) (code : List ℕ) (n k : ℕ) (m : Mark) → MarkIs place code n k m → is_switch m.word ≡ true → (k ≤ n) × (is_switch (word code (n - k)) ≡ true)
switch_mark place code n k m (inl exact) is = (exact.back, ap is_switch (sym exact.is) ∙ is)
switch_mark place code n k m (inr blank) is = absurd (true≢false (sym is ∙ blank.quiet.switch))

pub at_switch : (h : Home) (n : ℕ) (t : Thread) → IsAt h n t → fate_of t ≡ Switches → (2 ≤ n) × (is_switch (word h.code (n - 2)) ≡ true)
unfolding fate_of
at_switch h n t at over = switch_mark h.place h.code n 2 t.last2 at.mark2 (switches_by (is_end t.last2.word) (is_switch t.last2.word) over)
