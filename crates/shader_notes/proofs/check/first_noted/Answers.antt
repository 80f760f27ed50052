use Rattle.std.proofs.Common.{◌≡◌, ◌≤◌, ◌-◌, ℕ, Some, None, sym, ap, arith, ◌∙◌}
use Rattle.std.specs.Prelude.{if◌then◌else◌}
use Rattle.field_words.specs.Questions.{first_of, each}
use Rattle.field_words.proofs.Questions.{each_on, each_stop, each_end}
use Rattle.shader_flow.specs.Flow.{checked_of}
use Rattle.shader_notes.specs.Notes.{noted_at, first_noted}
use Rattle.shader_notes.proofs.check.first_noted.Goals as goal

pub loop-at-init : goal.loop-at-init
loop-at-init c =
    let e : checked_of c.args.code.now - 0 ≡ checked_of c.args.code.now = omega arith in
    ap (λ n. first_of (each (noted_at c.args.code.now c.args.note) 0 n)) e

pub returns-then-is_noted : goal.returns-then-is_noted
unfolding first_noted noted_at
returns-then-is_noted c =
    let at : ℕ = c.loop-at.at in
    let here : first_of (noted_at c.args.code.now c.args.note at) ≡ Some at =
    ap (λ test. if test then Some at else None) (sym c.is_noted.ensures ∙ c.if-is_noted.true) in
    sym (each_stop (noted_at c.args.code.now c.args.note) at (checked_of c.args.code.now) at
    (omega (arith, c.loop-at-test.true, c.checked-at-end.ensures.value)) here)
    ∙ c.loop-at.invariant

pub loop-at-preserved : goal.loop-at-preserved
unfolding noted_at
loop-at-preserved c =
    let at : ℕ = c.loop-at.at in
    let none : first_of (noted_at c.args.code.now c.args.note at) ≡ None =
    ap (λ test. if test then Some at else None) (sym c.is_noted.ensures ∙ c.if-is_noted.false) in
    each_on (noted_at c.args.code.now c.args.note) at (checked_of c.args.code.now)
    (omega (arith, c.loop-at-test.true, c.checked-at-end.ensures.value)) none
    ∙ c.loop-at.invariant

pub returns : goal.returns
unfolding first_noted
returns c =
    let past : checked_of c.args.code.now ≤ c.loop-at.at = omega (arith, c.loop-at-test.false, c.checked-at-end.ensures.value) in
    sym (each_end (noted_at c.args.code.now c.args.note) c.loop-at.at (checked_of c.args.code.now) past) ∙ c.loop-at.invariant
