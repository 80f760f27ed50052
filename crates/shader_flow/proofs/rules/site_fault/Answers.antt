use Rattle.std.proofs.Common.{◌≡◌, ℕ, true, false, Some, sym, ap, refl, arith, ◌∙◌}
use Rattle.std.proofs.lemmas.Bool.Decides.{nat_tests}
use Rattle.qpu_isa.specs.Terms.{is_branch, is_switch, is_load_imm}
use Rattle.shader_flow.specs.Rules.{s4, s5, s6, s7, s8, s9, s10, s11, s12, s13, s27, branch_questions, switch_questions, flow_questions}
use Rattle.shader_flow.proofs.rules.site_fault.Goals as goal

branch_alone : (word : ℕ) → is_branch word ≡ true → (is_switch word ≡ false) × (is_load_imm word ≡ false)
unfolding is_branch is_switch is_load_imm
branch_alone word is = ((grind (arith, nat_tests)), (grind (arith, nat_tests)))

switch_alone : (word : ℕ) → is_switch word ≡ true → is_load_imm word ≡ false
unfolding is_switch is_load_imm
switch_alone word is = grind (arith, nat_tests)

pub returns-then-breaks_s3 : goal.returns-then-breaks_s3
unfolding flow_questions
returns-then-breaks_s3 c = let is = sym c.breaks_s3.ensures ∙ c.if-breaks_s3.true in rw is (ap Some c.number.ensures)

pub returns-then-is_branch : goal.returns-then-is_branch
unfolding flow_questions branch_questions s11 s13 s27
returns-then-is_branch c =
    let no_s3 = sym c.breaks_s3.ensures ∙ c.if-breaks_s3.false in
    let others = branch_alone _ (sym (c.is_branch.ensures ∙ ap is_branch c.word.ensures) ∙ c.if-is_branch.true) in
    rw (no_s3, others.0, others.1) c.branch_fault.ensures

pub returns-then-is_switch : goal.returns-then-is_switch
unfolding flow_questions switch_questions s4 s5 s6 s7 s8 s9 s10 s12 s27
returns-then-is_switch c =
    let no_s3 = sym c.breaks_s3.ensures ∙ c.if-breaks_s3.false in
    let no_branch = sym (c.is_branch.ensures ∙ ap is_branch c.word.ensures) ∙ c.if-is_branch.false in
    let no_load = switch_alone _ (sym (c.is_switch.ensures ∙ ap is_switch c.word-2.ensures) ∙ c.if-is_switch.true) in
    rw (no_s3, no_branch, no_load) c.switch_fault.ensures

pub returns-then-breaks_s27 : goal.returns-then-breaks_s27
unfolding flow_questions s4 s5 s6 s7 s8 s9 s10 s11 s12 s13
returns-then-breaks_s27 c =
    let no_s3 = sym c.breaks_s3.ensures ∙ c.if-breaks_s3.false in
    let no_branch = sym (c.is_branch.ensures ∙ ap is_branch c.word.ensures) ∙ c.if-is_branch.false in
    let no_switch = sym (c.is_switch.ensures ∙ ap is_switch c.word-2.ensures) ∙ c.if-is_switch.false in
    let is = sym c.breaks_s27.ensures ∙ c.if-breaks_s27.true in
    rw (no_s3, no_branch, no_switch, is) (ap Some c.number-then-breaks_s27.ensures)

pub returns : goal.returns
unfolding flow_questions s4 s5 s6 s7 s8 s9 s10 s11 s12 s13
returns c =
    let no_s3 = sym c.breaks_s3.ensures ∙ c.if-breaks_s3.false in
    let no_branch = sym (c.is_branch.ensures ∙ ap is_branch c.word.ensures) ∙ c.if-is_branch.false in
    let no_switch = sym (c.is_switch.ensures ∙ ap is_switch c.word-2.ensures) ∙ c.if-is_switch.false in
    let none = sym c.breaks_s27.ensures ∙ c.if-breaks_s27.false in
    rw (no_s3, no_branch, no_switch, none) refl
