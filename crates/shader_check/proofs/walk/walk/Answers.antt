use Rattle.std.proofs.Common.{◌≡◌, ◌≤◌, ◌+◌, ◌-◌, sym, ap, subst, refl, arith, ◌∙◌}
use Rattle.field_words.specs.Questions.{first_of, each}
use Rattle.field_words.proofs.Questions.{each_on, each_stop, each_end, answered_none, answered_some}
use Rattle.shader_flow.specs.{Bounded.indexes, Bounded.last_below, Flow.checked_of, Site.SiteModel}
use Rattle.clamp_facts.specs.{Facts.maker_of, Upkeep.IsTableOf}
use Rattle.clamp_facts.proofs.Entries.{blank_keeps}
use Rattle.shader_check.specs.Info.{setups_held, held_words, samples_before, samples_of}
use Rattle.shader_check.specs.Rules.{questions_at, fault_at, index_questions}
use Rattle.shader_check.proofs.walk.walk.Goals as goal

pub loop-at-init : goal.loop-at-init
unfolding setups_held indexes maker_of last_below
loop-at-init g c = record {
  none = (let e : checked_of c.args.code.now - 0 ≡ checked_of c.args.code.now = omega arith in ap (λ n. first_of (each (questions_at c.args.code.now) 0 n)) e);
  first = c.in_ok-kept0.ensures.items;
  second = c.in_ok-kept1.ensures.items;
  made = c.in_ok-samples.ensures.items;
  table = subst (IsTableOf c.args.code.now (maker_of c.args.code.now 0)) (sym c.new-table.ensures) (blank_keeps c.args.code.now (maker_of c.args.code.now 0) c.requires.made.ends.few (λ reg. refl));
  steps = omega arith;
}

pub returns-in-Some-clause-answers : goal.returns-in-Some-clause-answers
unfolding questions_at fault_at
returns-in-Some-clause-answers g c =
    let here = answered_some (fault_at c.loop-at.at) (index_questions c.args.code.now c.loop-at.at) c.in-Some.number (sym c.in-Some.ensures.value) in
    sym c.loop-at.invariant.none
    ∙ each_stop (questions_at c.args.code.now) c.loop-at.at (checked_of c.args.code.now) (fault_at c.loop-at.at c.in-Some.number)
    (omega (arith, c.loop-at-test.true, c.checked-last.ensures.value)) here

pub loop-at-preserved : goal.loop-at-preserved
unfolding questions_at
loop-at-preserved g c =
    let none = answered_none (fault_at c.loop-at.at) (index_questions c.args.code.now c.loop-at.at) (sym c.in_default.ensures.value) in
    record {
      none =
          each_on (questions_at c.args.code.now) c.loop-at.at (checked_of c.args.code.now) (omega (arith, c.loop-at-test.true, c.checked-last.ensures.value)) none
          ∙ c.loop-at.invariant.none;
      first = c.in_ok-note.ensures.first ∙ ap (λ (s : SiteModel). held_words s.code 0 (s.at + 1)) c.here_at.ensures;
      second = c.in_ok-note.ensures.second ∙ ap (λ (s : SiteModel). held_words s.code 1 (s.at + 1)) c.here_at.ensures;
      made = c.in_ok-note.ensures.samples ∙ ap (λ (s : SiteModel). samples_before s.code (s.at + 1)) c.here_at.ensures;
      table = c.learn.ensures.after;
      steps = omega (arith, c.learn.ensures.steps, c.in_ok-note.ensures.steps, c.in_default.ensures.steps, c.loop-at.invariant.steps);
    }

pub returns-clause-answers : goal.returns-clause-answers
unfolding samples_of
returns-clause-answers g c =
    let past : checked_of c.args.code.now ≤ c.loop-at.at = omega (arith, c.loop-at-test.false, c.checked-last.ensures.value) in
    let at-end : c.loop-at.at ≡ checked_of c.args.code.now = omega (arith, past, c.loop-at.auto.at-end, c.checked-last.ensures.value) in (
      sym c.loop-at.invariant.none ∙ each_end (questions_at c.args.code.now) c.loop-at.at (checked_of c.args.code.now) past,
      c.loop-at.invariant.made ∙ ap (samples_before c.args.code.now) at-end,
    )
