-- One step more is followed; at the end what is kept is that of the steps that were.
use Rattle.std.proofs.Common.{◌≡◌, ◌≤◌, ◌∙◌, length, refl, sym, subst, arith}
use Rattle.replay.specs.declared.trace.Ending.TheVariants.{Spent}
use Rattle.replay.specs.Run.{HasMore}
use Rattle.replay.proofs.Going.{Noted, noted_more, noted_ends, over_ends}
use Rattle.replay.proofs.follow.follow.Goals as goal

pub returns-in-Err-clause-run : goal.returns-in-Err-clause-run
returns-in-Err-clause-run g c =
    noted_ends _ _ c.args.favoured c.args.machine.now c.loop-i.machine c.args.steps c.loop-i.i c.loop-i.kept c.in-Err.ending c.loop-i.invariant.noted
    (omega (arith, c.loop-i-test.true)) (over_ends c.loop-i.machine c.args.steps c.loop-i.i c.in-Err.ending c.in-Err.ensures.over)

pub loop-i-preserved : goal.loop-i-preserved
loop-i-preserved g c = record {
  logs = c.keep.ensures.logs ∙ c.loop-i.invariant.logs;
  noted = noted_more _ _ c.args.favoured c.args.machine.now c.loop-i.machine c.go_on.new.machine c.loop-i.i c.go_on.new.accesses.items c.loop-i.kept c.keep.new.kept c.in-Ok.line c.loop-i.invariant.noted
      c.in-Ok.ensures.did c.keep.ensures.logs (subst (λ listed. HasMore c.loop-i.kept.logs c.loop-i.i c.in-Ok.line listed c.loop-i.kept c.keep.new.kept) c.as_slice.ensures.value c.in_ok-keep-in-Ok.ensures.more);
}

pub returns-in-Err-look-clause-run : goal.returns-in-Err-look-clause-run
returns-in-Err-look-clause-run g c =
    let all : c.args.steps ≡ c.loop-i.i = omega (arith, c.loop-i.auto.i-end, c.loop-i-test.false) in
    noted_ends _ _ c.args.favoured c.args.machine.now c.loop-i.machine c.args.steps c.args.steps c.loop-i.kept c.in-Err-look.ending
    (subst (λ n. Noted (g.S.Script.picks c.args.script.now) (g.S.Script.gives c.args.script.now) c.args.favoured c.args.machine.now c.loop-i.machine n c.loop-i.kept) (sym all) c.loop-i.invariant.noted)
    (omega arith) (over_ends c.loop-i.machine c.args.steps c.args.steps c.in-Err-look.ending c.in-Err-look.ensures.over)

pub returns-in-Ok-look-clause-run : goal.returns-in-Ok-look-clause-run
returns-in-Ok-look-clause-run g c =
    let all : c.args.steps ≡ c.loop-i.i = omega (arith, c.loop-i.auto.i-end, c.loop-i-test.false) in
    noted_ends _ _ c.args.favoured c.args.machine.now c.loop-i.machine c.args.steps c.args.steps c.loop-i.kept Spent
    (subst (λ n. Noted (g.S.Script.picks c.args.script.now) (g.S.Script.gives c.args.script.now) c.args.favoured c.args.machine.now c.loop-i.machine n c.loop-i.kept) (sym all) c.loop-i.invariant.noted)
    (omega arith) (
      refl,
      c.in-Ok-look.ensures.goes,
      λ none. let long = subst (λ units. 1 ≤ length units) (c.in-Ok-look.ensures.units ∙ none) c.in-Ok-look.ensures.some in omega (arith, long),
    )
