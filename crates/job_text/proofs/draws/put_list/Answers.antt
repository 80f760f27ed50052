use Rattle.std.proofs.Common.{◌≡◌, ◌≤◌, length, sym, arith}
use Rattle.std.proofs.lemmas.Bool.{eqb-true}
use Rattle.job_text.specs.{Draws.stretch_of, Shown.look_of}
use Rattle.job_text.proofs.DrawSteps.{draws_step, draws_end}
use Rattle.job_text.proofs.draws.put_list.Goals as goal

pub loop-now-preserved : goal.loop-now-preserved
loop-now-preserved c =
    let packet = c.split_front.result.0.now in
    let rest = c.loop-now.rest.now in
    let walk = c.loop-now.now in
    let step = c.in_ok-put_packet.ensures in
    let some : 1 ≤ length rest = omega (arith, c.split_front.ensures.some, c.split_front.ensures.fits) in
    record {
      list = omega (arith, c.loop-now.invariant.list, c.split_front.ensures.fits);
      text = λ new more.
          c.loop-now.invariant.text new
          (draws_step (look_of c.args.view) c.loop-now.at rest packet c.split_front.result.1.now (stretch_of walk.records) (stretch_of walk.uniforms) step.0
          c.loop-now.out.items c.put_packet.new.out.items new some c.split_front.ensures.packet c.split_front.ensures.rest step.1 _ _ step.2 step.3 more);
    }

pub returns : goal.returns
returns c =
    let none : length c.loop-now.rest.now ≡ 0 = eqb-true (length c.loop-now.rest.now) 0 (sym c.loop-now-test.ensures) in
    c.loop-now.invariant.text c.loop-now.out.items
    (draws_end (look_of c.args.view) c.loop-now.at c.loop-now.rest.now (stretch_of c.loop-now.now.records) (stretch_of c.loop-now.now.uniforms) c.loop-now.out.items none)
