-- An accepted file has one to eight jobs, each with a layout and with lengths.
use Rattle.std.proofs.Common.{length, refl, sym, ap, arith, ◌∙◌}
use Rattle.vc4check_c.proofs.Sizes.{as_many}
use Rattle.vc4check_c.proofs.jobs.vc4check_check.Goals as goal

pub accepted-requires-clause-each : goal.accepted-requires-clause-each
accepted-requires-clause-each c =
    let is = as_many c.args.bytes.now c.in-Ok.checked.memory c.in-Ok.checked.layouts.items c.in-Ok.checked.lengths.items (c.in-Ok.ensures.spelled refl) c.in-Ok.ensures.answers.1 in
    ap length c.deref-in-Ok.ensures.value ∙ is.0 ∙ ap length (sym c.deref.ensures.value)

pub accepted-requires-clause-few : goal.accepted-requires-clause-few
accepted-requires-clause-few c =
    let is = as_many c.args.bytes.now c.in-Ok.checked.memory c.in-Ok.checked.layouts.items c.in-Ok.checked.lengths.items (c.in-Ok.ensures.spelled refl) c.in-Ok.ensures.answers.1 in
    omega (arith, is.1, ap length c.deref.ensures.value)
