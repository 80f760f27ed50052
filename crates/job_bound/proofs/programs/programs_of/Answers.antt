-- One shader more is kept.
use Rattle.std.proofs.Common.{◌+◌, sym, subst}
use Rattle.job_format.specs.Parts.{parts_view}
use Rattle.job_bound.specs.Bound.{code_in, IsProgramOf, AreProgramsUpTo}
use Rattle.job_bound.proofs.Naming.{programs_more}
use Rattle.job_bound.proofs.programs.programs_of.Goals as goal

pub loop-b-preserved : goal.loop-b-preserved
loop-b-preserved c =
    let f = parts_view c.args.file.now in
    let l = c.loop-b in
    let one = subst (λ k. IsProgramOf (code_in f l.b) k c.in_ok-program_at.field-0) c.content_offset.ensures.value c.in_ok-program_at.ensures in
    subst (AreProgramsUpTo f (l.b + 1)) (sym c.in_ok-push.ensures.items) (programs_more f l.b l.programs.items c.in_ok-program_at.field-0 l.invariant one)
