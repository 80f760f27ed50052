-- The submission is a well-formed file, and blocks that can be read tell what would be found.
use Rattle.std.proofs.Common.{length, sym, ap, subst, ◌∙◌}
use Rattle.job_format.specs.{File.IsWellFormed, Model.FileModel, Parts.parts_view}
use Rattle.strict_check.specs.Findings.{all_findings}
use Rattle.strict_check.proofs.Named.{findings_count}
use Rattle.vc4check_c.proofs.{Submissions.well_formed, Telling.given_count, Telling.findings_are}
use Rattle.vc4check_c.proofs.submit.findings_of.Goals as goal

pub returns-then-are_readable-clause-many : goal.returns-then-are_readable-clause-many
returns-then-are_readable-clause-many c =
    ap length c.in_ok-findings_in.ensures ∙ given_count c.args.given.now ∙ ap (λ (f : FileModel). length f.buffers) (sym c.requires.parts_are)

pub returns-then-are_readable-clause-found : goal.returns-then-are_readable-clause-found
returns-then-are_readable-clause-found c = λ known readable.
    c.in_ok-findings_in.ensures ∙ findings_are c.args.given.now known (readable c.if-are_readable.true) ∙ ap all_findings (sym c.requires.parts_are)

pub all_findings-requires : goal.all_findings-requires
all_findings-requires c = subst IsWellFormed (sym c.requires.parts_are) (well_formed c.args.given.now c.requires.own)

pub returns-clause-many : goal.returns-clause-many
returns-clause-many c = ap length c.in_ok-all_findings.ensures ∙ findings_count (parts_view c.args.parts.now)
