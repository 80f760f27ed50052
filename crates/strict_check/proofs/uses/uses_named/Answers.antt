-- A handle that isn't there, one whose buffer isn't, and any other.
use Rattle.std.proofs.Common.{length, get_or, ap, arith, ◌∙◌}
use Rattle.job_format.specs.{Model.JobModel, Parts.parts_view}
use Rattle.job_check.specs.Jobs.{job_of}
use Rattle.strict_check.specs.Findings.{findings_nothing}
use Rattle.strict_check.proofs.Named.{findings_count, past_handles, past_buffers, at_buffer}
use Rattle.strict_check.proofs.uses.uses_named.Goals as goal

pub returns-then-handles-handle : goal.returns-then-handles-handle
returns-then-handles-handle c = λ holds.
    let same = c.as_slice-handles.ensures ∙ ap (λ (j : JobModel). j.handles) c.job_at.ensures.value in
    c.nothing.ensures ∙ past_handles (parts_view c.args.file.now) c.args.number c.args.handle (omega (arith, ap length same, c.if-handles-handle.true))

pub returns-then-findings-buffer : goal.returns-then-findings-buffer
returns-then-findings-buffer c = λ holds.
    let f = parts_view c.args.file.now in
    let same = c.as_slice-handles.ensures ∙ ap (λ (j : JobModel). j.handles) c.job_at.ensures.value in
    c.nothing-then-findings-buffer.ensures
    ∙ past_buffers f c.args.number c.args.handle
    (omega (arith, c.if-findings-buffer.true, ap length holds, findings_count f, ap (λ l. get_or l c.args.handle 0) same))

pub returns : goal.returns
returns c = λ holds.
    let f = parts_view c.args.file.now in
    let same = c.as_slice-handles.ensures ∙ ap (λ (j : JobModel). j.handles) c.job_at.ensures.value in
    ap (λ l. (get_or c.args.findings.now (get_or l c.args.handle 0) findings_nothing).uses) same
    ∙ ap (λ l. (get_or l (get_or (job_of f c.args.number).handles c.args.handle 0) findings_nothing).uses) holds
    ∙ at_buffer f c.args.number c.args.handle findings_nothing
    (omega (arith, c.if-handles-handle.false, ap length same))
    (omega (arith, c.if-findings-buffer.false, ap length holds, findings_count f, ap (λ l. get_or l c.args.handle 0) same))
