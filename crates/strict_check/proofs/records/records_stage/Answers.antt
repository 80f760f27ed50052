-- One packet on.
use Rattle.std.proofs.Common.{◌≡◌, ap, sym, ◌∙◌}
use Rattle.std.proofs.lemmas.Bool.{eq-eqb, ne_eqb}
use Rattle.job_format.specs.{Model.JobModel, Parts.parts_view}
use Rattle.bin_list.proofs.Walk.{some_left, none_left}
use Rattle.strict_check.specs.Findings.{all_findings}
use Rattle.strict_check.specs.Stages.{records_stage}
use Rattle.strict_check.proofs.Going.{leaves, begins, stops_at, goes_on, passes_by, through}
use Rattle.strict_check.proofs.records.records_stage.Goals as goal

pub loop-rest-init : goal.loop-rest-init
loop-rest-init c = begins (c.args.findings.now ≡ all_findings (parts_view c.args.file.now)) (parts_view c.args.file.now) c.args.number c.job_at.result.now.bin.now (ap (λ (j : JobModel). j.bin) c.job_at.ensures.value)

pub returns-in_err-record_fault : goal.returns-in_err-record_fault
returns-in_err-record_fault c = λ holds.
    let f = parts_view c.args.file.now in
    leaves (records_stage f c.args.number) _ c.from_residual.result c.in_err-record_fault.field-0.0 c.from_residual.ensures.1
    (stops_at _ f c.args.number _ _ _ _ c.in_err-record_fault.field-0.0 c.loop-rest.invariant holds
    (some_left c.loop-rest.rest.now (sym c.is_empty.ensures ∙ c.loop-rest-test.true)) c.split_front.ensures.packet
    (eq-eqb _ _ c.if-packet-eq-GL_SHADER_STATE.true) c.word_at-word.ensures (c.in_err-record_fault.ensures holds))

pub loop-rest-preserved-in_ok-record_fault : goal.loop-rest-preserved-in_ok-record_fault
loop-rest-preserved-in_ok-record_fault c =
    goes_on _ (parts_view c.args.file.now) c.args.number _ _ _ _ _ _ c.loop-rest.invariant
    (some_left c.loop-rest.rest.now (sym c.is_empty.ensures ∙ c.loop-rest-test.true)) c.split_front.ensures.packet c.split_front.ensures.rest
    c.split_front.ensures.some c.split_front.ensures.fits (eq-eqb _ _ c.if-packet-eq-GL_SHADER_STATE.true) c.word_at-word.ensures
    (λ holds. (c.in_ok-record_fault.ensures holds).0) c.source_size-at.ensures.value c.source_size-at.ensures.limit

pub loop-rest-preserved : goal.loop-rest-preserved
loop-rest-preserved c =
    passes_by _ (parts_view c.args.file.now) c.args.number _ _ _ _ c.loop-rest.invariant
    (some_left c.loop-rest.rest.now (sym c.is_empty.ensures ∙ c.loop-rest-test.true)) c.split_front.ensures.packet c.split_front.ensures.rest
    c.split_front.ensures.fits (ne_eqb _ _ c.if-packet-eq-GL_SHADER_STATE.false)

pub returns : goal.returns
returns c = λ holds. (
  through _ (parts_view c.args.file.now) c.args.number _ _ c.loop-rest.invariant holds (none_left c.loop-rest.rest.now (sym c.is_empty.ensures ∙ c.loop-rest-test.false)),
  tt,
)
