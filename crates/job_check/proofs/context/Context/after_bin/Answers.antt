use Rattle.std.proofs.Common.{◌≡◌, ◌++◌}
use Rattle.field_words.proofs.Questions.{answers_later, refuses_front}
use Rattle.relocation.specs.declared.layout.Lengths.{Lengths}
use Rattle.job_check.specs.{Faults.records_stage, Faults.surfaces_stage, Emit.lengths_of}
use Rattle.job_check.proofs.{Views.parts_fit, Views.later_placed, Order.exits, Order.if_ok}
use Rattle.job_check.proofs.context.Context.after_bin.Goals as goal

pub returns-clause-answers : goal.returns-clause-answers
returns-clause-answers c = λ report.
    let v = c.args.self.now in
    answers_later (records_stage v.file v.number) (surfaces_stage v.file v.number) (λ (lengths : Lengths). lengths ≡ lengths_of v.file v.number) c.after_records.result (c.in_ok-records.ensures.answers report).0 (c.after_records.ensures.answers report)

pub returns-clause-written : goal.returns-clause-written
returns-clause-written c = λ report.
    let v = c.args.self.now in
    if_ok c.after_records.result (λ put. later_placed v.file v.number c.args.out.now c.records.new.out c.after_records.new.out (c.in_ok-records.ensures.written report) put) c.after_records.ensures.written

pub returns-clause-fit : goal.returns-clause-fit
returns-clause-fit c = λ report.
    let v = c.args.self.now in
    if_ok c.after_records.result (λ render. parts_fit v.file v.number c.requires.bin_fits (c.in_ok-records.ensures.records_fit report) (c.in_ok-records.ensures.streams_fit report) render) c.after_records.ensures.fits

pub returns-in_err-records-clause-answers : goal.returns-in_err-records-clause-answers
returns-in_err-records-clause-answers c = λ report.
    let v = c.args.self.now in
    exits (records_stage v.file v.number ++ surfaces_stage v.file v.number) (λ (lengths : Lengths). lengths ≡ lengths_of v.file v.number) c.from_residual.result c.in_err-records.field-0.0 c.from_residual.ensures.1
    (refuses_front (records_stage v.file v.number) (surfaces_stage v.file v.number) c.in_err-records.field-0.0 (c.in_err-records.ensures.answers report))
