use Rattle.std.proofs.Common.{◌≡◌, ◌++◌}
use Rattle.field_words.proofs.Questions.{answers_later, refuses_front}
use Rattle.relocation.specs.declared.layout.Lengths.{Lengths}
use Rattle.job_check.specs.{Faults.bin_stage, Faults.records_stage, Faults.surfaces_stage, Faults.lists_stages, Emit.lengths_of}
use Rattle.job_check.proofs.{Views.all_placed, Order.exits, Order.if_ok}
use Rattle.job_check.proofs.context.Context.binned.Goals as goal

pub returns-clause-answers : goal.returns-clause-answers
unfolding lists_stages
returns-clause-answers c = λ report.
    let v = c.args.self.now in
    answers_later (bin_stage v.file v.number) (records_stage v.file v.number ++ surfaces_stage v.file v.number) (λ (lengths : Lengths). lengths ≡ lengths_of v.file v.number) c.after_bin.result c.in_ok-bin.ensures.answers.0 (c.after_bin.ensures.answers report)

pub returns-clause-written : goal.returns-clause-written
returns-clause-written c = λ report.
    let v = c.args.self.now in
    if_ok c.after_bin.result (λ put. all_placed v.file v.number c.args.out.now c.bin.new.out c.after_bin.new.out c.in_ok-bin.ensures.written put) (c.after_bin.ensures.written report)

pub returns-in_err-bin-clause-answers : goal.returns-in_err-bin-clause-answers
unfolding lists_stages
returns-in_err-bin-clause-answers c = λ report.
    let v = c.args.self.now in
    exits (lists_stages v.file v.number) (λ (lengths : Lengths). lengths ≡ lengths_of v.file v.number) c.from_residual.result c.in_err-bin.field-0.0 c.from_residual.ensures.1
    (refuses_front (bin_stage v.file v.number) (records_stage v.file v.number ++ surfaces_stage v.file v.number) c.in_err-bin.field-0.0 c.in_err-bin.ensures.answers)
