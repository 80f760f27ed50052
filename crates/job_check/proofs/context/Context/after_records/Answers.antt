use Rattle.job_check.proofs.Views.{lengths_are}
use Rattle.job_check.proofs.context.Context.after_records.Goals as goal

pub returns-clause-answers : goal.returns-clause-answers
returns-clause-answers c = λ report.
    let v = c.args.self.now in
    let records = c.requires.records report in (
      c.in_ok-render.ensures.answers.0,
      lengths_are v.file v.number c.args.bin.now.length c.args.records.now.records c.args.records.now.uniforms c.in_ok-render.render
          c.requires.bin.length_is records.records records.uniforms c.in_ok-render.ensures.answers.1,
    )
