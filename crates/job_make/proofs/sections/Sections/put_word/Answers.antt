use Rattle.std.proofs.Common.{◌≡◌, Some, sym, ◌∙◌, ap}
use Rattle.script.specs.Lines.{before}
use Rattle.job_make.specs.Made.{size_named, word_read}
use Rattle.job_make.proofs.sections.Sections.put_word.Goals as goal

pub returns-in-Some-clause-fault : goal.returns-in-Some-clause-fault
unfolding word_read
returns-in-Some-clause-fault c =
    let size : size_named (before 58 c.args.word.now) ≡ Some c.in-Some.size =
    ap size_named (sym c.cut_at-cut.ensures.first) ∙ sym c.size_named.ensures.value ∙ c.in-Some.is in
    rw (size, ← c.cut_at-cut.ensures.rest, ← c.number_said.ensures) c.put_number.ensures.fault
