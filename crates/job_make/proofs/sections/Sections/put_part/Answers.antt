use Rattle.std.proofs.Common.{sym, ◌∙◌, ap, option_copied}
use Rattle.job_make.specs.Made.{part_read}
use Rattle.job_make.proofs.sections.Sections.put_part.Goals as goal

pub returns-in-None-clause-fault : goal.returns-in-None-clause-fault
unfolding part_read
returns-in-None-clause-fault c =
    rw (c.if-inside.false, sym c.says.ensures ∙ c.if-says.false, sym c.section_named.ensures ∙ ap option_copied c.in-None.is)
    c.put_line.ensures.fault
