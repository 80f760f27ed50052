use Rattle.std.proofs.Common.{length, map, refl, ap, ◌∙◌}
use Rattle.job_format.specs.Parts.{parts_view}
use Rattle.job_check.proofs.Emission.{fit_at}
use Rattle.job_check.proofs.check.fresh_memory.Goals as goal
use Rattle.field_words.proofs.Writes.{length_zeros}

pub put_contents-requires-clause-fit : goal.put_contents-requires-clause-fit
put_contents-requires-clause-fit c =
    fit_at (parts_view c.args.parts.now) c.in_ok-memory.memory c.deref.result.now (map (λ v. v.now) c.args.parts.now.contents.items)
    c.in_ok-memory.ensures c.deref.ensures.value refl c.requires.sound c.requires.well_formed.contents

pub returns-clause-size : goal.returns-clause-size
returns-clause-size c = c.put_contents.ensures.long ∙ ap length c.in_ok-memory.ensures ∙ length_zeros c.args.parts.now.mem_size
