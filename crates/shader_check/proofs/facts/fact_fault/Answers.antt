use Rattle.std.proofs.Common.{sym, ap, ◌∙◌}
use Rattle.uniform_stream.specs.Quiet.{writes_registers}
use Rattle.shader_check.proofs.Plain.{no_fact_fault}
use Rattle.shader_check.proofs.facts.fact_fault.Goals as goal

pub returns-then-writes_registers-clause-value : goal.returns-then-writes_registers-clause-value
returns-then-writes_registers-clause-value g c =
    no_fact_fault c.args.here.now.code c.args.here.now.at (sym (c.writes_registers.ensures ∙ ap writes_registers c.word.ensures) ∙ c.if-writes_registers.true)
