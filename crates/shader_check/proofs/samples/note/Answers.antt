use Rattle.std.proofs.Common.{sym, ap, ◌∙◌}
use Rattle.shader_flow.specs.Pending.{count_of}
use Rattle.uniform_stream.specs.Quiet.{writes_registers}
use Rattle.shader_check.proofs.Plain.{quiet_held, quiet_samples}
use Rattle.shader_check.proofs.samples.note.Goals as goal

pub returns-then-writes_registers-clause-first : goal.returns-then-writes_registers-clause-first
returns-then-writes_registers-clause-first g c =
    c.requires.first ∙ quiet_held c.args.here.now.code (count_of c.args.here.now.code) 0 c.args.here.now.at c.requires.checked (sym (c.writes_registers.ensures ∙ ap writes_registers c.word.ensures) ∙ c.if-writes_registers.true)

pub returns-then-writes_registers-clause-second : goal.returns-then-writes_registers-clause-second
returns-then-writes_registers-clause-second g c =
    c.requires.second ∙ quiet_held c.args.here.now.code (count_of c.args.here.now.code) 1 c.args.here.now.at c.requires.checked (sym (c.writes_registers.ensures ∙ ap writes_registers c.word.ensures) ∙ c.if-writes_registers.true)

pub returns-then-writes_registers-clause-samples : goal.returns-then-writes_registers-clause-samples
returns-then-writes_registers-clause-samples g c =
    c.requires.before ∙ quiet_samples c.args.here.now.code c.args.here.now.at (sym (c.writes_registers.ensures ∙ ap writes_registers c.word.ensures) ∙ c.if-writes_registers.true)
