use Rattle.std.proofs.Common.{◌≡◌, true, sym, ap, ◌∙◌}
use Rattle.shader_flow.specs.{Flow.word, Pending.pending_of}
use Rattle.uniform_stream.specs.Rules.{s14, s15, s17, s20, s21, is_full, s22, s23, quiet_questions, stream_questions}
use Rattle.uniform_stream.specs.Quiet.{writes_registers}
use Rattle.uniform_stream.proofs.QuietWrites.{no_forbidden, no_relative_write, no_address_write, no_two, no_conditional, no_write, no_setup}
use Rattle.uniform_stream.proofs.rules.asked_fault.Goals as goal

pub returns-then-writes_registers : goal.returns-then-writes_registers
unfolding s14 s15 s17 s20 s21 s22 s23 is_full quiet_questions stream_questions
returns-then-writes_registers c =
    let code = c.args.asked.now.code in
    let at = c.args.asked.now.at in
    let w = word code at in
    let quiet : writes_registers w ≡ true = sym (c.writes_registers.ensures ∙ ap writes_registers c.word.ensures) ∙ c.if-writes_registers.true in
    let setup = no_setup w (pending_of code 0 at) (pending_of code 1 at) quiet in
    rw (no_forbidden w quiet, no_relative_write w quiet, no_address_write w quiet, no_two w quiet, no_conditional w quiet, no_write w 0 quiet, no_write w 1 quiet, setup)
    c.quiet_fault.ensures
