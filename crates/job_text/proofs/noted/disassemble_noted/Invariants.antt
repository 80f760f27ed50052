-- The text so far, and what is known of uniforms.
use Rattle.std.proofs.Common.{◌≡◌}
use Rattle.job_text.specs.{Noted.noted_lines, Taken.IsTaking}
use Rattle.job_text.proofs.noted.disassemble_noted.Given as goal

abbrev pub invariant-loop-index : goal.invariant-loop-index
invariant-loop-index l = record {
  text : l.text.items ≡ noted_lines l.words l.index;
  taking : IsTaking l.words l.index l.now;
}
