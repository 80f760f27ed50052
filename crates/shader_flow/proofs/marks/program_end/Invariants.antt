use Rattle.std.proofs.Common.{◌≡◌, ◌+◌, drop}
use Rattle.shader_flow.specs.Flow.{end_of}
use Rattle.shader_flow.proofs.marks.program_end.Given as goal

abbrev pub invariant-loop-word : goal.invariant-loop-word
invariant-loop-word l = record { counted : l.end ≡ l.word-index; rest : end_of l.code ≡ l.end + end_of (drop l.word-index l.code) }
