use Rattle.std.proofs.Common.{◌≡◌, take}
use Rattle.std.specs.List.{flat_map}
use Rattle.qpu_asm.specs.Printed.{line_text}
use Rattle.qpu_asm.proofs.disassembler.disassemble.Given as goal

abbrev pub invariant-loop-word : goal.invariant-loop-word
invariant-loop-word l = l.text.items ≡ flat_map line_text (take l.word-index l.words)
