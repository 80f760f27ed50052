use Rattle.std.proofs.Common.{ap, ◌∙◌, ◌≤◌, sym, subst}
use Rattle.qpu_isa.specs.Fields.{width_of}
use Rattle.qpu_asm.specs.{Table.widths_of, Walk.are_ready}
use Rattle.qpu_asm.proofs.Rows.{kind_ready, kind_wide}
use Rattle.qpu_asm.proofs.disassembler.put_word.Goals as goal

pub put_kind-requires-clause-ready : goal.put_kind-requires-clause-ready
put_kind-requires-clause-ready c = ap (λ kind. are_ready kind.rows) c.kind_of.ensures ∙ kind_ready c.args.word

pub put_kind-requires-clause-wide : goal.put_kind-requires-clause-wide
put_kind-requires-clause-wide c = subst (λ kind. width_of (widths_of kind.rows) ≤ 64) (sym c.kind_of.ensures) (kind_wide c.args.word)
