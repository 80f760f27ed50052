use Rattle.std.proofs.{Common.ap, Common.sym, lemmas.List.get_or_past}
use Rattle.buffer_table.specs.{Table.buffer_at, Table.past_end, declared.buffer.Buffer.Buffer}
use Rattle.pictures.specs.Counts.{kind_column}
use Rattle.pictures.proofs.counts.buffer_column.Goals as goal

pub returns-then-number-buffers-clause-value : goal.returns-then-number-buffers-clause-value
unfolding buffer_at
returns-then-number-buffers-clause-value c =
    ap (λ (b : Buffer). kind_column b.kind) (sym (get_or_past c.args.buffers.now c.args.number past_end c.if-number-buffers.true))
