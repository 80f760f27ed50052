-- The code's tables as the definitions' tables, and what it has read as the definitions' words.
use Rattle.std.specs.{Prelude.ℕ, Prelude.List, Prelude.map, Prelude.Result, BTreeMap.get_by, Cmp.Lexicographic.slice_cmp, Ordering.nat_cmp}
use Rattle.script.specs.{declared.lines.Cut.Cut}
use Rattle.qpu_asm.specs.{declared.fault.Mistake.Mistake, declared.lines.Line.Line, declared.label.Labels.Labels, Items.Spots, Items.read_value}
use Rattle.qpu_asm.specs.{declared.table.Named.Named, declared.table.Row.Row, declared.table.Kind.Kind}
use Rattle.qpu_asm.specs.declared.lines.Line.TheVariants as line
use Rattle.qpu_asm.specs.Lines as lines
use Rattle.qpu_asm.specs.Table as table

abbrev pub named_seen : Named → table.Named
named_seen named = record { name = named.name.now; value = named.value }

abbrev pub row_seen : Row → table.Row
row_seen row = record {
  name = row.name.now;
  width = row.width;
  below = row.below;
  fallback = row.fallback;
  named = map named_seen row.named.now;
  takes_label = row.takes_label;
}

abbrev pub rows_seen : List Row → List table.Row
rows_seen rows = map row_seen rows

abbrev pub kind_seen : Kind → table.Kind
kind_seen kind = record { opcode = kind.opcode.now; above = kind.above; rows = rows_seen kind.rows.now }

-- a line with its items in words
abbrev pub line_seen : Line → lines.Line
line_seen line.Blank = lines.Blank
line_seen (line.Label name) = lines.Label name.now
line_seen line.BadLabel = lines.BadLabel
line_seen (line.Coded cut) = lines.Coded cut.first.now (lines.words_of cut.rest.now)

-- where each label stands
abbrev pub spots_in : Labels → Spots
spots_in labels name = get_by (λ key. slice_cmp nat_cmp name key.now) labels.spots

-- the value of an item that was cut at its `=`, by the row of its name
abbrev pub value_seen : Spots → ℕ → Cut → table.Row → Result ℕ Mistake
value_seen spots index cut = read_value spots index cut.first.now cut.rest.now
