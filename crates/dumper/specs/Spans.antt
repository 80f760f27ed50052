-- Spans as parts of a memory.
use Rattle.std.specs.{Prelude.List, Prelude.map, Cow.cow_slice_items}
use Rattle.field_words.specs.Writes.{Part}
use Rattle.dumper.specs.declared.span.Span.{Span}

abbrev pub part_of : Span → Part
part_of span = record { place = span.place; bytes = cow_slice_items span.bytes }

abbrev pub parts_of : List Span → List Part
parts_of spans = map part_of spans
