-- The lines of the spans so far are appended.
use Rattle.std.proofs.Common.{◌≡◌, length, take}
use Rattle.std.specs.Io.KnownBytes.{Appends}
use Rattle.dumper.specs.{Parts.parts_text, Spans.parts_of}
use Rattle.commands.proofs.reply.write_spans.Given as goal

abbrev pub invariant-loop-span : goal.invariant-loop-span
invariant-loop-span g l = record {
  written : Appends (g.K.Sink.held l.initial.sink) (g.K.Sink.held l.sink) (parts_text (take l.span-index (parts_of l.spans)));
  steady : g.K.Sink.faults l.sink ≡ g.K.Sink.faults l.initial.sink;
  room : length l.piece ≡ 65536;
}
