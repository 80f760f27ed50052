-- The records of the states so far stand.
use Rattle.std.proofs.Common.{◌≡◌}
use Rattle.field_words.specs.Writes.{with_bytes}
use Rattle.shader_records.specs.{Sources.record_source, Sources.record_offset, Sources.stream_offset, Emission.records_text}
use Rattle.shader_records.proofs.emit.put_records.Given as goal

abbrev pub invariant-loop-k : goal.invariant-loop-k
invariant-loop-k l =
    record {
      text : l.out ≡ with_bytes l.fn.out l.fn.base (records_text l.fn.inputs l.fn.first l.k);
      at : l.at ≡ record_source l.fn.inputs l.k;
      given : l.given ≡ stream_offset l.fn.inputs l.k;
      done : l.done ≡ record_offset l.fn.inputs l.k;
    }
