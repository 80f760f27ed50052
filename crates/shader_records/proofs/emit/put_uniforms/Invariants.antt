-- The streams of the states so far stand.
use Rattle.std.proofs.Common.{◌≡◌}
use Rattle.field_words.specs.Writes.{with_bytes}
use Rattle.shader_records.specs.{Sources.record_source, Sources.uniform_source, Sources.stream_offset, Emission.uniforms_text}
use Rattle.shader_records.proofs.emit.put_uniforms.Given as goal

abbrev pub invariant-loop-k : goal.invariant-loop-k
invariant-loop-k l =
    record {
      text : l.out ≡ with_bytes l.fn.out l.fn.base (uniforms_text l.fn.inputs l.fn.first l.k);
      at : l.at ≡ record_source l.fn.inputs l.k;
      from : l.from ≡ uniform_source l.fn.inputs l.k;
      done : l.done ≡ stream_offset l.fn.inputs l.k;
    }
