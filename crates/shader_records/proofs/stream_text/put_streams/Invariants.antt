-- The streams of the shaders so far stand.
use Rattle.std.proofs.Common.{◌≡◌}
use Rattle.field_words.specs.Writes.{with_bytes}
use Rattle.shader_records.specs.{Sources.taken_before, Sources.given_before, Emission.streams_text}
use Rattle.shader_records.proofs.stream_text.put_streams.Given as goal

abbrev pub invariant-loop-s : goal.invariant-loop-s
invariant-loop-s l =
    record {
      text : l.out ≡ with_bytes l.fn.out l.fn.first.base (streams_text l.fn.inputs l.fn.at l.fn.first.from l.fn.first.place l.s);
      taken : l.taken ≡ taken_before l.fn.inputs l.fn.at l.s;
      given : l.given ≡ given_before l.fn.inputs l.fn.at l.s;
    }
