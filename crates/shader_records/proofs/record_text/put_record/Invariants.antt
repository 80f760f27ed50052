-- The words of the source stand; then with those of the shaders so far, and then of the attributes so far, as they are emitted.
use Rattle.std.proofs.Common.{◌≡◌, ◌+◌, ◌*◌, ◌/◌}
use Rattle.packets.specs.StateWord.{record_room}
use Rattle.field_words.specs.{WordBytes.word_bytes, Writes.with_bytes}
use Rattle.shader_records.specs.Emission.{stream_place}
use Rattle.shader_records.proofs.RecordWords.{done_word}
use Rattle.shader_records.proofs.record_text.put_record.Given as goal

abbrev pub invariant-loop-s : goal.invariant-loop-s
invariant-loop-s l =
    l.out ≡ with_bytes l.fn.out l.fn.base (word_bytes (done_word l.fn.inputs l.fn.source.at l.fn.source.state (stream_place l.fn.inputs l.fn.source.at l.fn.first) (3 * l.s)) (record_room l.fn.source.state / 4))

abbrev pub invariant-loop-t : goal.invariant-loop-t
invariant-loop-t l =
    l.out ≡ with_bytes l.fn.out l.fn.base (word_bytes (done_word l.fn.inputs l.fn.source.at l.fn.source.state (stream_place l.fn.inputs l.fn.source.at l.fn.first) (9 + 2 * l.t)) (record_room l.fn.source.state / 4))
