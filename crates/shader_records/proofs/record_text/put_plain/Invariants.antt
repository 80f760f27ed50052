-- The words so far stand, and those of the source are among them.
use Rattle.std.proofs.Common.{◌≡◌, ◌≤◌, ◌*◌, ◌/◌}
use Rattle.packets.specs.StateWord.{record_size, record_room}
use Rattle.field_words.specs.{WordBytes.word_bytes, Writes.with_bytes}
use Rattle.shader_records.specs.Emission.{plain_word}
use Rattle.shader_records.proofs.record_text.put_plain.Given as goal

abbrev pub invariant-loop-i : goal.invariant-loop-i
invariant-loop-i l =
    record {
      text : l.out ≡ with_bytes l.fn.out l.fn.base (word_bytes (plain_word l.fn.inputs l.fn.source.at l.fn.source.state) l.i);
      past : record_size l.fn.source.state ≤ 4 * l.i;
      inside : l.i ≤ record_room l.fn.source.state / 4;
    }
