-- The words of the source stand, with the samples so far moved; and then with the address words so far.
use Rattle.std.proofs.Common.{◌≡◌}
use Rattle.field_words.specs.{WordBytes.word_bytes, Writes.with_bytes}
use Rattle.qpu_isa.specs.Shader.{shader_view}
use Rattle.shader_records.specs.Emission.{moved_word, addressed_word}
use Rattle.shader_records.proofs.stream_text.put_words.Given as goal

abbrev pub invariant-loop-i : goal.invariant-loop-i
invariant-loop-i l = l.out ≡ with_bytes l.fn.out l.fn.stream.base (word_bytes (moved_word l.fn.inputs l.fn.stream.from (shader_view l.fn.info) l.i) l.fn.info.uniforms)

abbrev pub invariant-loop-j : goal.invariant-loop-j
invariant-loop-j l = l.out ≡ with_bytes l.fn.out l.fn.stream.base (word_bytes (addressed_word l.fn.inputs l.fn.stream.from (shader_view l.fn.info) l.fn.stream.place l.j) l.fn.info.uniforms)
