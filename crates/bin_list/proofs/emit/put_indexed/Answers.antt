-- The address is written into the packet that was copied.
use Rattle.std.proofs.Common.{◌≡◌, ◌+◌, arith, ap, ◌∙◌}
use Rattle.std.specs.Int.{to_le_bytes, w32}
use Rattle.field_words.specs.{Words.u32_at, Writes.with_bytes}
use Rattle.bin_list.specs.{Rules.index_buffer, Emitted.index_text}
use Rattle.field_words.proofs.Writes.{with_inner}
use Rattle.bin_list.proofs.emit.put_indexed.Goals as goal

pub returns-clause-text : goal.returns-clause-text
unfolding index_text
returns-clause-text c =
    let out = c.args.out.now in
    let at = c.args.at in
    let packet = c.args.packet.now in
    let address : c.in-Some.buffer.place + c.word_at.result ≡ (index_buffer c.args.given.now c.args.seen.now).place + u32_at packet 6 =
    ap (λ b. b.place + c.word_at.result) c.in-Some.ensures.exact.1 ∙ ap (λ w. (index_buffer c.args.given.now c.args.seen.now).place + w) c.word_at.ensures in
    c.put_u32.ensures
    ∙ ap (λ w. with_bytes w (at + 6) (to_le_bytes w32 (c.in-Some.buffer.place + c.word_at.result))) c.put-end.ensures.text
    ∙ ap (λ n. with_bytes (with_bytes out at packet) (at + 6) (to_le_bytes w32 n)) address
    ∙ with_inner out at packet 6 (to_le_bytes w32 ((index_buffer c.args.given.now c.args.seen.now).place + u32_at packet 6)) c.requires.room (omega arith)
