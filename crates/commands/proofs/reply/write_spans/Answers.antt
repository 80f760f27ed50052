use Rattle.std.proofs.Common.{◌<◌, ◌^◌, ℕ, suc, take, drop, refl, sym, subst, ◌∙◌, arith, add-one}
use Rattle.std.proofs.lemmas.List.{length-replicate}
use Rattle.std.specs.Io.KnownBytes.{Appends}
use Rattle.job_io.specs.Traffic.{AppendsFront}
use Rattle.field_words.specs.Sizes.{most_memory}
use Rattle.dumper.specs.{Parts.part_at, Parts.part_end, Parts.part_text, Parts.parts_text, Spans.part_of, Spans.parts_of}
use Rattle.dumper.proofs.Inserting.{text_more, text_split, span_end}
use Rattle.commands.proofs.Appending.{none_appended, both_appended, front_of_first, front_of_second, on_err}
use Rattle.commands.proofs.reply.write_spans.Goals as goal

pub write_part-requires-clause-room : goal.write_part-requires-clause-room
write_part-requires-clause-room g c = omega (arith, c.loop-span.invariant.room)

pub loop-span-init : goal.loop-span-init
unfolding parts_text
loop-span-init g c = record { written = none_appended (g.K.Sink.held c.args.sink.now); steady = refl; room = length-replicate {A = ℕ} 65536 0 }

pub write_part-requires-clause-end : goal.write_part-requires-clause-end
write_part-requires-clause-end g c =
    let x = c.span-item.result in
    let ends = span_end c.args.spans.now 0 most_memory c.loop-span.span-index x c.requires c.loop-span-test.true c.span-item.is in
    let small : part_end (part_of x) < 2 ^ 32 = omega (arith, ends) in
    subst (λ bytes. part_end (part_at x.place bytes) < 2 ^ 32) (sym c.as_slice.ensures.value) small

pub returns-in_err-write_part-clause-cut : goal.returns-in_err-write_part-clause-cut
returns-in_err-write_part-clause-cut g c =
    let x = c.span-item.result in
    let i = c.loop-span.span-index in
    let parts = parts_of c.args.spans.now in
    let before = g.K.Sink.held c.args.sink.now in
    let mid = g.K.Sink.held c.loop-span.sink in
    let now = g.K.Sink.held c.write_part.new.sink in
    let one : AppendsFront mid now (part_text (part_of x)) =
    subst (λ bytes. AppendsFront mid now (part_text (part_at x.place bytes))) c.as_slice.ensures.value c.in_err-write_part.ensures.cut in
    let both = front_of_second before mid now (parts_text (take i parts)) (part_text (part_of x)) c.loop-span.invariant.written one in
    let upto = subst (AppendsFront before now) (text_more c.args.spans.now i x c.loop-span-test.true c.span-item.is) both in
    let all = front_of_first before now (parts_text (take (suc i) parts)) (parts_text (drop (suc i) parts)) upto in
    on_err c.from_residual.result (subst (AppendsFront before now) (sym (text_split parts (suc i))) all)

pub loop-span-preserved : goal.loop-span-preserved
loop-span-preserved g c =
    let x = c.span-item.result in
    let i = c.loop-span.span-index in
    let parts = parts_of c.args.spans.now in
    let before = g.K.Sink.held c.args.sink.now in
    let mid = g.K.Sink.held c.loop-span.sink in
    let now = g.K.Sink.held c.write_part.new.sink in
    let one : Appends mid now (part_text (part_of x)) =
    subst (λ bytes. Appends mid now (part_text (part_at x.place bytes))) c.as_slice.ensures.value c.in_ok-write_part.ensures.written in
    let both = both_appended before mid now (parts_text (take i parts)) (part_text (part_of x)) c.loop-span.invariant.written one in
    let upto : Appends before now (parts_text (take (suc i) parts)) = subst (Appends before now) (text_more c.args.spans.now i x c.loop-span-test.true c.span-item.is) both in record {
      written = subst (λ n. Appends before now (parts_text (take n parts))) (sym (add-one i)) upto;
      steady = c.in_ok-write_part.ensures.steady ∙ c.loop-span.invariant.steady;
      room = c.in_ok-write_part.ensures.long ∙ c.loop-span.invariant.room;
    }
