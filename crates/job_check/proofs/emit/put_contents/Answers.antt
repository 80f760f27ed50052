use Rattle.std.proofs.Common.{◌≡◌, ℕ, ◌+◌, ◌<◌, ◌≤◌, length, get_or, map, drop, sym, ap, arith, ◌∙◌}
use Rattle.buffer_table.specs.Table.{no_buffer}
use Rattle.field_words.specs.Writes.{parts_placed, with_bytes}
use Rattle.job_check.specs.Emit.{content_parts}
use Rattle.job_check.proofs.Parts.{parts_step, fit_step, same_size}
use Rattle.job_check.proofs.emit.put_contents.Goals as goal

pub put_content-requires : goal.put_content-requires
put_content-requires c =
    let inside : c.loop-k.k < length c.args.contents.now.items = omega (arith, c.requires.each, c.loop-k-test.true) in
    let fit = fit_step (length c.args.memory.now) (λ v. v.now) c.args.buffers.now c.args.contents.now.items c.loop-k.k no_buffer c.index.result.now
    c.loop-k-test.true inside c.index.ensures c.loop-k.invariant.fit in
    omega (arith, fit.0, c.loop-k.invariant.long)

pub loop-k-preserved : goal.loop-k-preserved
loop-k-preserved c =
    let inside : c.loop-k.k < length c.args.contents.now.items = omega (arith, c.requires.each, c.loop-k-test.true) in
    let fit = fit_step (length c.args.memory.now) (λ v. v.now) c.args.buffers.now c.args.contents.now.items c.loop-k.k no_buffer c.index.result.now
    c.loop-k-test.true inside c.index.ensures c.loop-k.invariant.fit in
    let parts = parts_step (λ v. v.now) c.args.buffers.now c.args.contents.now.items c.loop-k.k no_buffer c.index.result.now
    c.loop-k-test.true inside c.index.ensures in
    let place : ℕ = (get_or c.args.buffers.now c.loop-k.k no_buffer).place in
    let put : c.put_content.new.memory ≡ with_bytes c.loop-k.memory place c.index.result.now.now =
    c.put_content.ensures in
    let room : place + length c.index.result.now.now ≤ length c.loop-k.memory = omega (arith, fit.0, c.loop-k.invariant.long) in
    let rest = map (λ v. v.now) (drop (c.loop-k.k + 1) c.args.contents.now.items) in
    record {
      rest =
          ap (λ m. parts_placed m (content_parts (drop (c.loop-k.k + 1) c.args.buffers.now) rest)) put
          ∙ sym (ap (parts_placed c.loop-k.memory) parts) ∙ c.loop-k.invariant.rest;
      fit = fit.1;
      long = ap length put ∙ same_size c.loop-k.memory place c.index.result.now.now (length c.args.memory.now) room c.loop-k.invariant.long;
    }
