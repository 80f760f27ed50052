use Rattle.std.proofs.Common.{◌≡◌, ◌∷◌, [], ◌++◌, suc, length, length-append, drop, get_or, map, sym, ap, subst, ◌∙◌, arith}
use Rattle.std.proofs.lemmas.List.{take_all}
use Rattle.buffer_table.specs.Table.{no_buffer}
use Rattle.job_check.specs.Emit.{content_parts}
use Rattle.dumper.specs.{Parts.part_at, Parts.part_inserted, Parts.parts_sorted, Spans.parts_of}
use Rattle.commands.proofs.Images.{first_part, one_more, rest_taken, last_taken}
use Rattle.commands.proofs.check.spans_of.Goals as goal

pub loop-content-init : goal.loop-content-init
loop-content-init c =
    let a = c.args in
    let n = length a.contents.items in
    let lists = part_at a.place a.lists.items in record {
      few = omega (arith, c.requires);
      rest = sym (take_all n a.contents.items (omega arith));
      spans =
          c.in_ok-insert_span.ensures
          ∙ ap (λ spans. part_inserted lists (parts_of spans)) c.new-spans.ensures.items
          ∙ first_part (λ v. v.now) a.buffers.now a.contents.items n lists (omega (arith, c.requires));
    }

pub loop-content-preserved : goal.loop-content-preserved
loop-content-preserved c =
    let a = c.args in
    let all = a.contents.items in
    let old = c.loop-content.contents.items in
    let new = c.pop.new.self.items in
    let x = c.in-Some.content in
    let lists = part_at a.place a.lists.items ∷ [] in
    let is : old ≡ new ++ x ∷ [] = c.in-Some.ensures.items in
    let longer : length old ≡ suc (length new) = omega (arith, ap length is, length-append new (x ∷ [])) in
    let left = c.loop-content.invariant.rest in
    let others = parts_of c.loop-content.spans.items in
    let put : parts_of c.insert_span-in-Some.new.spans.items ≡ part_inserted (part_at (get_or a.buffers.now (length new) no_buffer).place x.now) others =
    c.in_ok-insert_span-2.ensures ∙ ap (λ n. part_inserted (part_at (get_or a.buffers.now n no_buffer).place x.now) others) (c.len.ensures ∙ c.pop.new.self.ok.0) in
    let are = subst (λ n. parts_of c.loop-content.spans.items ≡ parts_sorted (content_parts (drop n a.buffers.now) (map (λ v. v.now) (drop n all)) ++ lists)) longer c.loop-content.invariant.spans in record {
      few = omega (arith, longer, c.loop-content.invariant.few);
      rest = rest_taken all old new x left is;
      spans = one_more (λ v. v.now) a.buffers.now all (length new) no_buffer x lists others (parts_of c.insert_span-in-Some.new.spans.items) (omega (arith, longer, c.loop-content.invariant.few))
          (last_taken all old new x left is) are put;
    }
