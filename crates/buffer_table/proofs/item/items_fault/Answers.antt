-- An item without a fault leaves the decision to those after it; the first fault ends it.
use Rattle.std.proofs.Common.{List, ◌<◌, ◌≤◌, ◌≡◌, ◌+◌, ℕ, None, length, insert, sym, ap, subst, ◌∙◌, arith}
use Rattle.field_words.specs.Questions.{first_of}
use Rattle.field_words.proofs.Questions.{each_on, each_stop, each_end}
use Rattle.buffer_table.specs.{declared.item.Item.Item, Order.IsOrder, Order.IsSplit, Order.place_in, Table.item_questions, Table.items_of}
use Rattle.buffer_table.proofs.{Sounds.length_items, Ordered.ordered_more}
use Rattle.buffer_table.proofs.item.items_fault.Goals as goal

pub returns-in-Some : goal.returns-in-Some
returns-in-Some c =
    let items : List Item = items_of c.args.regions.now c.args.buffers.now in
    let inside : c.loop-k.k < length items = omega (arith, length_items c.args.regions.now c.args.buffers.now, c.loop-k-test.true) in
    let here = c.item_fault.ensures ∙ ap (λ k. first_of (item_questions c.args.mem_size items k)) (ap length c.as_slice-in-loop-k.ensures.value ∙ c.loop-k.invariant.long) in
    sym (each_stop (item_questions c.args.mem_size items) c.loop-k.k (length items) c.in-Some.fault inside (sym here ∙ c.in-Some.is)) ∙ c.loop-k.invariant.same

pub loop-k-preserved : goal.loop-k-preserved
loop-k-preserved c =
    let items : List Item = items_of c.args.regions.now c.args.buffers.now in
    let numbers : List ℕ = c.loop-k.order.items in
    let long = c.loop-k.invariant.long in
    let at = c.count_before-at.result in
    let inside : c.loop-k.k < length items = omega (arith, length_items c.args.regions.now c.args.buffers.now, c.loop-k-test.true) in
    let place : c.item_at-place.result.place ≡ place_in items (length numbers) = ap (λ (x : Item). x.place) c.item_at-place.ensures ∙ ap (place_in items) (sym long) in
    let split : IsSplit items numbers (place_in items (length numbers)) at =
    subst (λ p. IsSplit items numbers p at) place (subst (λ lent. IsSplit items lent c.item_at-place.result.place at) c.as_slice.ensures.value c.count_before-at.ensures) in
    let none : first_of (item_questions c.args.mem_size items (length numbers)) ≡ None =
    ap (λ lent. first_of (item_questions c.args.mem_size items (length lent))) (sym c.as_slice-in-loop-k.ensures.value) ∙ (sym c.item_fault.ensures ∙ c.in_default.is) in
    record {
      long = c.insert.ensures.len ∙ ap (λ k. k + 1) long;
      ordered = subst (IsOrder items) (sym (c.insert.ensures.items ∙ ap (insert numbers at) (sym long)))
          (ordered_more c.args.mem_size items numbers at c.loop-k.invariant.ordered (omega (arith, long, inside)) split none);
      same = each_on (item_questions c.args.mem_size items) c.loop-k.k (length items) inside (subst (λ k. first_of (item_questions c.args.mem_size items k) ≡ None) long none)
          ∙ c.loop-k.invariant.same;
    }

pub returns : goal.returns
returns c =
    let items : List Item = items_of c.args.regions.now c.args.buffers.now in
    let past : length items ≤ c.loop-k.k = omega (arith, length_items c.args.regions.now c.args.buffers.now, c.loop-k-test.false) in
    sym (each_end (item_questions c.args.mem_size items) c.loop-k.k (length items) past) ∙ c.loop-k.invariant.same
