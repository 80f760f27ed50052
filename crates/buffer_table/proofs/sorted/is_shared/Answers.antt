-- Where none ends behind its place, none has a byte of it; else the first that does decides.
use Rattle.std.proofs.Common.{◌≡◌, ◌<◌, ◌≤◌, List, length, slice_index, sym, ap, ◌∙◌, arith}
use Rattle.std.proofs.lemmas.{Bool.ltb-true, Bool.ltb-false, List.get_or_default}
use Rattle.buffer_table.specs.{declared.item.Item.Item, Order.place_in, Table.items_of}
use Rattle.buffer_table.proofs.Ordered.{none_shares, decides}
use Rattle.buffer_table.proofs.sorted.is_shared.Goals as goal

pub returns-in-None : goal.returns-in-None
returns-in-None c =
    let past : length c.args.order.now ≤ c.args.at = ltb-false _ _ (sym c.in-None.ensures.lookup.0) in
    sym (none_shares (items_of c.args.regions.now c.args.buffers.now) c.args.order.now c.args.at c.args.x.now c.requires.ordered c.requires.split (λ d inside. absurd (omega (arith, past, inside))))

pub returns-in-Some : goal.returns-in-Some
returns-in-Some c =
    let items : List Item = items_of c.args.regions.now c.args.buffers.now in
    let found = c.in-Some.ensures.lookup in
    let inside : c.args.at < length c.args.order.now = ltb-true _ _ (sym found.0) in
    let number : c.from.result ≡ slice_index c.args.order.now c.args.at = c.from.ensures ∙ (found.1 ∙ get_or_default c.args.order.now c.args.at c.in-Some.number.now 0 inside) in
    let place : c.from-in-Some.result ≡ place_in items (slice_index c.args.order.now c.args.at) =
    c.from-in-Some.ensures ∙ (ap (λ (y : Item). y.place) c.item_at.ensures ∙ ap (place_in items) number) in
    rw (place, c.end_of.ensures) (decides items c.args.order.now c.args.at c.args.x.now c.requires.ordered c.requires.split c.requires.some inside)
