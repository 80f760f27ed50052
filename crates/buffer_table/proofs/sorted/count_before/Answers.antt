-- Their ends don't fall.
use Rattle.std.proofs.Common.{List, leb, rules}
use Rattle.std.proofs.lemmas.List.Sorted.{IsPartitionPoint-from_clause, IsPartitionedBy-leb}
use Rattle.buffer_table.specs.{declared.item.Item.Item, Order.end_in, Table.items_of}
use Rattle.buffer_table.proofs.sorted.count_before.Goals as goal

pub returns : goal.returns
returns c =
    let items : List Item = items_of c.args.regions.now c.args.buffers.now in
    let parted = IsPartitionedBy-leb (end_in items) _ c.args.place c.requires.ordered.ends in (
      c.partition_point.ensures.bound,
      IsPartitionPoint-from_clause (λ k. leb (end_in items k) c.args.place) _ _ c.partition_point.ensures.partitioned parted (λ a r q k. search rules),
    )
