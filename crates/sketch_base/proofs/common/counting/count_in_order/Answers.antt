use Rattle.std.proofs.Common.{of_calls, rules}
use Rattle.std.proofs.lemmas.List.Sorted.{IsPartitionPoint-from_clause}
use Rattle.sketch_base.specs.Query.{counted}
use Rattle.sketch_base.proofs.order.Order.{counted-parts}
use Rattle.sketch_base.proofs.views.Entries.{counted-parted}
use Rattle.sketch_base.proofs.common.counting.count_in_order.Goals as goal

pub returns : goal.returns
returns g c =
    let test = counted g.T.Ord.cmp c.args.query.now c.args.criteria in
    let within = c.partition_point.ensures.bound in
    let parts = IsPartitionPoint-from_clause test c.args.items.now c.partition_point.result c.partition_point.ensures.partitioned
    (counted-parted g.met.T.Ord.total c.args.items.now c.args.query.now c.args.criteria c.requires.sorted) (λ a r q k. search (rules, of_calls)) in
    record { within = within; parts = parts; count = counted-parts test c.args.items.now c.partition_point.result within parts }
