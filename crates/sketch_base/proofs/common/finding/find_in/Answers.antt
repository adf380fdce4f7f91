use Rattle.std.proofs.Common.{ℕ, ◌≤◌, ◌<◌, subst}
use Rattle.sketch_base.specs.Bag.{expanded, repeated}
use Rattle.sketch_base.proofs.views.Entries.{item-enclosed}
use Rattle.sketch_base.proofs.order.Order.{IsSorted-sort}
use Rattle.sketch_base.proofs.common.finding.find_in.Goals as goal

pub returns-then-place-rank_weight : goal.returns-then-place-rank_weight
returns-then-place-rank_weight g c =
    let bag = g.S.Ranked.bag c.args.sketch.now in
    item-enclosed g.met.T.Ord.total (expanded g.T.Ord.cmp bag) c.in-Some.item.now c.args.place (IsSorted-sort g.T.Ord.cmp g.met.T.Ord.total (repeated 0 bag.levels))
    (subst (λ (w : ℕ). w ≤ c.args.place) c.rank_weight.ensures c.if-rank_weight-place.true)
    (subst (λ (w : ℕ). c.args.place < w) c.rank_weight-then-rank_weight-place.ensures c.if-place-rank_weight.true)
