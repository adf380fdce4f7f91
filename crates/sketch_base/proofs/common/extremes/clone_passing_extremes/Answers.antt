use Rattle.std.proofs.Common.{refl}
use Rattle.sketch_base.proofs.order.Extremes.{least_kept, least_with_all, greatest_kept, greatest_with_all}
use Rattle.sketch_base.proofs.common.extremes.clone_passing_extremes.Goals as goal

pub returns-then-are_within : goal.returns-then-are_within
returns-then-are_within g c = record {
  least = least_kept g.met.T.Ord.total c.args.least.now c.args.items.now (c.if-are_within.ensures.least refl);
  greatest = greatest_kept g.met.T.Ord.total c.args.greatest.now c.args.items.now (c.if-are_within.ensures.greatest refl);
}

pub returns : goal.returns
returns g c = record {
  least = least_with_all g.met.T.Ord.total _ c.args.least.now _ c.args.items.now c.least_of.ensures c.in_ok-new_least.ensures.least;
  greatest = greatest_with_all g.met.T.Ord.total _ c.args.greatest.now _ c.args.items.now c.greatest_of.ensures c.in_ok-new_greatest.ensures.greatest;
}
