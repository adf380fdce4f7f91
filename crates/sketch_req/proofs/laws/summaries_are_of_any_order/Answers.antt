use Rattle.sketch_req.proofs.tails.Summaries.{any-order, smaller-tail}
use Rattle.sketch_req.proofs.laws.summaries_are_of_any_order.Goals as goal

pub returns : goal.returns
returns g c = record {
  order = any-order g.met.T.Ord.total;
  smaller = smaller-tail g.met.T.Ord.total;
}
