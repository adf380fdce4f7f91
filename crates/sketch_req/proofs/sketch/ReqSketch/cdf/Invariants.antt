use Rattle.std.proofs.Common.{◌≡◌, ◌<◌, ◌≤◌, length, map, take, vec_capacity, vec_len}
use Rattle.sketch_base.specs.Bag.{expanded}
use Rattle.sketch_base.specs.Query.{true_rank}
use Rattle.sketch_base.specs.Queries.{ranks_of}
use Rattle.sketch_req.specs.Actions.{bag_of}
use Rattle.sketch_req.proofs.sketch.ReqSketch.cdf.Given as goal

abbrev pub invariant-loop-point : goal.invariant-loop-point
invariant-loop-point g l =
    let entries = expanded g.T.Ord.cmp (bag_of l.fn.self.levels) in
    record {
      told : l.ranks.items ≡ ranks_of l.fn.self.n (map (λ y. true_rank g.T.Ord.cmp y l.fn.criteria entries) (take l.point-index l.points));
      len : vec_len l.ranks ≡ l.point-index;
      within : l.point-index ≤ length l.points;
      room : length l.points < vec_capacity l.ranks;
    }
