use Rattle.std.proofs.Common.{◌≤◌, length, take, vec_capacity}
use Rattle.sketch_base.specs.Pairs.{SamePairs}
use Rattle.sketch_req.specs.Pairs.{pairs_of}
use Rattle.sketch_req.proofs.sketch.queries.weigh_levels.Given as goal

abbrev pub invariant-loop-level : goal.invariant-loop-level
invariant-loop-level g l = record {
  same : SamePairs g.T.Ord.cmp (pairs_of (take l.level-index l.levels)) l.weighted.items;
  room : length (pairs_of l.levels) ≤ vec_capacity l.weighted;
}
