use Rattle.std.proofs.Common.{◌≡◌, ◌≤◌, drop, length}
use Rattle.sketch_base.specs.Query.{counted}
use Rattle.sketch_req.specs.Level.{criteria_of}
use Rattle.sketch_req.specs.Rank.{counted_weight}
use Rattle.sketch_req.proofs.sketch.queries.weight_counted.Given as goal

abbrev pub invariant-loop-level : goal.invariant-loop-level
invariant-loop-level g l = record {
  within : l.level ≤ length l.levels;
  so_far : l.weight ≡ counted_weight (counted g.T.Ord.cmp l.item (criteria_of l.inclusive)) (drop l.level l.levels);
}

abbrev pub decreases-loop-level : goal.decreases-loop-level
decreases-loop-level g l = l.level
