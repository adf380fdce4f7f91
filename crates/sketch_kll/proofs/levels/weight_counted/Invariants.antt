use Rattle.std.proofs.Common.{◌≡◌, ◌<◌, drop, length}
use Rattle.sketch_kll.specs.Flat.{levels_in}
use Rattle.sketch_base.specs.Query.{counted}
use Rattle.sketch_kll.specs.Rank.{counted_weight}
use Rattle.sketch_kll.proofs.levels.weight_counted.Given as goal

abbrev pub invariant-loop-level : goal.invariant-loop-level
invariant-loop-level g l = record {
  within : l.level < length l.bounds;
  some : 0 < l.level;
  so_far : l.weight ≡ counted_weight (counted g.T.Ord.cmp l.query l.criteria) (drop l.level (levels_in l.items l.bounds));
}

abbrev pub decreases-loop-level : goal.decreases-loop-level
decreases-loop-level g l = l.level
