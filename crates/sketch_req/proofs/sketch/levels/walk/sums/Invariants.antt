use Rattle.std.proofs.Common.{◌≡◌, ◌*◌, ◌≤◌, ℕ, take}
use Rattle.sketch_req.specs.Schedule.{layouts_of, retained_of, nominal_sum}
use Rattle.sketch_req.specs.Walk.{AreLevels}
use Rattle.sketch_req.specs.declared.RankAccuracy.{RankAccuracy}
use Rattle.sketch_req.proofs.sketch.levels.walk.sums.Given as goal

abbrev pub invariant-loop-level : goal.invariant-loop-level
invariant-loop-level g l = record {
  count : l.count ≡ retained_of (layouts_of (take l.level-index l.fn.levels));
  sum : (k : ℕ) (accuracy : RankAccuracy) → AreLevels g.T.Ord.cmp k accuracy 0 l.fn.levels → l.sum ≡ nominal_sum k (layouts_of (take l.level-index l.fn.levels));
  few : l.count ≤ l.level-index * 4294967295;
  small : l.sum ≤ l.level-index * 4294967295;
}
