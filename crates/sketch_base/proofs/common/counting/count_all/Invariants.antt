use Rattle.std.proofs.Common.{◌≡◌, take, count_by}
use Rattle.sketch_base.specs.Query.{counted}
use Rattle.sketch_base.proofs.common.counting.count_all.Given as goal

abbrev pub invariant-loop-item : goal.invariant-loop-item
invariant-loop-item g l = l.count ≡ count_by (counted g.T.Ord.cmp l.query l.fn.criteria) (take l.item-index l.items)
