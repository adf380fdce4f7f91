use Rattle.std.proofs.Common.{arith}
use Rattle.sketch_base.specs.Query.{counted}
use Rattle.sketch_req.specs.Level.{criteria_of}
use Rattle.sketch_req.proofs.views.Views.{more_weight}
use Rattle.sketch_req.proofs.sketch.queries.weight_counted.Goals as goal

pub overflow_mul-weight : goal.overflow_mul-weight
overflow_mul-weight g c =
    let m = more_weight (counted g.T.Ord.cmp c.args.item.now (criteria_of c.args.inclusive)) _ _ _ _ _ c.loop-level-test.true c.loop-level.invariant.within
    c.loop-level.invariant.so_far c.index-levels-level.is c.count_below.ensures.value in
    omega (arith, m.1, c.requires)

pub overflow_add-weight : goal.overflow_add-weight
overflow_add-weight g c =
    let m = more_weight (counted g.T.Ord.cmp c.args.item.now (criteria_of c.args.inclusive)) _ _ _ _ _ c.loop-level-test.true c.loop-level.invariant.within
    c.loop-level.invariant.so_far c.index-levels-level.is c.count_below.ensures.value in
    omega (arith, m.1, c.requires)
