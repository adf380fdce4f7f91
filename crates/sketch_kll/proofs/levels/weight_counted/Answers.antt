use Rattle.std.proofs.Common.{◌≡◌, ◌≤◌, ◌+◌, ◌*◌, ◌-◌, List, drop, arith, refl}
use Rattle.sketch_base.specs.Query.{counted}
use Rattle.sketch_kll.specs.Flat.{levels_in}
use Rattle.sketch_kll.specs.Levels.{weight_in}
use Rattle.sketch_kll.specs.Rank.{counted_weight}
use Rattle.sketch_kll.proofs.layout.Flats.{length-bounds}
use Rattle.sketch_kll.proofs.views.Views.{more_weight}
use Rattle.sketch_kll.proofs.levels.weight_counted.Goals as goal
use Rattle.sketch_kll.proofs.levels.weight_counted.Goals.{After-count_in_order-counted, After-count_all}

-- one more level: what is counted so far, and that it is at most the weight
counted_next : (g : _) (c : After-count_in_order-counted g) →
    (2 * c.loop-level.weight + c.count_in_order-counted.result
    ≡ counted_weight (counted g.T.Ord.cmp c.args.query.now c.args.criteria) (drop (c.loop-level.level - 1) (levels_in c.args.items.now c.args.bounds.now)))
    × (2 * c.loop-level.weight + c.count_in_order-counted.result ≤ weight_in (levels_in c.args.items.now c.args.bounds.now))
counted_next g c =
    let n = length-bounds c.args.items.now c.args.bounds.now c.requires.flat in
    more_weight _ (levels_in c.args.items.now c.args.bounds.now) c.loop-level.level c.loop-level.weight c.level_slice.result.now _
    (omega arith) (omega (arith, n, c.loop-level.invariant.within)) c.loop-level.invariant.so_far c.level_slice.ensures c.count_in_order-counted.ensures.count

-- level 0 comes last
counted_last : (g : _) (c : After-count_all g) →
    (2 * c.loop-level.weight + c.count_all.result ≡ counted_weight (counted g.T.Ord.cmp c.args.query.now c.args.criteria) (levels_in c.args.items.now c.args.bounds.now))
    × (2 * c.loop-level.weight + c.count_all.result ≤ weight_in (levels_in c.args.items.now c.args.bounds.now))
counted_last g c =
    let n = length-bounds c.args.items.now c.args.bounds.now c.requires.flat in
    let ls : List (List g.row.T.Denot) = levels_in c.args.items.now c.args.bounds.now in
    let zero_is : c.loop-level.level - 1 ≡ 0 = omega (arith, c.loop-level.invariant.some, c.loop-level-test.false) in
    rw zero_is at (more_weight _ ls c.loop-level.level c.loop-level.weight c.level_slice-2.result.now _
    c.loop-level.invariant.some (omega (arith, n, c.loop-level.invariant.within)) c.loop-level.invariant.so_far (rw zero_is c.level_slice-2.ensures) c.count_all.ensures)

pub overflow_mul-weight : goal.overflow_mul-weight
overflow_mul-weight g c = omega (arith, (counted_next g c).1, c.requires.fits)

pub overflow_add-weight : goal.overflow_add-weight
overflow_add-weight g c = omega (arith, (counted_next g c).1, c.requires.fits)

pub overflow_mul-result : goal.overflow_mul-result
overflow_mul-result g c =
    let n = length-bounds c.args.items.now c.args.bounds.now c.requires.flat in
    let ls : List (List g.row.T.Denot) = levels_in c.args.items.now c.args.bounds.now in
    let last = more_weight (counted g.T.Ord.cmp c.args.query.now c.args.criteria) ls c.loop-level.level c.loop-level.weight _ _
    c.loop-level.invariant.some (omega (arith, n, c.loop-level.invariant.within)) c.loop-level.invariant.so_far refl refl in
    omega (arith, last.1, c.requires.fits)

pub overflow_add-result : goal.overflow_add-result
overflow_add-result g c = omega (arith, (counted_last g c).1, c.requires.fits)
