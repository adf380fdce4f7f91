use Rattle.std.proofs.Common.{arith, ℕ, List, ap, length, subst, sym}
use Rattle.sketch_base.specs.Pairs.{SamePairs}
use Rattle.sketch_base.proofs.calls.Calls.{returned, with_error}
use Rattle.sketch_base.proofs.views.Built.{alike-length}
use Rattle.sketch_req.proofs.views.Views.{pairs-more, pairs-room}
use Rattle.sketch_req.proofs.sketch.queries.weigh_levels.Goals as goal

pub push_clones-requires-clause-room : goal.push_clones-requires-clause-room
push_clones-requires-clause-room g c =
    let i = c.loop-level.invariant in
    let room = pairs-room c.args.levels.now c.loop-level.level-index c.level-item.result c.loop-level-test.true c.level-item.is in
    omega (arith, room, i.room, ap length c.items_slice.ensures.value, alike-length g.T.Ord.cmp _ _ i.same, c.loop-level.weighted.ok.0)

pub returns-in_err-push_clones-clause-some : goal.returns-in_err-push_clones-clause-some
returns-in_err-push_clones-clause-some g c =
    let room = pairs-room c.args.levels.now c.loop-level.level-index c.level-item.result c.loop-level-test.true c.level-item.is in
    let some = c.in_err-push_clones.ensures.some in
    with_error _ (returned _ _ c.from_residual-in_err-push_clones.ensures.1) (omega (arith, room, some, ap length c.items_slice.ensures.value))

pub loop-level-preserved : goal.loop-level-preserved
loop-level-preserved g c =
    let i = c.loop-level.invariant in
    let more = pairs-more c.args.levels.now c.loop-level.level-index c.level-item.result c.loop-level-test.true c.level-item.is _ _ c.weight.ensures.value c.items_slice.ensures.value in
    record {
      same = subst (λ (pairs : List (g.row.T.Denot × ℕ)). SamePairs g.T.Ord.cmp pairs c.push_clones.new.weighted.items) (sym more)
          (c.in_ok-push_clones.ensures.pushed _ i.same);
      room = omega (arith, c.push_clones.ensures.capacity, i.room);
    }
