use Rattle.std.proofs.Common.{arith, ap, length}
use Rattle.sketch_base.specs.Bag.{level_at}
use Rattle.sketch_req.specs.Arriving.{AreClones}
use Rattle.sketch_req.specs.Merged.{item_lists}
use Rattle.sketch_req.specs.Schedule.{Layout, layouts_of, layout_at}
use Rattle.sketch_req.proofs.merges.Levels.{places-more, items-there, layout-there}
use Rattle.sketch_req.proofs.walks.Walks.{count-within}
use Rattle.sketch_req.proofs.sketch.levels.joining.clone_items.Goals as goal

pub clone_beside-requires-clause-few : goal.clone_beside-requires-clause-few
clone_beside-requires-clause-few g c =
    let at = c.loop-level.level in
    omega (
      arith,
      c.count_at.ensures,
      count-within at (layouts_of c.args.levels.now),
      ap length c.items_slice-items.ensures.value,
      ap (λ (l : Layout). l.count) (layout-there c.args.others.now at c.index-others-level.result c.loop-level-test.true c.index-others-level.is),
      count-within at (layouts_of c.args.others.now),
      c.requires.few,
    )

pub loop-level-preserved : goal.loop-level-preserved
loop-level-preserved g c =
    let i = c.loop-level.invariant in
    let at = c.loop-level.level in
    record {
      len = omega (arith, c.push_reserved.ensures.len, i.len);
      spare = omega (arith, c.push_reserved.ensures.capacity, i.spare);
      cloned = places-more
          (λ h a. AreClones g.T.Ord.cmp (layout_at (layouts_of c.args.levels.now) h).count (level_at (item_lists c.args.others.now) h) a)
          c.loop-level.lists.items _ c.in_ok-clone_beside.field-0 at (omega (arith, c.loop-level.lists.ok, i.len)) c.push_reserved.ensures.items i.cloned
          (rw (
            ← c.count_at.ensures,
            items-there c.args.others.now at c.index-others-level.result c.loop-level-test.true c.index-others-level.is,
            ← c.items_slice-items.ensures.value,
          ) c.in_ok-clone_beside.ensures);
    }
