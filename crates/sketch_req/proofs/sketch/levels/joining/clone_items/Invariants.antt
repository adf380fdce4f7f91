use Rattle.std.proofs.Common.{◌≡◌, ℕ, ◌<◌, ◌≤◌, length, get_or, vec_len, vec_capacity}
use Rattle.sketch_base.specs.Bag.{level_at}
use Rattle.sketch_req.specs.Arriving.{AreClones}
use Rattle.sketch_req.specs.Merged.{item_lists}
use Rattle.sketch_req.specs.Schedule.{layouts_of, layout_at}
use Rattle.sketch_req.specs.declared.compactor.Arrivals.{Arrivals}
use Rattle.sketch_req.proofs.sketch.levels.joining.clone_items.Given as goal

abbrev pub invariant-loop-level : goal.invariant-loop-level
invariant-loop-level g l = record {
  len : vec_len l.lists ≡ l.level;
  spare : length l.others ≤ vec_capacity l.lists;
  cloned : (h : ℕ) (none : Arrivals g.row.T.Denot) → h < l.level →
      AreClones g.T.Ord.cmp (layout_at (layouts_of l.levels) h).count (level_at (item_lists l.others) h) (get_or l.lists.items h none);
}
