use Rattle.std.proofs.Common.{◌≡◌, ◌++◌, ◌≤◌, drop, length, reverse, take, vec_capacity}
use Rattle.sketch_base.specs.Bag.{half}
use Rattle.sketch_req.proofs.compaction.take_last.Given as goal

abbrev pub invariant-loop-items : goal.invariant-loop-items
invariant-loop-items g l = record {
  within : l.kept ≤ length l.items.items;
  before : take l.kept l.items.items ≡ take l.kept l.initial.items.items;
  halves : l.out.items ++ half l.skips (reverse (drop l.kept l.items.items)) ≡ half l.initial.skips (reverse (drop l.kept l.initial.items.items));
  room : length (half l.initial.skips (reverse (drop l.kept l.initial.items.items))) ≤ vec_capacity l.out;
}

abbrev pub decreases-loop-items : goal.decreases-loop-items
decreases-loop-items g l = length l.items.items
