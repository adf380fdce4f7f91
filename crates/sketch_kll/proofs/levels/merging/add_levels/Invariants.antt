use Rattle.std.proofs.Common.{◌≡◌, ◌++◌, ◌-◌, ◌≤◌, length, max, replicate, vec_capacity}
use Rattle.sketch_kll.proofs.levels.merging.add_levels.Given as goal

abbrev pub invariant-loop-bounds : goal.invariant-loop-bounds
invariant-loop-bounds l = record {
  items : l.bounds.items ≡ l.initial.bounds.items ++ replicate (length l.bounds.items - length l.initial.bounds.items) 0;
  more : length l.initial.bounds.items ≤ length l.bounds.items;
  most : length l.bounds.items ≤ max l.len (length l.initial.bounds.items);
  capacity : vec_capacity l.bounds ≡ vec_capacity l.initial.bounds;
}

abbrev pub decreases-loop-bounds : goal.decreases-loop-bounds
decreases-loop-bounds l = l.len - length l.bounds.items
