use Rattle.std.proofs.Common.{◌≡◌, ◌+◌, ◌-◌, ◌≤◌, ◌++◌, get_or, length, take, drop, reverse, vec_capacity}
use Rattle.sketch_kll.specs.Flat.{levels_in}
use Rattle.sketch_kll.proofs.merges.Joined.{AreJoining}
use Rattle.sketch_kll.proofs.levels.merging.merge_runs_back.Given as goal

abbrev pub invariant-loop-level : goal.invariant-loop-level
invariant-loop-level g l = record {
  within : 1 ≤ l.level;
  below : get_or l.bounds l.level 0 ≤ length l.items.items;
  count : length l.merged.items + length l.items.items + length l.upper.items ≡ length l.fn.items.items + length l.fn.upper.items;
  capacity : vec_capacity l.merged ≡ vec_capacity l.fn.merged;
  joining : AreJoining g.T.Ord.cmp (l.level - 1) (levels_in l.fn.items.items l.bounds) (levels_in l.fn.upper.items (drop 1 l.other_bounds))
      (take (get_or l.bounds l.level 0) l.items.items) l.upper.items (l.merged.items ++ reverse (drop (get_or l.bounds l.level 0) l.items.items));
}
