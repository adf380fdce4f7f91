use Rattle.std.proofs.Common.{◌≡◌, ◌+◌, ◌++◌, ◌≤◌, length}
use Rattle.std.specs.Vec.Iter.{into_iter_items, into_iter_len}
use Rattle.sketch_kll.specs.Levels.{retained_in}
use Rattle.sketch_kll.proofs.plays.Updates.{Taking}
use Rattle.sketch_kll.proofs.levels.Levels.update_all.Given as goal

abbrev pub invariant-loop-item : goal.invariant-loop-item
invariant-loop-item g l = record {
  k : l.self.k ≡ l.fn.self.k;
  split : l.yielded ++ into_iter_items l.item-iterator ≡ l.fn.items.items;
  left : into_iter_len l.item-iterator ≡ length (into_iter_items l.item-iterator);
  taking : Taking g.T.Ord.cmp g.B.RandomBits.bit g.B.RandomBits.next l.fn.coins l.coins l.fn.self.k l.fn.self.is_sorted l.self.is_sorted l.fn.self.levels l.yielded l.self.levels;
  len : retained_in l.self.levels ≤ retained_in l.fn.self.levels + length l.yielded;
  room : l.fn.self.items_room ≤ l.self.items_room;
  spare : 63 ≤ l.self.bounds_room;
}
