use Rattle.std.proofs.Common.{◌≡◌, ◌-◌, ◌^◌, ◌<◌, ◌≤◌, length}
use Rattle.sketch_kll.specs.Levels.{retained_in, weight_in, SameLevels}
use Rattle.sketch_kll.specs.Capacity.{total_of}
use Rattle.sketch_kll.specs.Compress.{walked}
use Rattle.sketch_kll.specs.Stored.{KeepsRoom}
use Rattle.sketch_kll.proofs.plays.Compresses.{Behind, walked_source}
use Rattle.sketch_kll.proofs.levels.Levels.compress.Given as goal

abbrev pub invariant-loop-self : goal.invariant-loop-self
invariant-loop-self g l = record {
  kept : KeepsRoom l.initial.self l.self;
  start : l.level ≡ 0 → l.self.levels ≡ l.initial.self.levels;
  level_few : l.level ≤ 61;
  weighs : weight_in l.self.levels < 2 ^ 64;
  behind : Behind l.initial.self.k l.level l.self.levels;
  below : length l.self.levels ≤ l.level → retained_in l.self.levels < total_of l.initial.self.k 8 (length l.self.levels);
  levels : SameLevels g.T.Ord.cmp (walked g.T.Ord.cmp g.B.RandomBits.bit g.B.RandomBits.next l.initial.self.k l.initial.self.is_sorted 61 0 l.initial.coins l.initial.self.levels)
      (walked g.T.Ord.cmp g.B.RandomBits.bit g.B.RandomBits.next l.initial.self.k l.initial.self.is_sorted (61 - l.level) l.level l.coins l.self.levels);
  source : walked_source g.T.Ord.cmp g.B.RandomBits.bit g.B.RandomBits.next l.initial.self.k l.initial.self.is_sorted 61 0 l.initial.coins l.initial.self.levels
      ≡ walked_source g.T.Ord.cmp g.B.RandomBits.bit g.B.RandomBits.next l.initial.self.k l.initial.self.is_sorted (61 - l.level) l.level l.coins l.self.levels;
}

abbrev pub decreases-loop-self : goal.decreases-loop-self
decreases-loop-self g l = 61 - l.level
