use Rattle.std.proofs.Common.{◌≡◌, take}
use Rattle.sketch_req.specs.Updates.{AreTakenInTurn}
use Rattle.sketch_req.proofs.sketch.levels.Levels.append_all.Given as goal

abbrev pub invariant-loop-item : goal.invariant-loop-item
invariant-loop-item g l = let s = l.initial.copy in record {
  kept : l.copy ≡ record s { levels = l.copy.levels };
  so_far : AreTakenInTurn g.T.Ord.cmp g.B.RandomBits.bit g.B.RandomBits.next l.initial.coins l.coins s.k s.accuracy s.levels (take l.item-index l.fn.items) l.copy.levels;
}
