use Rattle.std.proofs.Common.{◌≡◌, drop, length, vec_capacity}
use Rattle.sketch_req.proofs.sketches.Copies.{drawn_so_far, redrawn_by, source_by}
use Rattle.sketch_req.proofs.sketch.levels.redraw_if.Given as goal

abbrev pub invariant-loop-level : goal.invariant-loop-level
invariant-loop-level g l = record {
  len : length l.levels.items ≡ l.level-end;
  levels : drawn_so_far g.B.RandomBits.bit g.B.RandomBits.next l.coins l.level l.levels.items ≡ redrawn_by g.B.RandomBits.bit g.B.RandomBits.next l.initial.coins l.initial.levels.items;
  coins : source_by g.B.RandomBits.bit g.B.RandomBits.next l.coins (drop l.level l.levels.items) ≡ source_by g.B.RandomBits.bit g.B.RandomBits.next l.initial.coins l.initial.levels.items;
  room : vec_capacity l.levels ≡ vec_capacity l.initial.levels;
}
