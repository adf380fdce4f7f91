use Rattle.std.proofs.Common.{◌≡◌, ℕ, ◌<◌, ◌≤◌, length, get_or, vec_len, vec_capacity}
use Rattle.sketch_req.specs.Walk.{accuracy_of, k_of}
use Rattle.sketch_req.specs.declared.compactor.Arrivals.{Arrivals}
use Rattle.sketch_req.proofs.walks.Turns.{IsPending}
use Rattle.sketch_req.proofs.sketch.levels.walk.walk.Given as goal

abbrev pub invariant-loop-level : goal.invariant-loop-level
invariant-loop-level g l =
    let ls = l.initial.levels.items in
    record {
      pending : IsPending g.met.T.Ord.total g.B.RandomBits.bit g.B.RandomBits.next l.initial.coins (k_of ls) (accuracy_of ls) ls l.level l.coins l.levels.items l.coming.items.items l.coming.room;
      len : vec_len l.levels ≡ l.count;
      spare : l.count < vec_capacity l.levels;
      enough : l.count ≤ length l.ups.items;
      ups : (j : ℕ) (none : Arrivals g.row.T.Denot) → l.level ≤ j → get_or l.ups.items j none ≡ get_or l.initial.ups.items j none;
    }
