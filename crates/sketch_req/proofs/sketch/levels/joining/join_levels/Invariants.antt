use Rattle.std.proofs.Common.{◌≡◌, ℕ, ◌<◌, ◌≤◌, length, get_or, max, vec_capacity}
use Rattle.sketch_req.specs.Walk.{accuracy_of, k_of}
use Rattle.sketch_req.specs.declared.compactor.Arrivals.{Arrivals}
use Rattle.sketch_req.proofs.merges.Levels.{AreJoinedTo}
use Rattle.sketch_req.proofs.sketch.levels.joining.join_levels.Given as goal

abbrev pub invariant-loop-level : goal.invariant-loop-level
invariant-loop-level g l =
    let ls = l.initial.levels.items in
    record {
      joined : AreJoinedTo g.T.Ord.cmp (k_of ls) (accuracy_of ls) l.level ls l.others l.levels.items;
      spare : max (length ls) (length l.others) < vec_capacity l.levels;
      enough : length l.others ≤ length l.lists.items;
      lists : (j : ℕ) (none : Arrivals g.row.T.Denot) → l.level ≤ j → get_or l.lists.items j none ≡ get_or l.initial.lists.items j none;
    }
