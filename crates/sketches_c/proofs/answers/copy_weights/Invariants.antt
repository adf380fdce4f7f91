use Rattle.std.proofs.Common.{◌≡◌, ◌++◌, length, map, take, drop}
use Rattle.sketch_base.specs.declared.common.Rank.{Rank}
use Rattle.sketches_c.proofs.answers.copy_weights.Given as goal

abbrev pub invariant-loop-i : goal.invariant-loop-i
invariant-loop-i l =
    (take l.i l.weights ++ map (λ (r : Rank). r.weight) (drop l.i l.ranks) ≡ map (λ (r : Rank). r.weight) l.ranks) × (length l.weights ≡ length l.ranks)
