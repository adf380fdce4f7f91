use Rattle.std.proofs.Common.{◌≡◌, ℕ, ◌+◌, ◌<◌, ◌≤◌, get_or}
use Rattle.sketch_kll.proofs.levels.merging.add_bounds.Given as goal

abbrev pub invariant-loop-level : goal.invariant-loop-level
invariant-loop-level l = record {
  low : 1 ≤ l.level;
  zero : get_or l.bounds 0 0 ≡ get_or l.fn.bounds 0 0 + get_or l.other_bounds 1 0;
  done : (j : ℕ) → 0 < j → j < l.level → get_or l.bounds j 0 ≡ get_or l.fn.bounds j 0 + get_or l.other_bounds j 0;
  rest : (j : ℕ) → l.level ≤ j → get_or l.bounds j 0 ≡ get_or l.fn.bounds j 0;
}
