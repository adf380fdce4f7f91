-- Counts that are exact up to a number.
use Rattle.std.specs.Prelude.{◌≡◌, ℕ, ◌≤◌, min}

-- a weighted count that stands for a true one: it is the true one if that is at most `most`, and else it is at least `most`
pub record IsExactUpTo (most true_count weighted : ℕ) : Type 0 where
  pub same : true_count ≤ most → weighted ≡ true_count
  pub enough : min most true_count ≤ weighted
