-- Worked rows of the relative error.
use Rattle.std.specs.Prelude.{◌≡◌, ℕ, zero, suc, Bool, true, false, List, [], ◌∷◌}
use Rattle.std.specs.Ordering.{nat_cmp}
use Rattle.sketch_base.specs.declared.common.SearchCriteria.TheVariants.{Inclusive}
use Rattle.sketch_base.specs.Trace.{coins}
use Rattle.sketch_req.specs.Relative.{off_protected_end, IsRelative, Reaches, updates_compacted, updates_rank, updates_squares}
use Rattle.sketch_req.specs.ScheduleLaws.{updates_trace}
use Rattle.sketch_req.specs.declared.RankAccuracy.{RankAccuracy}
use Rattle.sketch_req.specs.declared.RankAccuracy.TheVariants.{HighRank, LowRank}

-- a number of consecutive numbers, from `first` up
abbrev pub rising : ℕ → ℕ → List ℕ
rising first zero = []
rising first (suc more) = first ∷ rising (suc first) more

-- the sketch of 1 to n: an item's inclusive rank under a word, the squares of its errors summed over all words of that many bits,
-- and how many items lie on its accurate side
abbrev pub rank_under : ℕ → RankAccuracy → ℕ → ℕ → List Bool → ℕ
rank_under k accuracy n y word = updates_rank nat_cmp y Inclusive 0 k accuracy (rising 1 n) word

abbrev pub squares_over : ℕ → RankAccuracy → ℕ → ℕ → ℕ → ℕ
squares_over k accuracy n y bits = updates_squares nat_cmp y Inclusive 0 k accuracy (rising 1 n) bits

abbrev pub off_in : RankAccuracy → ℕ → ℕ → ℕ
off_in accuracy n y = off_protected_end nat_cmp accuracy y Inclusive (rising 1 n)

pub record RelativeRows : Type 0 where
  -- the bound itself, met exactly and exceeded by one: k 4, one level and two
  pub one_level : IsRelative 4 1 1 24 24
  pub one_level_over : ¬ IsRelative 4 1 1 25 24
  pub two_levels : IsRelative 4 2 1 194 48
  pub two_levels_over : ¬ IsRelative 4 2 1 195 48
  pub no_level : ¬ IsRelative 4 0 1 1 24
  pub reaches : Reaches 24 108 1
  pub reaches_over : ¬ Reaches 24 109 1
  -- k 4, 1 to 24: the 4 lowest are compacted, by one coin
  pub four_compacted : updates_compacted 4 (rising 1 24) ≡ 1
  pub four_coins : coins (updates_trace 0 4 HighRank (rising 1 24)) ≡ 1
  pub four_no : rank_under 4 HighRank 24 3 (false ∷ []) ≡ 4
  pub four_yes : rank_under 4 HighRank 24 3 (true ∷ []) ≡ 2
  pub four_squares : squares_over 4 HighRank 24 3 1 ≡ 2
  pub four_off : off_in HighRank 24 3 ≡ 21
  pub four_relative : IsRelative 4 1 1 2 21
  -- the same with low ranks: the 4 greatest
  pub low_no : rank_under 4 LowRank 24 23 (false ∷ []) ≡ 24
  pub low_yes : rank_under 4 LowRank 24 23 (true ∷ []) ≡ 22
  pub low_squares : squares_over 4 LowRank 24 23 1 ≡ 2
  pub low_off : off_in LowRank 24 23 ≡ 23
  -- k 12, 1 to 150: the 12 lowest are compacted by a coin, the next 90 by its complement
  pub twelve_compacted : updates_compacted 12 (rising 1 150) ≡ 1
  pub twelve_no : rank_under 12 HighRank 150 101 (false ∷ []) ≡ 100
  pub twelve_yes : rank_under 12 HighRank 150 101 (true ∷ []) ≡ 102
  pub twelve_squares : squares_over 12 HighRank 150 101 1 ≡ 2
  pub twelve_off : off_in HighRank 150 101 ≡ 49
  pub twelve_relative : IsRelative 12 1 1 2 49
