-- Worked rows of summaries: the tail of a stream with ties, and what bounds it.
use Rattle.std.specs.Prelude.{◌≡◌, ℕ, Bool, true, false, List, [], ◌∷◌, replicate, slice_get, map, Option, Some}
use Rattle.std.specs.Ordering.{nat_cmp}
use Rattle.sketch_base.specs.Exact.{IsExactUpTo}
use Rattle.sketch_base.specs.declared.common.SearchCriteria.TheVariants.{Inclusive, Exclusive}
use Rattle.sketch_base.specs.Bag.{expanded, sort}
use Rattle.sketch_base.specs.Queries.{quantile_place}
use Rattle.sketch_base.specs.Trace.{play, start}
use Rattle.sketch_req.specs.Relative.{off_protected_end}
use Rattle.sketch_req.specs.RelativeRows.{rising}
use Rattle.sketch_req.specs.ScheduleLaws.{updates_trace}
use Rattle.sketch_req.specs.Sketch.{empty_sketch}
use Rattle.sketch_req.specs.Summaries.{Summarizes, IsProtectedPlace, IsNearProtectedEnd}
use Rattle.sketch_req.specs.declared.RankAccuracy.{RankAccuracy}
use Rattle.sketch_req.specs.declared.RankAccuracy.TheVariants.{HighRank, LowRank}

-- the expanded list of a k-4 sketch of some numbers under a word
abbrev pub entries_under : RankAccuracy → List ℕ → List Bool → List ℕ
entries_under accuracy items word = expanded nat_cmp ((play nat_cmp (updates_trace 0 4 accuracy items) word start).slots 0)

-- 1, and then 23 times 5
abbrev pub tied : List ℕ
tied = 1 ∷ replicate 23 5

-- some numbers at places of a list
abbrev pub at_places : List ℕ → List ℕ → List (Option ℕ)
at_places xs places = map (slice_get xs) places

pub record SummaryRows : Type 0 where
  -- a count up to 12 is exact; a greater one may be off either way, as long as it is at least 12
  pub within : IsExactUpTo 12 12 12
  pub within_off : ¬ IsExactUpTo 12 12 13
  pub beyond_more : IsExactUpTo 12 23 24
  pub beyond_less : IsExactUpTo 12 23 12
  pub beyond_few : ¬ IsExactUpTo 12 23 11
  -- the 12 greatest of 24 entries, and the 12 least
  pub high_place : IsProtectedPlace HighRank 12 24 12
  pub high_place_below : ¬ IsProtectedPlace HighRank 12 24 11
  pub low_place : IsProtectedPlace LowRank 12 24 11
  pub low_place_above : ¬ IsProtectedPlace LowRank 12 24 12
  -- k 4: a p99.9 of fewer than 12000 numbers is exact, and a p0.1 with low ranks
  pub near_high : IsNearProtectedEnd HighRank 12 11999 (record { weight = 999; total = 1000 })
  pub near_high_over : ¬ IsNearProtectedEnd HighRank 12 12000 (record { weight = 999; total = 1000 })
  pub near_low : IsNearProtectedEnd LowRank 12 11999 (record { weight = 1; total = 1000 })
  pub near_low_over : ¬ IsNearProtectedEnd LowRank 12 12000 (record { weight = 1; total = 1000 })
  pub p999_inclusive : quantile_place 11999 999 1000 Inclusive ≡ 11987
  pub p999_inclusive_over : quantile_place 12000 999 1000 Inclusive ≡ 11987
  -- k 4, ties: a compaction sends 1 and 5 up, or 5 and 5. The count of what is at least 5 is off by one, but the 12 greatest entries are exact
  pub tied_off : off_protected_end nat_cmp HighRank 5 Exclusive tied ≡ 23
  pub tied_no : off_protected_end nat_cmp HighRank 5 Exclusive (entries_under HighRank tied (false ∷ [])) ≡ 22
  pub tied_yes : off_protected_end nat_cmp HighRank 5 Exclusive (entries_under HighRank tied (true ∷ [])) ≡ 24
  pub tied_tail : (word : Bool) → at_places (entries_under HighRank tied (word ∷ [])) (rising 12 12) ≡ replicate 12 (Some 5)
  pub tied_stream : at_places (sort nat_cmp tied) (rising 0 2) ≡ Some 1 ∷ Some 5 ∷ []
  pub tied_front_no : at_places (entries_under HighRank tied (false ∷ [])) (rising 0 2) ≡ Some 1 ∷ Some 1 ∷ []
  pub tied_front_yes : at_places (entries_under HighRank tied (true ∷ [])) (rising 0 2) ≡ Some 5 ∷ Some 5 ∷ []
  -- low ranks, 1 to 24: the 12 least entries
  pub low_tail : (word : Bool) → at_places (entries_under LowRank (rising 1 24) (word ∷ [])) (rising 0 12) ≡ map Some (rising 1 12)
  -- an empty sketch summarizes no items, and no item; its tail is at most its k
  pub empty : Summarizes nat_cmp (empty_sketch 4 HighRank) [] 4
  pub empty_over : ¬ Summarizes nat_cmp (empty_sketch 4 HighRank) [] 5
  pub empty_one : ¬ Summarizes nat_cmp (empty_sketch 4 HighRank) (1 ∷ []) 4
