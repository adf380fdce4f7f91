use Rattle.std.proofs.Common.{◌≡◌, ℕ, Bool, true, false, [], ◌∷◌, map, replicate, refl, arith, Some}
use Rattle.std.specs.Int.Count.{count_trailing_zeros}
use Rattle.std.specs.Ordering.{nat_cmp}
use Rattle.std.proofs.lemmas.Cmp.{nat_cmp_total}
use Rattle.sketch_base.specs.Exact.{IsExactUpTo}
use Rattle.sketch_req.specs.RelativeRows.{rising}
use Rattle.sketch_req.specs.Sections.{size_of}
use Rattle.sketch_req.specs.Sketch.{empty_sketch}
use Rattle.sketch_req.specs.Summaries.{Summarizes, IsProtectedPlace, IsNearProtectedEnd}
use Rattle.sketch_req.specs.SummaryRows.{entries_under, tied, at_places}
use Rattle.sketch_req.specs.declared.RankAccuracy.TheVariants.{HighRank, LowRank}
use Rattle.sketch_req.proofs.tails.Summaries.{empty-summarizes}
use Rattle.sketch_req.proofs.tails.Answers.{tail-ranks, tail-entries, tail-quantiles, view-of-itself, near-protected}
use Rattle.sketch_req.proofs.laws.tails_are_exact.Goals as goal

pub returns-clause-ranks : goal.returns-clause-ranks
returns-clause-ranks g c = tail-ranks g.T.Ord.cmp

pub returns-clause-entries : goal.returns-clause-entries
returns-clause-entries g c = tail-entries g.met.T.Ord.total

pub returns-clause-quantiles : goal.returns-clause-quantiles
returns-clause-quantiles g c = tail-quantiles g.met.T.Ord.total

pub returns-clause-own_view : goal.returns-clause-own_view
returns-clause-own_view g c = view-of-itself g.met.T.Ord.total

pub returns-clause-near : goal.returns-clause-near
returns-clause-near g c = near-protected

within : IsExactUpTo 12 12 12
within = record { same = λ le. refl; enough = omega arith }

within_off : IsExactUpTo 12 12 13 → ⊥
within_off h = omega (arith, h.same (omega arith))

beyond_more : IsExactUpTo 12 23 24
beyond_more = record { same = λ le. absurd (omega (arith, le)); enough = omega arith }

beyond_less : IsExactUpTo 12 23 12
beyond_less = record { same = λ le. absurd (omega (arith, le)); enough = omega arith }

beyond_few : IsExactUpTo 12 23 11 → ⊥
beyond_few h = omega (arith, h.enough)

high_place : IsProtectedPlace HighRank 12 24 12
high_place = omega arith

high_place_below : IsProtectedPlace HighRank 12 24 11 → ⊥
high_place_below h = omega (arith, h)

low_place : IsProtectedPlace LowRank 12 24 11
low_place = omega arith

low_place_above : IsProtectedPlace LowRank 12 24 12 → ⊥
low_place_above h = omega (arith, h)

near_high : IsNearProtectedEnd HighRank 12 11999 (record { weight = 999; total = 1000 })
near_high = omega arith

near_high_over : IsNearProtectedEnd HighRank 12 12000 (record { weight = 999; total = 1000 }) → ⊥
near_high_over h = omega (arith, h)

near_low : IsNearProtectedEnd LowRank 12 11999 (record { weight = 1; total = 1000 })
near_low = omega arith

near_low_over : IsNearProtectedEnd LowRank 12 12000 (record { weight = 1; total = 1000 }) → ⊥
near_low_over h = omega (arith, h)

tied_tail : (word : Bool) → at_places (entries_under HighRank tied (word ∷ [])) (rising 12 12) ≡ replicate 12 (Some 5)
unfolding size_of count_trailing_zeros
tied_tail true = refl
tied_tail false = refl

low_tail : (word : Bool) → at_places (entries_under LowRank (rising 1 24) (word ∷ [])) (rising 0 12) ≡ map Some (rising 1 12)
unfolding size_of count_trailing_zeros
low_tail true = refl
low_tail false = refl

empty_over : Summarizes nat_cmp (empty_sketch 4 HighRank) [] 5 → ⊥
empty_over h = omega (arith, h.tail_fits)

empty_one : Summarizes nat_cmp (empty_sketch 4 HighRank) (1 ∷ []) 4 → ⊥
empty_one h = omega (arith, h.length_is)

pub returns-clause-rows : goal.returns-clause-rows
unfolding size_of count_trailing_zeros
returns-clause-rows g c = record {
  within = within;
  within_off = within_off;
  beyond_more = beyond_more;
  beyond_less = beyond_less;
  beyond_few = beyond_few;
  high_place = high_place;
  high_place_below = high_place_below;
  low_place = low_place;
  low_place_above = low_place_above;
  near_high = near_high;
  near_high_over = near_high_over;
  near_low = near_low;
  near_low_over = near_low_over;
  p999_inclusive = refl;
  p999_inclusive_over = refl;
  tied_off = refl;
  tied_no = refl;
  tied_yes = refl;
  tied_tail = tied_tail;
  tied_stream = refl;
  tied_front_no = refl;
  tied_front_yes = refl;
  low_tail = low_tail;
  empty = empty-summarizes {A = ℕ} {cmp = nat_cmp} nat_cmp_total 4 4 HighRank (omega arith);
  empty_over = empty_over;
  empty_one = empty_one;
}
