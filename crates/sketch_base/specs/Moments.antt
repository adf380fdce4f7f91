-- The even moments of a slot's errors over all words, and how rare large errors are.
use Rattle.std.specs.Prelude.{ℕ, zero, suc, ◌+◌, ◌*◌, ◌^◌, ◌≤◌, Bool, if◌then◌else◌, nat_le, List}
use Rattle.std.specs.declared.cmp.Ordering.{Ordering}
use Rattle.sketch_base.specs.declared.common.SearchCriteria.{SearchCriteria}
use Rattle.sketch_base.specs.Bag.{weighted_rank}
use Rattle.sketch_base.specs.Lengths.{start_lengths, ObeysScratch}
use Rattle.sketch_base.specs.Query.{counted}
use Rattle.sketch_base.specs.Ranks.{rank_of_trace}
use Rattle.sketch_base.specs.Shares.{spread}
use Rattle.sketch_base.specs.Trace.{Event, play, start, coins, IsKll}
use Rattle.sketch_base.specs.Words.{sum_over_words, distance}

-- the product of the first m odd numbers: 1 * 3 * .. * (2m - 1)
abbrev pub odd_product : ℕ → ℕ
odd_product zero = 1
odd_product (suc m) = (2 * m + 1) * odd_product m

-- the number of words of a length that pass a test
abbrev pub words_with : ℕ → (List Bool → Bool) → ℕ
words_with length test = sum_over_words length (λ word. if test word then 1 else 0)

-- how far a slot's weighted rank at a query is from its true rank, in the play of a trace under a word
abbrev pub error_under : {A : Type 0} → (A → A → Ordering) → A → SearchCriteria → List (Event A) → ℕ → List Bool → ℕ
error_under cmp y criteria trace slot word = distance
    (weighted_rank cmp (counted cmp y criteria) ((play cmp trace word start).slots slot))
    (rank_of_trace (counted cmp y criteria) trace slot)

-- KLL's moments: the 2m-th powers of a slot's errors, summed over all words, are at most the number of words times the product of
-- the first m odd numbers times the m-th power of its spread
abbrev pub HasSmallMoments : {A : Type 0} → (A → A → Ordering) → Type 0
HasSmallMoments {A} cmp = (y : A) (criteria : SearchCriteria) (trace : List (Event A)) (length slot m : ℕ) →
    IsKll trace → ObeysScratch trace start_lengths → coins trace ≤ length →
    sum_over_words length (λ word. error_under cmp y criteria trace slot word ^ (2 * m)) ≤
    2 ^ length * (odd_product m * spread trace slot ^ m)

-- KLL is rarely far off: the number of words under which a slot's error is t or more, times t^(2m), is at most the same
abbrev pub IsRarelyFarOff : {A : Type 0} → (A → A → Ordering) → Type 0
IsRarelyFarOff {A} cmp = (y : A) (criteria : SearchCriteria) (trace : List (Event A)) (length slot t m : ℕ) →
    IsKll trace → ObeysScratch trace start_lengths → coins trace ≤ length →
    words_with length (λ word. nat_le t (error_under cmp y criteria trace slot word)) * t ^ (2 * m) ≤
    2 ^ length * (odd_product m * spread trace slot ^ m)
