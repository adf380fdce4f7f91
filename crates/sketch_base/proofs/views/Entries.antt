-- A view stands for the list in which each item is as often there as it weighs. Its answers, by cumulative weights, are those of that list:
-- an item is the entry at each place between two cumulative weights.
use Rattle.std.proofs.lemmas.Grind.{common_steps}
use Rattle.std.proofs.Common.{◌≡◌, ℕ, suc, ◌+◌, ◌-◌, ◌≤◌, true, List, [], ◌∷◌, ◌++◌, length, map, sum, refl, ap, ◌∙◌, arith, Ordering, Less, ◌<◌, take, drop, get_or, sum_by, sym, zero, Bool, false, replicate, ap₂, subst, if◌then◌else◌, IsSorted, Equal, is_gt, is_lt, ◌*◌, ◌/◌, ◌^◌, Result, Ok, Err, cond, count_by, length-append}
use Rattle.std.specs.Prelude.{Some, slice_get, Option, None, MatchOption, option_copied, ◌==◌, IfOk, nat_le}
use Rattle.std.specs.Cmp.{IsTotalOrder}
use Rattle.std.specs.List.Sorted.{IsNonDecreasing, IsPartitionedBy}
use Rattle.std.proofs.lemmas.Option.{slice_get-map, slice_get-get_or, slice_get_past}
use Rattle.std.proofs.lemmas.List.Sums.{sum_by-cons, sum_by-le-sum_by, count_by-le-length, sum_by-append}
use Rattle.sketch_base.specs.declared.common.SearchCriteria.{SearchCriteria}
use Rattle.sketch_base.specs.Query.{counted, true_rank}
use Rattle.sketch_base.specs.declared.common.Rank.{Rank}
use Rattle.sketch_base.specs.Queries.{IsIncreasing, cdf_of, pmf_of, differences, ranks_of, SameAnswer, quantile_in, spread_over, quantile_place, IsSplitAt, AreCumulated, spread_out, weight_before}
use Rattle.std.proofs.lemmas.List.{take_more, take_all, take_at, map_push, length-replicate}
use Rattle.sketch_base.proofs.order.Order.{lt_of_le_of_lt, counted-monotone, le_not_gt, less-from_is_lt, not_lt_gt, equal-from_neither, Rises, non_decreasing_from_rises, rises_from_zero, Ordered, Ordered-sort, SameCounts-from_items, items-from_counts}
use mathlib.Core.Path.{fun_ext}
use Rattle.std.specs.List.{AllByRecursion, AllZip, HoldsAt, AllWithin}
use Rattle.std.proofs.lemmas.Cmp.{tied_itself}
use Rattle.std.proofs.lemmas.List.Elements.{length_all_zip}
use Rattle.std.proofs.lemmas.List.Sorted.{sorted_far, ranks_by}
use Rattle.sketch_base.specs.Bag.{Bag, SameItems, repeated, expanded, weighted_rank, weigh, weight}
use Rattle.std.proofs.Math.Nat.{div-lt_iff_lt-mul, mul-le-mul_right}
use Rattle.sketch_base.specs.declared.common.SearchCriteria.TheVariants.{Inclusive, Exclusive}
use Rattle.sketch_base.proofs.order.Extremes.{parts-count}
use denote.Ref.{Bor}
use Rattle.std.specs.declared.alloc.Global.{Global}
use Rattle.std.specs.declared.vec.Vec.{Vec}
use Rattle.sketch_base.specs.Queried.{AreAtFractions, AreQuantiles, IsCdf, IsQuantile, Masses, Queried, quantile_of}
use Rattle.sketch_base.specs.Views.{IsViewOf, View, queried_view}
use Rattle.sketch_base.specs.declared.error.ErrorKind.{ErrorKind}
use Rattle.sketch_base.proofs.calls.Calls.{wanted-too, some-weaker}
use Rattle.sketch_base.proofs.bags.Acts.{sum_by-expanded}
use Rattle.std.proofs.lemmas.Bool.{leb-true, leb-false}
use Rattle.std.proofs.lemmas.List.Folds.{sum_by-replicate}

-- The distribution over split points never decreases and ends at the number of entries; its differences sum to that number.

sum-differences : (before : ℕ) (ns : List ℕ) (n : ℕ) → Rises before (ns ++ n ∷ []) → sum (differences before (ns ++ n ∷ [])) + before ≡ n
sum-differences before [] n up = let le : before ≤ n = up.0 in omega (arith, sum_by-cons (λ (x : ℕ). x) (n - before) [], le)
sum-differences before (m ∷ ms) n up = grind (arith, common_steps, sum_by-cons, sum-differences m ms n up.1)

last-entry : {A : Type 0} (f : A → ℕ) (points : List A) (n : ℕ) → slice_get (map f points ++ n ∷ []) (length points) ≡ Some n
last-entry f [] n = refl
last-entry f (y ∷ ys) n = last-entry f ys n

module _ {A : Type 0} {cmp : A → A → Ordering} (order : IsTotalOrder cmp) where
  below-next : (x y z : A) (criteria : SearchCriteria) → cmp y z ≡ Less → counted cmp y criteria x ≡ true → counted cmp z criteria x ≡ true
  below-next x y z criteria lt h = grind (arith, common_steps, less-from_is_lt, lt_of_le_of_lt, le_not_gt)

  rank-rises : (criteria : SearchCriteria) (entries : List A) (y z : A) → cmp y z ≡ Less → true_rank cmp y criteria entries ≤ true_rank cmp z criteria entries
  rank-rises criteria entries y z lt = grind (arith, common_steps, sum_by-le-sum_by, below-next)

  increasing-tail : (y : A) (ys : List A) → IsIncreasing cmp (y ∷ ys) → IsIncreasing cmp ys
  increasing-tail y ys up k d l = let e : suc k + 1 ≡ suc (k + 1) = omega arith in rw e at (up (suc k) d (omega arith))

  rises-after : (criteria : SearchCriteria) (entries : List A) (y : A) (ys : List A) → IsIncreasing cmp (y ∷ ys) → Rises (true_rank cmp y criteria entries) (cdf_of cmp criteria entries ys)
  rises-after criteria entries y [] up = (count_by-le-length (counted cmp y criteria) entries, tt)
  rises-after criteria entries y (z ∷ zs) up = (rank-rises criteria entries y z (up 0 y (omega arith)), rises-after criteria entries z zs (increasing-tail y (z ∷ zs) up))

  cdf-rises : (criteria : SearchCriteria) (entries points : List A) → IsIncreasing cmp points → Rises 0 (cdf_of cmp criteria entries points)
  cdf-rises criteria entries [] up = (omega arith, tt)
  cdf-rises criteria entries (y ∷ ys) up = (omega arith, rises-after criteria entries y ys up)

  -- the distribution never decreases
  pub cdf-non_decreasing : (criteria : SearchCriteria) (entries points : List A) → IsIncreasing cmp points → IsNonDecreasing (cdf_of cmp criteria entries points)
  cdf-non_decreasing criteria entries points up = non_decreasing_from_rises 0 (cdf_of cmp criteria entries points) (cdf-rises criteria entries points up)

  -- its differences sum to the number of entries
  pub pmf-sums : (criteria : SearchCriteria) (entries points : List A) → IsIncreasing cmp points → sum (pmf_of cmp criteria entries points) ≡ length entries
  pmf-sums criteria entries points up = grind (arith, common_steps, sum-differences, cdf-rises)

  -- it ends at the number of entries
  pub cdf-last : (criteria : SearchCriteria) (entries points : List A) → slice_get (cdf_of cmp criteria entries points) (length points) ≡ Some (length entries)
  cdf-last criteria entries points = last-entry (λ y. true_rank cmp y criteria entries) points (length entries)

-- points that do not fail to increase do increase, since comparisons decide it
less-told : (o : Ordering) → ¬ (¬ (o ≡ Less)) → o ≡ Less
less-told o h = grind (arith, common_steps)

pub increasing-told : {A : Type 0} (cmp : A → A → Ordering) (points : List A) → ¬ (¬ (IsIncreasing cmp points)) → IsIncreasing cmp points
increasing-told cmp points h i d l = less-told _ (λ no. h (λ up. no (up i d l)))

-- ranks of weights have these weights
pub weights_back : (n : ℕ) (weights : List ℕ) → map (λ (r : Rank). r.weight) (ranks_of n weights) ≡ weights
weights_back n [] = refl
weights_back n (w ∷ ws) = ap (λ l. w ∷ l) (weights_back n ws)

-- one more rank: that of the next split point
pub ranks-more : {A : Type 0} (f : A → ℕ) (n : ℕ) (points : List A) (i w : ℕ) (y : A) (ranks new : List Rank) → i < length points → ranks ≡ ranks_of n (map f (take i points)) →
    y ≡ get_or points i y → w ≡ f y → new ≡ ranks ++ record { weight = w; total = n } ∷ [] → new ≡ ranks_of n (map f (take (i + 1) points))
ranks-more f n points i w y ranks new l so_far at count e = grind (arith, common_steps, take_more, map_push)

-- the last rank: the whole, appended to the ranks of all points
-- ranks that are those of a distribution end at the whole
pub ranks-end : {A : Type 0} (f : A → ℕ) (n : ℕ) (points : List A) (ranks : List Rank) → ranks ≡ ranks_of n (map f points ++ n ∷ []) →
    slice_get ranks (length points) ≡ Some (record { weight = n; total = n })
ranks-end f n points ranks e = grind (arith, common_steps, slice_get-map, last-entry)

pub ranks-last : {A : Type 0} (f : A → ℕ) (n : ℕ) (points : List A) (i : ℕ) (ranks new : List Rank) → length points ≤ i → ranks ≡ ranks_of n (map f (take i points)) →
    new ≡ ranks ++ record { weight = n; total = n } ∷ [] → new ≡ ranks_of n (map f points ++ n ∷ [])
ranks-last f n points i ranks new l so_far e = grind (arith, common_steps, take_all, map_push)

-- each weight minus the one before it, the first minus a start; the totals stay
abbrev pub rank_differences : ℕ → List Rank → List Rank
rank_differences before [] = []
rank_differences before (r ∷ rs) = record { weight = r.weight - before; total = r.total } ∷ rank_differences r.weight rs

-- its weights and its totals
pub weights-rank_differences : (before : ℕ) (ranks : List Rank) → map (λ (r : Rank). r.weight) (rank_differences before ranks) ≡ differences before (map (λ (r : Rank). r.weight) ranks)
weights-rank_differences before [] = refl
weights-rank_differences before (r ∷ rs) = ap (λ ns. (r.weight - before) ∷ ns) (weights-rank_differences r.weight rs)

pub totals-rank_differences : (before : ℕ) (ranks : List Rank) → map (λ (r : Rank). r.total) (rank_differences before ranks) ≡ map (λ (r : Rank). r.total) ranks
totals-rank_differences before [] = refl
totals-rank_differences before (r ∷ rs) = ap (λ ns. r.total ∷ ns) (totals-rank_differences r.weight rs)

-- ranks are equal if their weights and their totals are
same-ranks : (ranks others : List Rank) → map (λ (r : Rank). r.weight) ranks ≡ map (λ (r : Rank). r.weight) others →
    map (λ (r : Rank). r.total) ranks ≡ map (λ (r : Rank). r.total) others → ranks ≡ others
same-ranks [] [] e f = refl
same-ranks [] (r ∷ rs) e f = absurd cc
same-ranks (r ∷ rs) [] e f = absurd cc
same-ranks (r ∷ rs) (s ∷ ss) e f = grind (arith, common_steps, same-ranks rs ss (ap (drop 1) e) (ap (drop 1) f))

rank_differences-ranks_of : (n before : ℕ) (weights : List ℕ) → rank_differences before (ranks_of n weights) ≡ ranks_of n (differences before weights)
rank_differences-ranks_of n before [] = refl
rank_differences-ranks_of n before (w ∷ ws) = ap (λ l. record { weight = w - before; total = n } ∷ l) (rank_differences-ranks_of n w ws)

length-rank_differences : (before : ℕ) (ranks : List Rank) → length (rank_differences before ranks) ≡ length ranks
length-rank_differences before [] = refl
length-rank_differences before (r ∷ rs) = ap suc (length-rank_differences r.weight rs)

-- a vector whose ranks were replaced by their differences
pub differences-left : (n len : ℕ) (weights : List ℕ) (items lent new : List Rank) → items ≡ ranks_of n weights → lent ≡ items →
    map (λ (r : Rank). r.weight) new ≡ differences 0 (map (λ (r : Rank). r.weight) lent) → map (λ (r : Rank). r.total) new ≡ map (λ (r : Rank). r.total) lent → len ≡ length items → take len (new ++ drop (length new) items) ≡ ranks_of n (differences 0 weights)
differences-left n len weights items lent new e same made totals k =
    let new_is : new ≡ rank_differences 0 items = (same-ranks new (rank_differences 0 lent) (made ∙ sym (weights-rank_differences 0 lent)) (totals ∙ sym (totals-rank_differences 0 lent))) ∙ ap (rank_differences 0) same in
    take_at new (drop (length new) items) len (ap length new_is ∙ (length-rank_differences 0 items ∙ sym k)) ∙ (new_is ∙ (ap (rank_differences 0) e ∙ rank_differences-ranks_of n 0 weights))

sum-ranks_of : (n : ℕ) (weights : List ℕ) → sum_by (λ (r : Rank). r.weight) (ranks_of n weights) ≡ sum weights
sum-ranks_of n [] = refl
sum-ranks_of n (w ∷ ws) = grind (arith, common_steps, sum_by-cons, sum-ranks_of n ws)

module _ {A : Type 0} {cmp : A → A → Ordering} (order : IsTotalOrder cmp) where
  -- the ranks of a distribution never decrease
  pub ranks-rise : (criteria : SearchCriteria) (entries points : List A) (n : ℕ) (ranks : List Rank) → IsIncreasing cmp points →
      ranks ≡ ranks_of n (cdf_of cmp criteria entries points) → IsNonDecreasing (map (λ (r : Rank). r.weight) ranks)
  ranks-rise criteria entries points n ranks up e = grind (arith, common_steps, weights_back, cdf-non_decreasing)

  -- the ranks of its differences sum to the number of entries
  pub ranks-sum : (criteria : SearchCriteria) (entries points : List A) (n : ℕ) (ranks : List Rank) → IsIncreasing cmp points →
      ranks ≡ ranks_of n (pmf_of cmp criteria entries points) → sum_by (λ (r : Rank). r.weight) ranks ≡ length entries
  ranks-sum criteria entries points n ranks up e =
      ap (λ (l : List Rank). sum_by (λ (r : Rank). r.weight) l) e ∙ (sum-ranks_of n (pmf_of cmp criteria entries points) ∙ pmf-sums order criteria entries points up)

-- Sorted lists that compare equal give the same answers.
-- A sorted list with a bag's counts compares equal to the bag's expanded list.

module _ {A : Type 0} (cmp : A → A → Ordering) where
  get-same : (xs ys : List A) (i : ℕ) → SameItems cmp xs ys → SameAnswer cmp (slice_get xs i) (slice_get ys i)
  get-same [] [] i h = tt
  get-same (x ∷ xs) (y ∷ ys) zero h = h.0
  get-same (x ∷ xs) (y ∷ ys) (suc i) h = get-same xs ys i h.1
  get-same _ _ i h = absurd h

  -- one of two answers
  pub if-same : (b : Bool) (x x' y y' : Option A) → SameAnswer cmp x x' → SameAnswer cmp y y' → SameAnswer cmp (if b then x else y) (if b then x' else y')
  if-same b x x' y y' h k = elim b as (λ (t : Bool). SameAnswer cmp (if t then x else y) (if t then x' else y')) [ true ↦ h | false ↦ k ]

  -- lists that compare equal have quantiles that compare equal
  pub quantile-same : (xs ys : List A) (least least' greatest greatest' : Option A) (a b : ℕ) (criteria : SearchCriteria) → SameItems cmp xs ys → SameAnswer cmp least least' →
      SameAnswer cmp greatest greatest' → SameAnswer cmp (quantile_in xs least greatest a b criteria) (quantile_in ys least' greatest' a b criteria)
  quantile-same xs ys least least' greatest greatest' a b criteria h l g = grind (arith, common_steps, length_all_zip, get-same, if-same)

module _ {A : Type 0} {cmp : A → A → Ordering} (order : IsTotalOrder cmp) where
  -- comparing equal is reflexive and transitive for answers
  pub SameAnswer-itself : (x : Option A) → SameAnswer cmp x x
  SameAnswer-itself x = grind (arith, common_steps, tied_itself)

  pub SameAnswer-trans : (x y z : Option A) → SameAnswer cmp x y → SameAnswer cmp y z → SameAnswer cmp x z
  SameAnswer-trans x y z h k = grind (arith, common_steps)

  -- lists that compare equal have the same distribution
  pub cdf-same : (criteria : SearchCriteria) (xs ys points : List A) → SameItems cmp xs ys → cdf_of cmp criteria xs points ≡ cdf_of cmp criteria ys points
  cdf-same criteria xs ys points h = ap₂ (λ ns n. ns ++ n ∷ [])
      (ap (λ (rank : A → ℕ). map rank points) (fun_ext (λ y. SameCounts-from_items order xs ys h y criteria))) (length_all_zip (λ x y. cmp x y ≡ Equal) xs ys h)

  -- sorted entries with the bag's rank for every query compare equal to its expanded list
  pub expanded-same : (bag : Bag A) (entries : List A) → Ordered order entries →
      ((y : A) (criteria : SearchCriteria) → true_rank cmp y criteria entries ≡ weighted_rank cmp (counted cmp y criteria) bag) → SameItems cmp (expanded cmp bag) entries
  expanded-same bag entries up counts = items-from_counts order (expanded cmp bag) entries (Ordered-sort order (repeated 0 bag.levels)) up (λ y criteria. sym (counts y criteria))

  abbrev AllAbove : A → List A → Type 0
  AllAbove x ys = AllByRecursion (λ y. is_gt (cmp x y) ≡ false) ys

  above-copies : (x z : A) (n : ℕ) (ys : List A) → is_gt (cmp z x) ≡ false → AllAbove z ys → AllAbove z (replicate n x ++ ys)
  above-copies x z zero ys h k = k
  above-copies x z (suc n) ys h k = (h, above-copies x z n ys h k)

  above-spread : (z : A) (before : ℕ) (items : List A) (cumulated : List ℕ) → AllAbove z items → AllAbove z (spread_over before items cumulated)
  above-spread z before (x ∷ xs) (c ∷ cs) h = above-copies x z (c - before) (spread_over c xs cs) h.0 (above-spread z c xs cs h.1)
  above-spread z before _ _ h = tt

  ordered-copies : (x : A) (n : ℕ) (ys : List A) → AllAbove x ys → Ordered order ys → Ordered order (replicate n x ++ ys)
  ordered-copies x zero ys h up = up
  ordered-copies x (suc n) ys h up = (above-copies x x n ys (ap is_gt (tied_itself order x)) h, ordered-copies x n ys h up)

  -- sorted items stand for a sorted list
  pub Ordered-spread_over : (before : ℕ) (items : List A) (cumulated : List ℕ) → Ordered order items → Ordered order (spread_over before items cumulated)
  Ordered-spread_over before (x ∷ xs) (c ∷ cs) up = ordered-copies x (c - before) (spread_over c xs cs) (above-spread x c xs cs up.0) (Ordered-spread_over c xs cs up.1)
  Ordered-spread_over before _ _ up = tt

  -- a query counts a prefix of sorted items
  pub counted-parted : (xs : List A) (y : A) (criteria : SearchCriteria) → IsSorted cmp xs → IsPartitionedBy (counted cmp y criteria) xs
  counted-parted xs y criteria up i j d le l h = counted-monotone order y criteria (get_or xs i d) (get_or xs j d)
      (not_lt_gt (cmp (get_or xs j d) (get_or xs i d)) (cmp (get_or xs i d) (get_or xs j d)) (order.antisymm (get_or xs j d) (get_or xs i d))
      (sorted_far (λ a b. is_lt (cmp a b)) (ranks_by order (λ (a : A). a)) xs up i j d le l)) h

-- one more related pair at the end of two related lists
pub zip-push : {A B : Type 0} (R : A → B → Type 0) (xs : List A) (ys : List B) (x : A) (y : B) → AllZip R xs ys → R x y → AllZip R (xs ++ x ∷ []) (ys ++ y ∷ [])
zip-push R [] [] x y h k = (k, tt)
zip-push R (u ∷ us) (v ∷ vs) x y h k = (h.0, zip-push R us vs x y h.1 k)
zip-push R _ _ x y h k = absurd h

module _ {A : Type 0} {cmp : A → A → Ordering} (order : IsTotalOrder cmp) where
  -- copies of items that compare equal, before lists that compare equal
  pub same-copies : (n : ℕ) (x y : A) (xs ys : List A) → cmp x y ≡ Equal → SameItems cmp xs ys → SameItems cmp (replicate n x ++ xs) (replicate n y ++ ys)
  same-copies zero x y xs ys e h = h
  same-copies (suc n) x y xs ys e h = (e, same-copies n x y xs ys e h)

  -- the lists that items which compare equal stand for, with the same cumulative weights
  pub same-spread : (before : ℕ) (xs ys : List A) (cumulated : List ℕ) → SameItems cmp xs ys → SameItems cmp (spread_over before xs cumulated) (spread_over before ys cumulated)
  same-spread before [] (y ∷ ys) cumulated h = absurd h
  same-spread before (x ∷ xs) [] cumulated h = absurd h
  same-spread before (x ∷ xs) (y ∷ ys) (c ∷ cs) h = same-copies (c - before) x y (spread_over c xs cs) (spread_over c ys cs) h.0 (same-spread c xs ys cs h.1)
  same-spread before _ _ _ h = tt

-- one more related pair: the next item of a list, and one that is appended
pub zip-more : {A B : Type 0} (R : A → B → Type 0) (xs : List A) (i : ℕ) (d : A) (ys new : List B) (y : B) → R (get_or xs i d) y → i < length xs → AllZip R (take i xs) ys →
    new ≡ ys ++ y ∷ [] → AllZip R (take (i + 1) xs) new
zip-more R xs i d ys new y here l so_far e =
    subst (λ zs. AllZip R (take (i + 1) xs) zs) (sym e) (subst (λ zs. AllZip R zs (ys ++ y ∷ [])) (sym (take_more xs i d l)) (zip-push R (take i xs) ys (get_or xs i d) y so_far here))

-- The places of quantiles, and what a look-up at a place returns.

-- the inclusive place of a fraction below 1 is within the entries
pub inclusive-within : (n a b : ℕ) → 0 < n → a < b → (a * n + (b - 1)) / b - 1 < n
inclusive-within n a b some below = grind (arith, common_steps, mul-le-mul_right, div-lt_iff_lt-mul)

-- so is its exclusive place
pub exclusive-within : (n a b : ℕ) → 0 < n → a < b → a * n / b < n
exclusive-within n a b some below = grind (arith, common_steps, mul-le-mul_right, div-lt_iff_lt-mul)

-- a look-up at a place returns the item there, or none past the end
pub item-got : {A : Type 0} (xs : List A) (i : ℕ) (r : Option (Bor A)) → MatchOption r (length xs ≤ i) (λ x. (i < length xs) × HoldsAt (λ y. x.now ≡ y) xs i) → option_copied r ≡ slice_get xs i
item-got xs i None past = sym (slice_get_past xs i past)
item-got xs i (Some x) within = sym (slice_get-get_or xs i x.now within.0 ∙ ap Some (sym (within.1 x.now)))

-- in a sorted list an item whose ranks enclose a place compares equal to the item there
pub item-enclosed : {A : Type 0} {cmp : A → A → Ordering} → IsTotalOrder cmp → (xs : List A) (x : A) (p : ℕ) → IsSorted cmp xs → true_rank cmp x Exclusive xs ≤ p →
    p < true_rank cmp x Inclusive xs → SameAnswer cmp (slice_get xs p) (Some x)
item-enclosed {A} {cmp} order xs x p sorted from below =
    let after = parts-count (counted cmp x Exclusive) xs (counted-parted order xs x Exclusive sorted) in
    let before = parts-count (counted cmp x Inclusive) xs (counted-parted order xs x Inclusive sorted) in
    let within : p < length xs = omega (arith, below, count_by-le-length (counted cmp x Inclusive) xs) in
    let same : cmp (get_or xs p x) x ≡ Equal = equal-from_neither (cmp (get_or xs p x) x) (after.1 p x from within) (le_not_gt (cmp (get_or xs p x) x) (before.0 p x (omega arith) below)) in
    subst (λ found. SameAnswer cmp found (Some x)) (sym (slice_get-get_or xs p x within)) same

-- the quantile of a fraction that is neither 0 nor 1 is the entry at its place
pub quantile-at : {A : Type 0} (entries : List A) (least greatest : Option A) (a b n place : ℕ) (criteria : SearchCriteria) → (a == 0) ≡ false → (a == b) ≡ false →
    length entries ≡ n → place ≡ quantile_place n a b criteria → slice_get entries place ≡ quantile_in entries least greatest a b criteria
quantile-at entries least greatest a b n place criteria some part whole at = rw (some, part) (ap (slice_get entries) (at ∙ ap (λ m. quantile_place m a b criteria) (sym whole)))

-- A bag and its view: the view's answers are those of the bag's expanded list.

-- the sum of ones is the length
pub sum-ones : {A : Type 0} (xs : List A) → sum_by (λ x. 1) xs ≡ length xs
sum-ones [] = refl
sum-ones {A} (x ∷ xs) = omega (arith, sum_by-cons (λ (y : A). 1) x xs, sum-ones xs)

weigh-ones : {A : Type 0} (h : ℕ) (levels : List (List A)) → weigh (sum_by (λ x. 1)) h levels ≡ weigh length h levels
weigh-ones h [] = refl
weigh-ones h (l ∷ ls) = ap₂ (λ m n. 2 ^ h * m + n) (sum-ones l) (weigh-ones (suc h) ls)

-- the length of the expanded list is the bag's weight
pub length-expanded : {A : Type 0} (cmp : A → A → Ordering) (bag : Bag A) → length (expanded cmp bag) ≡ weight bag
length-expanded cmp bag = sym (sum-ones (expanded cmp bag)) ∙ (sum_by-expanded (λ x. 1) cmp bag ∙ weigh-ones 0 bag.levels)

-- what queries see of a bag of weight n with these extremes
abbrev pub bag_queried : {A : Type 0} → (A → A → Ordering) → Bag A → ℕ → Option A → Option A → Queried A
bag_queried cmp bag n least greatest = record { cmp = cmp; n = n; entries = expanded cmp bag; least = least; greatest = greatest }

-- a view built from entries that compare equal to a bag's expanded list is a view of the bag
pub built-view : {A E : Type 0} {cmp : A → A → Ordering} → IsTotalOrder cmp → (bag : Bag A) (n : ℕ) (least least' greatest greatest' : Option A)
    (r : Result (View A) E) → weight bag ≡ n → SameAnswer cmp least least' → SameAnswer cmp greatest greatest' →
    IfOk r (λ v. SameItems cmp (expanded cmp bag) v.entries) → IfOk r (λ v. v.least ≡ least') → IfOk r (λ v. v.greatest ≡ greatest') →
    IfOk r (IsViewOf (bag_queried cmp bag n least greatest))
built-view order bag n least least' greatest greatest' (Err e) weighs l g same le ge = tt
built-view {cmp = cmp} order bag n least least' greatest greatest' (Ok v) weighs l g same le ge = record {
  entries = same;
  weighs_n = sym (length_all_zip (λ x y. cmp x y ≡ Equal) (expanded cmp bag) v.entries same) ∙ (length-expanded cmp bag ∙ weighs);
  least = subst (λ x. SameAnswer cmp least x) (sym le) l;
  greatest = subst (λ x. SameAnswer cmp greatest x) (sym ge) g;
  ranks = λ y criteria. sym (SameCounts-from_items order (expanded cmp bag) v.entries same y criteria);
}

-- the answers of a view of what queries see of a sketch are the sketch's
module _ {A : Type 0} {q : Queried A} (order : IsTotalOrder q.cmp) {v : View A} (h : IsViewOf q v) (criteria : SearchCriteria) where
  abbrev theirs : Queried A
  theirs = queried_view q.cmp v

  one-quantile : (fraction : Rank) (found : Option A) → SameAnswer q.cmp (quantile_of theirs fraction criteria) found → SameAnswer q.cmp (quantile_of q fraction criteria) found
  one-quantile fraction found k = SameAnswer-trans order (quantile_of q fraction criteria) (quantile_of theirs fraction criteria) found
      (quantile-same q.cmp q.entries v.entries q.least v.least q.greatest v.greatest fraction.weight fraction.total criteria h.entries h.least h.greatest) k

  many-quantiles : (fractions : List Rank) (found : List A) → AreAtFractions theirs criteria fractions found → AreAtFractions q criteria fractions found
  many-quantiles [] [] k = tt
  many-quantiles (f ∷ fs) (x ∷ xs) k = (one-quantile f (Some x) k.0, many-quantiles fs xs k.1)
  many-quantiles _ _ k = absurd k

  pub quantile-result : (fraction : Rank) (r : Result (Option A) ErrorKind) → IsQuantile theirs fraction criteria r → IsQuantile q fraction criteria r
  quantile-result fraction r = wanted-too r h.weighs_n (one-quantile fraction)

  pub quantiles-result : (fractions : List Rank) (r : Result (Option (Vec A Global)) ErrorKind) → AreQuantiles theirs fractions criteria r → AreQuantiles q fractions criteria r
  quantiles-result fractions r = wanted-too r h.weighs_n
      (λ found. some-weaker found (λ xs. AreAtFractions theirs criteria fractions xs.items) (λ xs. AreAtFractions q criteria fractions xs.items) (λ xs. many-quantiles fractions xs.items))

  pub cdf-result : (points : List A) (r : Masses) → IsCdf theirs points criteria r → IsCdf q points criteria r
  cdf-result points r =
      let of_view = cdf_of q.cmp criteria v.entries points in
      let ours = cdf_of q.cmp criteria q.entries points in
      let same : ranks_of (length v.entries) of_view ≡ ranks_of q.n ours = ap₂ ranks_of h.weighs_n (sym (cdf-same order criteria q.entries v.entries points h.entries)) in
      wanted-too r h.weighs_n (λ found. some-weaker found (λ ranks. ranks.items ≡ ranks_of (length v.entries) of_view) (λ ranks. ranks.items ≡ ranks_of q.n ours) (λ ranks e. e ∙ same))

-- The list that items with cumulative weights stand for: its entry at a place, its counts, its length.

-- the weight of the first i items, from a start
abbrev from : ℕ → List ℕ → ℕ → ℕ
from before cumulated i = get_or (before ∷ cumulated) i 0 - before

rises-to : (before : ℕ) (cumulated : List ℕ) (i : ℕ) → i ≤ length cumulated → Rises before cumulated → before ≤ get_or (before ∷ cumulated) i 0
rises-to before cumulated zero l up = omega arith
rises-to before [] (suc i) l up = absurd (omega arith)
rises-to before (c ∷ cs) (suc i) l up = let ih = rises-to c cs i (omega arith) up.1 in omega (arith, ih, up.0)

from-zero : (cumulated : List ℕ) (i : ℕ) → from 0 cumulated i ≡ weight_before cumulated i
from-zero cumulated i = grind (arith, common_steps)

module _ {A : Type 0} where
  get-within_copies : (n k : ℕ) (x : A) (ys : List A) → k < n → slice_get (replicate n x ++ ys) k ≡ Some x
  get-within_copies zero k x ys l = absurd (omega arith)
  get-within_copies (suc n) zero x ys l = refl
  get-within_copies (suc n) (suc k) x ys l = get-within_copies n k x ys (omega arith)

  get-past_copies : (n k : ℕ) (x : A) (ys : List A) → n ≤ k → slice_get (replicate n x ++ ys) k ≡ slice_get ys (k - n)
  get-past_copies zero k x ys l = ap (slice_get ys) (omega arith)
  get-past_copies (suc n) zero x ys l = absurd (omega arith)
  get-past_copies (suc n) (suc k) x ys l = get-past_copies n k x ys (omega arith) ∙ ap (slice_get ys) (omega arith)

  get-spread_over : (before : ℕ) (items : List A) (cumulated : List ℕ) (place i : ℕ) → length items ≡ length cumulated → Rises before cumulated → before ≤ place →
      IsSplitAt (λ c. nat_le c place) cumulated i → slice_get (spread_over before items cumulated) (place - before) ≡ slice_get items i
  get-spread_over before [] cumulated place i e up le h = refl
  get-spread_over before (x ∷ xs) [] place i e up le h = absurd (omega (arith, e))
  get-spread_over before (x ∷ xs) (c ∷ cs) place zero e up le h =
      get-within_copies (c - before) (place - before) x (spread_over c xs cs) (omega (arith, leb-false c place (h.1 0 c (omega arith) (omega arith))))
  get-spread_over before (x ∷ xs) (c ∷ cs) place (suc i) e up le h =
      let past : c ≤ place = leb-true c place (h.0 0 c (omega arith) (omega arith)) in
      get-past_copies (c - before) (place - before) x (spread_over c xs cs) (omega (arith, past, up.0)) ∙ (ap (slice_get (spread_over c xs cs)) (omega (arith, past, up.0)) ∙
      get-spread_over c xs cs place i (omega (arith, e)) up.1 past (((λ k d l u. h.0 (suc k) d (omega arith) (omega arith)), (λ k d l u. h.1 (suc k) d (omega arith) (omega arith)))))

  none-counted : (test : A → Bool) (before : ℕ) (items : List A) (cumulated : List ℕ) → AllWithin (λ x. test x ≡ false) items 0 (length items) → count_by test (spread_over before items cumulated) ≡ 0
  none-counted test before (x ∷ xs) (c ∷ cs) h =
      let one : A → ℕ = λ y. cond (test y) 1 0 in
      let times : (c - before) * one x ≡ 0 = ap (λ n. (c - before) * n) (ap {B = ℕ} (λ (b : Bool). cond b 1 0) (h 0 x (omega arith) (omega arith))) ∙ omega arith in
      omega (
        arith,
        sum_by-append one (replicate (c - before) x) (spread_over c xs cs),
        sum_by-replicate one (c - before) x,
        times,
        none-counted test c xs cs (λ k d l u. h (suc k) d (omega arith) (omega arith)),
      )
  none-counted test before _ _ h = refl

  count-spread_over : (test : A → Bool) (before : ℕ) (items : List A) (cumulated : List ℕ) (i : ℕ) → i ≤ length items → length items ≡ length cumulated → Rises before cumulated →
      IsSplitAt test items i → count_by test (spread_over before items cumulated) ≡ from before cumulated i
  count-spread_over test before items cumulated zero l e up h = none-counted test before items cumulated h.1 ∙ omega arith
  count-spread_over test before [] cumulated (suc i) l e up h = absurd (omega arith)
  count-spread_over test before (x ∷ xs) [] (suc i) l e up h = absurd (omega (arith, e))
  count-spread_over test before (x ∷ xs) (c ∷ cs) (suc i) l e up h =
      let one : A → ℕ = λ y. cond (test y) 1 0 in
      let times : (c - before) * one x ≡ c - before = ap (λ n. (c - before) * n) (ap {B = ℕ} (λ (b : Bool). cond b 1 0) (h.0 0 x (omega arith) (omega arith))) ∙ omega arith in
      omega (
        arith,
        sum_by-append one (replicate (c - before) x) (spread_over c xs cs),
        sum_by-replicate one (c - before) x,
        times,
        count-spread_over test c xs cs i (omega arith) (omega (arith, e)) up.1 (((λ k d l u. h.0 (suc k) d (omega arith) (omega arith)), (λ k d l u. h.1 (suc k) d (omega arith) (omega arith)))),
        up.0,
        (rises-to c cs i (omega (arith, l, e)) up.1),
      )

  length-spread_over : (before : ℕ) (items : List A) (cumulated : List ℕ) → length items ≡ length cumulated → Rises before cumulated →
      length (spread_over before items cumulated) ≡ from before cumulated (length cumulated)
  length-spread_over before [] [] e up = omega arith
  length-spread_over before (x ∷ xs) (c ∷ cs) e up = grind (arith, common_steps, rises-to, length-append, length-replicate, length-spread_over c xs cs (omega (arith, e)) up.1)
  length-spread_over before _ _ e up = absurd (omega (arith, e))

  -- the entry at a place
  pub get-spread_out : (items : List A) (cumulated : List ℕ) (place i : ℕ) → AreCumulated items cumulated → IsSplitAt (λ c. nat_le c place) cumulated i →
      slice_get (spread_out items cumulated) place ≡ slice_get items i
  get-spread_out items cumulated place i h parts =
      ap (slice_get (spread_out items cumulated)) (omega arith) ∙ get-spread_over 0 items cumulated place i h.one_each (rises_from_zero cumulated h.none_falls) (omega arith) parts

  -- the number of entries that pass a test
  pub count-spread_out : (test : A → Bool) (items : List A) (cumulated : List ℕ) (i : ℕ) → i ≤ length items → AreCumulated items cumulated → IsSplitAt test items i →
      count_by test (spread_out items cumulated) ≡ weight_before cumulated i
  count-spread_out test items cumulated i l h parts = count-spread_over test 0 items cumulated i l h.one_each (rises_from_zero cumulated h.none_falls) parts ∙ from-zero cumulated i

  -- the number of entries
  pub length-spread_out : (items : List A) (cumulated : List ℕ) → AreCumulated items cumulated → length (spread_out items cumulated) ≡ weight_before cumulated (length cumulated)
  length-spread_out items cumulated h = length-spread_over 0 items cumulated h.one_each (rises_from_zero cumulated h.none_falls) ∙ from-zero cumulated (length cumulated)
