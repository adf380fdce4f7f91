-- Sorted lists, their fronts and ends, and lists that compare equal once sorted. Every query counts the same in two lists exactly if they
-- compare equal place by place once sorted.
use Rattle.std.proofs.Common.{arith, ◌≡◌, true, false, Ordering, Less, Equal, is_gt, is_lt, is_le, ℕ, zero, suc, ◌+◌, ◌-◌, ◌*◌, ◌%◌, ◌^◌, ◌≤◌, Bool, cond, not, ◌&&◌, ◌==◌, List, [], ◌∷◌, length, take, drop, count_by, refl, mul-le-mul_left, ◌++◌, sym, ap, ◌∙◌, Greater, ◌<◌, get_or, IsPermutation, IsSorted}
use Rattle.std.proofs.lemmas.Grind.{common_steps}
use Rattle.std.specs.Cmp.{IsTotalOrder}
use Rattle.std.specs.Ordering.{ordering_reverse}
use Rattle.std.proofs.lemmas.Bool.{false≢true}
use Rattle.std.specs.Prelude.{⊤}
use Rattle.std.proofs.lemmas.List.Sums.{sum_by-cons, sum_by-take-le, sum_by-append}
use Rattle.std.proofs.lemmas.Cmp.{upto, tied_itself, back_total, alike_right}
use Rattle.sketch_base.specs.declared.common.SearchCriteria.{SearchCriteria}
use Rattle.sketch_base.specs.Query.{counted}
use Rattle.sketch_base.specs.Bag.{Bag, Taken, AllButLeftover, Lowest, Greatest, insert_in_order, sort, half, cut, parity_up, level_at, with_level, compaction, SameItems}
use Rattle.sketch_base.proofs.bags.Acts.{sum_by-insert_in_order, sum_by-halves, sum_by-sort, rank, weigh-added}
use Rattle.std.specs.List.{AllByRecursion}
use Rattle.std.specs.List.Sorted.{IsPartitionPoint, IsNonDecreasing}
use Rattle.std.proofs.lemmas.List.Elements.{length_all_zip, AllZip-get_or}
use Rattle.sketch_base.specs.declared.common.SearchCriteria.TheVariants.{Inclusive}
use Rattle.sketch_base.proofs.plays.Plays.{length-sort}
use Rattle.sketch_base.proofs.bags.Parts.{all-insert, all-map}
use Rattle.std.proofs.lemmas.List.Sorted.{IsNonDecreasingBy-from_all_adjacent, sum_by-IsPermutation, sorted_far, ranks_by}

-- How two items compare, and what this tells of the reverse comparison.

-- the tests of an ordering tell which one it is
pub less-from_is_lt : (o : Ordering) → is_lt o ≡ true → o ≡ Less
less-from_is_lt o h = grind (arith, common_steps, false≢true)

pub equal-from_neither : (o : Ordering) → is_lt o ≡ false → is_gt o ≡ false → o ≡ Equal
equal-from_neither o l g = grind (arith, common_steps)

-- if x is at most y, it isn't above y
pub le_not_gt : (o : Ordering) → is_le o ≡ true → is_gt o ≡ false
le_not_gt o e = grind (arith, common_steps, false≢true)

-- if x isn't above y, it is at most y
pub not_gt_le : (o : Ordering) → is_gt o ≡ false → is_le o ≡ true
not_gt_le o e = grind (arith, common_steps, false≢true)

-- if x is below y, it isn't above y
pub lt_not_gt : (o : Ordering) → is_lt o ≡ true → is_gt o ≡ false
lt_not_gt o e = grind (arith, common_steps, false≢true)

-- if x is above y, it isn't below y
pub gt_not_lt : (o : Ordering) → is_gt o ≡ true → is_lt o ≡ false
gt_not_lt o e = grind (arith, common_steps)

-- if y isn't below x, x isn't above y
pub not_lt_gt : (o p : Ordering) → o ≡ ordering_reverse p → is_lt o ≡ false → is_gt p ≡ false
not_lt_gt o p e h = grind (arith, common_steps, false≢true)

-- and the converse
pub not_gt_lt : (o p : Ordering) → o ≡ ordering_reverse p → is_gt p ≡ false → is_lt o ≡ false
not_gt_lt o p e h = grind (arith, common_steps, false≢true)

-- if y is above x, x isn't above y
pub gt_not_gt : (o p : Ordering) → o ≡ ordering_reverse p → is_gt o ≡ true → is_gt p ≡ false
gt_not_gt o p e h = grind (arith, common_steps, false≢true)

-- Falling tests: in a sorted list all items that pass come before those that fail.
-- So the counts of its two halves differ by at most one.

-- two numbers are at most d apart
abbrev pub IsNear : ℕ → ℕ → ℕ → Type 0
IsNear m n d = (m ≤ n + d) × (n ≤ m + d)

-- the arithmetic of a compaction: w is the weight of an item of the level above
apart : (w d heads tails rest up up' : ℕ) → w ≡ d → heads ≡ rest + w * up → tails ≡ rest + w * up' → up ≤ up' + 1 → heads ≤ tails + d
apart w d heads tails rest up up' e a b le = omega (arith, a, b, e, mul-le-mul_left w le)

module _ {A : Type 0} (test : A → Bool) where
  -- after an item that fails, all fail
  abbrev pub Falling : List A → Type 0
  Falling [] = ⊤
  Falling (x ∷ xs) = (test x ≡ false → count_by test xs ≡ 0) × Falling xs

  -- an item passes if it is at most one that passes
  abbrev pub IsMonotone : (A → A → Ordering) → Type 0
  IsMonotone cmp = (x y : A) → is_gt (cmp x y) ≡ false → test y ≡ true → test x ≡ true

  Falling-insert : (cmp : A → A → Ordering) → IsMonotone cmp → ((x y : A) → is_gt (cmp x y) ≡ true → is_gt (cmp y x) ≡ false) → (x : A) (xs : List A) → Falling xs → Falling (insert_in_order cmp x xs)
  Falling-insert cmp mono flip x [] h = (λ f. refl, tt)
  Falling-insert cmp mono flip x (y ∷ ys) h = grind (arith, common_steps, sum_by-insert_in_order, Falling-insert cmp mono flip x ys h.1)

  Falling-sort : (cmp : A → A → Ordering) → IsMonotone cmp → ((x y : A) → is_gt (cmp x y) ≡ true → is_gt (cmp y x) ≡ false) → (xs : List A) → Falling (sort cmp xs)
  Falling-sort cmp mono flip [] = tt
  Falling-sort cmp mono flip (x ∷ xs) = Falling-insert cmp mono flip x (sort cmp xs) (Falling-sort cmp mono flip xs)

  Falling-drop : (n : ℕ) (xs : List A) → Falling xs → Falling (drop n xs)
  Falling-drop zero xs h = h
  Falling-drop (suc n) [] h = tt
  Falling-drop (suc n) (x ∷ xs) h = Falling-drop n xs h.1

  Falling-take : (n : ℕ) (xs : List A) → Falling xs → Falling (take n xs)
  Falling-take (suc n) (x ∷ xs) h = (λ f. omega (arith, sum_by-take-le (λ x. cond (test x) 1 0) xs n, h.0 f), Falling-take n xs h.1)
  Falling-take _ _ h = tt

  -- the test counts the same at the even places as at the odd ones, or one more
  pub halves-near : (xs : List A) → Falling xs → (count_by test (half true xs) ≤ count_by test (half false xs)) × (count_by test (half false xs) ≤ count_by test (half true xs) + 1)
  halves-near [] h = (omega arith, omega arith)
  halves-near (x ∷ xs) h = grind (arith, common_steps, sum_by-cons, sum_by-halves, halves-near xs h.1)

  -- the counts in the halves that the two bits send up differ by at most one
  both_bits-near : (taken : Taken) (above items : List A) → Falling items →
      (count_by test (half (parity_up taken true above) items) ≤ count_by test (half (parity_up taken false above) items) + 1)
      × (count_by test (half (parity_up taken false above) items) ≤ count_by test (half (parity_up taken true above) items) + 1)
  both_bits-near AllButLeftover [] items h = let near = halves-near items h in (near.1, omega (arith, near.0))
  both_bits-near _ _ items h = let near = halves-near items h in (omega (arith, near.0), near.1)

  -- the test is falling on the items that a compaction takes
  pub Falling-cut : (cmp : A → A → Ordering) → ((xs : List A) → Falling (sort cmp xs)) → (taken : Taken) (in_list_order : Bool) (level : List A) → Falling (cut cmp taken in_list_order level).1
  Falling-cut cmp falls AllButLeftover true level = falls (take (length level - length level % 2) level)
  Falling-cut cmp falls AllButLeftover false level = Falling-drop (length level % 2) (sort cmp level) (falls level)
  Falling-cut cmp falls (Lowest n) in_list_order level = Falling-take n (sort cmp level) (falls level)
  Falling-cut cmp falls (Greatest n) in_list_order level = Falling-drop (length level - n) (sort cmp level) (falls level)

  -- the ranks after a compaction of level h by either bit are at most 2 * 2^h apart
  pub compaction-near : (cmp : A → A → Ordering) → ((xs : List A) → Falling (sort cmp xs)) → (h : ℕ) (taken : Taken) (bag : Bag A) →
      IsNear (rank (λ x. cond (test x) 1 0) (compaction cmp h taken false bag)) (rank (λ x. cond (test x) 1 0) (compaction cmp h taken true bag)) (2 * 2 ^ h)
  compaction-near cmp falls h taken bag =
      let one : A → ℕ = λ x. cond (test x) 1 0 in
      let above = level_at bag.levels (suc h) in
      let level = level_at bag.levels h in
      let parts = cut cmp taken (h == 0 && not bag.is_sorted) level in
      let rest = with_level [] h (λ level. parts.0) bag.levels in
      let near = both_bits-near taken above parts.1 (Falling-cut cmp falls taken (h == 0 && not bag.is_sorted) level) in (
        apart (2 ^ suc h) (2 * 2 ^ h) _ _ _ _ _ (omega arith) (weigh-added one (suc h) (half (parity_up taken false above) parts.1) rest)
            (weigh-added one (suc h) (half (parity_up taken true above) parts.1) rest) near.1,
        apart (2 ^ suc h) (2 * 2 ^ h) _ _ _ _ _ (omega arith) (weigh-added one (suc h) (half (parity_up taken true above) parts.1) rest)
            (weigh-added one (suc h) (half (parity_up taken false above) parts.1) rest) near.0,
      )

-- the tests of queries
module _ {A : Type 0} {cmp : A → A → Ordering} (order : IsTotalOrder cmp) where
  -- no two items are above each other
  pub flips : (x y : A) → is_gt (cmp x y) ≡ true → is_gt (cmp y x) ≡ false
  flips x y e = gt_not_gt (cmp x y) (cmp y x) (order.antisymm x y) e

  -- an item that is at most y is below each item that y is below
  pub lt_of_le_of_lt : (x y z : A) → is_gt (cmp x y) ≡ false → cmp y z ≡ Less → cmp x z ≡ Less
  lt_of_le_of_lt x y z le lt = grind (arith, common_steps, false≢true)

  -- a query that counts an item counts all items that are at most it
  pub counted-monotone : (z : A) (criteria : SearchCriteria) → IsMonotone (counted cmp z criteria) cmp
  counted-monotone z criteria x y le t = grind (arith, common_steps, not_gt_le, upto, le_not_gt, lt_of_le_of_lt, less-from_is_lt)

  -- the test of a query is falling on a sorted list
  pub counted-falls : (z : A) (criteria : SearchCriteria) (xs : List A) → Falling (counted cmp z criteria) (sort cmp xs)
  counted-falls z criteria xs = Falling-sort (counted cmp z criteria) cmp (counted-monotone z criteria) flips xs

-- Lists in which every query counts the same: exactly those that compare equal place by place once sorted.

module _ {A : Type 0} {cmp : A → A → Ordering} (order : IsTotalOrder cmp) where
  -- every query counts the same in both lists
  abbrev pub SameCounts : List A → List A → Type 0
  SameCounts xs ys = (z : A) (criteria : SearchCriteria) → count_by (counted cmp z criteria) xs ≡ count_by (counted cmp z criteria) ys

  abbrev one_of : A → SearchCriteria → A → ℕ
  one_of z criteria x = cond (counted cmp z criteria x) 1 0

  -- two such pairs of lists, appended
  pub SameCounts-append : (xs ys us vs : List A) → SameCounts xs ys → SameCounts us vs → SameCounts (xs ++ us) (ys ++ vs)
  SameCounts-append xs ys us vs h k z criteria = omega (arith, sum_by-append (one_of z criteria) xs us, sum_by-append (one_of z criteria) ys vs, h z criteria, k z criteria)

  -- a query counts both of two items that compare equal, or neither
  pub counted-equal : (x y : A) → cmp x y ≡ Equal → (z : A) (criteria : SearchCriteria) → counted cmp z criteria x ≡ counted cmp z criteria y
  counted-equal x y e z criteria = grind (arith, common_steps)

  -- every query counts the same in lists that compare equal place by place
  pub SameCounts-from_items : (xs ys : List A) → SameItems cmp xs ys → SameCounts xs ys
  SameCounts-from_items [] [] h z criteria = refl
  SameCounts-from_items (x ∷ xs) (y ∷ ys) h z criteria = grind (arith, common_steps, sum_by-cons, counted-equal, SameCounts-from_items xs ys h.1 z criteria)
  SameCounts-from_items _ _ h z criteria = absurd h

  -- a list is sorted: each item is at most all items after it
  abbrev pub Ordered : List A → Type 0
  Ordered [] = ⊤
  Ordered (x ∷ xs) = AllByRecursion (λ y. is_gt (cmp x y) ≡ false) xs × Ordered xs

  Ordered-insert : (x : A) (xs : List A) → Ordered xs → Ordered (insert_in_order cmp x xs)
  Ordered-insert x [] h = (tt, tt)
  Ordered-insert x (y ∷ ys) h = grind (arith, common_steps, all-insert, flips, all-map, upto, Ordered-insert x ys h.1)

  -- the result of a sort is sorted
  pub Ordered-sort : (xs : List A) → Ordered (sort cmp xs)
  Ordered-sort [] = tt
  Ordered-sort (x ∷ xs) = Ordered-insert x (sort cmp xs) (Ordered-sort xs)

  -- an item that is below y is below each item that is at least y
  pub below : (x y w : A) → cmp x y ≡ Less → is_gt (cmp y w) ≡ false → cmp x w ≡ Less
  below x y w lt le = lt_of_le_of_lt (back_total order) w y x le lt

  none_above : (x y : A) (ws : List A) → cmp x y ≡ Less → AllByRecursion (λ w. is_gt (cmp y w) ≡ false) ws → count_by (counted cmp x Inclusive) ws ≡ 0
  none_above x y [] lt h = refl
  none_above x y (w ∷ ws) lt h =
      omega (arith, sum_by-cons (one_of x Inclusive) w ws, none_above x y ws lt h.1, ap {B = ℕ} (λ (b : Bool). cond b 1 0) (ap is_le (order.antisymm w x ∙ ap ordering_reverse (below x y w lt h.0))))

  counts_first : (x : A) (xs : List A) → 1 ≤ count_by (counted cmp x Inclusive) (x ∷ xs)
  counts_first x xs = omega (arith, sum_by-cons (one_of x Inclusive) x xs, ap {B = ℕ} (λ (b : Bool). cond b 1 0) (ap is_le (tied_itself order x)))

  no_less : (x y : A) (xs ys : List A) → Ordered (y ∷ ys) → SameCounts (x ∷ xs) (y ∷ ys) → cmp x y ≡ Less → ⊥
  no_less x y xs ys o same lt =
      absurd (omega (arith, counts_first x xs, same x Inclusive, sum_by-cons (one_of x Inclusive) y ys, none_above x y ys lt o.0, ap {B = ℕ} (λ (b : Bool). cond b 1 0) (ap is_le (order.antisymm y x ∙ ap ordering_reverse lt))))

  -- sorted lists in which every query counts the same compare equal place by place
  pub items-from_counts : (xs ys : List A) → Ordered xs → Ordered ys → SameCounts xs ys → SameItems cmp xs ys
  items-from_counts [] [] o p same = tt
  items-from_counts [] (y ∷ ys) o p same = absurd (omega (arith, counts_first y ys, same y Inclusive))
  items-from_counts (x ∷ xs) [] o p same = absurd (omega (arith, counts_first x xs, same x Inclusive))
  items-from_counts (x ∷ xs) (y ∷ ys) o p same = (equal, items-from_counts xs ys o.1 p.1 rest)
    where
      equal : cmp x y ≡ Equal
      equal = go (cmp x y) refl
        where
          go : (r : Ordering) → cmp x y ≡ r → r ≡ Equal
          go Less e = absurd (no_less x y xs ys p same e)
          go Equal e = refl
          go Greater e = absurd (no_less y x ys xs o (λ z c. sym (same z c)) (order.antisymm y x ∙ ap ordering_reverse e))

      rest : SameCounts xs ys
      rest z criteria = omega (
        arith,
        same z criteria,
        sum_by-cons (one_of z criteria) x xs,
        sum_by-cons (one_of z criteria) y ys,
        ap {B = ℕ} (λ (b : Bool). cond b 1 0) (counted-equal x y equal z criteria),
      )

  -- any such lists compare equal place by place once sorted
  pub sorted_items : (xs ys : List A) → SameCounts xs ys → SameItems cmp (sort cmp xs) (sort cmp ys)
  sorted_items xs ys same = items-from_counts (sort cmp xs) (sort cmp ys) (Ordered-sort xs) (Ordered-sort ys)
      (λ z c. sum_by-sort (one_of z c) cmp xs ∙ (same z c ∙ sym (sum_by-sort (one_of z c) cmp ys)))

  -- and the converse
  pub SameCounts-from_sorted : (xs ys : List A) → SameItems cmp (sort cmp xs) (sort cmp ys) → SameCounts xs ys
  SameCounts-from_sorted xs ys h z c = sym (sum_by-sort (one_of z c) cmp xs) ∙ (SameCounts-from_items (sort cmp xs) (sort cmp ys) h z c ∙ sum_by-sort (one_of z c) cmp ys)

  -- such lists have the same length
  pub same_length : (xs ys : List A) → SameCounts xs ys → length xs ≡ length ys
  same_length xs ys same = sym (length-sort cmp xs) ∙ (length_all_zip (λ x y. cmp x y ≡ Equal) (sort cmp xs) (sort cmp ys) (sorted_items xs ys same) ∙ length-sort cmp ys)

  -- as the level above, such lists give a compaction the same parity
  pub parity-same : (taken : Taken) (bit : Bool) (xs ys : List A) → SameCounts xs ys → parity_up taken bit xs ≡ parity_up taken bit ys
  parity-same AllButLeftover bit [] (y ∷ ys) same = absurd (omega (arith, counts_first y ys, same y Inclusive))
  parity-same AllButLeftover bit (x ∷ xs) [] same = absurd (omega (arith, counts_first x xs, same x Inclusive))
  parity-same _ bit _ _ same = refl

-- if exactly the first i items pass a test, the test counts i items
pub counted-parts : {A : Type 0} (test : A → Bool) (xs : List A) (i : ℕ) → i ≤ length xs → IsPartitionPoint (λ y. test y ≡ true) (λ y. test y ≡ false) xs i → i ≡ count_by test xs
counted-parts test [] i l h = omega arith
counted-parts test (x ∷ xs) zero l h =
    let here : cond (test x) 1 0 ≡ 0 = ap {B = ℕ} (λ (c : Bool). cond c 1 0) (h.1 0 x (omega arith) (omega arith)) in
    omega (arith, counted-parts test xs zero (omega arith) ((λ k d l m. absurd (omega arith)), (λ k d l m. h.1 (suc k) d (omega arith) (omega arith))), sum_by-cons (λ y. cond (test y) 1 0) x xs, here)
counted-parts test (x ∷ xs) (suc i) l h =
    let r = counted-parts test xs i (omega arith) ((λ k d l m. h.0 (suc k) d (omega arith) (omega arith)), (λ k d l m. h.1 (suc k) d (omega arith) (omega arith))) in
    let here : cond (test x) 1 0 ≡ 1 = ap {B = ℕ} (λ (c : Bool). cond c 1 0) (h.0 0 x (omega arith) (omega arith)) in
    omega (arith, r, sum_by-cons (λ y. cond (test y) 1 0) x xs, here)

-- Numbers that never decrease from a start on.

-- each is at least the one before it
abbrev pub Rises : ℕ → List ℕ → Type 0
Rises before [] = ⊤
Rises before (n ∷ ns) = (before ≤ n) × Rises n ns

adjacent : (before : ℕ) (ns : List ℕ) → Rises before ns → (k d : ℕ) → k + 1 < length (before ∷ ns) → get_or (before ∷ ns) k d ≤ get_or (before ∷ ns) (k + 1) d
adjacent before [] h k d l = absurd (omega arith)
adjacent before (n ∷ ns) h zero d l = h.0
adjacent before (n ∷ ns) h (suc k) d l = grind (arith, common_steps, adjacent n ns h.1 k d (omega arith))

-- numbers that rise from a start never decrease, and numbers that never decrease rise from the first of them
pub non_decreasing_from_rises : (before : ℕ) (ns : List ℕ) → Rises before ns → IsNonDecreasing ns
non_decreasing_from_rises before [] h = λ i j d le l. absurd (omega arith)
non_decreasing_from_rises before (n ∷ ns) h = IsNonDecreasingBy-from_all_adjacent (λ x. x) (n ∷ ns) (adjacent n ns h.1)

rises_from_non_decreasing : (n : ℕ) (ns : List ℕ) → IsNonDecreasing (n ∷ ns) → Rises n ns
rises_from_non_decreasing n [] h = tt
rises_from_non_decreasing n (m ∷ ms) h = (h 0 1 0 (omega arith) (omega arith), rises_from_non_decreasing m ms (λ i j d le l. h (suc i) (suc j) d (omega arith) (omega arith)))

-- numbers that never decrease rise from 0
pub rises_from_zero : (ns : List ℕ) → IsNonDecreasing ns → Rises 0 ns
rises_from_zero [] h = tt
rises_from_zero (n ∷ ns) h = (omega arith, rises_from_non_decreasing n ns h)

-- Sorting changes nothing in a sorted list, and lists that compare equal still do once sorted.

module _ {A : Type 0} (cmp : A → A → Ordering) (o : IsTotalOrder cmp) where
  all-places : (x : A) (xs : List A) → ((k : ℕ) (d : A) → k < length xs → is_gt (cmp x (get_or xs k d)) ≡ false) → AllByRecursion (λ y. is_gt (cmp x y) ≡ false) xs
  all-places x [] h = tt
  all-places x (y ∷ ys) h = (h 0 y (omega arith), all-places x ys (λ k d b. h (suc k) d (omega arith)))

  -- if each item is at most the next one, it is at most all items after it
  pub Ordered-from_sorted : (xs : List A) → IsSorted cmp xs → Ordered o xs
  Ordered-from_sorted [] h = tt
  Ordered-from_sorted (x ∷ xs) h = (
    all-places x xs (λ k d b. not_lt_gt (cmp (get_or xs k d) x) (cmp x (get_or xs k d)) (o.antisymm (get_or xs k d) x)
        (sorted_far (λ a b. is_lt (cmp a b)) (ranks_by o (λ (a : _). a)) (x ∷ xs) h 0 (suc k) d (omega arith) (omega arith))),
    Ordered-from_sorted xs (λ k d l b.
        let e : suc k + 1 ≡ suc (k + 1) = omega arith in
        rw e at (h (suc k) d (omega arith) (omega arith))),
  )

  -- and the converse
  pub IsSorted-from_ordered : (xs : List A) → Ordered o xs → IsSorted cmp xs
  IsSorted-from_ordered (x ∷ y ∷ ys) h = grind (arith, common_steps, not_gt_lt, IsSorted-from_ordered (y ∷ ys) h.1)
  IsSorted-from_ordered _ h = λ k d l b. absurd (omega arith)

  -- the result of a sort is sorted
  pub IsSorted-sort : (xs : List A) → IsSorted cmp (sort cmp xs)
  IsSorted-sort xs = IsSorted-from_ordered (sort cmp xs) (Ordered-sort o xs)

  -- a suffix of a sorted list is sorted
  pub Ordered-drop : (n : ℕ) (xs : List A) → Ordered o xs → Ordered o (drop n xs)
  Ordered-drop zero xs h = h
  Ordered-drop (suc n) [] h = tt
  Ordered-drop (suc n) (x ∷ xs) h = Ordered-drop n xs h.1

  -- sorting a sorted list changes nothing
  pub sort-ordered : (xs : List A) → Ordered o xs → SameItems cmp (sort cmp xs) xs
  sort-ordered xs h = items-from_counts o (sort cmp xs) xs (Ordered-sort o xs) h (λ z c. sum_by-sort (λ x. cond (counted cmp z c x) 1 0) cmp xs)

  -- the same with the two lists exchanged
  pub ordered-sort : (xs : List A) → Ordered o xs → SameItems cmp xs (sort cmp xs)
  ordered-sort xs h = items-from_counts o xs (sort cmp xs) h (Ordered-sort o xs) (λ z c. sym (sum_by-sort (λ x. cond (counted cmp z c x) 1 0) cmp xs))

  -- lists that compare equal still do once sorted
  pub SameItems-sort : (xs ys : List A) → SameItems cmp xs ys → SameItems cmp (sort cmp xs) (sort cmp ys)
  SameItems-sort xs ys s = sorted_items o xs ys (SameCounts-from_items o xs ys s)

  -- a sorted permutation of a list that compares equal to xs compares equal to the sorted xs
  pub same_as_sort : (xs ys zs : List A) → SameItems cmp xs ys → IsPermutation ys zs → IsSorted cmp zs → SameItems cmp (sort cmp xs) zs
  same_as_sort xs ys zs s p h = items-from_counts o (sort cmp xs) zs (Ordered-sort o xs) (Ordered-from_sorted zs h)
      (λ z c. sum_by-sort (λ x. cond (counted cmp z c x) 1 0) cmp xs ∙ (SameCounts-from_items o xs ys s z c ∙ sym (sum_by-IsPermutation (λ x. cond (counted cmp z c x) 1 0) ys zs p)))

-- a list that compares equal to a sorted list is sorted
pub sorted_same : {A : Type 0} {cmp : A → A → Ordering} → IsTotalOrder cmp → (xs ys : List A) → SameItems cmp xs ys → IsSorted cmp xs → IsSorted cmp ys
sorted_same {A} {cmp} o xs ys h up k d l u =
    let within : k + 1 < length xs = omega (arith, length_all_zip (λ x y. cmp x y ≡ Equal) xs ys h, u) in
    let one : cmp (get_or xs k d) (get_or ys k d) ≡ Equal = AllZip-get_or (λ x y. cmp x y ≡ Equal) xs ys k d d h (omega (arith, within)) in
    let two : cmp (get_or xs (k + 1) d) (get_or ys (k + 1) d) ≡ Equal = AllZip-get_or (λ x y. cmp x y ≡ Equal) xs ys (k + 1) d d h within in
    let same : cmp (get_or xs (k + 1) d) (get_or xs k d) ≡ cmp (get_or ys (k + 1) d) (get_or ys k d) = grind (arith, common_steps, alike_right) in
    sym (ap is_lt same) ∙ up k d l within

-- a list of at most one item is sorted
pub short_sorted : {A : Type 0} (cmp : A → A → Ordering) (xs : List A) → length xs ≤ 1 → IsSorted cmp xs
short_sorted cmp xs h = λ k d l b. absurd (omega arith)
