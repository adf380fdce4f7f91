-- Lists and levels in parts: what holds for each item still does for the items that are kept or sent up.
use Rattle.std.proofs.lemmas.Grind.{common_steps}
use Rattle.std.proofs.Common.{rules, ◌≡◌, ℕ, zero, suc, ◌-◌, ◌<◌, Bool, true, false, if◌then◌else◌, List, [], ◌∷◌, ◌++◌, length, take, drop, map, flat_map, arith, Ordering, Equal, is_gt, ◌+◌, ◌*◌, ◌/◌, cond, get_or, refl, IsSorted}
use Rattle.std.specs.List.{AllByRecursion, AllZip}
use Rattle.sketch_base.specs.Bag.{Bag, Taken, SameItems, half, sort, cut, insert_in_order, level_at, with_level, compaction}
use Rattle.std.specs.Cmp.{IsTotalOrder}
use Rattle.std.proofs.lemmas.List.{same_lists}
use Rattle.std.proofs.lemmas.List.Sorted.{sorted_far, ranks_by}

-- If P holds for each item of a list, it holds for each item of its parts; the same for levels, also after a compaction.

module _ {A : Type 0} (P : A → Type 0) where
  -- for each item of two lists, so for each item of one followed by the other
  pub all-append : (xs ys : List A) → AllByRecursion P xs → AllByRecursion P ys → AllByRecursion P (xs ++ ys)
  all-append [] ys h k = k
  all-append (x ∷ xs) ys h k = (h.0, all-append xs ys h.1 k)

  -- and the converse
  pub all-parts : (xs ys : List A) → AllByRecursion P (xs ++ ys) → AllByRecursion P xs × AllByRecursion P ys
  all-parts [] ys h = (tt, h)
  all-parts (x ∷ xs) ys h = let r = all-parts xs ys h.1 in ((h.0, r.0), r.1)

  -- for each item of a prefix
  pub all-take : (n : ℕ) (xs : List A) → AllByRecursion P xs → AllByRecursion P (take n xs)
  all-take (suc n) (x ∷ xs) h = (h.0, all-take n xs h.1)
  all-take _ _ h = tt

  -- for each item of a suffix
  pub all-drop : (n : ℕ) (xs : List A) → AllByRecursion P xs → AllByRecursion P (drop n xs)
  all-drop zero xs h = h
  all-drop (suc n) [] h = tt
  all-drop (suc n) (x ∷ xs) h = all-drop n xs h.1

  -- for each item of a half
  pub all-half : (odd : Bool) (xs : List A) → AllByRecursion P xs → AllByRecursion P (half odd xs)
  all-half false (x ∷ xs) h = (h.0, all-half true xs h.1)
  all-half true (x ∷ xs) h = all-half false xs h.1
  all-half _ [] h = tt

  module _ (cmp : A → A → Ordering) where
    -- for each item of a list with one more item inserted
    pub all-insert : (x : A) (xs : List A) → P x → AllByRecursion P xs → AllByRecursion P (insert_in_order cmp x xs)
    all-insert x [] p h = (p, tt)
    all-insert x (y ∷ ys) p h =
        elim (is_gt (cmp x y)) as (λ (b : Bool). AllByRecursion P (if b then y ∷ insert_in_order cmp x ys else x ∷ y ∷ ys)) [ true ↦ (h.0, all-insert x ys p h.1) | false ↦ (p, h) ]

    -- for each item of the sorted list
    pub all-sort : (xs : List A) → AllByRecursion P xs → AllByRecursion P (sort cmp xs)
    all-sort [] h = tt
    all-sort (x ∷ xs) h = all-insert x (sort cmp xs) h.0 (all-sort xs h.1)

    all-inserted : (x : A) (xs : List A) → AllByRecursion P (insert_in_order cmp x xs) → P x × AllByRecursion P xs
    all-inserted x [] h = (h.0, tt)
    all-inserted x (y ∷ ys) h = (elim (is_gt (cmp x y)) as (λ (b : Bool). AllByRecursion P (if b then y ∷ insert_in_order cmp x ys else x ∷ y ∷ ys) → P x × AllByRecursion P (y ∷ ys)) [
      | true ↦ λ h. let r = all-inserted x ys h.1 in (r.0, (h.0, r.1))
      | false ↦ λ h. (h.0, h.1)
    ]) h

    all-sorted : (xs : List A) → AllByRecursion P (sort cmp xs) → AllByRecursion P xs
    all-sorted [] h = tt
    all-sorted (x ∷ xs) h = let r = all-inserted x (sort cmp xs) h in (r.0, all-sorted xs r.1)

    -- P doesn't distinguish items that compare equal
    module _ (keeps : (x y : A) → cmp x y ≡ Equal → P x → P y) where
      -- then it holds for each item of a list that compares equal place by place
      pub all-same : (xs ys : List A) → SameItems cmp xs ys → AllByRecursion P xs → AllByRecursion P ys
      all-same [] [] s h = tt
      all-same (x ∷ xs) (y ∷ ys) s h = (keeps x y s.0 h.0, all-same xs ys s.1 h.1)
      all-same _ _ s h = absurd s

      -- and for each item of a list that does so once both are sorted
      pub all-alike : (xs ys : List A) → SameItems cmp (sort cmp xs) (sort cmp ys) → AllByRecursion P xs → AllByRecursion P ys
      all-alike xs ys s h = all-sorted ys (all-same (sort cmp xs) (sort cmp ys) s (all-sort xs h))

  -- P holds for each item of each level
  abbrev pub AllIn : List (List A) → Type 0
  AllIn = AllByRecursion (AllByRecursion P)

  -- if P holds in all levels, it holds in each of them
  pub all-level : (ls : List (List A)) (h : ℕ) → AllIn ls → AllByRecursion P (level_at ls h)
  all-level (l ∷ ls) zero a = a.0
  all-level (l ∷ ls) (suc h) a = all-level ls h a.1
  all-level [] _ a = tt

  -- and the converse
  pub all-by-place : (ls : List (List A)) → ((h : ℕ) → h < length ls → AllByRecursion P (level_at ls h)) → AllIn ls
  all-by-place [] a = tt
  all-by-place (l ∷ ls) a = (a 0 (omega arith), all-by-place ls (λ h i. a (suc h) (omega arith)))

  all-with_level : (h : ℕ) (change : List A → List A) (ls : List (List A)) → ((l : List A) → AllByRecursion P l → AllByRecursion P (change l)) → AllIn ls → AllIn (with_level [] h change ls)
  all-with_level zero change [] c a = (c [] tt, tt)
  all-with_level zero change (l ∷ ls) c a = (c l a.0, a.1)
  all-with_level (suc h) change [] c a = (tt, all-with_level h change [] c tt)
  all-with_level (suc h) change (l ∷ ls) c a = (a.0, all-with_level h change ls c a.1)

  all-cut : (cmp : A → A → Ordering) (taken : Taken) (in_list_order : Bool) (l : List A) → AllByRecursion P l →
      AllByRecursion P (cut cmp taken in_list_order l).0 × AllByRecursion P (cut cmp taken in_list_order l).1
  all-cut cmp taken in_list_order l a = grind (arith, common_steps, all-drop, all-sort, all-take)

  -- P holds in the levels after a compaction if it holds in those before
  pub all-compaction : (cmp : A → A → Ordering) (h : ℕ) (taken : Taken) (bit : Bool) (bag : Bag A) → AllIn bag.levels → AllIn (compaction cmp h taken bit bag).levels
  all-compaction cmp h taken bit bag a = search (rules, all-cut, all-level, all-with_level, all-append, all-half)

  -- P holds in the levels of a bag if it holds in those of an alike bag, and doesn't distinguish items that compare equal
  pub all-alike-levels : (cmp : A → A → Ordering) → ((x y : A) → cmp x y ≡ Equal → P x → P y) → (ls ms : List (List A)) →
      AllZip (λ xs ys. SameItems cmp (sort cmp xs) (sort cmp ys)) ls ms → AllIn ls → AllIn ms
  all-alike-levels cmp keeps [] [] s a = tt
  all-alike-levels cmp keeps (l ∷ ls) (m ∷ ms) s a = (all-alike cmp keeps l m s.0 a.0, all-alike-levels cmp keeps ls ms s.1 a.1)
  all-alike-levels cmp keeps _ _ s a = absurd s

  -- P holds for each item of a concatenation if it holds in each level
  pub all-flat : {B : Type 0} (items : B → List A) (ls : List B) → AllIn (map items ls) → AllByRecursion P (flat_map items ls)
  all-flat items [] a = tt
  all-flat items (l ∷ ls) a = all-append (items l) (flat_map items ls) a.0 (all-flat items ls a.1)

  -- and the converse
  pub all-by-level : {B : Type 0} (items : B → List A) (ls : List B) → AllByRecursion P (flat_map items ls) → AllIn (map items ls)
  all-by-level items [] a = tt
  all-by-level items (l ∷ ls) a = let r = all-parts (items l) (flat_map items ls) a in (r.0, all-by-level items ls r.1)

-- if P implies Q and holds for each item, Q holds for each item
pub all-map : {A : Type 0} (P Q : A → Type 0) → ((x : A) → P x → Q x) → (xs : List A) → AllByRecursion P xs → AllByRecursion Q xs
all-map P Q from [] h = tt
all-map P Q from (x ∷ xs) h = (from x h.0, all-map P Q from xs h.1)

-- The halves of a list, place by place.

-- 1 for the odd places, else 0
abbrev pub offset_of : Bool → ℕ
offset_of odd = cond odd 1 0

get_or-half : {A : Type 0} (odd : Bool) (xs : List A) (k : ℕ) (d : A) → get_or (half odd xs) k d ≡ get_or xs (2 * k + offset_of odd) d
get_or-half false (x ∷ xs) (suc k) d = grind (arith, common_steps, get_or-half true xs k d)
get_or-half true (x ∷ xs) k d = grind (arith, common_steps, get_or-half false xs k d)
get_or-half _ _ _ d = refl

-- the length of a half
pub length-half : {A : Type 0} (odd : Bool) (xs : List A) → length (half odd xs) ≡ (length xs + 1 - offset_of odd) / 2
length-half odd [] = grind arith
length-half odd (x ∷ xs) = grind (arith, length-half true xs, length-half false xs)

half_within : {A : Type 0} (odd : Bool) (xs : List A) (k : ℕ) → k < length (half odd xs) → 2 * k + offset_of odd < length xs
half_within odd xs k h = omega (arith, length-half odd xs)

-- a half of a sorted list is sorted
pub sorted_half : {A : Type 0} (cmp : A → A → Ordering) → IsTotalOrder cmp → (odd : Bool) (xs : List A) → IsSorted cmp xs → IsSorted cmp (half odd xs)
sorted_half cmp o odd xs up = grind (arith, common_steps, get_or-half, sorted_far, ranks_by, half_within)

-- a list of every other item of another one, from place 0 or from place 1 on, is a half of it
pub half_by_places : {A : Type 0} (odd : Bool) (xs zs : List A) (m : ℕ) → length xs ≡ 2 * m → length zs ≡ m →
    ((k : ℕ) (d : A) → k < m → get_or zs k d ≡ get_or xs (2 * k + offset_of odd) d) → zs ≡ half odd xs
half_by_places odd xs zs m e t each = grind (arith, common_steps, length-half, same_lists, get_or-half)
