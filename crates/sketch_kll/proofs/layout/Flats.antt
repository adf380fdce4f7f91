-- Levels laid out flat in one list, between bounds. What is done to the list at a place is done to one level; the others stay.
-- Also with items appended to level 0, and with empty levels added above the top.
use Rattle.std.proofs.lemmas.Grind.{common_steps}
use Rattle.std.proofs.Common.{◌≡◌, ℕ, zero, suc, ◌+◌, ◌-◌, ◌*◌, ◌/◌, ◌%◌, ◌<◌, ◌≤◌, Bool, true, false, not, List, [], ◌∷◌, ◌++◌, length, get_or, take, drop, refl, sym, ap, ap₂, ◌∙◌, arith, IsSorted, Ordering, append_assoc, append-nil, take_at, drop_at, length-append, length-take, length-drop, drop-drop, take_all, set, ext_get_or, add-zero, add-suc, ◌⊎◌, replicate, inl, inr}
use Rattle.std.specs.List.{between}
use Rattle.std.specs.Cmp.{IsTotalOrder}
use Rattle.std.proofs.lemmas.List.{take-append-le, drop-append-le, drop_all}
use Rattle.std.proofs.lemmas.Slice.{between_is}
use Rattle.std.proofs.lemmas.List.Edits.{length-between}
use Rattle.sketch_base.specs.Bag.{half, sort, SameItems, parity_up, AllButLeftover}
use Rattle.sketch_kll.specs.Levels.{body_of, leftover_of, retained_in, first_level, compacted, SameLevels, AllSorted, UpperSorted, weight_in}
use Rattle.sketch_kll.specs.Flat.{flat, marks, cut_at, levels_in, IsFlat, shifted}
use Rattle.sketch_base.proofs.bags.Parts.{all-drop, all-append}
use Rattle.sketch_base.proofs.bags.Alike.{SameItems-refl, SameItems-append}
use Rattle.sketch_base.proofs.order.Order.{short_sorted}
use Rattle.std.proofs.lemmas.Cmp.{tied_itself}
use Rattle.sketch_kll.specs.Steps.{put, put_all}
use Rattle.sketch_kll.specs.Stored.{AreStored}

-- Levels laid out flat in one list, between bounds.

-- ---- levels laid out

-- the length of the flat list is the number of retained items
pub length-flat : {A : Type 0} (ls : List (List A)) → length (flat ls) ≡ retained_in ls
length-flat [] = refl
length-flat (l ∷ ls) = let h = length-flat ls in omega (arith, h, length-append (flat ls) l)

-- there is one more mark than levels
pub length-marks : {A : Type 0} (ls : List (List A)) → length (marks ls) ≡ length ls + 1
length-marks [] = refl
length-marks (l ∷ ls) = let h = length-marks ls in omega (arith, h)

-- the first mark counts all items
pub marks_head : {A : Type 0} (ls : List (List A)) → marks ls ≡ retained_in ls ∷ drop 1 (marks ls)
marks_head [] = refl
marks_head (l ∷ ls) = refl

cut_flat : {A : Type 0} (ls : List (List A)) → cut_at (flat ls) (drop 1 (marks ls)) ≡ ls
cut_flat [] = refl
cut_flat (l ∷ ls) =
    ap (cut_at (flat ls ++ l)) (marks_head ls)
    ∙ ap₂ (λ a b. a ∷ b) (drop_at (flat ls) l (retained_in ls) (length-flat ls))
    (ap (λ x. cut_at x (drop 1 (marks ls))) (take_at (flat ls) l (retained_in ls) (length-flat ls)) ∙ cut_flat ls)

-- a list and bounds that are made from levels hold those levels
pub levels_of_flat : {A : Type 0} (items : List A) (bounds : List ℕ) (ls : List (List A)) → items ≡ flat ls → bounds ≡ marks ls → levels_in items bounds ≡ ls
unfolding levels_in
levels_of_flat items bounds ls e f = ap₂ (λ x b. cut_at x (drop 1 b)) e f ∙ cut_flat ls

-- the marks of levels fit the flat list of those levels
pub is_flat : {A : Type 0} (items : List A) (bounds : List ℕ) (ls : List (List A)) → items ≡ flat ls → bounds ≡ marks ls → IsFlat items bounds
is_flat items bounds ls e f = grind (arith, common_steps, levels_of_flat, flat)

get_or-marks : {A : Type 0} (ls : List (List A)) (j : ℕ) → get_or (marks ls) j 0 ≡ retained_in (drop j ls)
get_or-marks (l ∷ ls) (suc j) = get_or-marks ls j
get_or-marks [] (suc j) = refl
get_or-marks ls j = refl

retained-drop : {A : Type 0} (ls : List (List A)) (j : ℕ) → retained_in (drop j ls) ≤ retained_in ls
retained-drop (l ∷ ls) (suc j) = omega (arith, retained-drop ls j)
retained-drop [] (suc j) = omega arith
retained-drop ls j = omega arith

-- the flat list begins with the levels from level j up
pub take-flat : {A : Type 0} (ls : List (List A)) (j : ℕ) → take (retained_in (drop j ls)) (flat ls) ≡ flat (drop j ls)
take-flat [] zero = refl
take-flat [] (suc j) = refl
take-flat (l ∷ ls) zero = let h = length-flat (l ∷ ls) in take_all (retained_in (l ∷ ls)) (flat (l ∷ ls)) (omega (arith, h))
take-flat (l ∷ ls) (suc j) =
    take-append-le (retained_in (drop j ls)) (flat ls) l (let h = retained-drop ls j in let k = length-flat ls in omega (arith, h, k)) ∙ take-flat ls j

-- the rest of it holds the levels below level j
pub drop-flat : {A : Type 0} (ls : List (List A)) (j : ℕ) → drop (retained_in (drop j ls)) (flat ls) ≡ flat (take j ls)
drop-flat [] zero = refl
drop-flat [] (suc j) = refl
drop-flat (l ∷ ls) zero = let h = length-flat (l ∷ ls) in drop_all (retained_in (l ∷ ls)) (flat (l ∷ ls)) (omega (arith, h))
drop-flat (l ∷ ls) (suc j) =
    drop-append-le (retained_in (drop j ls)) (flat ls) l (let h = retained-drop ls j in let k = length-flat ls in omega (arith, h, k)) ∙ ap (λ x. x ++ l) (drop-flat ls j)

first_of_flat : {A : Type 0} (ls : List (List A)) → drop (retained_in (drop 1 ls)) (flat ls) ≡ first_level ls
first_of_flat [] = refl
first_of_flat (l ∷ ls) = drop_at (flat ls) l (retained_in ls) (length-flat ls)

-- a level lies between its bounds
pub level_at : {A : Type 0} (ls : List (List A)) (j : ℕ) → between (retained_in (drop (suc j) ls)) (retained_in (drop j ls)) (flat ls) ≡ first_level (drop j ls)
level_at {A} ls j =
    let n : j + 1 ≡ suc j = omega arith in
    let e : drop (suc j) ls ≡ drop 1 (drop j ls) = sym (drop-drop 1 j ls ∙ ap (λ n. drop n ls) n) in
    grind (arith, common_steps, between_is, take-flat, first_of_flat)

-- the levels with new lists in place of one level and the level above it
abbrev pub replaced : {A : Type 0} → ℕ → List (List A) → List A → List A → List (List A)
replaced h [] a b = []
replaced zero (low ∷ ls) a b = a ∷ b ∷ drop 1 ls
replaced (suc h) (l ∷ ls) a b = l ∷ replaced h ls a b

flat-replaced : {A : Type 0} (h : ℕ) (ls : List (List A)) (a b : List A) → h < length ls →
    flat (replaced h ls a b) ≡ flat (drop (suc (suc h)) ls) ++ (b ++ (a ++ flat (take h ls)))
flat-replaced h [] a b k = absurd (omega arith)
flat-replaced zero (low ∷ []) a b k = simp (append_assoc, append-nil)
flat-replaced zero (low ∷ up ∷ ls) a b k = simp (append_assoc, append-nil)
flat-replaced (suc h) (l ∷ ls) a b k = rw (flat-replaced h ls a b (omega arith)) (simp append_assoc)

marks-replaced : {A : Type 0} (h count : ℕ) (ls : List (List A)) (a b : List A) → suc h < length ls →
    length a + 2 * count ≡ length (first_level (drop h ls)) → length b ≡ length (first_level (drop (suc h) ls)) + count →
    (marks (replaced h ls a b) ≡ shifted h count (marks ls)) × (retained_in (replaced h ls a b) + count ≡ retained_in ls)
marks-replaced h count [] a b k e f = absurd (omega arith)
marks-replaced zero count (low ∷ []) a b k e f = absurd (omega arith)
marks-replaced zero count (low ∷ up ∷ ls) a b k e f = grind (arith, common_steps)
marks-replaced (suc h) count (l ∷ ls) a b k e f = grind (arith, common_steps, marks-replaced h count ls a b (omega arith) e f)

-- levels compare equal to themselves
pub SameLevels-refl : {A : Type 0} (cmp : A → A → Ordering) → IsTotalOrder cmp → (ls : List (List A)) → SameLevels cmp ls ls
SameLevels-refl cmp o [] = tt
SameLevels-refl cmp o (l ∷ ls) = (SameItems-refl cmp o l, SameLevels-refl cmp o ls)

SameLevels-replaced : {A : Type 0} (cmp : A → A → Ordering) → IsTotalOrder cmp → (needs_sorting coin : Bool) (h : ℕ) (ls : List (List A)) (b : List A) →
    SameItems cmp (sort cmp (first_level (drop (suc h) ls) ++ half (parity_up AllButLeftover coin (first_level (drop (suc h) ls))) (sort cmp (body_of needs_sorting (first_level (drop h ls)))))) b →
    SameLevels cmp (compacted cmp needs_sorting coin h ls) (replaced h ls (leftover_of needs_sorting (first_level (drop h ls))) b)
SameLevels-replaced cmp o needs_sorting coin zero [] b s = tt
SameLevels-replaced cmp o needs_sorting coin (suc h) [] b s = tt
SameLevels-replaced cmp o needs_sorting coin zero (low ∷ ls) b s = (SameItems-refl cmp o (leftover_of needs_sorting low), (s, SameLevels-refl cmp o (drop 1 ls)))
SameLevels-replaced cmp o needs_sorting coin (suc h) (l ∷ ls) b s = (SameItems-refl cmp o l, SameLevels-replaced cmp o needs_sorting coin h ls b s)

-- one item is left over if the number of items is odd, else none
pub length-leftover : {A : Type 0} (needs_sorting : Bool) (xs : List A) → length (leftover_of needs_sorting xs) ≡ length xs % 2
unfolding leftover_of
length-leftover true xs = length-drop (length xs - length xs % 2) xs ∙ omega arith
length-leftover false xs = length-take (length xs % 2) xs ∙ omega arith

AllSorted-replaced : {A : Type 0} (cmp : A → A → Ordering) (h : ℕ) (ls : List (List A)) (a b : List A) → length a ≤ 1 → IsSorted cmp b → AllSorted cmp ls → AllSorted cmp (replaced h ls a b)
AllSorted-replaced cmp zero (low ∷ ls) a b k s u = (short_sorted cmp a k, (s, all-drop (IsSorted cmp) 1 ls u.1))
AllSorted-replaced cmp (suc h) (l ∷ ls) a b k s u = (u.0, AllSorted-replaced cmp h ls a b k s u.1)
AllSorted-replaced cmp zero ls a b k s u = tt
AllSorted-replaced cmp h ls a b k s u = tt

UpperSorted-replaced : {A : Type 0} (cmp : A → A → Ordering) (h : ℕ) (ls : List (List A)) (a b : List A) → length a ≤ 1 → IsSorted cmp b → UpperSorted cmp ls → UpperSorted cmp (replaced h ls a b)
UpperSorted-replaced cmp zero (low ∷ ls) a b k s u = (s, all-drop (IsSorted cmp) 1 ls u)
UpperSorted-replaced cmp (suc h) (l ∷ ls) a b k s u = AllSorted-replaced cmp h ls a b k s u
UpperSorted-replaced cmp zero ls a b k s u = tt
UpperSorted-replaced cmp h ls a b k s u = tt

-- if all levels are sorted, so is the first
pub AllSorted-first : {A : Type 0} (cmp : A → A → Ordering) (ls : List (List A)) → AllSorted cmp ls → IsSorted cmp (first_level ls)
AllSorted-first cmp [] u = short_sorted cmp [] (omega arith)
AllSorted-first cmp (l ∷ ls) u = u.0

pub above_sorted : {A : Type 0} (cmp : A → A → Ordering) (h : ℕ) (ls : List (List A)) → UpperSorted cmp ls → AllSorted cmp (drop (suc h) ls)
above_sorted cmp h [] u = tt
above_sorted cmp h (l ∷ ls) u = all-drop (IsSorted cmp) h ls u

-- the bounds are shifted if those up to level h are lowered and the next one is raised
pub shifted_all : (h count : ℕ) (xs ys : List ℕ) → suc h < length xs → length ys ≡ length xs →
    ((j : ℕ) → j < suc h → get_or ys j 0 ≡ get_or xs j 0 - count) → ((j : ℕ) → suc h ≤ j → get_or ys j 0 ≡ get_or xs j 0) →
    set ys (suc h) (get_or ys (suc h) 0 + count) ≡ shifted h count xs
shifted_all zero count (x ∷ x' ∷ xs) (y ∷ y' ∷ ys) k e below above =
    let rest : ys ≡ xs = ext_get_or 0 ys xs (omega (arith, e)) (λ j b. above (suc (suc j)) (omega arith)) in
    cc (below 0 (omega arith), above 1 (omega arith), rest)
shifted_all (suc h) count (x ∷ xs) (y ∷ ys) k e below above =
    cc (below 0 (omega arith), shifted_all h count xs ys (omega arith) (omega (arith, e)) (λ j b. below (suc j) (omega arith)) (λ j b. above (suc j) (omega arith)))
shifted_all h count xs ys k e below above = absurd (omega (arith, e))

-- ---- levels between bounds

-- a bound is the number of items from its level up
pub bound_at : {A : Type 0} (items : List A) (bounds : List ℕ) → IsFlat items bounds → (j : ℕ) → get_or bounds j 0 ≡ retained_in (drop j (levels_in items bounds))
bound_at items bounds f j = ap (λ (b : List ℕ). get_or b j 0) (sym f.bounds_are) ∙ get_or-marks (levels_in items bounds) j

-- there is one more bound than levels
pub length-bounds : {A : Type 0} (items : List A) (bounds : List ℕ) → IsFlat items bounds → length bounds ≡ length (levels_in items bounds) + 1
length-bounds items bounds f = ap length (sym f.bounds_are) ∙ length-marks (levels_in items bounds)

-- the number of items in the list is the number of retained items
pub length-items : {A : Type 0} (items : List A) (bounds : List ℕ) → IsFlat items bounds → length items ≡ retained_in (levels_in items bounds)
length-items items bounds f = ap length (sym f.items_are) ∙ length-flat (levels_in items bounds)

drop_suc : {A : Type 0} (ls : List (List A)) (j : ℕ) → retained_in (drop j ls) ≡ length (first_level (drop j ls)) + retained_in (drop (suc j) ls)
drop_suc (l ∷ ls) (suc j) = drop_suc ls j
drop_suc [] (suc j) = refl
drop_suc ls j = refl

bound_falls : {A : Type 0} (items : List A) (bounds : List ℕ) → IsFlat items bounds → (j : ℕ) →
    get_or bounds j 0 ≡ length (first_level (drop j (levels_in items bounds))) + get_or bounds (suc j) 0
bound_falls items bounds f j =
    bound_at items bounds f j ∙ (drop_suc (levels_in items bounds) j ∙ ap (λ n. length (first_level (drop j (levels_in items bounds))) + n) (sym (bound_at items bounds f (suc j))))

-- no bound is above the number of items
pub bound_within : {A : Type 0} (items : List A) (bounds : List ℕ) → IsFlat items bounds → (j : ℕ) → get_or bounds j 0 ≤ length items
bound_within items bounds f j =
    omega (arith, retained-drop (levels_in items bounds) j, bound_at items bounds f j, length-items items bounds f)

-- bounds never rise from level to level
pub bounds_fall : {A : Type 0} (items : List A) (bounds : List ℕ) → IsFlat items bounds → (j k : ℕ) → get_or bounds (j + k) 0 ≤ get_or bounds j 0
bounds_fall items bounds f j zero = rw add-zero (omega arith)
bounds_fall items bounds f j (suc k) =
    rw add-suc (omega (arith, bounds_fall items bounds f j k, bound_falls items bounds f (j + k)))

-- a level lies between two bounds
pub level_between : {A : Type 0} (items : List A) (bounds : List ℕ) → IsFlat items bounds → (j : ℕ) →
    between (get_or bounds (suc j) 0) (get_or bounds j 0) items ≡ first_level (drop j (levels_in items bounds))
level_between items bounds f j =
    ap₂ (λ (a b : ℕ). between a b items) (bound_at items bounds f (suc j)) (bound_at items bounds f j)
    ∙ (ap (between (retained_in (drop (suc j) (levels_in items bounds))) (retained_in (drop j (levels_in items bounds)))) (sym f.items_are)
    ∙ level_at (levels_in items bounds) j)

-- ---- a compaction in place

-- items and bounds after a compaction: they hold the compacted levels, and the upper levels stay sorted
pub record IsCompactedLevel {A : Type 0} (cmp : A → A → Ordering) (needs_sorting coin : Bool) (level : ℕ) (ls : List (List A)) (items : List A) (bounds : List ℕ) : Type 0 where
  pub flat : IsFlat items bounds
  pub alike : SameLevels cmp (compacted cmp needs_sorting coin level ls) (levels_in items bounds)
  pub sorted : UpperSorted cmp ls → UpperSorted cmp (levels_in items bounds)

-- what a compaction in place makes of the flat list and of the bounds
pub compacted_level : {A : Type 0} (cmp : A → A → Ordering) → IsTotalOrder cmp →
    (needs_sorting coin odd : Bool) (level n from middle to : ℕ) (ls : List (List A)) (its xs ys : List A) (olds bounds : List ℕ) → its ≡ flat ls → olds ≡ marks ls →
    suc level < length ls → from ≡ retained_in (drop (suc (suc level)) ls) → middle ≡ retained_in (drop (suc level) ls) → to ≡ retained_in (drop level ls) →
    length ys ≡ length its → n ≡ (to - middle) / 2 →
    odd ≡ parity_up AllButLeftover coin (between from middle its) →
    xs ≡ take from its ++ (between from (middle + n) ys ++ (leftover_of needs_sorting (between middle to its) ++ drop to its)) →
    SameItems cmp (sort cmp (between from middle its ++ half odd (sort cmp (body_of needs_sorting (between middle to its))))) (between from (middle + n) ys) →
    IsSorted cmp (between from (middle + n) ys) →
    bounds ≡ shifted level n olds →
    IsCompactedLevel cmp needs_sorting coin level ls xs bounds
compacted_level {A} cmp o needs_sorting coin odd level n from middle to ls its xs ys olds bounds ei eo2 k ef em et ny en eo parts up sorted eb =
    let low : List A = first_level (drop level ls) in
    let above : List A = first_level (drop (suc level) ls) in
    let a : List A = leftover_of needs_sorting low in
    let b : List A = between from (middle + n) ys in
    let el : between middle to its ≡ low = ap (between middle to) ei ∙ (ap₂ (λ (x y : ℕ). between x y (flat ls)) em et ∙ level_at ls level) in
    let eu : between from middle its ≡ above = ap (between from middle) ei ∙ (ap₂ (λ (x y : ℕ). between x y (flat ls)) ef em ∙ level_at ls (suc level)) in
    let s0 = drop_suc ls level in
    let s1 = drop_suc ls (suc level) in
    let nf : length its ≡ retained_in ls = ap length ei ∙ length-flat ls in
    let nd = retained-drop ls level in
    let nb : length b ≡ middle + n - from = length-between ys from (middle + n) (omega arith) in
    let na = length-leftover needs_sorting low in
    let m = marks-replaced level n ls a b k (omega arith) (omega arith) in
    let e1 : xs ≡ flat (replaced level ls a b) =
    parts ∙ (ap₂ (λ (p : List A) (q : List A). p ++ (b ++ q)) (ap (take from) ei ∙ (ap (λ (i : ℕ). take i (flat ls)) ef ∙ take-flat ls (suc (suc level))))
    (ap₂ (λ (p : List A) (q : List A). p ++ q) (ap (leftover_of needs_sorting) el) (ap (drop to) ei ∙ (ap (λ (i : ℕ). drop i (flat ls)) et ∙ drop-flat ls level)))
    ∙ sym (flat-replaced level ls a b (omega arith))) in
    let e2 : bounds ≡ marks (replaced level ls a b) = eb ∙ (ap (shifted level n) eo2 ∙ sym m.0) in
    let e3 = levels_of_flat xs bounds (replaced level ls a b) e1 e2 in
    let same : SameItems cmp (sort cmp (above ++ half (parity_up AllButLeftover coin above) (sort cmp (body_of needs_sorting low)))) b = rw (eo, eu, el) at up in
    grind (arith, common_steps, SameLevels-replaced, UpperSorted-replaced)

-- which half goes up: the coin's, or the other one if the level above is empty
pub side_by_length : {A : Type 0} (coin : Bool) (xs : List A) → (length xs ≡ 0 → not coin ≡ parity_up AllButLeftover coin xs) × (0 < length xs → coin ≡ parity_up AllButLeftover coin xs)
side_by_length coin [] = (λ e. refl, λ h. absurd (omega arith))
side_by_length coin (x ∷ xs) = (λ e. absurd (omega arith), λ h. refl)

-- a bound is the next one plus the number of items of its level
pub bound_falls_to : {A : Type 0} (items : List A) (bounds : List ℕ) → IsFlat items bounds → (i j : ℕ) → suc i ≡ j →
    get_or bounds i 0 ≡ length (first_level (drop i (levels_in items bounds))) + get_or bounds j 0
bound_falls_to items bounds f i j e =
    bound_falls items bounds f i ∙ ap (λ (k : ℕ). length (first_level (drop i (levels_in items bounds))) + get_or bounds k 0) e

-- the levels from one level up are that level and those above it
pub drop_level : {A : Type 0} (ls : List (List A)) (level : ℕ) → level < length ls → drop level ls ≡ first_level (drop level ls) ∷ drop (suc level) ls
drop_level [] level h = absurd (omega arith)
drop_level (l ∷ ls) zero h = refl
drop_level (l ∷ ls) (suc level) h = drop_level ls level (omega arith)

-- no level begins behind its end
pub bound_falls_on : {A : Type 0} (items : List A) (bounds : List ℕ) → IsFlat items bounds → (h : ℕ) → get_or bounds (h + 1) 0 ≤ get_or bounds h 0
bound_falls_on items bounds flat h = omega (arith, bound_falls_to items bounds flat h (h + 1) (omega arith))

-- what items and bounds say of the levels that they hold
pub ruleset bounded = (common_steps, length-bounds, length-items, bound_within, bound_falls_on)

-- Levels after items are appended to level 0.

flat-put : {A : Type 0} (xs : List A) (ls : List (List A)) → flat (put_all xs ls) ≡ flat ls ++ xs
flat-put xs [] = refl
flat-put xs (l ∷ ls) = sym (append_assoc (flat ls) l xs)

marks-put : {A : Type 0} (xs : List A) (ls : List (List A)) → 0 < length ls → marks (put_all xs ls) ≡ set (marks ls) 0 (retained_in ls + length xs)
marks-put xs [] h = absurd (omega arith)
marks-put xs (l ∷ ls) h = ap (λ (n : ℕ). n ∷ marks ls) (omega (arith, length-append l xs))

-- the number of retained items grows by the number of new items
pub retained-put : {A : Type 0} (xs : List A) (ls : List (List A)) → retained_in (put_all xs ls) ≡ retained_in ls + length xs
retained-put xs [] = omega arith
retained-put xs (l ∷ ls) = omega (arith, length-append l xs)

-- the weight grows by the number of new items
pub weight-put : {A : Type 0} (xs : List A) (ls : List (List A)) → weight_in (put_all xs ls) ≡ weight_in ls + length xs
weight-put xs [] = omega arith
weight-put xs (l ∷ ls) = omega (arith, length-append l xs)

-- no level is added
pub length-put : {A : Type 0} (xs : List A) (ls : List (List A)) → 0 < length ls → length (put_all xs ls) ≡ length ls
length-put xs [] h = absurd (omega arith)
length-put xs (l ∷ ls) h = refl

-- the levels from 1 up stay sorted
pub UpperSorted-put : {A : Type 0} (cmp : A → A → Ordering) (xs : List A) (ls : List (List A)) → UpperSorted cmp ls → UpperSorted cmp (put_all xs ls)
UpperSorted-put cmp xs [] u = tt
UpperSorted-put cmp xs (l ∷ ls) u = u

-- levels that compare equal still do once the same item is put in
pub SameLevels-put : {A : Type 0} (cmp : A → A → Ordering) → IsTotalOrder cmp → (x : A) (ls ms : List (List A)) → SameLevels cmp ls ms →
    SameLevels cmp (put x ls) (put x ms)
SameLevels-put cmp o x [] [] s = ((tied_itself o x, tt), tt)
SameLevels-put cmp o x (l ∷ ls) (m ∷ ms) s = (SameItems-append cmp l m (x ∷ []) (x ∷ []) s.0 (tied_itself o x, tt), s.1)
SameLevels-put cmp o x ls ms s = absurd s

-- items appended to the list, with the bound of level 0 moved, are appended to level 0
pub put_flat : {A : Type 0} (xs items items' : List A) (bounds : List ℕ) (n : ℕ) → IsFlat items bounds → 0 < length (levels_in items bounds) →
    items' ≡ items ++ xs → n ≡ length items' →
    IsFlat items' (set bounds 0 n) × (levels_in items' (set bounds 0 n) ≡ put_all xs (levels_in items bounds))
put_flat {A} xs items items' bounds n f h e m =
    let ls : List (List A) = levels_in items bounds in
    let k : n ≡ retained_in ls + length xs = omega (arith, m, ap length e, length-append items xs, length-items items bounds f) in
    let items_are : items' ≡ flat (put_all xs ls) = rw (flat-put xs ls, f.items_are) e in
    let bounds_are : set bounds 0 n ≡ marks (put_all xs ls) = rw (marks-put xs ls h, f.bounds_are, k) refl in
    (is_flat items' (set bounds 0 n) (put_all xs ls) items_are bounds_are, levels_of_flat items' (set bounds 0 n) (put_all xs ls) items_are bounds_are)

-- Levels with empty ones added above the top, as a compaction of the top level and a merge need them.

-- empty levels above the top add nothing to the flat list
flat-tops : {A : Type 0} (j : ℕ) (ls : List (List A)) → flat (ls ++ replicate j []) ≡ flat ls
flat-tops j (l ∷ ls) = ap (λ x. x ++ l) (flat-tops j ls)
flat-tops {A} j [] = none j
  where
    none : (j : ℕ) → flat {A = A} (replicate j []) ≡ []
    none zero = refl
    none (suc j) = append-nil (flat (replicate j [])) ∙ none j

retained-tops : {A : Type 0} (j : ℕ) (ls : List (List A)) → retained_in (ls ++ replicate j []) ≡ retained_in ls
retained-tops j ls = sym (length-flat (ls ++ replicate j [])) ∙ (ap length (flat-tops j ls) ∙ length-flat ls)

marks-tops : {A : Type 0} (j : ℕ) (ls : List (List A)) → marks (ls ++ replicate j []) ≡ marks ls ++ replicate j 0
marks-tops j (l ∷ ls) = ap₂ (λ (x : ℕ) (y : List ℕ). x ∷ y) (retained-tops j (l ∷ ls)) (marks-tops j ls)
marks-tops {A} j [] = none j
  where
    none : (j : ℕ) → marks {A = A} (replicate j []) ≡ 0 ∷ replicate j 0
    none zero = refl
    none (suc j) = ap₂ (λ (x : ℕ) (y : List ℕ). x ∷ y) (retained-tops {A = A} (suc j) []) (none j)

-- bounds of 0 add empty levels above the top
pub levels_with_tops : {A : Type 0} (j : ℕ) (items : List A) (bounds : List ℕ) → IsFlat items bounds →
    IsFlat items (bounds ++ replicate j 0) × (levels_in items (bounds ++ replicate j 0) ≡ levels_in items bounds ++ replicate j [])
levels_with_tops {A} j items bounds f =
    let ls : List (List A) = levels_in items bounds in
    let e : items ≡ flat (ls ++ replicate j []) = sym (flat-tops j ls ∙ f.items_are) in
    let g : bounds ++ replicate j 0 ≡ marks (ls ++ replicate j []) = sym (marks-tops j ls ∙ ap (λ (b : List ℕ). b ++ replicate j 0) f.bounds_are) in
    (is_flat items (bounds ++ replicate j 0) (ls ++ replicate j []) e g, levels_of_flat items (bounds ++ replicate j 0) (ls ++ replicate j []) e g)

-- a compaction of the top level gives the same whether there is an empty level above it or none
compacted-top : {A : Type 0} (cmp : A → A → Ordering) (last coin : Bool) (h : ℕ) (ls : List (List A)) → suc h ≡ length ls →
    compacted cmp last coin h (ls ++ [] ∷ []) ≡ compacted cmp last coin h ls
compacted-top cmp last coin zero (l ∷ []) e = refl
compacted-top cmp last coin (suc h) (l ∷ ls) e = ap (λ x. l ∷ x) (compacted-top cmp last coin h ls (omega arith))
compacted-top cmp last coin h ls e = absurd (omega arith)

-- if sorted levels are added above others, the upper levels stay sorted
pub UpperSorted-append : {A : Type 0} (cmp : A → A → Ordering) (ls ms : List (List A)) → 0 < length ls → UpperSorted cmp ls → AllSorted cmp ms → UpperSorted cmp (ls ++ ms)
UpperSorted-append cmp [] ms h u v = absurd (omega arith)
UpperSorted-append cmp (l ∷ ls) ms h u v = all-append (IsSorted cmp) ls ms u v

-- empty levels are sorted
pub AllSorted-none : {A : Type 0} (cmp : A → A → Ordering) (j : ℕ) → AllSorted cmp (replicate j [])
AllSorted-none cmp zero = tt
AllSorted-none cmp (suc j) = ((λ k d l b. absurd (omega arith)), AllSorted-none cmp j)

-- the bounds with a level above the one that is compacted, added if there is none
abbrev pub Raises : ℕ → List ℕ → List ℕ → Type 0
Raises level old new = ((level + 2 ≡ length old) × (new ≡ old ++ 0 ∷ [])) ⊎ ((level + 2 ≡ length old → ⊥) × (new ≡ old))

pub record Raised {A : Type 0} (cmp : A → A → Ordering) (last coin : Bool) (level : ℕ) (items : List A) (old new : List ℕ) : Type 0 where
  pub flat : IsFlat items new
  pub within : level + 2 < length new
  pub same : compacted cmp last coin level (levels_in items new) ≡ compacted cmp last coin level (levels_in items old)
  pub sorted : UpperSorted cmp (levels_in items old) → UpperSorted cmp (levels_in items new)
  pub first : first_level (levels_in items new) ≡ first_level (levels_in items old)

first-top : {A : Type 0} (ls : List (List A)) → 0 < length ls → first_level (ls ++ [] ∷ []) ≡ first_level ls
first-top [] some = absurd (omega arith)
first-top (l ∷ ls) some = refl

-- what such bounds are for a compaction
pub raised_is : {A : Type 0} {cmp : A → A → Ordering} {k total level : ℕ} {items : List A} {old new : List ℕ} {ls : List (List A)} (last coin : Bool) →
    AreStored cmp k items old total → levels_in items old ≡ ls → level < length ls → Raises level old new → Raised cmp last coin level items old new
raised_is {A} {cmp} {k} {total} {level} {items} {old} {new} {ls} last coin stored own inside raises =
    let bounds_len = length-bounds items old stored.flat in
    elim raises [
      | inl top ↦
          let above = levels_with_tops 1 items old stored.flat in
          rw top.1 (record {
            flat = above.0;
            within = omega (arith, length-append old (0 ∷ []), top.0);
            same = rw above.1 (compacted-top cmp last coin level (levels_in items old) (omega (arith, top.0, bounds_len)));
            sorted = λ u. rw above.1 (UpperSorted-append cmp (levels_in items old) (replicate 1 []) stored.some u (AllSorted-none cmp 1));
            first = rw above.1 (first-top (levels_in items old) stored.some);
          })
      | inr below ↦
          rw below.1 (record { flat = stored.flat; within = omega (arith, inside, bounds_len, ap length own, below.0); same = refl; sorted = λ u. u; first = refl })
    ]
