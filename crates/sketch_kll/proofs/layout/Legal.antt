-- What a legal sketch's levels keep: the order of the items, their weight, and that they lie between the extremes.
-- A compaction and an item that is put in keep it.
use Rattle.std.proofs.Common.{arith, ◌≡◌, ℕ, zero, suc, ◌-◌, ◌%◌, Bool, true, false, if◌then◌else◌, List, [], ◌∷◌, length, Ordering, Equal, ◌<◌, Option, None, Some, MatchOption, ◌+◌, ◌*◌, ◌≤◌, drop, get_or, refl, ap, IsSorted, ltb, is_lt, is_gt, sym, ap₂, subst, ◌∙◌, ◌++◌, map, take, append_assoc, append-nil, length-append, length-take, length-drop}
use Rattle.std.proofs.lemmas.Grind.{common_steps}
use Rattle.std.specs.List.{AllByRecursion, flat_map, between}
use Rattle.sketch_base.proofs.bags.Parts.{all-append, all-take, all-drop, all-half, all-sort, all-same, all-map}
use Rattle.sketch_kll.specs.Levels.{leftover_of, body_of, first_level, compacted, SameLevels, AllItems, weight_in, AllSorted, UpperSorted, total, retained_in}
use Rattle.sketch_kll.specs.Steps.{is_full, full_level, compacted_if_full, needs_sorting, put}
use Rattle.std.specs.Option.{option_to_list}
use Rattle.std.specs.Cmp.{IsTotalOrder}
use Rattle.std.proofs.lemmas.Cmp.{upto}
use Rattle.sketch_base.specs.Extremes.{IsGreatestOf, IsLeastOf, IsFrom, IsUpTo, IsBetween}
use Rattle.sketch_kll.specs.Sketch.{AllBetween, AreInOrder}
use Rattle.std.proofs.lemmas.List.{drop_all, get_or_default, reverse-append, reverse-reverse, length-reverse, nil_from_length, take-append-drop}
use Rattle.sketch_base.specs.Bag.{doubled_sum}
use Rattle.sketch_kll.specs.Flat.{bounds_of, flat, marks, levels_in, IsFlat}
use Rattle.sketch_kll.proofs.layout.Compacted.{in_upper}
use Rattle.std.specs.Prelude.{IsTrue, All, ◌||◌, reverse}
use Rattle.std.proofs.Math.Bool.{or-false}
use Rattle.std.proofs.Math.Nat.{eq-or-lt_of_le}
use Rattle.std.proofs.lemmas.Bool.{lt-ltb, or_right}
use Rattle.std.proofs.lemmas.List.Elements.{recursion_from_All, All-from_recursion}
use Rattle.sketch_kll.specs.Image.{AreLegalRuns, turned, stored}
use Rattle.sketch_kll.specs.Reading.{IsLegalRun, AreBounds, turned_at}
use Rattle.sketch_base.proofs.images.Spelled.{same_cell}
use Rattle.sketch_kll.proofs.layout.Flats.{levels_of_flat, is_flat, take-flat, drop-flat, level_at, bound_at, length-bounds}
pub use Rattle.sketch_base.proofs.order.Extremes.{least_itself, greatest_itself, least_of_both, greatest_of_both, from-same, up_to-same, ties-same}

-- What holds for each item of some levels still does after a compaction, and after an item is put in for which it holds.

module _ {A : Type 0} (P : A → Type 0) where
  all-leftover : (last : Bool) (xs : List A) → AllByRecursion P xs → AllByRecursion P (leftover_of last xs)
  unfolding leftover_of
  all-leftover true xs h = all-drop P (length xs - length xs % 2) xs h
  all-leftover false xs h = all-take P (length xs % 2) xs h

  all-body : (last : Bool) (xs : List A) → AllByRecursion P xs → AllByRecursion P (body_of last xs)
  unfolding body_of
  all-body true xs h = all-take P (length xs - length xs % 2) xs h
  all-body false xs h = all-drop P (length xs % 2) xs h

  all-first : (ls : List (List A)) → AllItems P ls → AllByRecursion P (first_level ls)
  all-first [] h = tt
  all-first (l ∷ ls) h = h.0

  -- P holds for each item after a compaction, which adds none
  pub AllItems-compacted : (cmp : A → A → Ordering) (last coin : Bool) (level : ℕ) (ls : List (List A)) → AllItems P ls → AllItems P (compacted cmp last coin level ls)
  AllItems-compacted cmp last coin level [] h = tt
  AllItems-compacted cmp last coin zero (low ∷ ls) h = grind (arith, common_steps, all-half, all-sort, all-body, all-leftover, all-append, all-first)
  AllItems-compacted cmp last coin (suc level) (l ∷ ls) h = (h.0, AllItems-compacted cmp last coin level ls h.1)

  -- P holds for each item after room is made, which adds none
  pub AllItems-room : (cmp : A → A → Ordering) (k : ℕ) (is_sorted coin : Bool) (ls : List (List A)) → AllItems P ls → AllItems P (compacted_if_full cmp k is_sorted coin ls)
  AllItems-room cmp k is_sorted coin ls h = go (is_full k ls)
    where
      level : ℕ
      level = full_level k ls

      go : (b : Bool) → AllItems P (if b then compacted cmp (needs_sorting is_sorted level) coin level ls else ls)
      go true = AllItems-compacted cmp (needs_sorting is_sorted level) coin level ls h
      go false = h

  -- P holds for each item after one is put in for which it holds
  pub AllItems-put : (x : A) (ls : List (List A)) → P x → AllItems P ls → AllItems P (put x ls)
  AllItems-put x [] p h = ((p, tt), tt)
  AllItems-put x (l ∷ ls) p h = (all-append P l (x ∷ []) h.0 (p, tt), h.1)

  -- if items that compare equal share P, so do levels that compare equal
  pub AllItems-same : (cmp : A → A → Ordering) → ((x y : A) → cmp x y ≡ Equal → P x → P y) → (ls ms : List (List A)) → SameLevels cmp ls ms → AllItems P ls → AllItems P ms
  AllItems-same cmp keeps [] [] s h = tt
  AllItems-same cmp keeps (l ∷ ls) (m ∷ ms) s h = (all-same P cmp keeps l m s.0 h.0, AllItems-same cmp keeps ls ms s.1 h.1)
  AllItems-same cmp keeps ls ms s h = absurd s

module _ {A : Type 0} (P Q : A → Type 0) (from : (x : A) → P x → Q x) where
  -- if P implies Q for each item, then P for all items of the levels implies Q for all
  pub AllItems-map : (ls : List (List A)) → AllItems P ls → AllItems Q ls
  AllItems-map = all-map (AllByRecursion P) (AllByRecursion Q) (all-map P Q from)

-- Items between the extremes, and the extremes with more items.

module _ {A : Type 0} {cmp : A → A → Ordering} (o : IsTotalOrder cmp) where
  -- each item is at least the least of them
  pub from_all : (items : List A) (least : Option A) → IsLeastOf cmp items least → AllByRecursion (λ y. IsFrom cmp least y) items
  from_all [] None e = tt
  from_all (x ∷ items) None e = cc
  from_all items (Some z) e = e.bounds

  -- each item is at most the greatest of them
  pub up_to_all : (items : List A) (greatest : Option A) → IsGreatestOf cmp items greatest → AllByRecursion (λ y. IsUpTo cmp greatest y) items
  up_to_all [] None e = tt
  up_to_all (x ∷ items) None e = cc
  up_to_all items (Some z) e = e.bounds

  from_on : (a least : Option A) (y : A) → AllByRecursion (λ x. IsFrom cmp least x) (option_to_list a) → IsFrom cmp a y → IsFrom cmp least y
  from_on None least y h f = absurd f
  from_on (Some x) None y h f = absurd h.0
  from_on (Some x) (Some z) y h f = upto o z x y h.0 f

  up_to_on : (b greatest : Option A) (y : A) → AllByRecursion (λ x. IsUpTo cmp greatest x) (option_to_list b) → IsUpTo cmp b y → IsUpTo cmp greatest y
  up_to_on None greatest y h f = absurd f
  up_to_on (Some x) None y h f = absurd h.0
  up_to_on (Some x) (Some z) y h f = upto o y x z f h.0

  -- what lies between two extremes lies between any that bound them
  pub still_between : (a b least greatest : Option A) → AllByRecursion (λ x. IsFrom cmp least x) (option_to_list a) → AllByRecursion (λ x. IsUpTo cmp greatest x) (option_to_list b) →
      (ls : List (List A)) → AllBetween cmp a b ls → AllBetween cmp least greatest ls
  still_between a b least greatest low high =
      AllItems-map (λ y. IsFrom cmp a y × IsUpTo cmp b y) (λ y. IsFrom cmp least y × IsUpTo cmp greatest y) (λ y f. (from_on a least y low f.0, up_to_on b greatest y high f.1))

  -- if there is no least item, no item lies between the extremes
  pub all_none : (P : A → Type 0) (a b : Option A) (ls : List (List A)) → a ≡ None → AllBetween cmp a b ls → AllItems P ls
  all_none P a b ls none = AllItems-map (λ y. IsFrom cmp a y × IsUpTo cmp b y) P (λ y f. absurd (rw none at f.0)) ls

  -- if an item lies between the extremes, both exist, and the least is at most the greatest
  pub ends_there : (n : ℕ) (least greatest : Option A) (ls : List (List A)) → 0 < n → 0 < weight_in ls → AllBetween cmp least greatest ls →
      MatchOption least (n ≡ 0) (λ _. 0 < n) × MatchOption greatest (n ≡ 0) (λ _. 0 < n) × AreInOrder cmp least greatest
  ends_there n least greatest [] some h b = absurd (omega (arith, h))
  ends_there n least greatest ([] ∷ ls) some h b = ends_there n least greatest ls some (omega (arith, h)) b.1
  ends_there n None greatest ((x ∷ xs) ∷ ls) some h b = absurd b.0.0.0
  ends_there n (Some l) None ((x ∷ xs) ∷ ls) some h b = absurd b.0.0.1
  ends_there n (Some l) (Some g) ((x ∷ xs) ∷ ls) some h b = (some, some, upto o l x g b.0.0.0 b.0.0.1)

-- Order, weight and bounds of levels.

-- ---- order

all_sorted_from : {A : Type 0} (cmp : A → A → Ordering) (ls : List (List A)) → ((h : ℕ) → h < length ls → IsSorted cmp (first_level (drop h ls))) → AllSorted cmp ls
all_sorted_from cmp [] f = tt
all_sorted_from cmp (l ∷ ls) f = (f zero (omega arith), all_sorted_from cmp ls (λ h lt. f (suc h) (omega arith)))

-- if the upper levels are sorted, each of them is
pub upper_at : {A : Type 0} (cmp : A → A → Ordering) (ls : List (List A)) → UpperSorted cmp ls → (h : ℕ) → 1 ≤ h → h < length ls → IsSorted cmp (first_level (drop h ls))
upper_at cmp ls s (suc h) p lt = in_upper cmp ls h s
upper_at cmp ls s zero p lt = absurd (omega arith)

-- the upper levels are sorted if each of them is
pub upper_from : {A : Type 0} (cmp : A → A → Ordering) (ls : List (List A)) → ((h : ℕ) → 1 ≤ h → h < length ls → IsSorted cmp (first_level (drop h ls))) → UpperSorted cmp ls
upper_from cmp [] f = tt
upper_from cmp (l ∷ ls) f = all_sorted_from cmp ls (λ h lt. f (suc h) (omega arith) (omega arith))

-- ---- weight

-- there is one more bound than lengths
pub length_bounds_of : (ns : List ℕ) → length (bounds_of ns) ≡ length ns + 1
length_bounds_of [] = refl
length_bounds_of (n ∷ ns) = let h = length_bounds_of ns in omega (arith, h)

-- the first bound counts all items
pub index_total : (bounds ns : List ℕ) (d : ℕ) → bounds ≡ bounds_of ns → get_or bounds 0 d ≡ total ns
index_total bounds [] d e = ap (λ (xs : List ℕ). get_or xs 0 d) e
index_total bounds (n ∷ ns) d e = ap (λ (xs : List ℕ). get_or xs 0 d) e

-- a bound counts the items from its level up
pub bound_of : (ns : List ℕ) (h : ℕ) → get_or (bounds_of ns) h 0 ≡ total (drop h ns)
bound_of (n ∷ ns) (suc h) = bound_of ns h
bound_of [] (suc h) = refl
bound_of ns h = refl

-- the upper levels weigh no more than all levels
pub weight_below : (ns : List ℕ) (h : ℕ) → doubled_sum (drop h ns) ≤ doubled_sum ns
weight_below (n ∷ ns) (suc h) = omega (arith, weight_below ns h)
weight_below [] (suc h) = omega arith
weight_below ns zero = omega arith

pub record IsWeightStep (ns : List ℕ) (h low high : ℕ) : Type 0 where
  pub falls : high ≤ low
  pub weighs : doubled_sum (drop h ns) ≡ (low - high) + 2 * doubled_sum (drop (suc h) ns)

weight_at : (ns : List ℕ) (h : ℕ) → h < length ns → IsWeightStep ns h (total (drop h ns)) (total (drop (suc h) ns))
weight_at [] h lt = absurd (omega arith)
weight_at (n ∷ ns) zero lt = record { falls = omega arith; weighs = omega arith }
weight_at (n ∷ ns) (suc h) lt = let k = weight_at ns h (omega arith) in record { falls = k.falls; weighs = k.weighs }

-- the weight with one more level, by two bounds
pub weight_step : (bounds ns : List ℕ) → bounds ≡ bounds_of ns → (h : ℕ) → h + 1 < length bounds → IsWeightStep ns h (get_or bounds h 0) (get_or bounds (h + 1) 0)
weight_step bounds ns e h lt =
    let one : h + 1 ≡ suc h = omega arith in
    rw (e, one, bound_of ns h, bound_of ns (suc h)) (weight_at ns h (omega (arith, ap length e, length_bounds_of ns)))

-- the same for the next level down
pub weight_down : (bounds ns : List ℕ) → bounds ≡ bounds_of ns → (level w : ℕ) → 0 < level → level < length bounds → w ≡ doubled_sum (drop level ns) →
    doubled_sum (drop (level - 1) ns) ≡ (get_or bounds (level - 1) 0 - get_or bounds (level - 1 + 1) 0) + 2 * w
weight_down bounds ns e level w pos lt is =
    let s = weight_step bounds ns e (level - 1) (omega arith) in
    let one : suc (level - 1) ≡ level = omega arith in
    omega (arith, rw one at s.weighs, is)

-- what bounds, weights and order say level by level
pub ruleset of_levels = (common_steps, length_bounds_of, weight_step, upper_at, drop_all)

-- A walk over items that checks that they lie between two others, and are sorted if they have to be.

-- an index below i + 1 is i or below i
pub upto_last : {P : Type 0} (k i : ℕ) → k < i + 1 → (k ≡ i → P) → (k < i → P) → P
upto_last k i lt f g = grind (arith, common_steps, eq-or-lt_of_le)

-- the first i items were checked; the next has to be at least `before`
pub record Walked {A : Type 0} (cmp : A → A → Ordering) (in_order : Bool) (least greatest before : A) (run : List A) (i : ℕ) : Type 0 where
  pub sorted : IsTrue in_order → (k : ℕ) (d : A) → k + 1 < i → is_lt (cmp (get_or run (k + 1) d) (get_or run k d)) ≡ false
  pub between : (k : ℕ) (d : A) → k < i → IsBetween cmp least greatest (get_or run k d)
  pub above : is_gt (cmp least before) ≡ false
  pub free : in_order ≡ false → before ≡ least
  pub first : i ≡ 0 → before ≡ least
  pub last : IsTrue in_order → (k : ℕ) (d : A) → k + 1 ≡ i → before ≡ get_or run k d

module _ {A : Type 0} {cmp : A → A → Ordering} (o : IsTotalOrder cmp) (in_order : Bool) (least greatest : A) (run : List A) where
  next : (before item after : A) (i : ℕ) → Walked cmp in_order least greatest before run i → i < length run → item ≡ get_or run i item → is_gt (cmp before item) ≡ false →
      is_gt (cmp item greatest) ≡ false →
      is_gt (cmp least after) ≡ false → (in_order ≡ false → after ≡ least) → (IsTrue in_order → after ≡ item) → Walked cmp in_order least greatest after run (i + 1)
  next before item after i w lt is low high above free last = record {
    sorted = λ t k d few. upto_last (k + 1) i few
        (λ e. ap₂ (λ (x y : A). is_lt (cmp x y)) (sym (at (k + 1) d e)) (sym (w.last t k d e)) ∙ (grind (arith, o.antisymm item before)) ∙ low)
        (w.sorted t k d);
    between = λ k d few. upto_last k i few (λ e. subst (IsBetween cmp least greatest) (at k d e) (upto o least before item w.above low, high)) (w.between k d);
    above = above;
    free = free;
    first = λ e. absurd (omega (arith, e));
    last = λ t k d e. last t ∙ at k d (omega (arith, e));
  }
    where
      at : (k : ℕ) (d : A) → k ≡ i → item ≡ get_or run k d
      at k d e = is ∙ get_or_default run i item d lt ∙ ap (λ (n : ℕ). get_or run n d) (sym e)

  -- one more item, if the items have to be sorted
  pub walked_on : (before item : A) (i : ℕ) → in_order ≡ true → Walked cmp in_order least greatest before run i → i < length run → item ≡ get_or run i item →
      is_gt (cmp before item) ≡ false → is_gt (cmp item greatest) ≡ false → Walked cmp in_order least greatest item run (i + 1)
  walked_on before item i t w lt is low high = next before item item i w lt is low high (upto o least before item w.above low) (λ f. let z : true ≡ false = sym t ∙ f in absurd cc) (λ _. refl)

  -- one more item, if they need not be sorted
  pub walked_past : (before item : A) (i : ℕ) → in_order ≡ false → Walked cmp in_order least greatest before run i → i < length run → item ≡ get_or run i item →
      is_gt (cmp before item) ≡ false → is_gt (cmp item greatest) ≡ false → Walked cmp in_order least greatest before run (i + 1)
  walked_past before item i f w lt is low high = next before item before i w lt is low high w.above w.free (λ t. let z : true ≡ false = sym t ∙ f in absurd cc)

  -- the next item of a legal run is at least `before` and at most the greatest
  pub walked_next : (before item : A) (i : ℕ) → Walked cmp in_order least greatest before run i → i < length run → item ≡ get_or run i item →
      IsLegalRun cmp in_order least greatest run → (is_gt (cmp before item) ≡ false) × (is_gt (cmp item greatest) ≡ false)
  walked_next before item i w lt is legal = (below in_order refl i refl, here.1)
    where
      here : IsBetween cmp least greatest item
      here = subst (IsBetween cmp least greatest) (sym is) (legal.between i item lt)

      below : (b : Bool) → in_order ≡ b → (n : ℕ) → i ≡ n → is_gt (cmp before item) ≡ false
      below false f n e = ap (λ (x : A). is_gt (cmp x item)) (w.free f) ∙ here.0
      below true t zero e = ap (λ (x : A). is_gt (cmp x item)) (w.first e) ∙ here.0
      below true t (suc n) e =
          let one : n + 1 ≡ i = omega (arith, e) in
          let s = legal.sorted t n item (omega arith) (omega (arith, one, lt)) in
          sym (grind (arith, o.antisymm item before))
          ∙ ap₂ (λ (x y : A). is_lt (cmp x y)) (is ∙ ap (λ (m : ℕ). get_or run m item) (sym one)) (w.last t n item one) ∙ s

-- ---- levels

-- levels are legal if each is
pub runs_from : {A : Type 0} (cmp : A → A → Ordering) (is_sorted : Bool) (least greatest : A) (ls : List (List A)) → 0 < length ls →
    ((h : ℕ) → h < length ls → IsLegalRun cmp (is_sorted || ltb 0 h) least greatest (first_level (drop h ls))) → AreLegalRuns cmp is_sorted least greatest ls
runs_from {A} cmp is_sorted least greatest ls some f = record {
  upper_sorted = upper_from cmp ls (λ h one lt. (f h lt).sorted (ap (λ (b : Bool). is_sorted || b) (lt-ltb 0 h one) ∙ or_right is_sorted true refl));
  flag_holds = λ t. (f zero some).sorted (ap (λ (b : Bool). b || ltb 0 zero) t);
  between = all ls (λ h lt. (f h lt).between);
}
  where
    all : (ms : List (List A)) → ((h : ℕ) → h < length ms → All (IsBetween cmp least greatest) (first_level (drop h ms))) → AllByRecursion (AllByRecursion (IsBetween cmp least greatest)) ms
    all [] g = tt
    all (m ∷ ms) g = (recursion_from_All (IsBetween cmp least greatest) m (g zero (omega arith)), all ms (λ h lt. g (suc h) (omega arith)))

between_at : {A : Type 0} (P : A → Type 0) (ls : List (List A)) (h : ℕ) → h < length ls → AllByRecursion (AllByRecursion P) ls → All P (first_level (drop h ls))
between_at P [] h lt a = absurd (omega arith)
between_at P (l ∷ ls) zero lt a = All-from_recursion P l a.0
between_at P (l ∷ ls) (suc h) lt a = between_at P ls h (omega arith) a.1

-- if levels are legal, each of them is
pub run_at : {A : Type 0} (cmp : A → A → Ordering) (is_sorted : Bool) (least greatest : A) (ls : List (List A)) (h : ℕ) → h < length ls → AreLegalRuns cmp is_sorted least greatest ls →
    IsLegalRun cmp (is_sorted || ltb 0 h) least greatest (first_level (drop h ls))
run_at cmp is_sorted least greatest ls zero lt legal =
    record { sorted = λ t. legal.flag_holds (sym (or-false is_sorted) ∙ t); between = between_at (IsBetween cmp least greatest) ls zero lt legal.between }
run_at cmp is_sorted least greatest ls (suc h) lt legal =
    record { sorted = λ t. upper_at cmp ls legal.upper_sorted (suc h) (omega arith) lt; between = between_at (IsBetween cmp least greatest) ls (suc h) lt legal.between }

-- Levels reversed in one list.

-- ---- levels of given lengths

levels_of_lengths : {A : Type 0} (items : List A) (ns : List ℕ) → length items ≡ total ns → (ls : List (List A)) × (items ≡ flat ls) × (map length ls ≡ ns)
levels_of_lengths items [] e = ([], nil_from_length items e, refl)
levels_of_lengths items (n ∷ ns) e =
    let t : length (take (total ns) items) ≡ total ns = omega (arith, length-take (total ns) items) in
    let h = levels_of_lengths (take (total ns) items) ns t in
    let d : length (drop (total ns) items) ≡ n = omega (arith, length-drop (total ns) items) in
    (drop (total ns) items ∷ h.0, sym (take-append-drop (total ns) items) ∙ ap (λ x. x ++ drop (total ns) items) h.1, ap₂ (λ (a : ℕ) (as' : List ℕ). a ∷ as') d h.2)

-- the bounds of levels that hold the number of items in a list fit that list
pub flat_by_bounds : {A : Type 0} (items : List A) (bounds : List ℕ) → AreBounds bounds (length items) → IsFlat items bounds
flat_by_bounds items bounds b =
    let h = levels_of_lengths items b.lengths b.hold in
    is_flat items bounds h.0 h.1 (b.are ∙ ap bounds_of (sym h.2))

same_bounds : (ns ms : List ℕ) → bounds_of ns ≡ bounds_of ms → ns ≡ ms
same_bounds [] [] e = refl
same_bounds (n ∷ ns) (m ∷ ms) e =
    let c = same_cell (n + total ns) (m + total ms) (bounds_of ns) (bounds_of ms) e in
    let rest = same_bounds ns ms c.1 in
    let first : n ≡ m = omega (arith, ap total rest, c.0) in
    cc (first, rest)
same_bounds ns ms e = absurd (omega (arith, ap length e, length_bounds_of ns, length_bounds_of ms))

-- the levels have the lengths that make the bounds
pub lengths_by_bounds : {A : Type 0} (items : List A) (bounds ns : List ℕ) → IsFlat items bounds → bounds ≡ bounds_of ns → map length (levels_in items bounds) ≡ ns
lengths_by_bounds items bounds ns f e = same_bounds (map length (levels_in items bounds)) ns (f.bounds_are ∙ e)

-- ---- one level reversed

lengths-turned_at : {A : Type 0} (h : ℕ) (ls : List (List A)) → map length (turned_at h ls) ≡ map length ls
lengths-turned_at h [] = refl
lengths-turned_at zero (l ∷ ls) = rw (length-reverse l)
lengths-turned_at (suc h) (l ∷ ls) = rw (lengths-turned_at h ls)

marks-turned_at : {A : Type 0} (h : ℕ) (ls : List (List A)) → marks (turned_at h ls) ≡ marks ls
marks-turned_at h ls = ap bounds_of (lengths-turned_at h ls)

flat-turned_at : {A : Type 0} (h : ℕ) (ls : List (List A)) → h < length ls → flat (turned_at h ls) ≡ flat (drop (suc h) ls) ++ (reverse (first_level (drop h ls)) ++ flat (take h ls))
flat-turned_at h [] lt = absurd (omega arith)
flat-turned_at zero (l ∷ ls) lt = ap (λ x. flat ls ++ x) (sym (append-nil (reverse l)))
flat-turned_at (suc h) (l ∷ ls) lt = rw (flat-turned_at h ls (omega arith)) (simp append_assoc)

-- ---- all levels reversed

-- the levels with each level below level h reversed
abbrev turned_below : {A : Type 0} → ℕ → List (List A) → List (List A)
turned_below h [] = []
turned_below zero (l ∷ ls) = l ∷ ls
turned_below (suc h) (l ∷ ls) = reverse l ∷ turned_below h ls

turned_more : {A : Type 0} (h : ℕ) (ls : List (List A)) → turned_at h (turned_below h ls) ≡ turned_below (suc h) ls
turned_more h [] = refl
turned_more zero (l ∷ []) = refl
turned_more zero (l ∷ m ∷ ls) = refl
turned_more (suc h) (l ∷ ls) = ap (λ x. reverse l ∷ x) (turned_more h ls)

turned_none : {A : Type 0} (ls : List (List A)) → turned_below zero ls ≡ ls
turned_none [] = refl
turned_none (l ∷ ls) = refl

turned_all : {A : Type 0} (h : ℕ) (ls : List (List A)) → h ≡ length ls → turned_below h ls ≡ map reverse ls
turned_all h [] e = refl
turned_all zero (l ∷ ls) e = absurd (omega arith)
turned_all (suc h) (l ∷ ls) e = ap (λ x. reverse l ∷ x) (turned_all h ls (omega arith))

-- the levels with those below level h reversed, from level 0 up or, if level 0 is left as it is, from level 1 up
abbrev pub turned_so : {A : Type 0} → Bool → ℕ → List (List A) → List (List A)
turned_so true h ls = turned_below h ls
turned_so false h ls = turned_at zero (turned_below h ls)

-- at the start no level is reversed
pub turned_first : {A : Type 0} (is_sorted : Bool) (h : ℕ) (ls : List (List A)) → (is_sorted ≡ true → h ≡ 0) → (is_sorted ≡ false → h ≡ 1) → turned_so is_sorted h ls ≡ ls
turned_first true h ls e f = ap (λ (n : ℕ). turned_below n ls) (e refl) ∙ turned_none ls
turned_first {A} false h ls e f = ap (λ (n : ℕ). turned_at zero (turned_below n ls)) (f refl) ∙ back ls
  where
    back : (ls : List (List A)) → turned_at zero (turned_below 1 ls) ≡ ls
    back [] = refl
    back (l ∷ ls) = ap₂ (λ (x : List A) (xs : List (List A)). x ∷ xs) (reverse-reverse l) (turned_none ls)

-- the next level is reversed
pub turned_next : {A : Type 0} (is_sorted : Bool) (h : ℕ) (ls : List (List A)) → (is_sorted ≡ false → 1 ≤ h) → turned_at h (turned_so is_sorted h ls) ≡ turned_so is_sorted (h + 1) ls
turned_next true h ls some = let one : h + 1 ≡ suc h = omega arith in rw one (turned_more h ls)
turned_next false zero ls some = absurd (omega (arith, some refl))
turned_next {A} false (suc h) ls some =
    let one : suc h + 1 ≡ suc (suc h) = omega arith in
    rw one (apart h (turned_below (suc h) ls) ∙ ap (turned_at zero) (turned_more (suc h) ls))
  where
    apart : (h : ℕ) (ms : List (List A)) → turned_at (suc h) (turned_at zero ms) ≡ turned_at zero (turned_at (suc h) ms)
    apart h [] = refl
    apart h (m ∷ ms) = refl

joined_turned : {A : Type 0} (ls : List (List A)) → flat_map (λ l. l) (map reverse ls) ≡ reverse (flat ls)
joined_turned [] = refl
joined_turned (l ∷ ls) = ap (λ x. reverse l ++ x) (joined_turned ls) ∙ sym (reverse-append (flat ls) l)

turned_sorted : {A : Type 0} (ls : List (List A)) → turned true ls ≡ ls
turned_sorted [] = refl
turned_sorted (l ∷ ls) = refl

turned_back : {A : Type 0} (ls : List (List A)) → turned false (turned_at zero ls) ≡ ls
turned_back [] = refl
turned_back (l ∷ ls) = ap (λ x. x ∷ ls) (reverse-reverse l)

-- if the run of one level is reversed in the list, the list holds the levels with that one reversed
pub turned_run : {A : Type 0} (items new : List A) (bounds : List ℕ) (h start end : ℕ) → IsFlat items bounds → h + 1 < length bounds → start ≡ get_or bounds (suc h) 0 →
    end ≡ get_or bounds h 0 → new ≡ take start items ++ (reverse (between start end items) ++ drop end items) → new ≡ flat (turned_at h (levels_in items bounds))
turned_run {A} items new bounds h start end f lt s e is =
    let ls : List (List A) = levels_in items bounds in
    let low : start ≡ retained_in (drop (suc h) ls) = s ∙ bound_at items bounds f (suc h) in
    let high : end ≡ retained_in (drop h ls) = e ∙ bound_at items bounds f h in
    cc (is, low, high, f.items_are, take-flat ls (suc h), level_at ls h, drop-flat ls h, flat-turned_at h ls (omega (arith, length-bounds items bounds f)))

-- reversing a level leaves the bounds and the other levels as they are
pub turned_levels : {A : Type 0} (items new : List A) (bounds : List ℕ) (h : ℕ) → IsFlat items bounds → new ≡ flat (turned_at h (levels_in items bounds)) →
    IsFlat new bounds × (levels_in new bounds ≡ turned_at h (levels_in items bounds))
turned_levels items new bounds h f e = grind (arith, common_steps, marks-turned_at, is_flat, levels_of_flat)

-- ---- the order of the text

-- once all are reversed, the text is what is stored of the levels
pub stored_so : {A : Type 0} (is_sorted : Bool) (ls whole : List (List A)) (h : ℕ) (text back : List A) → back ≡ reverse text → flat whole ≡ back → h ≡ length whole →
    ls ≡ turned_so is_sorted h whole → stored is_sorted ls ≡ text
stored_so true ls whole h text back e f all is =
    rw (is, turned_all h whole all, turned_sorted (map reverse whole), joined_turned whole, f, e, reverse-reverse text)
stored_so false ls whole h text back e f all is =
    rw (is, turned_all h whole all, turned_back (map reverse whole), joined_turned whole, f, e, reverse-reverse text)

-- ---- the number of items in the text

length_joined : {A : Type 0} (ls : List (List A)) → length (flat_map (λ x. x) ls) ≡ total (map length ls)
length_joined [] = refl
length_joined (l ∷ ls) = omega (arith, length_joined ls, length-append l (flat_map (λ x. x) ls))

-- the number of items stored is the number of items in the levels
pub total_turned : {A : Type 0} (is_sorted : Bool) (ls : List (List A)) → length (stored is_sorted ls) ≡ total (map length ls)
total_turned is_sorted [] = refl
total_turned true (l ∷ ls) = omega (arith, length_joined ls, length-append l (flat_map (λ x. x) ls))
total_turned false (l ∷ ls) = omega (arith, length_joined ls, length-append (reverse l) (flat_map (λ x. x) ls), length-reverse l)
