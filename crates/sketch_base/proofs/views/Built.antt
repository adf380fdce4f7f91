-- Sorted weighted items become a view: equal ones are joined if asked, weights are summed up. What is built stands for the items that it
-- was built from, each as often as it weighs.
use Rattle.std.proofs.lemmas.Grind.{common_steps}
use Rattle.std.proofs.Common.{◌≡◌, ℕ, zero, suc, ◌+◌, ◌-◌, ◌*◌, ◌<◌, ◌≤◌, Bool, true, false, cond, List, [], ◌∷◌, ◌++◌, length, map, replicate, sum_by, refl, sym, ap, ap₂, ◌∙◌, arith, if◌then◌else◌, IsSorted, IsPermutation, Ordering, Less, Equal, is_gt, is_lt, nat_eq, subst, Bor, take, get_or, append_assoc}
use Rattle.std.specs.Prelude.{⊤, Option, IsSome, Some, option_copied, None}
use Rattle.std.specs.Cmp.{IsTotalOrder}
use Rattle.std.specs.List.{All, AllByRecursion}
use Rattle.std.specs.Ordering.{is_eq}
use Rattle.std.proofs.lemmas.Bool.{false≢true}
use Rattle.std.specs.List.Sorted.{IsSortedBy}
use Rattle.std.proofs.lemmas.List.{get_or-map, length-map, map-append, take_more}
use Rattle.std.proofs.lemmas.Cmp.{tied_itself}
use Rattle.std.proofs.lemmas.List.Sums.{sum_by-cons, sum_by-append}
use Rattle.std.proofs.lemmas.List.Folds.{sum_by-replicate}
use Rattle.std.proofs.lemmas.List.Sorted.{All-permutation, length_permutation, sum_by-IsPermutation}
use Rattle.sketch_base.specs.Bag.{SameItems, sort}
use Rattle.sketch_base.specs.Pairs.{begins_equal, copies, distinct, is_kept, kept_items, kept_weights, extreme_among, SamePairs}
use Rattle.sketch_base.specs.Query.{counted}
use Rattle.sketch_base.specs.Queries.{spread_out, spread_over, SameAnswer}
use Rattle.sketch_base.specs.Views.{IsThere, IsView, View, view_from, SameView}
use Rattle.sketch_base.proofs.bags.Parts.{all-map}
use Rattle.sketch_base.proofs.order.Order.{Ordered, Ordered-sort, below, counted-equal, items-from_counts, SameCounts-from_items, sorted_items, equal-from_neither, less-from_is_lt, Rises, non_decreasing_from_rises, IsSorted-from_ordered, Ordered-from_sorted, sorted_same}
use Rattle.sketch_base.proofs.views.Entries.{Ordered-spread_over, same-spread, zip-push, sum-ones}
use Rattle.sketch_base.proofs.bags.Acts.{sum_by-sort}
use Rattle.sketch_base.proofs.moving.Moving.{some-unless_empty}
use Rattle.std.proofs.lemmas.List.Elements.{length_all_zip}
use Rattle.sketch_base.proofs.bags.Alike.{SameItems-append}

-- Sorted weighted items of which equal ones are joined: the view that they make.

all-by_recursion : {A : Type 0} (P : A → Type 0) (xs : List A) → All P xs → AllByRecursion P xs
all-by_recursion P [] h = tt
all-by_recursion P (x ∷ xs) h = (h 0 x (omega arith), all-by_recursion P xs (λ k d l. h (suc k) d (omega arith)))

-- ---- sorted pairs

-- weighted items that are sorted by item have sorted items
pub sorted-items : {A : Type 0} (cmp : A → A → Ordering) (pairs : List (A × ℕ)) → IsSortedBy (λ (a b : A × ℕ). is_lt (cmp a.0 b.0)) pairs → IsSorted cmp (map (λ (pair : A × ℕ). pair.0) pairs)
sorted-items cmp [] up k d l u = absurd (omega arith)
sorted-items {A} cmp (p ∷ ps) up k d l u =
    let n = length-map (p ∷ ps) (λ pair. pair.0) in
    ap₂ (λ x y. is_lt (cmp x y)) (get_or-map (λ pair. pair.0) (p ∷ ps) (k + 1) p d (omega (arith, u, n))) (get_or-map (λ pair. pair.0) (p ∷ ps) k p d (omega (arith, u, n))) ∙ up k p l (omega (arith, u, n))

-- numbers that climb from a start: each is above the one before it
abbrev Climbs : ℕ → List ℕ → Type 0
Climbs before [] = ⊤
Climbs before (n ∷ ns) = (before < n) × Climbs n ns

rises-from_climbs : (before : ℕ) (ns : List ℕ) → Climbs before ns → Rises before ns
rises-from_climbs before [] h = tt
rises-from_climbs before (n ∷ ns) h = (omega (arith, h.0), rises-from_climbs n ns h.1)

module _ {A : Type 0} where
  -- the items of pairs
  abbrev pub items_in : List (A × ℕ) → List A
  items_in pairs = map (λ (pair : A × ℕ). pair.0) pairs

  -- each weight is above 0
  abbrev pub HaveWeight : List (A × ℕ) → Type 0
  HaveWeight pairs = AllByRecursion (λ (pair : A × ℕ). 0 < pair.1) pairs

  -- the sum over the items of the weight times f of the item
  abbrev weigh_pairs : (A → ℕ) → List (A × ℕ) → ℕ
  weigh_pairs f pairs = sum_by (λ (pair : A × ℕ). pair.1 * f pair.0) pairs

  sum-copies : (f : A → ℕ) (pairs : List (A × ℕ)) → sum_by f (copies pairs) ≡ weigh_pairs f pairs
  sum-copies f [] = refl
  sum-copies f (p ∷ ps) = sum_by-append f (replicate p.1 p.0) (copies ps) ∙ omega (arith, sum_by-replicate f p.1 p.0, sum-copies f ps, sum_by-cons (λ (pair : A × ℕ). pair.1 * f pair.0) p ps)

  long-enough : (pairs : List (A × ℕ)) → HaveWeight pairs → length pairs ≤ weigh_pairs (λ x. 1) pairs
  long-enough [] h = omega arith
  long-enough (p ∷ ps) h = let one = h.0 in omega (arith, sum_by-cons (λ (pair : A × ℕ). pair.1 * 1) p ps, long-enough ps h.1, one)

  -- ---- joining equal items

  -- what the weight n counts if it is carried on to the next item
  abbrev carried : ℕ → (A → ℕ) → List (A × ℕ) → ℕ
  carried n f [] = 0
  carried n f (p ∷ ps) = n * f p.0

  carried-none : (n : ℕ) (f : A → ℕ) (pairs : List (A × ℕ)) → n ≡ 0 → carried n f pairs ≡ 0
  carried-none n f [] e = refl
  carried-none n f (p ∷ ps) e = ap (λ m. m * f p.0) e ∙ omega arith

module _ {A : Type 0} (cmp : A → A → Ordering) (joins : Bool) where
  same-length : (before : ℕ) (pairs : List (A × ℕ)) → length (kept_items cmp joins pairs) ≡ length (kept_weights cmp joins before pairs)
  same-length before [] = refl
  same-length before (p ∷ ps) = grind (arith, same-length (before + p.1) ps)

  few-joined : (pairs : List (A × ℕ)) → length (kept_items cmp joins pairs) ≤ length pairs
  few-joined [] = omega arith
  few-joined (p ∷ ps) = grind (arith, few-joined ps)

  climbs-joined : (low before : ℕ) (pairs : List (A × ℕ)) → low ≤ before → HaveWeight pairs → Climbs low (kept_weights cmp joins before pairs)
  climbs-joined low before [] le h = tt
  climbs-joined low before (p ∷ ps) le h =
      elim (is_kept cmp joins p.0 ps) as (λ (b : Bool). Climbs low (if b then (before + p.1) ∷ kept_weights cmp joins (before + p.1) ps else kept_weights cmp joins (before + p.1) ps)) [
        | true ↦ (omega (arith, le), climbs-joined (before + p.1) (before + p.1) ps (omega arith) h.1)
        | false ↦ climbs-joined low (before + p.1) ps (omega (arith, le)) h.1
      ]

  all-joined : (P : A → Type 0) (pairs : List (A × ℕ)) → AllByRecursion P (items_in pairs) → AllByRecursion P (kept_items cmp joins pairs)
  all-joined P [] h = tt
  all-joined P (p ∷ ps) h =
      elim (is_kept cmp joins p.0 ps) as (λ (b : Bool). AllByRecursion P (if b then p.0 ∷ kept_items cmp joins ps else kept_items cmp joins ps)) [ true ↦ (h.0, all-joined P ps h.1) | false ↦ all-joined P ps h.1 ]

module _ {A : Type 0} (cmp : A → A → Ordering) where
  -- each item is below all items after it
  abbrev AllBelow : List A → Type 0
  AllBelow [] = ⊤
  AllBelow (x ∷ xs) = AllByRecursion (λ y. cmp x y ≡ Less) xs × AllBelow xs

  begins-above : (x : A) (before : ℕ) (xs : List A) (cs : List ℕ) → AllByRecursion (λ y. cmp x y ≡ Less) xs → Climbs before cs → begins_equal cmp x (spread_over before xs cs) ≡ false
  begins-above x before (y ∷ ys) (c ∷ cs) h up = go (c - before) (let l = up.0 in omega (arith, l))
    where
      go : (n : ℕ) → 0 < n → begins_equal cmp x (replicate n y ++ spread_over c ys cs) ≡ false
      go n l = grind (arith, common_steps)
  begins-above x before _ _ h up = refl

module _ {A : Type 0} {cmp : A → A → Ordering} (order : IsTotalOrder cmp) where
  ordered-joined : (joins : Bool) (pairs : List (A × ℕ)) → Ordered order (items_in pairs) → Ordered order (kept_items cmp joins pairs)
  ordered-joined joins [] up = tt
  ordered-joined joins (p ∷ ps) up = elim (is_kept cmp joins p.0 ps) as (λ (b : Bool). Ordered order (if b then p.0 ∷ kept_items cmp joins ps else kept_items cmp joins ps)) [
    | true ↦ (all-joined cmp joins (λ y. is_gt (cmp p.0 y) ≡ false) ps up.0, ordered-joined joins ps up.1)
    | false ↦ ordered-joined joins ps up.1
  ]

  -- a weight that is carried on counts the same, since the next item compares equal
  carried-on : (f : A → ℕ) → ((x y : A) → cmp x y ≡ Equal → f x ≡ f y) → (joins : Bool) (n : ℕ) (x : A) (pairs : List (A × ℕ)) → is_kept cmp joins x pairs ≡ false →
      AllByRecursion (λ y. is_gt (cmp x y) ≡ false) (items_in pairs) → carried n f pairs ≡ n * f x
  carried-on f respects joins n x [] e up = absurd (false≢true (sym e))
  carried-on f respects false n x (p ∷ ps) e up = absurd (false≢true (sym e))
  carried-on f respects true n x (p ∷ ps) e up = ap (λ m. n * m) (sym (respects x p.0 (equal-from_neither (cmp x p.0) e up.0)))

  -- the list that joined items stand for has the sum of the weighted items, and of the weight carried on to them
  sum-joined : (f : A → ℕ) → ((x y : A) → cmp x y ≡ Equal → f x ≡ f y) → (joins : Bool) (low before : ℕ) (pairs : List (A × ℕ)) → low ≤ before → Ordered order (items_in pairs) →
      sum_by f (spread_over low (kept_items cmp joins pairs) (kept_weights cmp joins before pairs)) ≡ carried (before - low) f pairs + weigh_pairs f pairs
  sum-joined f respects joins low before [] le up = refl
  sum-joined f respects joins low before (p ∷ ps) le up = grind (
    arith,
    times,
    carry,
    sum-joined f respects joins (before + p.1) (before + p.1) ps (omega arith) up.1,
    sum-joined f respects joins low (before + p.1) ps (omega (arith, le)) up.1,
    sum_by-append f (replicate (before + p.1 - low) p.0) (spread_over (before + p.1) (kept_items cmp joins ps) (kept_weights cmp joins (before + p.1) ps)),
    sum_by-replicate f (before + p.1 - low) p.0,
    carried-none (before + p.1 - (before + p.1)) f ps (omega arith),
    sum_by-cons (λ (pair : A × ℕ). pair.1 * f pair.0) p ps,
  )
    where
      times : (before + p.1 - low) * f p.0 ≡ (before - low) * f p.0 + p.1 * f p.0
      times = let more : before + p.1 - low ≡ (before - low) + p.1 = omega (arith, le) in ap (λ n. n * f p.0) more ∙ omega arith

      carry : is_kept cmp joins p.0 ps ≡ false → carried (before + p.1 - low) f ps ≡ (before + p.1 - low) * f p.0
      carry e = carried-on f respects joins (before + p.1 - low) p.0 ps e up.0

  -- an item that is below the next one is below all items that follow
  below-all : (x : A) (pairs : List (A × ℕ)) → is_kept cmp true x pairs ≡ true → Ordered order (items_in pairs) → AllByRecursion (λ y. cmp x y ≡ Less) (items_in pairs)
  below-all x [] e up = tt
  below-all x (p ∷ ps) e up =
      let first = less-from_is_lt (cmp x p.0) e in (first, all-map (λ y. is_gt (cmp p.0 y) ≡ false) (λ y. cmp x y ≡ Less) (λ y. below order x p.0 y first) (items_in ps) up.0)

  below-joined : (pairs : List (A × ℕ)) → Ordered order (items_in pairs) → AllBelow cmp (kept_items cmp true pairs)
  below-joined [] up = tt
  below-joined (p ∷ ps) up = (elim (is_kept cmp true p.0 ps) as (λ (b : Bool). is_kept cmp true p.0 ps ≡ b → AllBelow cmp (if b then p.0 ∷ kept_items cmp true ps else kept_items cmp true ps)) [
    | true ↦ λ e. (all-joined cmp true (λ y. cmp p.0 y ≡ Less) ps (below-all p.0 ps e up.1), below-joined ps up.1)
    | false ↦ λ e. below-joined ps up.1
  ]) refl

  distinct-copies : (n : ℕ) (x : A) (rest : List A) → 0 < n → begins_equal cmp x rest ≡ false → distinct cmp (replicate n x ++ rest) ≡ 1 + distinct cmp rest
  distinct-copies zero x rest l e = absurd (omega arith)
  distinct-copies (suc zero) x rest l e = ap (λ (b : Bool). (if b then 0 else 1) + distinct cmp rest) e
  distinct-copies (suc (suc n)) x rest l e =
      let ih : distinct cmp (x ∷ (replicate n x ++ rest)) ≡ 1 + distinct cmp rest = distinct-copies (suc n) x rest (omega arith) e in
      ap (λ (o : Ordering). (if is_eq o then 0 else 1) + distinct cmp (x ∷ (replicate n x ++ rest))) (tied_itself order x) ∙ (ap (λ m. 0 + m) ih ∙ omega arith)

  distinct-spread : (before : ℕ) (xs : List A) (cs : List ℕ) → length xs ≡ length cs → Climbs before cs → AllBelow cmp xs → distinct cmp (spread_over before xs cs) ≡ length xs
  distinct-spread before [] cs e up h = refl
  distinct-spread before (x ∷ xs) [] e up h = absurd (omega (arith, e))
  distinct-spread before (x ∷ xs) (c ∷ cs) e up h = distinct-copies (c - before) x (spread_over c xs cs) (omega (arith)) (begins-above cmp x c xs cs h.0 up.1)
      ∙ (ap (λ m. 1 + m) (distinct-spread c xs cs (omega (arith, e)) up.1 h.1) ∙ omega arith)

  -- weighted items, and the same items sorted
  module _ (joins : Bool) (weighted pairs : List (A × ℕ)) (same : IsPermutation weighted pairs) (sorted : IsSorted cmp (items_in pairs)) (weights : All (λ (pair : A × ℕ). 0 < pair.1) weighted) where
    up : Ordered order (items_in pairs)
    up = Ordered-from_sorted cmp order (items_in pairs) sorted

    weigh : HaveWeight pairs
    weigh = all-by_recursion (λ (pair : A × ℕ). 0 < pair.1) pairs (All-permutation (λ (pair : A × ℕ). 0 < pair.1) weighted pairs same weights)

    sum-spread : (f : A → ℕ) → ((x y : A) → cmp x y ≡ Equal → f x ≡ f y) → sum_by f (spread_out (kept_items cmp joins pairs) (kept_weights cmp joins 0 pairs)) ≡ weigh_pairs f pairs
    sum-spread f respects = omega (arith, sum-joined f respects joins 0 0 pairs (omega arith) up, carried-none (0 - 0) f pairs (omega arith))

    long : length (spread_out (kept_items cmp joins pairs) (kept_weights cmp joins 0 pairs)) ≡ weigh_pairs (λ x. 1) pairs
    long = sym (sum-ones (spread_out (kept_items cmp joins pairs) (kept_weights cmp joins 0 pairs))) ∙ sum-spread (λ x. 1) (λ x y e. refl)

    -- the entries are the copies of the weighted items, sorted
    pub joined-entries : SameItems cmp (sort cmp (copies weighted)) (spread_out (kept_items cmp joins pairs) (kept_weights cmp joins 0 pairs))
    joined-entries = items-from_counts order (sort cmp (copies weighted)) (spread_out (kept_items cmp joins pairs) (kept_weights cmp joins 0 pairs)) (Ordered-sort order (copies weighted))
        (Ordered-spread_over order 0 (kept_items cmp joins pairs) (kept_weights cmp joins 0 pairs) (ordered-joined joins pairs up)) (λ z c.
        let one : A → ℕ = λ x. cond (counted cmp z c x) 1 0 in
        sum_by-sort one cmp (copies weighted) ∙ (sum-copies one weighted ∙ (grind (arith, common_steps, sum_by-IsPermutation, sum-spread, counted-equal))))

    there : (extreme : Option A) → IsSome extreme → (n : ℕ) → 0 < n → IsThere extreme n
    there extreme h n l = grind (arith, common_steps, false≢true)

    -- the joined items make a view
    pub joined-view : (least greatest : Option A) → 0 < length weighted → IsSome least → IsSome greatest → IsView cmp (kept_items cmp joins pairs) (kept_weights cmp joins 0 pairs) least greatest
    joined-view least greatest some l g =
        let whole : 0 < length (spread_out (kept_items cmp joins pairs) (kept_weights cmp joins 0 pairs)) = omega (arith, long, long-enough pairs weigh, length_permutation weighted pairs same, some) in
        record {
          cumulates = record {
            one_each = same-length cmp joins 0 pairs;
            none_falls =
                non_decreasing_from_rises 0 (kept_weights cmp joins 0 pairs) (rises-from_climbs 0 (kept_weights cmp joins 0 pairs) (climbs-joined cmp joins 0 0 pairs (omega arith) weigh));
          };
          sorted = IsSorted-from_ordered cmp order (kept_items cmp joins pairs) (ordered-joined joins pairs up);
          no_more_items = omega (arith, long, long-enough pairs weigh, few-joined cmp joins pairs);
          least_there = there least l (length (spread_out (kept_items cmp joins pairs) (kept_weights cmp joins 0 pairs))) whole;
          greatest_there = there greatest g (length (spread_out (kept_items cmp joins pairs) (kept_weights cmp joins 0 pairs))) whole;
        }

  -- all items are held, or one of each group of equal entries
  all-kept : (pairs : List (A × ℕ)) → length (kept_items cmp false pairs) ≡ length pairs
  all-kept [] = refl
  all-kept (p ∷ []) = refl
  all-kept (p ∷ q ∷ ps) = ap suc (all-kept (q ∷ ps))

  pub held-joined : (joins : Bool) (weighted pairs : List (A × ℕ)) → IsPermutation weighted pairs → IsSorted cmp (items_in pairs) → All (λ (pair : A × ℕ). 0 < pair.1) weighted →
      length (kept_items cmp joins pairs) ≡ (if joins then distinct cmp (spread_out (kept_items cmp joins pairs) (kept_weights cmp joins 0 pairs)) else length weighted)
  held-joined false weighted pairs same sorted weights = all-kept pairs ∙ length_permutation weighted pairs same
  held-joined true weighted pairs same sorted weights = sym (distinct-spread 0 (kept_items cmp true pairs) (kept_weights cmp true 0 pairs) (same-length cmp true 0 pairs)
      (climbs-joined cmp true 0 0 pairs (omega arith) (weigh true weighted pairs same sorted weights)) (below-joined pairs (up true weighted pairs same sorted weights)))

-- What the calls that build a view give: the view of joined items, that of no items, or an error.

-- the view of weighted items, and their extremes if there are any
pub record IsBuilt {A : Type 0} (cmp : A → A → Ordering) (joins : Bool) (pairs : List (A × ℕ)) (least greatest : Option A) (v : View A) : Type 0 where
  pub entries : SameItems cmp (sort cmp (copies pairs)) v.entries
  pub held_is : v.held ≡ (if joins then distinct cmp v.entries else length pairs)
  pub least_is : v.least ≡ extreme_among pairs least
  pub greatest_is : v.greatest ≡ extreme_among pairs greatest

extreme-there : {A B : Type 0} (ws : List B) (extreme : Option A) → 0 < length ws → extreme ≡ extreme_among ws extreme
extreme-there [] extreme h = absurd (omega (arith, h))
extreme-there (w ∷ ws) extreme h = refl

-- the items that were kept
pub built-joined : {A : Type 0} {cmp : A → A → Ordering} → IsTotalOrder cmp → (joins : Bool) (weighted pairs : List (A × ℕ)) → IsPermutation weighted pairs →
    IsSorted cmp (map (λ (pair : A × ℕ). pair.0) pairs) → All (λ (pair : A × ℕ). 0 < pair.1) weighted →
    (least greatest : Option A) (v : View A) (xs : List A) (cumulated : List ℕ) → v ≡ view_from xs cumulated least greatest →
    xs ≡ kept_items cmp joins pairs → cumulated ≡ kept_weights cmp joins 0 pairs → 0 < length weighted → IsBuilt cmp joins weighted least greatest v
built-joined order joins weighted pairs same sorted weights least greatest v xs cumulated is is_joined is_weights some = rw (is, is_joined, is_weights) (record {
  entries = joined-entries order joins weighted pairs same sorted weights;
  held_is = held-joined order joins weighted pairs same sorted weights;
  least_is = extreme-there weighted least some;
  greatest_is = extreme-there weighted greatest some;
})

-- the same items as none are none
pub no-items : {A : Type 0} (cmp : A → A → Ordering) (xs : List A) → SameItems cmp [] xs → xs ≡ []
no-items cmp [] same = refl
no-items cmp (x ∷ xs) same = absurd same

-- Whether the calls on a view find anything, and what they find.

-- a view of some items has entries, and one of no items has none
module _ {A : Type 0} (v : View A) (xs : List A) (cumulated : List ℕ) (least greatest : Option A) (is : v ≡ view_from xs cumulated least greatest) (b : Bool)
    (k : ℕ) (empty : b ≡ nat_eq k 0) (len : k ≡ length xs) where
  pub entries-there : b ≡ false → length xs ≤ length (spread_out xs cumulated) → 0 < length v.entries
  entries-there e fits = omega (arith, some-unless_empty b k xs empty e len, fits, ap (λ (w : View A). length w.entries) is)

-- what holds of the entries that a view's items stand for holds of the view's entries
pub at-entries : {A : Type 0} (P : List A → Type 0) (v : View A) (ys xs : List A) (ns cumulated : List ℕ) (least greatest : Option A) →
    v ≡ view_from xs cumulated least greatest → ys ≡ xs → ns ≡ cumulated →
    P (spread_out ys ns) → P v.entries
at-entries {A} P v ys xs ns cumulated least greatest is e f h =
    subst (λ (w : View A). P w.entries) (sym is) (subst (λ (zs : List A). P (spread_out zs cumulated)) e (subst (λ (ms : List ℕ). P (spread_out ys ms)) f h))

-- the clone of an entry that was found
pub clone-answers : {A : Type 0} (cmp : A → A → Ordering) (found : Option (Bor A)) (entry : Bor A) (x : A) (q : Option A) → found ≡ Some entry → option_copied found ≡ q →
    cmp entry.now x ≡ Equal → SameAnswer cmp q (Some x)
clone-answers {A} cmp found entry x q is same e = subst (λ (o : Option A). SameAnswer cmp o (Some x)) (sym (ap option_copied is) ∙ same) e

-- A view of clones.

there-same : {A : Type 0} (cmp : A → A → Ordering) (x y : Option A) (n : ℕ) → SameAnswer cmp x y → IsThere x n → IsThere y n
there-same cmp x y n h k = grind (arith, common_steps)

module _ {A : Type 0} {cmp : A → A → Ordering} (order : IsTotalOrder cmp) where
  -- clones make the same view
  pub same-view : (xs ys : List A) (cumulated cloned : List ℕ) (least least' greatest greatest' : Option A) → SameItems cmp xs ys → cloned ≡ cumulated →
      SameAnswer cmp least least' → SameAnswer cmp greatest greatest' → SameView cmp (view_from xs cumulated least greatest) (view_from ys cloned least' greatest')
  same-view xs ys cumulated cloned least least' greatest greatest' h e l g = grind (arith, common_steps, same-spread, length_all_zip)

  -- clones of a view's items make a view
  pub view-of_clones : (xs ys : List A) (cumulated cloned : List ℕ) (least least' greatest greatest' : Option A) → IsView cmp xs cumulated least greatest → SameItems cmp xs ys →
      cloned ≡ cumulated → SameAnswer cmp least least' → SameAnswer cmp greatest greatest' → IsView cmp ys cloned least' greatest'
  view-of_clones xs ys cumulated cloned least least' greatest greatest' v h e l g =
      let same = length_all_zip (λ x y. cmp x y ≡ Equal) xs ys h in
      let long : length (spread_out xs cumulated) ≡ length (spread_out ys cumulated) =
      length_all_zip (λ x y. cmp x y ≡ Equal) (spread_out xs cumulated) (spread_out ys cumulated) (same-spread order 0 xs ys cumulated h) in
      subst (λ cs. IsView cmp ys cs least' greatest') (sym e) (record {
        cumulates = record { one_each = sym same ∙ v.cumulates.one_each; none_falls = v.cumulates.none_falls };
        sorted = sorted_same order xs ys h v.sorted;
        no_more_items = let counts = v.no_more_items in omega (arith, same, long, counts);
        least_there = subst (λ n. IsThere least' n) long (there-same cmp least least' (length (spread_out xs cumulated)) l v.least_there);
        greatest_there = subst (λ n. IsThere greatest' n) long (there-same cmp greatest greatest' (length (spread_out xs cumulated)) g v.greatest_there);
      })

-- Weighted items that are pushed: those that they compare equal to, and the room for them.

module _ {A : Type 0} (cmp : A → A → Ordering) where
  copied : (n : ℕ) (x y : A) → cmp x y ≡ Equal → SameItems cmp (replicate n x) (replicate n y)
  copied zero x y e = tt
  copied (suc n) x y e = (e, copied n x y e)

  same-copies : (ps qs : List (A × ℕ)) → SamePairs cmp ps qs → SameItems cmp (copies ps) (copies qs)
  same-copies [] [] s = tt
  same-copies (p ∷ ps) (q ∷ qs) s = SameItems-append cmp (replicate p.1 p.0) (replicate q.1 q.0) (copies ps) (copies qs)
      (subst (λ (n : ℕ). SameItems cmp (replicate p.1 p.0) (replicate n q.0)) (sym s.0.1) (copied p.1 p.0 q.0 s.0.0)) (same-copies ps qs s.1)
  same-copies _ _ s = absurd s

  -- pairs that compare equal stand for items that do
  pub same-sorted : IsTotalOrder cmp → (ps qs : List (A × ℕ)) → SamePairs cmp ps qs → SameItems cmp (sort cmp (copies ps)) (sort cmp (copies qs))
  same-sorted order ps qs s = sorted_items order (copies ps) (copies qs) (SameCounts-from_items order (copies ps) (copies qs) (same-copies ps qs s))

  -- their weights are the same
  pub same-sum : (ps qs : List (A × ℕ)) → SamePairs cmp ps qs → sum_by (λ (p : A × ℕ). p.1) qs ≡ sum_by (λ (p : A × ℕ). p.1) ps
  same-sum [] [] s = refl
  same-sum (p ∷ ps) (q ∷ qs) s = sum_by-cons (λ (p : A × ℕ). p.1) q qs ∙ (ap₂ (λ m n. m + n) s.0.1 (same-sum ps qs s.1) ∙ sym (sum_by-cons (λ (p : A × ℕ). p.1) p ps))
  same-sum _ _ s = absurd s

  pub same-weights : (ps qs : List (A × ℕ)) → SamePairs cmp ps qs → All (λ (p : A × ℕ). 0 < p.1) ps → All (λ (p : A × ℕ). 0 < p.1) qs
  same-weights [] [] s h k d l = absurd (omega arith)
  same-weights (p ∷ ps) (q ∷ qs) s h zero d l = subst (λ (n : ℕ). 0 < n) (sym s.0.1) (h zero d (omega arith))
  same-weights (p ∷ ps) (q ∷ qs) s h (suc k) d l = same-weights ps qs s.1 (λ j e m. h (suc j) e (omega (arith, m))) k d (omega (arith, l))
  same-weights _ _ s h k d l = absurd s

  -- a clone of one more item is pushed
  pub same-pushed : (pairs : List (A × ℕ)) (w : ℕ) (items : List A) (i : ℕ) (x y : A) (found new : List (A × ℕ)) → i < length items → x ≡ get_or items i x →
      cmp x y ≡ Equal → new ≡ found ++ (y, w) ∷ [] → SamePairs cmp (pairs ++ map (λ x. (x, w)) (take i items)) found →
      SamePairs cmp (pairs ++ map (λ x. (x, w)) (take (i + 1) items)) new
  same-pushed pairs w items i x y found new l at e is so_far =
      let weigh : A → A × ℕ = λ x. (x, w) in
      rw (is, take_more items i x l, ← at, map-append weigh (take i items) (x ∷ []), ← append_assoc pairs (map weigh (take i items)) ((x, w) ∷ []))
      (zip-push (λ p q. (cmp p.0 q.0 ≡ Equal) × (q.1 ≡ p.1)) (pairs ++ map weigh (take i items)) found (x, w) (y, w) so_far (e, refl))

  -- there are as many of them
  pub alike-length : (ps qs : List (A × ℕ)) → SamePairs cmp ps qs → length ps ≡ length qs
  alike-length = length_all_zip (λ p q. (cmp p.0 q.0 ≡ Equal) × (q.1 ≡ p.1))

-- an extreme of items with weights that weigh as much as the stream: it is there if they are, and else there is none
pub extreme-among : {A : Type 0} (pairs : List (A × ℕ)) (extreme : Option A) (n : ℕ) → IsThere extreme n → sum_by (λ (p : A × ℕ). p.1) pairs ≡ n →
    All (λ (p : A × ℕ). 0 < p.1) pairs → (0 < length pairs → IsSome extreme) × (extreme_among pairs extreme ≡ extreme)
extreme-among [] None n there sum weigh = (λ some. absurd (omega (arith, some)), refl)
extreme-among [] (Some x) n there sum weigh = absurd (omega (arith, there, sum))
extreme-among (p ∷ ps) (Some x) n there sum weigh = (λ some. refl, refl)
extreme-among (p ∷ ps) None n there sum weigh = absurd (omega (arith, there, sum, sum_by-cons (λ (p : _ × ℕ). p.1) p ps, weigh 0 p (omega arith)))
