-- The sketch of a weight's binary digits holds the item once on each level whose digit is 1. It is sound, and Puts by these digits do
-- what Joins with its levels do.
use Rattle.std.proofs.lemmas.Grind.{common_steps}
use Rattle.std.proofs.Common.{ne_eqb, ◌≡◌, ℕ, zero, suc, ◌/◌, ◌%◌, ◌<◌, ◌≤◌, ◌==◌, Bool, true, false, not, ◌&&◌, eqb, if◌then◌else◌, List, [], ◌∷◌, ◌++◌, refl, sym, ◌∙◌, arith, inl, inr, append-nil, Ordering, ◌+◌, ◌-◌, ◌*◌, ◌^◌, eqb-true, ◌⊎◌, length, map, Option, None, Some, ap, ap₂, subst, Equal, is_gt}
use Rattle.std.proofs.Math.Nat.{pow-succ'}
use Rattle.std.proofs.lemmas.Bool.{eqb-false, cases_Bool, eq-eqb, false≢true, cases_lt}
use Rattle.std.proofs.lemmas.Nat.{pow_pos, shr-shr, leading_length}
use Rattle.std.proofs.lemmas.List.Sums.{sum_by-cons}
use Rattle.sketch_base.specs.Bag.{Bag, with_level, SameItems}
use Rattle.sketch_base.specs.Trace.{acts, draws_of}
use Rattle.sketch_kll.specs.Weighted.{digit_levels, puts_actions, HasDigits, at_digit, IsOfDigits}
use Rattle.sketch_kll.proofs.merges.Actions.{raw_upper}
use Rattle.std.specs.Cmp.{IsTotalOrder}
use Rattle.std.specs.Int.Count.{count_leading_zeros}
use Rattle.std.specs.List.{AllByRecursion}
use Rattle.std.specs.Option.{option_to_list}
use Rattle.std.specs.Prelude.{IsSome, count_ones}
use lib.Count.{ones-le, ones_step}
use Rattle.std.proofs.Math.Pow.{pow_mono}
use Rattle.std.proofs.lemmas.Cmp.{tied_back, tied_itself}
use Rattle.sketch_base.proofs.bags.Parts.{all-parts}
use Rattle.sketch_base.proofs.images.Spelled.{same_cell}
use Rattle.sketch_base.proofs.order.Order.{short_sorted}
use Rattle.sketch_kll.specs.Capacity.{total_of}
use Rattle.sketch_kll.specs.Flat.{flat, bounds_of, levels_in, IsFlat}
use Rattle.sketch_kll.specs.Levels.{retained_in, total, weight_in, SameLevels, AllSorted, UpperSorted, AllItems}
use Rattle.sketch_kll.specs.Stored.{AreStored}
use Rattle.sketch_base.specs.Extremes.{IsFrom, IsUpTo, Ties}
use Rattle.sketch_kll.specs.Sketch.{IsSound, sketch_of}
use Rattle.sketch_kll.proofs.layout.Legal.{AllItems-map, flat_by_bounds, lengths_by_bounds}
use Rattle.sketch_kll.proofs.layout.Full.{capacity_eight}
use Rattle.sketch_kll.proofs.layout.Compacted.{alike_size, length-same}
use Rattle.sketch_kll.proofs.sketches.Stored.{sound_stored}

-- Puts by the binary digits of a weight: they do what Joins do with levels that hold the item once for each digit that is 1.

-- half of a number has one digit less
pub digits-half : (count n : ℕ) → HasDigits (suc count) n → HasDigits count (n / 2)
digits-half count n d = let p = pow-succ' 2 count in (omega (arith, d.0, p), omega (arith, d.1, p))

digits-positive : (count n : ℕ) → HasDigits (suc count) n → 0 < n
digits-positive count n d = let p = pow-succ' 2 count in let q = pow_pos count in omega (arith, d.1, p, q)

-- the levels, with the item appended to level h if the digit is 1
abbrev put_if : {A : Type 0} → Bool → ℕ → A → List (List A) → List (List A)
put_if b h x ls = if b then with_level [] h (λ level. level ++ x ∷ []) ls else ls

-- the levels after the Puts
pub putting : {A : Type 0} → ℕ → ℕ → ℕ → A → List (List A) → List (List A)
putting zero h n x ls = ls
putting (suc more) h n x ls = putting more (suc h) (n / 2) x (put_if (n % 2 == 1) h x ls)

above-zero : (b : Bool) (h : ℕ) → (b && not (eqb (suc h) 0)) ≡ b
above-zero false h = refl
above-zero true h = rw (ne_eqb (suc h) 0 (λ is. omega (arith, is)))

module _ {A : Type 0} where
  put_if-above : (b : Bool) (h : ℕ) (x : A) (l : List A) (ls : List (List A)) → put_if b (suc h) x (l ∷ ls) ≡ l ∷ put_if b h x ls
  put_if-above true h x l ls = refl
  put_if-above false h x l ls = refl

  -- puts from level 1 up leave level 0 as it is
  pub putting-above : (more h n : ℕ) (x : A) (l : List A) (ls : List (List A)) → putting more (suc h) n x (l ∷ ls) ≡ l ∷ putting more h n x ls
  unfolding putting
  putting-above zero h n x l ls = refl
  putting-above (suc more) h n x l ls = rw (put_if-above (n % 2 == 1) h x l ls) (putting-above more (suc h) (n / 2) x l (put_if (n % 2 == 1) h x ls))

  putting-none : (more h : ℕ) (x : A) (ls : List (List A)) → putting more h 0 x ls ≡ ls
  unfolding putting
  putting-none zero h x ls = refl
  putting-none (suc more) h x ls = putting-none more (suc h) x ls

  putting-first : (count more h n : ℕ) (x : A) → HasDigits count n → count ≤ more → 0 < n → putting more (suc h) n x [] ≡ [] ∷ putting more h n x []
  unfolding putting
  putting-first zero more h n x d c p = absurd (omega (arith, d.0))
  putting-first (suc count) zero h n x d c p = absurd (omega (arith, c))
  putting-first (suc count) (suc more) h n x d c p =
      elim (cases_Bool (n % 2 == 1)) [
        | inl e ↦ rw e (putting-above more (suc h) (n / 2) x [] (with_level [] h (λ level. level ++ x ∷ []) []))
        | inr e ↦ rw e (putting-first count more (suc h) (n / 2) x (digits-half count n d) (omega (arith, c)) (omega (arith, p, eqb-false (n % 2) 1 e)))
      ]

  raw-none : (cmp : A → A → Ordering) (ls : List (List A)) → raw_upper cmp ls [] ≡ ls
  raw-none cmp [] = refl
  raw-none cmp (l ∷ ls) = refl

  -- the puts append the levels of the digits, level by level
  pub putting_is : (cmp : A → A → Ordering) (count more n : ℕ) (x : A) (ls : List (List A)) → HasDigits count n → count ≤ more → putting more 0 n x ls ≡ raw_upper cmp ls (digit_levels count n x)
  unfolding putting digit_levels
  putting_is cmp zero more n x ls d c = let none : n ≡ 0 = omega (arith, d.0) in rw none (putting-none more 0 x ls ∙ sym (raw-none cmp ls))
  putting_is cmp (suc count) zero n x ls d c = absurd (omega (arith, c))
  putting_is cmp (suc count) (suc more) n x (l ∷ ls) d c = grind (arith, common_steps, digits-half, cases_Bool, putting-above, append-nil, putting_is cmp count more (n / 2) x ls (digits-half count n d) (omega (arith, c)))
  putting_is cmp (suc count) (suc more) n x [] d c =
      let rest = putting_is cmp count more (n / 2) x [] (digits-half count n d) (omega (arith, c)) in
      grind (arith, common_steps, cases_Bool, putting-above, putting-first, digits-half, digits-positive, eqb-false)

  -- what the actions of the puts make of a bag
  pub puts_act : (cmp : A → A → Ordering) (more h n : ℕ) (x : A) (word : List Bool) (ls : List (List A)) (flag : Bool) (kept : ℕ → Bool) (scratch : Bag A) →
      acts cmp (puts_actions more (suc h) n x) word (record { bag = record { levels = ls; is_sorted = flag; kept = kept }; scratch = scratch }) ≡
      record { bag = record { levels = putting more (suc h) n x ls; is_sorted = flag; kept = kept }; scratch = scratch }
  unfolding putting puts_actions
  puts_act cmp zero h n x word ls flag kept scratch = refl
  puts_act cmp (suc more) h n x word ls flag kept scratch = grind (arith, common_steps, cases_Bool, above-zero, puts_act cmp more (suc h) (n / 2) x word (with_level [] (suc h) (λ level. level ++ x ∷ []) ls) flag kept scratch, puts_act cmp more (suc h) (n / 2) x word ls flag kept scratch)

  -- puts draw no coin
  pub puts_draw : (more h n : ℕ) (x : A) → draws_of (puts_actions more h n x) ≡ 0
  unfolding puts_actions
  puts_draw zero h n x = refl
  puts_draw (suc more) h n x = grind (arith, common_steps, cases_Bool, sum_by-cons, puts_draw more (suc h) (n / 2) x)

-- The sketch of a weight's digits: its levels lie as they should, and it keeps the invariant of sketches.

-- the number of digits of a number below 2^61, by its leading zeros
pub digits_of_leading : (n : ℕ) → n < 2 ^ 61 → HasDigits (64 - count_leading_zeros 64 n) n × (64 - count_leading_zeros 64 n ≤ 61)
digits_of_leading n h =
    let l = leading_length 64 n (omega arith) in
    let m : l.0 ≡ 64 - count_leading_zeros 64 n = omega (arith, l.1) in
    subst (λ (m : ℕ). HasDigits m n × (m ≤ 61)) m (
      (l.2, l.3),
      elim (cases_lt 61 l.0) [
        | inl b ↦ absurd (omega (arith, l.3, pow_mono {i = 62} {j = l.0} (omega (arith, b))))
        | inr b ↦ b
      ],
    )

-- from weight 2 on there are at least two digits
pub two-digits : (count weight_in : ℕ) → HasDigits count weight_in → 2 ≤ weight_in → 1 < count
two-digits (suc (suc count)) weight_in d h = omega arith
two-digits count weight_in d h = absurd (omega (arith, d.0, h))

total_eight : (k levels : ℕ) → 8 * levels ≤ total_of k 8 levels
total_eight k zero = omega arith
total_eight k (suc levels) = omega (arith, total_eight k levels, capacity_eight k levels)

-- the sizes of the levels
pub record DigitSize {A : Type 0} (count n : ℕ) (ls : List (List A)) : Type 0 where
  pub counts : length ls ≡ count
  pub weighs : n < 2 ^ count → weight_in ls ≡ n
  pub retains : retained_in ls ≤ count

-- the number of items of a level is its digit
pub at-length : {A : Type 0} (n : ℕ) (x : A) → length (at_digit n x) ≡ n % 2
at-length n x = grind (arith, eqb-true, eqb-false)

pub digit_size : {A : Type 0} (count n : ℕ) (x : A) → DigitSize count n (digit_levels count n x)
unfolding digit_levels
digit_size zero n x = record { counts = refl; weighs = λ h. omega (arith, h); retains = omega arith }
digit_size (suc count) n x = grind (arith, common_steps, at-length, pow-succ', digit_size count (n / 2) x)

-- ---- the items and the bounds of the levels

-- how many digits of a number are 1, how many of its half, and so on
abbrev pub ones_from : ℕ → ℕ → List ℕ
ones_from zero n = []
ones_from (suc more) n = count_ones n ∷ ones_from more (n / 2)

-- one more of them
pub ones_more : (level n : ℕ) → ones_from (suc level) n ≡ ones_from level n ++ count_ones (n / 2 ^ level) ∷ []
ones_more zero n = ap (λ (m : ℕ). count_ones m ∷ []) (omega arith)
ones_more (suc level) n =
    let half : n / 2 / 2 ^ level ≡ n / 2 ^ suc level = shr-shr n 1 level ∙ ap (λ (i : ℕ). n / 2 ^ i) (omega arith) in
    ap (λ (xs : List ℕ). count_ones n ∷ xs) (ones_more level (n / 2) ∙ ap (λ (m : ℕ). ones_from level (n / 2) ++ count_ones m ∷ []) half)

abbrev digits_of : ℕ → ℕ → List ℕ
digits_of zero n = []
digits_of (suc count) n = n % 2 ∷ digits_of count (n / 2)

length-digits : (count n : ℕ) → length (digits_of count n) ≡ count
length-digits zero n = refl
length-digits (suc count) n = ap suc (length-digits count (n / 2))

total_digits : (count n : ℕ) → n < 2 ^ count → total (digits_of count n) ≡ count_ones n
total_digits zero n h = omega (arith, ones-le 0 n h)
total_digits (suc count) n h = omega (arith, total_digits count (n / 2) (omega (arith, h, pow-succ' 2 count)), ones_step n)

-- they are the bounds of levels whose lengths are the digits
bounds_digits : (count n : ℕ) → n < 2 ^ count → ones_from (suc count) n ≡ bounds_of (digits_of count n)
bounds_digits zero n h = ap (λ (b : ℕ). b ∷ []) (sym (total_digits zero n h))
bounds_digits (suc count) n h =
    ap₂ (λ (b : ℕ) (bs : List ℕ). b ∷ bs) (sym (total_digits (suc count) n h)) (bounds_digits count (n / 2) (omega (arith, h, pow-succ' 2 count)))

tied_levels : {A : Type 0} (P : A → Type 0) (ls : List (List A)) → AllByRecursion P (flat ls) → AllItems P ls
tied_levels P [] h = tt
tied_levels P (l ∷ ls) h = let p = all-parts P (flat ls) l h in (p.1, tied_levels P ls p.0)

module _ {A : Type 0} (cmp : A → A → Ordering) where
  same_digit : (n : ℕ) (x : A) (l : List A) → length l ≡ n % 2 → AllByRecursion (λ y. cmp x y ≡ Equal) l → SameItems cmp (at_digit n x) l
  same_digit n x [] e t = rw (ne_eqb (n % 2) 1 (λ one. omega (arith, e, one))) tt
  same_digit n x (y ∷ []) e t = rw (eq-eqb (n % 2) 1 (sym e)) (t.0, tt)
  same_digit n x (y ∷ z ∷ l) e t = absurd (omega (arith, e))

  same_digits : (count n : ℕ) (x : A) (ls : List (List A)) → map length ls ≡ digits_of count n → AllItems (λ y. cmp x y ≡ Equal) ls → SameLevels cmp (digit_levels count n x) ls
  unfolding digit_levels
  same_digits zero n x [] e t = tt
  same_digits zero n x (l ∷ ls) e t = absurd cc
  same_digits (suc count) n x [] e t = absurd cc
  same_digits (suc count) n x (l ∷ ls) e t =
      let c = same_cell (length l) (n % 2) (map length ls) (digits_of count (n / 2)) e in
      (same_digit n x l c.0 t.0, same_digits count (n / 2) x ls c.1 t.1)

  -- items that compare equal to x, as many as there are digits that are 1, are such levels
  pub digits_made : (count n : ℕ) (x : A) (items : List A) {bounds : List ℕ} → HasDigits count n → 2 ≤ n → bounds ≡ ones_from (suc count) n →
      length items ≡ count_ones n → AllByRecursion (λ y. cmp x y ≡ Equal) items →
      IsFlat items bounds × SameLevels cmp (digit_levels count n x) (levels_in items bounds)
  digits_made count n x items {bounds} d two is held tied = grind (arith, common_steps, bounds_digits, flat_by_bounds, length-digits, two-digits, total_digits, same_digits, lengths_by_bounds, tied_levels, tied)

  -- items that compare equal to x, and extremes that were taken from their end
  pub record EndsTaken (x : A) (n : ℕ) (items : List A) (least greatest : Option A) : Type 0 where
    pub held : length items ≡ n
    pub tied : AllByRecursion (λ y. cmp x y ≡ Equal) items
    pub least_ties : Ties cmp x least
    pub greatest_ties : Ties cmp x greatest

  clones_tie : IsTotalOrder cmp → (is_clone : A → A → Type 0) → ((x y : A) → is_clone x y → cmp x y ≡ Equal) → (x : A) (ys : List A) →
      AllByRecursion (λ y. (y ≡ x) ⊎ is_clone x y) ys → AllByRecursion (λ y. cmp x y ≡ Equal) ys
  clones_tie o is_clone same x [] h = tt
  clones_tie o is_clone same x (y ∷ ys) h = grind (arith, common_steps, tied_itself, clones_tie o is_clone same x ys h.1)

  pub ends_taken : IsTotalOrder cmp → (is_clone : A → A → Type 0) → ((x y : A) → is_clone x y → cmp x y ≡ Equal) → (x : A) {all mid items : List A} (least greatest : Option A)
      {n more between held : ℕ} → AllByRecursion (λ y. (y ≡ x) ⊎ is_clone x y) all → more ≡ n + 2 → all ≡ mid ++ option_to_list least → (0 < more → IsSome least) →
      between + length (option_to_list least) ≡ more → mid ≡ items ++ option_to_list greatest → (0 < between → IsSome greatest) →
      held + length (option_to_list greatest) ≡ between → held ≡ length items → EndsTaken x n items least greatest
  ends_taken o is_clone same x None greatest clones more_is first some less second some' lesser held = absurd (false≢true (some (omega (arith, more_is))))
  ends_taken o is_clone same x (Some a) None clones more_is first some less second some' lesser held =
      absurd (false≢true (some' (omega (arith, more_is, less))))
  ends_taken o is_clone same x {all} {mid} {items} (Some a) (Some b) clones more_is first some less second some' lesser held =
      let tie = λ (y : A). cmp x y ≡ Equal in
      let p = all-parts tie mid (a ∷ []) (subst (AllByRecursion tie) first (clones_tie o is_clone same x all clones)) in
      let q = all-parts tie items (b ∷ []) (subst (AllByRecursion tie) second p.0) in
      record { held = omega (arith, more_is, less, lesser, held); tied = q.0; least_ties = p.1.0; greatest_ties = q.1.0 }

module _ {A : Type 0} {cmp : A → A → Ordering} (o : IsTotalOrder cmp) where
  all-sorted : (count n : ℕ) (x : A) (ls : List (List A)) → SameLevels cmp (digit_levels count n x) ls → AllSorted cmp ls
  unfolding digit_levels
  all-sorted zero n x [] s = tt
  all-sorted (suc count) n x (l ∷ ls) s =
      (short_sorted cmp l (omega (arith, at-length n x, length-same cmp (at_digit n x) l s.0)), all-sorted count (n / 2) x ls s.1)
  all-sorted count n x ls s = absurd s

  upper-sorted : (ls : List (List A)) → AllSorted cmp ls → UpperSorted cmp ls
  upper-sorted [] s = tt
  upper-sorted (l ∷ ls) s = s.1

  all-tied : (count n : ℕ) (x : A) (ls : List (List A)) → SameLevels cmp (digit_levels count n x) ls → AllItems (λ y. cmp x y ≡ Equal) ls
  unfolding digit_levels
  all-tied zero n x [] s = tt
  all-tied (suc count) n x (l ∷ ls) s = grind (arith, common_steps, all-tied count (n / 2) x ls s.1)
  all-tied count n x ls s = absurd s

  -- two items that compare equal to the same item compare equal to each other
  tied : (x y z : A) → cmp x y ≡ Equal → cmp x z ≡ Equal → cmp y z ≡ Equal
  tied x y z e f = o.congr y x z (tied_back o x y e) ∙ f

  -- the levels of the digits are stored, and the sketch of them is sound and the one that was asked for
  pub digit_sketch : (k count n : ℕ) (x : A) (items : List A) (bounds : List ℕ) (total : ℕ) (least greatest : Option A) → 8 ≤ k → k < 2 ^ 16 → 2 ≤ n → HasDigits count n → count ≤ 61 →
      IsFlat items bounds → SameLevels cmp (digit_levels count n x) (levels_in items bounds) → total ≡ total_of k 8 count → Ties cmp x least → Ties cmp x greatest →
      AreStored cmp k items bounds total × IsSound cmp (sketch_of k k n false (levels_in items bounds) least greatest)
      × IsOfDigits cmp k x n (sketch_of k k n false (levels_in items bounds) least greatest)
  digit_sketch k count n x items bounds total None greatest eight fits two digits few flat same full tl tg = absurd tl
  digit_sketch k count n x items bounds total (Some least) None eight fits two digits few flat same full tl tg = absurd tg
  digit_sketch k count n x items bounds total (Some least) (Some greatest) eight fits two digits few flat same full tl tg =
      let ls : List (List A) = levels_in items bounds in
      let d = digit_size count n x in
      let z = alike_size cmp (digit_levels count n x) (levels_in items bounds) same in
      let size : length (levels_in items bounds) ≡ count = sym z.counts ∙ d.counts in
      let some : 0 < count = omega (arith, two-digits count n digits two) in
      let whole : total_of k 8 count ≡ total_of k 8 (length (levels_in items bounds)) = ap (total_of k 8) (sym size) in
      let sound : IsSound cmp (sketch_of k k n false (levels_in items bounds) (Some least) (Some greatest)) = record {
        eight_below_min_k = eight;
        min_k_below_k = omega arith;
        k_fits = fits;
        weighs_n = sym z.weighs ∙ d.weighs digits.0;
        has_level = omega (arith, size, some);
        has_few_levels = omega (arith, size, few);
        within_capacity = omega (arith, z.retains, d.retains, total_eight k count, whole);
        upper_sorted = upper-sorted (levels_in items bounds) (all-sorted count n x (levels_in items bounds) same);
        flag_holds = λ t. absurd (false≢true t);
        least_there = omega (arith, two);
        greatest_there = omega (arith, two);
        extremes_in_order = ap is_gt (tied x least greatest tl tg);
        items_between =
            AllItems-map (λ y. cmp x y ≡ Equal) (λ y. IsFrom cmp (Some least) y × IsUpTo cmp (Some greatest) y)
            (λ y t. (ap is_gt (tied x least y tl t), ap is_gt (tied x y greatest t tg))) (levels_in items bounds)
            (all-tied count n x (levels_in items bounds) same);
        one_level_at_first = λ h. absurd (omega (arith, h, two));
        min_k_at_first = λ h. refl;
        one_item_ties = λ h. absurd (omega (arith, h, two));
      } in (
        sound_stored cmp k k n false items bounds total (Some least) (Some greatest) flat (full ∙ whole) sound,
        sound,
        record {
          k_is = refl;
          min_k_is = refl;
          n_is = refl;
          digits = rw size digits;
          levels = rw size same;
          least = tl;
          greatest = tg;
        },
      )
