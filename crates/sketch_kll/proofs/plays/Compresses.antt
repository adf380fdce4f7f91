-- General compress: it never needs a 62nd level, since while the levels are full each level below the walk lacks an item, and it does
-- what its actions say.
use Rattle.std.proofs.lemmas.Grind.{common_steps}
use Rattle.std.proofs.Common.{◌≡◌, ℕ, zero, suc, ◌+◌, ◌-◌, ◌*◌, ◌/◌, ◌^◌, ◌<◌, ◌≤◌, Bool, true, false, cond, nat_lt, ◌||◌, ltb-true, ltb-false, lt-ltb, List, [], ◌∷◌, ◌⊎◌, inl, inr, length, take, take_all, drop, refl, sym, ap, ap₂, ◌∙◌, subst, arith, Ordering, ◌++◌, map, slice_index, IsSorted, IsTrue}
use Rattle.std.proofs.Math.Nat.{pow-succ'}
use Rattle.sketch_kll.specs.Capacity.{capacity_at, depth_capacity, shallow_capacity, total_of}
use Rattle.sketch_base.specs.Bag.{SameItems, Bag, sort, AllButLeftover, AlikeKll, half, parity_up}
use Rattle.sketch_base.proofs.bags.Alike.{SameItems-trans, acts-kll}
use Rattle.sketch_kll.proofs.layout.Alike.{zip-trans, SameItems-first, SameLevels-compacted, compacted_like, like-refl, like_same, in_order_at}
use Rattle.sketch_kll.specs.Levels.{retained_in, weight_in, first_level, compacted, SameLevels, leftover_of, body_of, AllSorted, UpperSorted}
use Rattle.sketch_kll.proofs.layout.Full.{capacity_top, capacity_eight, passes_by_levels}
use Rattle.sketch_kll.proofs.layout.Flats.{length-leftover}
use Rattle.sketch_kll.proofs.layout.Compacted.{compacted_size, length-same, alike_size}
use Rattle.std.proofs.lemmas.Bool.{cases_lt, cases_Bool, or_left, or_right, or_from, false≢true, or_parts}
use Rattle.std.proofs.lemmas.List.{drop_all}
use Rattle.std.specs.Cmp.{IsTotalOrder}
use Rattle.sketch_kll.specs.Compress.{passes, stepped, stepped_source, walked}
use Rattle.sketch_kll.specs.Steps.{needs_sorting}
use Rattle.sketch_base.specs.Trace.{Action, Compact, Fresh, Work, acts, alone, bag_after, draws_of}
use Rattle.sketch_base.specs.Random.{bits_from, after_draws}
use Rattle.sketch_base.proofs.plays.Plays.{calls-compose, source-composes, lengths-acts}
use Rattle.sketch_kll.specs.Schedule.{passes_at, lengths_after_actions, step_actions, walk_actions, compress_actions}
use Rattle.sketch_kll.specs.Sketch.{bag_in}
use Rattle.sketch_kll.proofs.plays.Updates.{alike-trans, alike-lengths, Fine, fine_is, work_of}
use Rattle.sketch_base.proofs.order.Order.{IsSorted-sort, short_sorted}
use Rattle.sketch_base.proofs.bags.Parts.{all-drop}

-- Why general compress never needs a 62nd level: while the levels are full, each level below the walk lacks an item.

-- the source after a walk over a number of levels, from a given level up
unfoldable pub walked_source : {A S : Type 0} → (A → A → Ordering) → (S → Bool) → (S → S) → ℕ → Bool → ℕ → ℕ → S → List (List A) → S
walked_source cmp bit next k is_sorted zero level s ls = s
walked_source cmp bit next k is_sorted (suc more) level s ls =
    walked_source cmp bit next k is_sorted more (suc level) (stepped_source next k level s ls) (stepped cmp k is_sorted (bit s) level ls)

retained-take_more : {A : Type 0} (ls : List (List A)) (level : ℕ) → level < length ls → retained_in (take (suc level) ls) ≡ retained_in (take level ls) + length (first_level (drop level ls))
retained-take_more [] level h = absurd (omega arith)
retained-take_more (l ∷ ls) zero h = omega arith
retained-take_more (l ∷ ls) (suc level) h = let ih = retained-take_more ls level (omega arith) in omega (arith, ih)

retained-take_compacted : {A : Type 0} (cmp : A → A → Ordering) (last coin : Bool) (ls : List (List A)) (level : ℕ) → level < length ls →
    retained_in (take (suc level) (compacted cmp last coin level ls)) ≤ retained_in (take level ls) + 1
retained-take_compacted cmp last coin [] level h = absurd (omega arith)
retained-take_compacted cmp last coin (l ∷ ls) zero h = let n = length-leftover last l in omega (arith, n)
retained-take_compacted cmp last coin (l ∷ ls) (suc level) h = let ih = retained-take_compacted cmp last coin ls level (omega arith) in omega (arith, ih)

retained-split : {A : Type 0} (ls : List (List A)) (level : ℕ) → suc level ≡ length ls → retained_in ls ≡ retained_in (take level ls) + length (first_level (drop level ls))
retained-split ls level h = ap retained_in (sym (take_all (suc level) ls (omega arith))) ∙ retained-take_more ls level (omega arith)

weight-top_level : {A : Type 0} (ls : List (List A)) (level : ℕ) → level < length ls → 2 ^ level * length (first_level (drop level ls)) ≤ weight_in ls
weight-top_level [] level h = absurd (omega arith)
weight-top_level (l ∷ ls) zero h = omega arith
weight-top_level (l ∷ ls) (suc level) h =
    rw (pow-succ' 2 level) (omega (arith, weight-top_level ls level (omega arith)))

total-suc : (k m n : ℕ) → n ≡ suc m → total_of k 8 n ≡ total_of k 8 m + capacity_at k 8 m
total-suc k m n e = ap (total_of k 8) e

capacity_zero_most : (k : ℕ) → 8 ≤ k → capacity_at k 8 0 ≤ k
unfolding capacity_at depth_capacity shallow_capacity
capacity_zero_most k h = let e : (k * 2 ^ (0 + 1) / 3 ^ 0 + 1) / 2 ≡ k = omega arith in omega (arith, e)

-- ---- the levels below the walk

-- how much the levels below the walk hold at most, while the levels are full
pub Behind : {A : Type 0} → ℕ → ℕ → List (List A) → Type 0
Behind k level ls =
    level < length ls → total_of k 8 (length ls) ≤ retained_in ls →
    (retained_in (take level ls) + level + total_of k 8 (length ls - level) ≤ total_of k 8 (length ls))
    ⊎ ((suc level ≡ length ls) × (retained_in (take level ls) + level + k ≤ total_of k 8 (length ls - 1) + 2))

-- the walk begins with no level behind it
pub behind_start : {A : Type 0} (k : ℕ) (ls : List (List A)) → Behind k 0 ls
unfolding Behind
behind_start k ls = λ h t. let e : total_of k 8 (length ls - 0) ≡ total_of k 8 (length ls) = ap (total_of k 8) (omega arith) in inl (omega (arith, e))

-- a step past a level that is below its capacity keeps this
behind_short : {A : Type 0} (k level : ℕ) (ls : List (List A)) → level < length ls → length (first_level (drop level ls)) < capacity_at k 8 (length ls - 1 - level) →
    Behind k level ls → Behind k (suc level) ls
unfolding Behind
behind_short k level ls h s b = grind (arith, common_steps, retained-take_more, total-suc)

-- a step that compacts a level keeps this
behind_compacted : {A : Type 0} (cmp : A → A → Ordering) (last coin : Bool) (k level : ℕ) (ls : List (List A)) → level < length ls → total_of k 8 (length ls) ≤ retained_in ls →
    Behind k level ls → Behind k (suc level) (compacted cmp last coin level ls)
unfolding Behind
behind_compacted cmp last coin k level ls h t b = grind (arith, common_steps, compacted_size, retained-take_compacted, cases_lt, total-suc, capacity_eight, capacity_top)

-- ---- no 62nd level

-- so the levels are not full when the walk is at the 61st level, and that level is never compacted
pub no_62nd_level : {A : Type 0} (k level : ℕ) (ls : List (List A)) → 8 ≤ k → level ≡ 60 → length ls ≡ 61 → total_of k 8 (length ls) ≤ retained_in ls → weight_in ls < 2 ^ 64 → Behind k level ls → ⊥
unfolding Behind
no_62nd_level k level ls k8 e l t w b =
    let r = retained-split ls level (omega arith) in
    let many : 68 ≤ length (first_level (drop level ls)) =
    grind (arith, common_steps, total-suc, capacity_eight) in
    let v = weight-top_level ls level (omega arith) in
    let v' : 2 ^ 60 * length (first_level (drop level ls)) ≤ weight_in ls = subst (λ (i : ℕ). 2 ^ i * length (first_level (drop level ls)) ≤ weight_in ls) e v in
    omega (arith, v', many, w)

SameLevels-drop : {A : Type 0} (cmp : A → A → Ordering) (n : ℕ) (ls ms : List (List A)) → SameLevels cmp ls ms → SameLevels cmp (drop n ls) (drop n ms)
SameLevels-drop cmp zero ls ms s = s
SameLevels-drop cmp (suc n) [] [] s = tt
SameLevels-drop cmp (suc n) (l ∷ ls) (m ∷ ms) s = SameLevels-drop cmp n ls ms s.1
SameLevels-drop cmp (suc n) ls ms s = absurd s

retained-take_alike : {A : Type 0} (cmp : A → A → Ordering) (n : ℕ) (ls ms : List (List A)) → SameLevels cmp ls ms → retained_in (take n ls) ≡ retained_in (take n ms)
retained-take_alike cmp zero ls ms s = refl
retained-take_alike cmp (suc n) [] [] s = refl
retained-take_alike cmp (suc n) (l ∷ ls) (m ∷ ms) s = ap₂ (λ (a b : ℕ). a + b) (length-same cmp l m s.0) (retained-take_alike cmp n ls ms s.1)
retained-take_alike cmp (suc n) ls ms s = absurd s

same_passes : {A : Type 0} (cmp : A → A → Ordering) (k level : ℕ) (ls ms : List (List A)) → SameLevels cmp ls ms → passes k ls level ≡ passes k ms level
same_passes cmp k level ls ms s =
    let z = alike_size cmp ls ms s in
    let f = length-same cmp (first_level (drop level ls)) (first_level (drop level ms)) (SameItems-first cmp (drop level ls) (drop level ms) (SameLevels-drop cmp level ls ms s)) in
    let a = ap₂ (λ (n r : ℕ). nat_lt r (total_of k 8 n)) z.counts z.retains in
    let b = ap₂ (λ (n r : ℕ). nat_lt r (capacity_at k 8 (n - 1 - level))) z.counts f in
    passes_by_levels k ls level ∙ (ap₂ (λ (x y : Bool). x || y) a b ∙ sym (passes_by_levels k ms level))

SameLevels-stepped : {A : Type 0} (cmp : A → A → Ordering) → IsTotalOrder cmp → (k : ℕ) (is_sorted coin : Bool) (level : ℕ) (ls ms : List (List A)) → SameLevels cmp ls ms →
    SameLevels cmp (stepped cmp k is_sorted coin level ls) (stepped cmp k is_sorted coin level ms)
SameLevels-stepped cmp o k is_sorted coin level ls ms s =
    let c = SameLevels-compacted cmp o (needs_sorting is_sorted level) coin level ls ms s in
    rw (same_passes cmp k level ls ms s) (
    elim (passes k ms level) as (λ b. SameLevels cmp (cond b ls (compacted cmp (needs_sorting is_sorted level) coin level ls))
    (cond b ms (compacted cmp (needs_sorting is_sorted level) coin level ms))) [
      | true ↦ s
      | false ↦ c
    ])

SameLevels-walked : {A S : Type 0} (cmp : A → A → Ordering) → IsTotalOrder cmp →
    (bit : S → Bool) (next : S → S) (k : ℕ) (is_sorted : Bool) (more level : ℕ) (s : S) (ls ms : List (List A)) → SameLevels cmp ls ms →
    SameLevels cmp (walked cmp bit next k is_sorted more level s ls) (walked cmp bit next k is_sorted more level s ms)
    × (walked_source cmp bit next k is_sorted more level s ls ≡ walked_source cmp bit next k is_sorted more level s ms)
unfolding walked walked_source
SameLevels-walked cmp o bit next k is_sorted zero level s ls ms a = (a, refl)
SameLevels-walked cmp o bit next k is_sorted (suc more) level s ls ms a =
    let e : stepped_source next k level s ls ≡ stepped_source next k level s ms = ap (λ (b : Bool). cond b s (next s)) (same_passes cmp k level ls ms a) in
    rw e (SameLevels-walked cmp o bit next k is_sorted more (suc level) (stepped_source next k level s ms) (stepped cmp k is_sorted (bit s) level ls)
    (stepped cmp k is_sorted (bit s) level ms) (SameLevels-stepped cmp o k is_sorted (bit s) level ls ms a))

-- the walk passes what is above the top level
pub passes_above : {A : Type 0} (k level : ℕ) (ls : List (List A)) → length ls ≤ level → passes k ls level ≡ true
passes_above k level ls h = grind (arith, common_steps, drop_all, capacity_eight, passes_by_levels, or_right, lt-ltb)

-- the walk changes nothing above the top level, or once the levels are not full
pub walked_done : {A S : Type 0} (cmp : A → A → Ordering) (bit : S → Bool) (next : S → S) (k : ℕ) (is_sorted : Bool) (more level : ℕ) (s : S) (ls : List (List A)) →
    (length ls ≤ level) ⊎ (retained_in ls < total_of k 8 (length ls)) →
    (walked cmp bit next k is_sorted more level s ls ≡ ls) × (walked_source cmp bit next k is_sorted more level s ls ≡ s)
unfolding walked walked_source
walked_done cmp bit next k is_sorted zero level s ls h = (refl, refl)
walked_done cmp bit next k is_sorted (suc more) level s ls (inl h) =
    rw (passes_above k level ls h) (walked_done cmp bit next k is_sorted more (suc level) s ls (inl (omega arith)))
walked_done cmp bit next k is_sorted (suc more) level s ls (inr h) =
    let p : passes k ls level ≡ true = passes_by_levels k ls level ∙ or_left _ _ (lt-ltb (retained_in ls) (total_of k 8 (length ls)) h) in
    rw p (walked_done cmp bit next k is_sorted more (suc level) s ls (inr h))

behind_alike : {A : Type 0} (cmp : A → A → Ordering) (k level : ℕ) (ls ms : List (List A)) → SameLevels cmp ls ms → Behind k level ls → Behind k level ms
unfolding Behind
behind_alike cmp k level ls ms s b = λ h t.
    let z = alike_size cmp ls ms s in
    let r = retained-take_alike cmp level ls ms s in
    let f = ap (total_of k 8) z.counts in
    grind (arith, common_steps)

-- at the end of the walk the levels are below their total capacity
behind_end : {A : Type 0} (k level : ℕ) (ls : List (List A)) → 8 ≤ k → suc level ≡ length ls → total_of k 8 (length ls) ≤ retained_in ls →
    length (first_level (drop level ls)) < capacity_at k 8 (length ls - 1 - level) → Behind k level ls → ⊥
unfolding Behind
behind_end k level ls k8 e t s b = grind (arith, common_steps, retained-split, total-suc, capacity_eight, capacity_zero_most)

-- ---- one step

-- what a step of the walk keeps
pub record WalkStep {A : Type 0} (k level : ℕ) (ls ms : List (List A)) : Type 0 where
  pub few : length ms ≤ 61
  pub weighs : weight_in ms ≡ weight_in ls
  pub behind : Behind k (suc level) ms
  pub below : length ms ≤ suc level → retained_in ms < total_of k 8 (length ms)

behind_spare : {A : Type 0} (k level : ℕ) (ls : List (List A)) → retained_in ls < total_of k 8 (length ls) → Behind k (suc level) ls
unfolding Behind
behind_spare k level ls f = λ h t. absurd (omega arith)

stepped_keeps : {A : Type 0} (cmp : A → A → Ordering) (k level : ℕ) (is_sorted coin : Bool) (ls : List (List A)) → 8 ≤ k → level < length ls → length ls ≤ 61 → weight_in ls < 2 ^ 64 → Behind k level ls →
    WalkStep k level ls (stepped cmp k is_sorted coin level ls)
stepped_keeps cmp k level is_sorted coin ls k8 h few w b =
    elim (cases_Bool (nat_lt (retained_in ls) (total_of k 8 (length ls)))) [
      | inl e ↦ let p : passes k ls level ≡ true = passes_by_levels k ls level ∙ or_left _ _ e in
          let f = ltb-true (retained_in ls) (total_of k 8 (length ls)) e in
          rw p (record { few = few; weighs = refl; behind = behind_spare k level ls f; below = λ _. f })
      | inr e ↦
          grind (arith, common_steps, ltb-false, cases_Bool, passes_by_levels, or_right, behind_short, ltb-true, behind_end, or_from, compacted_size, cases_lt, no_62nd_level, behind_compacted)
    ]

-- one step of the walk keeps this
pub walk_step : {A : Type 0} (cmp : A → A → Ordering) (k level : ℕ) (is_sorted coin : Bool) (ls ms : List (List A)) → 8 ≤ k → level < length ls → length ls ≤ 61 →
    weight_in ls < 2 ^ 64 → Behind k level ls →
    SameLevels cmp (stepped cmp k is_sorted coin level ls) ms → WalkStep k level ls ms
walk_step cmp k level is_sorted coin ls ms k8 h few w b a =
    let r = stepped_keeps cmp k level is_sorted coin ls k8 h few w b in
    let z = alike_size cmp (stepped cmp k is_sorted coin level ls) ms a in
    let f = ap (total_of k 8) z.counts in
    record {
      few = omega (arith, r.few, z.counts);
      weighs = sym z.weighs ∙ r.weighs;
      behind =
          behind_alike cmp k (suc level) (stepped cmp k is_sorted coin level ls) ms a r.behind;
      below = λ q. let g = r.below (omega (arith, q, z.counts)) in omega (arith, g, f, z.retains);
    }

-- a level that is passed stays as it is
pub stepped_passed : {A : Type 0} (cmp : A → A → Ordering) (k : ℕ) (is_sorted coin : Bool) (level : ℕ) (ls : List (List A)) → true ≡ passes k ls level → stepped cmp k is_sorted coin level ls ≡ ls
stepped_passed cmp k is_sorted coin level ls e = rw (← e) refl

-- comparing equal is transitive for levels
pub SameLevels-trans : {A : Type 0} (cmp : A → A → Ordering) → IsTotalOrder cmp → (xs ys zs : List (List A)) → SameLevels cmp xs ys → SameLevels cmp ys zs → SameLevels cmp xs zs
SameLevels-trans cmp o xs ys zs s t = zip-trans (SameItems cmp) (SameItems cmp) (λ x y z. SameItems-trans cmp o x y z) xs ys zs s t

-- one more step of the walk
pub walk_more : {A S : Type 0} (cmp : A → A → Ordering) → IsTotalOrder cmp → (bit : S → Bool) (next : S → S) (k : ℕ) (is_sorted : Bool) (level : ℕ) (s t s0 : S) (ls ms w0 : List (List A)) →
    level < 61 → t ≡ stepped_source next k level s ls → SameLevels cmp (stepped cmp k is_sorted (bit s) level ls) ms →
    SameLevels cmp w0 (walked cmp bit next k is_sorted (61 - level) level s ls) → s0 ≡ walked_source cmp bit next k is_sorted (61 - level) level s ls →
    SameLevels cmp w0 (walked cmp bit next k is_sorted (61 - (level + 1)) (level + 1) t ms) × (s0 ≡ walked_source cmp bit next k is_sorted (61 - (level + 1)) (level + 1) t ms)
unfolding walked walked_source
walk_more {A} {S} cmp o bit next k is_sorted level s t s0 ls ms w0 h e a w c =
    let n : 61 - level ≡ suc (61 - suc level) = omega arith in
    let i : level + 1 ≡ suc level = omega arith in
    let b = SameLevels-walked cmp o bit next k is_sorted (61 - suc level) (suc level) (stepped_source next k level s ls) (stepped cmp k is_sorted (bit s) level ls) ms a in
    rw (i, e) (SameLevels-trans cmp o _ _ _ (rw n at w) b.0, (rw n at c) ∙ b.1)

-- General compress on levels in list order gives bags alike to those that its actions give.

-- a level that is passed needs no action
pub step_passed : {A : Type 0} (k level : ℕ) (lengths : List ℕ) → passes_at k lengths level ≡ true → step_actions {A = A} k level lengths ≡ []
step_passed k level lengths e = rw e refl

-- any other level is compacted
pub step_compacted : {A : Type 0} (k level : ℕ) (lengths : List ℕ) → passes_at k lengths level ≡ false → step_actions {A = A} k level lengths ≡ Compact level Fresh AllButLeftover ∷ []
step_compacted k level lengths e = rw e refl

module _ (A : Type 0) where
  -- each compaction of the walk finds at least 8 items
  pub fine-walk : (k more level : ℕ) (lengths : List ℕ) → Fine {A = A} (walk_actions k more level lengths) (work_of lengths)
  unfolding walk_actions
  fine-walk k zero level lengths = tt
  fine-walk k (suc more) level lengths =
      elim (cases_Bool (passes_at k lengths level)) [
        | inl e ↦ rw e (fine-walk k more (suc level) lengths)
        | inr e ↦
            let c = ltb-false (slice_index lengths level) (capacity_at k 8 (length lengths - 1 - level)) (or_parts _ _ e).1 in
            rw e (omega (arith, c, capacity_eight k (length lengths - 1 - level)), fine-walk k more (suc level) _)
      ]

module _ {A : Type 0} (cmp : A → A → Ordering) (o : IsTotalOrder cmp) where
  above-compacted : (last bit : Bool) (l : List A) (ls : List (List A)) → AllSorted cmp ls → UpperSorted cmp (compacted cmp last bit zero (l ∷ ls))
  above-compacted last bit l ls u = (IsSorted-sort cmp o (first_level ls ++ half (parity_up AllButLeftover bit (first_level ls)) (sort cmp (body_of last l))), all-drop (IsSorted cmp) 1 ls u)

  all-compacted : (last bit : Bool) (h : ℕ) (ls : List (List A)) → AllSorted cmp ls → AllSorted cmp (compacted cmp last bit h ls)
  all-compacted last bit h [] u = tt
  all-compacted last bit zero (l ∷ ls) u = (short_sorted cmp (leftover_of last l) (omega (arith, length-leftover last l)), above-compacted last bit l ls u.1)
  all-compacted last bit (suc h) (l ∷ ls) u = (u.0, all-compacted last bit h ls u.1)

  upper-compacted : (last bit : Bool) (h : ℕ) (ls : List (List A)) → UpperSorted cmp ls → UpperSorted cmp (compacted cmp last bit h ls)
  upper-compacted last bit h [] u = tt
  upper-compacted last bit zero (l ∷ ls) u = above-compacted last bit l ls u
  upper-compacted last bit (suc h) (l ∷ ls) u = all-compacted last bit h ls u

  -- the walk on levels in list order gives a bag alike to that of its actions, and leaves the same source
  walked_alike : {S : Type 0} (bit : S → Bool) (next : S → S) (k : ℕ) (flag : Bool) (more level : ℕ) (s : S) (ls : List (List A)) → UpperSorted cmp ls →
      (level ≡ 0 → IsTrue flag → IsSorted cmp (first_level ls)) →
      AlikeKll cmp (bag_after cmp (walk_actions k more level (map length ls)) (bits_from bit next s (draws_of (walk_actions {A = A} k more level (map length ls))))
      (bag_in flag ls)) (bag_in flag (walked cmp bit next k flag more level s ls))
      × (walked_source cmp bit next k flag more level s ls ≡ after_draws next s (draws_of (walk_actions {A = A} k more level (map length ls))))
  unfolding walk_actions walked walked_source
  walked_alike bit next k flag zero level s ls u f = (record { levels = (like-refl cmp o ls).levels; level_zero = (like-refl cmp o ls).zeroth; flag = refl }, refl)
  walked_alike {S} bit next k flag (suc more) level s ls u f =
      let lengths : List ℕ = map length ls in
      elim (cases_Bool (passes k ls level)) [
        | inl e ↦
            rw e (walked_alike bit next k flag more (suc level) s ls u (λ z. absurd (omega (arith, z))))
        | inr e ↦
            let last = needs_sorting flag level in
            let ls' : List (List A) = compacted cmp last (bit s) level ls in
            let b : level < length ls =
            elim (cases_lt level (length ls)) [
              | inl h ↦ h
              | inr h ↦ absurd (false≢true (sym e ∙ passes_above k level ls h))
            ] in
            let like = compacted_like cmp o last (bit s) level ls b (in_order_at cmp o flag level ls b u f) in
            let one : List (Action A) = Compact level Fresh AllButLeftover ∷ [] in
            let here : Work (Bag A) = acts cmp one (bits_from bit next s (draws_of one)) (alone (bag_in flag ls)) in
            let first : AlikeKll cmp here.bag (bag_in flag ls') = record { levels = like.levels; level_zero = like.zeroth; flag = refl } in
            let lengths' : List ℕ = lengths_after_actions {A = A} one lengths in
            let same : lengths' ≡ map length ls' = sym (lengths-acts cmp one (bits_from bit next s (draws_of one)) (alone (bag_in flag ls)) (refl, tt))
            ∙ alike-lengths o here.bag (bag_in flag ls') first in
            let out : List (List A) = walked cmp bit next k flag more (suc level) (next s) ls' in
            let src : S = walked_source cmp bit next k flag more (suc level) (next s) ls' in
            let rest : List (Action A) = walk_actions k more (suc level) lengths' in
            let word : List Bool = bits_from bit next (next s) (draws_of rest) in
            let ih = rw (← same) at (walked_alike bit next k flag more (suc level) (next s) ls' (upper-compacted last (bit s) level ls u) (λ z. absurd (omega (arith, z)))) in
            let kll = (fine_is rest (work_of lengths') (fine-walk A k more (suc level) lengths')).kll in
            let there : AlikeKll cmp (acts cmp rest word here).bag (bag_in flag out) =
            alike-trans o _ _ _ (acts-kll o rest word here (alone (bag_in flag ls')) kll first (record { levels = (tt, tt); level_zero = tt; flag = refl })) ih.0 in
            let all : AlikeKll cmp (bag_after cmp (one ++ rest) (bits_from bit next s (draws_of (one ++ rest))) (bag_in flag ls)) (bag_in flag out) =
            subst (λ (w : Work (Bag A)). AlikeKll cmp w.bag (bag_in flag out)) (sym (calls-compose cmp bit next s one rest (alone (bag_in flag ls)))) there in
            rw e (all, ih.1 ∙ sym (source-composes next s one rest))
      ]

  -- once a walk has ended, its levels and source are those of general compress
  pub walk_ended : {S : Type 0} (bit : S → Bool) (next : S → S) (k : ℕ) (flag : Bool) (level : ℕ) (s t : S) (ls ms : List (List A)) → UpperSorted cmp ls →
      (IsTrue flag → IsSorted cmp (first_level ls)) →
      (length ms ≤ level) ⊎ (retained_in ms < total_of k 8 (length ms)) →
      SameLevels cmp (walked cmp bit next k flag 61 0 s ls) (walked cmp bit next k flag (61 - level) level t ms) →
      walked_source cmp bit next k flag 61 0 s ls ≡ walked_source cmp bit next k flag (61 - level) level t ms →
      SameLevels cmp (walked cmp bit next k flag 61 0 s ls) ms
      × AlikeKll cmp (bag_after cmp (compress_actions k (map length ls)) (bits_from bit next s (draws_of (compress_actions {A = A} k (map length ls)))) (bag_in flag ls)) (bag_in flag ms)
      × (t ≡ after_draws next s (draws_of (compress_actions {A = A} k (map length ls))))
  walk_ended bit next k flag level s t ls ms u f over levels source =
      let d = walked_done cmp bit next k flag (61 - level) level t ms over in
      let same = rw d.0 at levels in
      let w = walked_alike bit next k flag 61 0 s ls u (λ z. f) in
      let l = like_same cmp o _ _ ms (like-refl cmp o (walked cmp bit next k flag 61 0 s ls)) same in
      let last : AlikeKll cmp (bag_in flag (walked cmp bit next k flag 61 0 s ls)) (bag_in flag ms) = record { levels = l.levels; level_zero = l.zeroth; flag = refl } in
      (same, alike-trans o _ _ _ w.0 last, sym (source ∙ d.1) ∙ w.1)
