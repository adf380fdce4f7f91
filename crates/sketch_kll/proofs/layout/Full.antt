-- Capacities, and the lowest level that is full. All capacities together are at most 3k + 519. A compaction never makes a 62nd level,
-- since a full level 60 would weigh more than 64 bits hold.
use Rattle.std.proofs.lemmas.Grind.{common_steps}
use Rattle.std.proofs.Common.{Bool, true, false, inl, inr, mul-le-mul_right, le_of_mul-le-mul_right, le-leb, ◌≡◌, ℕ, zero, suc, ◌+◌, ◌-◌, ◌*◌, ◌/◌, ◌%◌, ◌^◌, ◌<◌, ◌≤◌, min, max, refl, ap, subst, ◌∙◌, arith, add-one, lit≤, lit<, le_trans, mul-le-mul_left, mul-le-mul, leb-true, leb, not, nat_le, List, [], ◌∷◌, length, map, sum, slice_index, drop, ap₂, sym, Ordering, length-drop, leb-false, le-ltb, lt-ltb, nat_lt}
use Rattle.std.proofs.Math.Nat.{pow-le-pow_right, pow-le-pow_left, pow-succ', mul-div-le, le-max_left, div-mul-le_self, div-le_of_le-mul, one-le-pow}
use Rattle.std.proofs.lemmas.Nat.{le-div}
use Rattle.std.proofs.lemmas.Bool.{agree_below, agree_below_at, lt-leb, cases_lt, cases_Bool, cases_eq}
use Rattle.sketch_kll.specs.Capacity.{shallow_capacity, depth_capacity, capacity_at, total_of}
use Rattle.std.proofs.lemmas.List.{drop_all}
use Rattle.std.proofs.lemmas.List.Sums.{sum_by-cons}
use Rattle.sketch_kll.specs.Schedule.{lowest_full}
use Rattle.std.specs.Prelude.{◌||◌}
use Rattle.sketch_kll.specs.Compress.{passes}
use Rattle.sketch_kll.specs.Levels.{retained_in, first_level, compacted, weight_in, SameLevels}
use Rattle.sketch_kll.specs.Steps.{full_level, is_full, compacted_if_full, needs_sorting}
use Rattle.sketch_kll.proofs.layout.Flats.{drop_level}
use Rattle.sketch_kll.proofs.layout.Compacted.{compacted_size, alike_size}

-- Capacities of levels: each is at least 8, and all together are at most 3 k + 519.

-- each power of 3 is above 0
pub three_pow_pos : (d : ℕ) → 0 < 3 ^ d
three_pow_pos d = let h : 1 ≤ 3 ^ d = one-le-pow d 3 (lit< tt) in omega arith

-- each power of 3 up to the 30th, by which capacities are divided, is at most 3^30
pub three_pow_below : (d : ℕ) → d ≤ 30 → 3 ^ d ≤ 205891132094649
three_pow_below d h = pow-le-pow_right {n = 3} (lit< tt) {i = d} {j = 30} h

-- k * 2 ^ (d + 1) / 3 ^ d is at most 2 * k
scaled_below : (k d : ℕ) → k * 2 ^ (d + 1) / 3 ^ d ≤ 2 * k
scaled_below k d =
    let p : 2 ^ d ≤ 3 ^ d = pow-le-pow_left {n = 2} {m = 3} (lit≤ tt) d in
    let e : 2 ^ (d + 1) ≡ 2 * 2 ^ d = rw add-one (pow-succ' 2 d) in
    div-le_of_le-mul (3 ^ d) (rw e (let q = mul-le-mul_left (2 * k) p in omega (arith, q)))

-- a shallow capacity is at most k
pub shallow_below : (k d : ℕ) → (k * 2 ^ (d + 1) / 3 ^ d + 1) / 2 ≤ k
shallow_below k d = let h = scaled_below k d in omega (arith, h)

-- the product fits in 64 bits
pub scaled_fits : (k d : ℕ) → k < 2 ^ 16 → d ≤ 30 → k * 2 ^ (d + 1) % 2 ^ 64 ≡ k * 2 ^ (d + 1)
scaled_fits k d h b =
    let p : 2 ^ (d + 1) ≤ 2147483648 = pow-le-pow_right {n = 2} (lit< tt) {i = d + 1} {j = 31} (omega arith) in
    let q : k * 2 ^ (d + 1) ≤ 65536 * 2147483648 = mul-le-mul {n₂ = 65536} (omega arith) p in
    omega arith

shallow_grows : (j k d : ℕ) → j ≤ k → (j * 2 ^ (d + 1) / 3 ^ d + 1) / 2 ≤ (k * 2 ^ (d + 1) / 3 ^ d + 1) / 2
shallow_grows j k d h = grind (arith, common_steps, mul-le-mul_right, le-div, three_pow_pos, le_trans, div-mul-le_self)

shallow_capacity_grows : (j k d : ℕ) → j ≤ k → shallow_capacity j d ≤ shallow_capacity k d
unfolding shallow_capacity
shallow_capacity_grows j k d h = shallow_grows j k d h

-- from depth 31 on a level's capacity is at most 8: a table for the greatest k
abbrev is_low_at : ℕ → Bool
is_low_at i = leb (shallow_capacity (shallow_capacity 65535 ((i + 31) / 2)) (i + 31 - (i + 31) / 2)) 8

low_table : agree_below is_low_at (λ _. true) 30 ≡ true
unfolding shallow_capacity
low_table = refl

deep_low : (k d : ℕ) → k < 2 ^ 16 → 31 ≤ d → d ≤ 60 → depth_capacity k d ≤ 8
unfolding depth_capacity
deep_low k d h l m =
    let t : is_low_at (d - 31) ≡ true = agree_below_at is_low_at (λ _. true) 30 (d - 31) low_table (omega arith) in
    let e : d - 31 + 31 ≡ d = omega arith in
    let f : shallow_capacity (shallow_capacity 65535 (d / 2)) (d - d / 2) ≤ 8 = leb-true _ 8 (rw e at t) in
    let b : leb d 30 ≡ false = lt-leb d 30 (omega arith) in
    let g = shallow_capacity_grows k 65535 (d / 2) (omega arith) in
    let i = shallow_capacity_grows (shallow_capacity k (d / 2)) (shallow_capacity 65535 (d / 2)) (d - d / 2) g in
    rw b (le_trans i f)

deep_eight : (k d : ℕ) → k < 2 ^ 16 → 31 ≤ d → d ≤ 60 → capacity_at k 8 d ≡ 8
unfolding capacity_at
deep_eight k d h l m = let e = deep_low k d h l m in omega (arith, e)

-- twice the capacity of a level at a depth of at most 30 is at most 2 * k * (2/3)^d + 17
upper_twice : (k d : ℕ) → d ≤ 30 → 3 ^ d * (2 * capacity_at k 8 d) ≤ 2 * (k * 2 ^ d) + 17 * 3 ^ d
unfolding capacity_at depth_capacity shallow_capacity
upper_twice k d h =
    let b : leb d 30 ≡ true = le-leb d 30 h in
    let a : 3 ^ d * (k * 2 ^ (d + 1) / 3 ^ d) ≤ k * 2 ^ (d + 1) = mul-div-le (k * 2 ^ (d + 1)) (3 ^ d) in
    let e : 2 ^ (d + 1) ≡ 2 * 2 ^ d = rw add-one (pow-succ' 2 d) in
    let c : 2 * max 8 ((k * 2 ^ (d + 1) / 3 ^ d + 1) / 2) ≤ k * 2 ^ (d + 1) / 3 ^ d + 17 = omega arith in
    let m : 3 ^ d * (2 * max 8 ((k * 2 ^ (d + 1) / 3 ^ d + 1) / 2)) ≤ 3 ^ d * (k * 2 ^ (d + 1) / 3 ^ d + 17) = mul-le-mul_left (3 ^ d) c in
    let a' : 3 ^ d * (k * 2 ^ (d + 1) / 3 ^ d) ≤ k * (2 * 2 ^ d) = subst (λ (x : ℕ). 3 ^ d * (k * 2 ^ (d + 1) / 3 ^ d) ≤ k * x) e a in
    rw b (omega (arith, m, a'))

-- twice the total capacity of up to 31 levels is at most 6 * k + 17 * levels, less the 6 * k * (2/3)^levels that endlessly many
-- levels below them would add
upper_sum : (k levels : ℕ) → levels ≤ 31 → 3 ^ levels * (2 * total_of k 8 levels) + 6 * (k * 2 ^ levels) ≤ 3 ^ levels * (6 * k + 17 * levels)
upper_sum k zero h = omega arith
upper_sum k (suc levels) h =
    rw (pow-succ' 3 levels, pow-succ' 2 levels) (omega (arith, upper_sum k levels (omega arith), upper_twice k levels (omega arith)))

upper_bound : (k levels : ℕ) → levels ≤ 31 → 2 * total_of k 8 levels ≤ 6 * k + 17 * levels
upper_bound k levels h =
    let v : (2 * total_of k 8 levels) * 3 ^ levels ≤ (6 * k + 17 * levels) * 3 ^ levels = omega (arith, upper_sum k levels h) in
    le_of_mul-le-mul_right v (three_pow_pos levels)

lower_sum : (k more : ℕ) → k < 2 ^ 16 → more ≤ 30 → total_of k 8 (more + 31) ≡ total_of k 8 31 + 8 * more
lower_sum k zero h l = omega arith
lower_sum k (suc more) h l =
    let e : suc more + 31 ≡ suc (more + 31) = omega arith in
    ap (total_of k 8) e ∙ omega (arith, lower_sum k more h (omega arith), deep_eight k (more + 31) h (omega arith) (omega arith))

-- up to 61 levels have a total capacity of at most 3 * k + 519
pub total_bound : (k levels : ℕ) → k < 2 ^ 16 → levels ≤ 61 → total_of k 8 levels ≤ 3 * k + 519
total_bound k levels h l =
    elim (cases_lt levels 32) [
      | inl b ↦ let u = upper_bound k levels (omega arith) in omega (arith, u)
      | inr b ↦
          let e : levels - 31 + 31 ≡ levels = omega arith in
          omega (arith, upper_bound k 31 (omega arith), rw e at (lower_sum k (levels - 31) h (omega arith)))
    ]

-- the top level has room for k items
pub capacity_top : (k : ℕ) → k ≤ capacity_at k 8 0
unfolding capacity_at depth_capacity shallow_capacity
capacity_top k = omega arith

-- each level has room for 8 items
pub capacity_eight : (k d : ℕ) → 8 ≤ capacity_at k 8 d
unfolding capacity_at
capacity_eight k d = le-max_left 8 (depth_capacity k d)

-- if k / 2 ^ halvings d is at most 8, so is the shallow capacity at depth d: a table for the greatest such k
halvings : ℕ → ℕ
halvings d = min (d * 4 / 7) 15

abbrev is_least_at : ℕ → Bool
is_least_at d = leb (shallow_capacity (9 * 2 ^ halvings d - 1) d) 8

least_table : agree_below is_least_at (λ _. true) 31 ≡ true
unfolding shallow_capacity halvings
least_table = refl

shallow_least : (k d : ℕ) → d ≤ 30 → k < 9 * 2 ^ halvings d → depth_capacity k d ≤ 8
unfolding depth_capacity
shallow_least k d l h =
    let t : is_least_at d ≡ true = agree_below_at is_least_at (λ _. true) 31 d least_table (omega arith) in
    let b : leb d 30 ≡ true = le-leb d 30 l in
    rw b (le_trans (shallow_capacity_grows k (9 * 2 ^ halvings d - 1) d (omega arith)) (leb-true _ 8 t))

-- if `is_surely_least` returns true, the capacity is 8
pub surely_eight : (k d : ℕ) → k < 2 ^ 16 → d ≤ 60 → k / 2 ^ min (d * 4 / 7) 15 ≤ 8 → capacity_at k 8 d ≡ 8
unfolding capacity_at halvings
surely_eight k d h m s =
    elim (cases_lt d 31) [
      | inl b ↦
          let p : 1 ≤ 2 ^ halvings d = one-le-pow (halvings d) 2 (lit< tt) in
          let k_is_small : k < 9 * 2 ^ halvings d =
          elim (cases_lt k (9 * 2 ^ halvings d)) [
            | inl c ↦ c
            | inr c ↦ let q : 9 ≤ k / 2 ^ halvings d = le-div 9 k (2 ^ halvings d) (omega arith) c in absurd (omega (arith, q, s))
          ] in
          let low = shallow_least k d (omega arith) k_is_small in
          omega (arith, low)
      | inr b ↦ let low = deep_low k d h b m in omega (arith, low)
    ]

-- if the total capacity is above 0, there is a level
pub total_some : (k levels : ℕ) → 0 < total_of k 8 levels → 0 < levels
total_some k zero h = absurd (omega (arith, h))
total_some k (suc levels) h = omega arith

-- what the functions that compute capacities rest on
pub ruleset capacities = (common_steps, three_pow_pos, three_pow_below, scaled_fits, shallow_below, surely_eight, total_bound)

-- The loop that looks for the lowest full level, and what it finds, for levels and for their lengths.

-- there is one length for each level
pub length-lengths : {A : Type 0} (ls : List (List A)) → length (map length ls) ≡ length ls
length-lengths [] = refl
length-lengths (l ∷ ls) = ap suc (length-lengths ls)

-- the lengths of the levels add up to the number of retained items
pub sum-lengths : {A : Type 0} (ls : List (List A)) → sum (map length ls) ≡ retained_in ls
sum-lengths [] = refl
sum-lengths (l ∷ ls) = sum_by-cons (λ (n : ℕ). n) (length l) (map length ls) ∙ ap (λ (n : ℕ). length l + n) (sum-lengths ls)

-- the length at the index of a level is that of the level
pub length-at : {A : Type 0} (ls : List (List A)) (level : ℕ) → slice_index (map length ls) level ≡ length (first_level (drop level ls))
length-at (l ∷ ls) (suc level) = length-at ls level
length-at [] (suc level) = refl
length-at ls level = refl

-- whether levels are full, by the levels
pub full_by_levels : {A : Type 0} (k : ℕ) (ls : List (List A)) → is_full k ls ≡ nat_le (total_of k 8 (length ls)) (retained_in ls)
full_by_levels k ls = ap₂ (λ (n m : ℕ). nat_le (total_of k 8 n) m) (length-lengths ls) (sum-lengths ls)

-- levels below it are not
pub spare_from : {A : Type 0} (k : ℕ) (ls : List (List A)) → retained_in ls < total_of k 8 (length ls) → is_full k ls ≡ false
spare_from k ls h = full_by_levels k ls ∙ lt-leb _ _ h

-- full levels are at or over it
pub full_holds : {A : Type 0} (k : ℕ) (ls : List (List A)) → is_full k ls ≡ true → total_of k 8 (length ls) ≤ retained_in ls
full_holds k ls e = leb-true _ _ (sym (full_by_levels k ls) ∙ e)

-- levels that are not full are below it
pub spare_holds : {A : Type 0} (k : ℕ) (ls : List (List A)) → is_full k ls ≡ false → retained_in ls < total_of k 8 (length ls)
spare_holds k ls e = leb-false _ _ (sym (full_by_levels k ls) ∙ e)

-- whether general compress leaves a level as it is, by the levels
pub passes_by_levels : {A : Type 0} (k : ℕ) (ls : List (List A)) (level : ℕ) →
    passes k ls level ≡ (nat_lt (retained_in ls) (total_of k 8 (length ls)) || nat_lt (length (first_level (drop level ls))) (capacity_at k 8 (length ls - 1 - level)))
passes_by_levels k ls level =
    ap₂ (λ (x y : Bool). x || y)
    (ap₂ (λ (n r : ℕ). nat_lt r (total_of k 8 n)) (length-lengths ls) (sum-lengths ls))
    (ap₂ (λ (n r : ℕ). nat_lt r (capacity_at k 8 (n - 1 - level))) (length-lengths ls) (length-at ls level))

-- if the levels are full, the level's own capacity decides
pub passes_is : {A : Type 0} (k level : ℕ) (ls : List (List A)) → is_full k ls ≡ true →
    passes k ls level ≡ not (nat_le (capacity_at k 8 (length ls - 1 - level)) (length (first_level (drop level ls))))
passes_is k level ls full = grind (arith, common_steps, le-ltb, full_holds, passes_by_levels, cases_Bool, leb-true, lt-ltb, leb-false)

-- the invariant of the loop that looks for a level to compact
pub record SeeksFull {A : Type 0} (k : ℕ) (ls : List (List A)) (level : ℕ) : Type 0 where
  pub same : full_level k ls ≡ level + full_level k (drop level ls)
  pub more : total_of k 8 (length (drop level ls)) + level ≤ retained_in (drop level ls)

-- the invariant holds before the first level
pub seeks_start : {A : Type 0} (k : ℕ) (ls : List (List A)) → total_of k 8 (length ls) ≤ retained_in ls → SeeksFull k ls 0
seeks_start k ls h = record { same = omega arith; more = omega arith }

-- the first full level that the loop finds is the lowest full one
pub seeks_found : {A : Type 0} (k : ℕ) (ls : List (List A)) (level : ℕ) → level < length ls → SeeksFull k ls level →
    capacity_at k 8 (length ls - 1 - level) ≤ length (first_level (drop level ls)) → full_level k ls ≡ level
seeks_found k ls level h s c = grind (arith, common_steps, drop_level, length-lengths, length-drop, le-leb)

-- the loop passes over a level that is not full
pub seeks_more : {A : Type 0} (k : ℕ) (ls : List (List A)) (level : ℕ) → level < length ls → SeeksFull k ls level →
    length (first_level (drop level ls)) < capacity_at k 8 (length ls - 1 - level) → SeeksFull k ls (suc level)
seeks_more k ls level h s c = grind (arith, common_steps, drop_level, length-drop, length-lengths, lt-leb)

-- the loop goes on past a level that general compress would leave as it is, and there is a next one
pub seeks_on : {A : Type 0} {k level : ℕ} {ls : List (List A)} → is_full k ls ≡ true → level < length ls → SeeksFull k ls level → passes k ls level ≡ true →
    (level + 1 < length ls) × SeeksFull k ls (level + 1)
seeks_on {A} {k} {level} {ls} full within s on =
    let next = seeks_more k ls level within s (leb-false _ _ (below (sym (passes_is k level ls full) ∙ on))) in
    let one : level + 1 ≡ suc level = omega arith in (
      elim (cases_lt (level + 1) (length ls)) [
        | inl h ↦ h
        | inr h ↦ absurd (omega (arith, next.more, ap retained_in (drop_all (suc level) ls (omega (arith, h)))))
      ],
      rw one next,
    )
  where
    below : {b : Bool} → not b ≡ true → b ≡ false
    below {b = true} e = cc
    below {b = false} e = refl

-- it ends at the lowest full level
pub seeks_end : {A : Type 0} {k level : ℕ} {ls : List (List A)} → is_full k ls ≡ true → level < length ls → SeeksFull k ls level → passes k ls level ≡ false →
    level ≡ full_level k ls
seeks_end {A} {k} {level} {ls} full within s off = grind (arith, common_steps, seeks_found, leb-true, passes_is)

-- if the levels are full, there is a lowest full one, which is at or over its capacity
pub lowest_full_due : (k : ℕ) (lengths : List ℕ) → 0 < length lengths → total_of k 8 (length lengths) ≤ sum lengths →
    (lowest_full k lengths < length lengths) × (capacity_at k 8 (length lengths - 1 - lowest_full k lengths) ≤ slice_index lengths (lowest_full k lengths))
lowest_full_due k [] h t = absurd (omega arith)
lowest_full_due k (n ∷ above) h t =
    let s = sum_by-cons (λ (m : ℕ). m) n above in
    elim (cases_Bool (nat_le (capacity_at k 8 (length above)) n)) [
      | inl e ↦
          let d : suc (length above) - 1 - 0 ≡ length above = omega arith in
          rw e (omega arith, rw d (leb-true (capacity_at k 8 (length above)) n e))
      | inr e ↦
          let c = leb-false (capacity_at k 8 (length above)) n e in
          let more : 0 < length above = positive above (omega (arith, t, c, s)) in
          let ih = lowest_full_due k above more (omega (arith, t, c, s)) in
          let d : suc (length above) - 1 - suc (lowest_full k above) ≡ length above - 1 - lowest_full k above = omega arith in
          rw e (omega (arith, ih.0), rw d ih.1)
    ]
  where
    positive : (ns : List ℕ) → 0 < sum ns → 0 < length ns
    positive [] h = absurd (omega (arith, h))
    positive (m ∷ ns) h = omega arith

-- if the levels together are full, one of them is
pub full_level_at : {A : Type 0} (k : ℕ) (ls : List (List A)) → 0 < length ls → total_of k 8 (length ls) ≤ retained_in ls →
    (full_level k ls < length ls) × (capacity_at k 8 (length ls - 1 - full_level k ls) ≤ length (first_level (drop (full_level k ls) ls)))
full_level_at k ls h t =
    let due = lowest_full_due k (map length ls) (omega (arith, h, length-lengths ls)) (rw (length-lengths ls, sum-lengths ls) t) in
    rw (length-lengths ls, length-at ls (full_level k ls)) at due

-- room for an item in full levels is made by a compaction
pub with_room_full : {A : Type 0} (cmp : A → A → Ordering) (k level : ℕ) (is_sorted coin : Bool) (ls : List (List A)) →
    true ≡ is_full k ls → level ≡ full_level k ls → compacted_if_full cmp k is_sorted coin ls ≡ compacted cmp (needs_sorting is_sorted level) coin level ls
with_room_full cmp k level is_sorted coin ls f e = rw (← f, e) refl

-- levels that are not full stay as they are
pub with_room_spare : {A : Type 0} (cmp : A → A → Ordering) (k : ℕ) (is_sorted coin : Bool) (ls : List (List A)) →
    false ≡ is_full k ls → compacted_if_full cmp k is_sorted coin ls ≡ ls
with_room_spare cmp k is_sorted coin ls f = rw (← f) refl

-- A compaction never makes a 62nd level, since a full level 60 would weigh too much.

-- levels weigh much if the top one is the lowest full one: each level below it lacks at least one item
heavy_top : {A : Type 0} (k extra : ℕ) (ls : List (List A)) → 0 < length ls → total_of k 8 (length ls) + extra ≤ retained_in ls →
    length ls ≤ full_level k ls + 1 →
    2 ^ (length ls - 1) * (capacity_at k 8 0 + extra + (length ls - 1)) ≤ weight_in ls
heavy_top k extra [] h t f = absurd (omega arith)
heavy_top k extra (l ∷ []) h t f = omega arith
heavy_top k extra (l ∷ m ∷ ls) h t f =
    let short : length l < capacity_at k 8 (suc (length ls)) =
    grind (arith, common_steps, cases_Bool, length-lengths, leb-false) in
    let z : full_level k (l ∷ m ∷ ls) ≡ suc (full_level k (m ∷ ls)) = rw (length-lengths ls, lt-leb (capacity_at k 8 (suc (length ls))) (length l) short) refl in
    let p : 2 ^ (suc (suc (length ls)) - 1) ≡ 2 * 2 ^ (suc (length ls) - 1) =
    (let a : suc (suc (length ls)) - 1 ≡ suc (suc (length ls) - 1) = omega arith in ap (λ (i : ℕ). 2 ^ i) a ∙ pow-succ' 2 (suc (length ls) - 1)) in
    let q : capacity_at k 8 0 + extra + (suc (suc (length ls)) - 1) ≡ capacity_at k 8 0 + (extra + 1) + (suc (length ls) - 1) = omega arith in
    rw (p, q) (omega (arith, heavy_top k (extra + 1) (m ∷ ls) (omega arith) (omega arith) (omega (arith, z))))

-- more levels never lower the total capacity
pub total_up_to : (k m n : ℕ) → m ≤ n → total_of k 8 m ≤ total_of k 8 n
total_up_to k m zero h = let f = ap (total_of k 8) (let e : m ≡ 0 = omega arith in e) in omega (arith, f)
total_up_to k m (suc n) h =
    elim (cases_eq m (suc n)) [
      | inl e ↦ let f = ap (total_of k 8) e in omega (arith, f)
      | inr e ↦ let r = total_up_to k m n (omega arith) in omega (arith, r)
    ]

no_more_levels : {A : Type 0} (k : ℕ) (ls : List (List A)) → length ls ≤ 61 → 0 < length ls → weight_in ls < 2 ^ 64 →
    total_of k 8 (length ls) ≤ retained_in ls → length ls ≤ full_level k ls + 1 → length ls ≤ 60
no_more_levels k ls few h w t f =
    elim (cases_lt (length ls) 61) [
      | inl b ↦ omega arith
      | inr b ↦
          let e : length ls ≡ 61 = omega arith in
          let g = heavy_top k 0 ls h (omega (arith, t)) f in
          absurd (omega (arith, subst (λ (n : ℕ). 2 ^ (n - 1) * (capacity_at k 8 0 + 0 + (n - 1)) ≤ weight_in ls) e g, capacity_eight k 0))
    ]

-- a compaction of the lowest full level leaves at most 61 levels
still_few : {A : Type 0} (cmp : A → A → Ordering) (k : ℕ) (last coin : Bool) (ls : List (List A)) → 0 < length ls → length ls ≤ 61 → weight_in ls < 2 ^ 64 →
    total_of k 8 (length ls) ≤ retained_in ls → length (compacted cmp last coin (full_level k ls) ls) ≤ 61
still_few cmp k last coin ls h few w f = grind (arith, common_steps, compacted_size, full_level_at, few, no_more_levels)

-- a compaction below level 60 leaves at least one level and at most 61
pub few_compacted : {A : Type 0} (cmp : A → A → Ordering) (level : ℕ) (last coin : Bool) (ls raised ms : List (List A)) → length ls ≤ 61 →
    level < length ls → level < 60 →
    compacted cmp last coin level raised ≡ compacted cmp last coin level ls →
    SameLevels cmp (compacted cmp last coin level raised) ms → (0 < length ms) × (length ms ≤ 61)
few_compacted cmp level last coin ls raised ms few h low e alike =
    let s = compacted_size cmp last coin level ls h in
    let z = alike_size cmp (compacted cmp last coin level raised) ms alike in
    let c = ap length e in
    (omega (arith, s.at_least, z.counts, c), grind (arith, s.same, s.at_most, z.counts, c))

-- level 60 is never the lowest full one
pub full_level_low : {A : Type 0} (k : ℕ) (ls : List (List A)) → 0 < length ls → length ls ≤ 61 → weight_in ls < 2 ^ 64 →
    total_of k 8 (length ls) ≤ retained_in ls → full_level k ls < 60
full_level_low k ls h few w f = grind (arith, no_more_levels k ls few h w f, (full_level_at k ls h f).0)

-- the levels after room was made for one more item
pub record RoomMade {A : Type 0} (k : ℕ) (ls ms : List (List A)) : Type 0 where
  pub weighs : weight_in ms ≡ weight_in ls
  pub few : length ms ≤ 61
  pub some : 0 < length ms
  pub within : retained_in ms + 1 ≤ total_of k 8 (length ms)

-- making room for an item leaves such levels
pub room_made : {A : Type 0} (cmp : A → A → Ordering) (k : ℕ) (is_sorted coin : Bool) (ls : List (List A)) → 0 < length ls → length ls ≤ 61 →
    weight_in ls < 2 ^ 64 →
    retained_in ls ≤ total_of k 8 (length ls) → RoomMade k ls (compacted_if_full cmp k is_sorted coin ls)
room_made cmp k is_sorted coin ls h few w t = grind (arith, common_steps, cases_Bool, full_holds, full_level_at, compacted_size, capacity_eight, total_up_to, still_few, spare_holds)

-- levels weigh at least what they hold
pub retained-weight : {A : Type 0} (ls : List (List A)) → retained_in ls ≤ weight_in ls
retained-weight [] = omega arith
retained-weight (l ∷ ls) = let h = retained-weight ls in omega (arith, h)

-- making room for the first two items adds no level
pub one_level_left : {A : Type 0} (cmp : A → A → Ordering) (k : ℕ) (is_sorted coin : Bool) (ls : List (List A)) → length ls ≡ 1 → weight_in ls ≤ 1 →
    length (compacted_if_full cmp k is_sorted coin ls) ≡ 1
one_level_left cmp k is_sorted coin ls e w =
    let t : total_of k 8 (length ls) ≡ 0 + capacity_at k 8 0 = ap (total_of k 8) e in
    let f : false ≡ is_full k ls = sym (spare_from k ls (omega (arith, retained-weight ls, t, capacity_eight k 0))) in
    ap length (with_room_spare cmp k is_sorted coin ls f) ∙ e
