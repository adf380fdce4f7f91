-- What a walk does to the retained count, the nominal capacities, the weight and the number of levels. A full level gives up at least four items,
-- so after a walk the sketch is below its capacity again, and there are never more than 64 levels.
use Rattle.std.proofs.lemmas.Grind.{common_steps}
use Rattle.std.proofs.Common.{max, ◌≡◌, ℕ, zero, suc, ◌+◌, ◌-◌, ◌*◌, ◌/◌, ◌^◌, ◌<◌, ◌≤◌, Bool, true, false, if◌then◌else◌, ◌⊎◌, List, [], ◌∷◌, length, refl, ap, ◌∙◌, subst, arith, inl, inr, le_trans, leb-true, leb-false, mul-le-mul, mul-le-mul_right}
use Rattle.std.proofs.Math.Nat.{pow-succ'}
use Rattle.std.proofs.lemmas.Bool.{cases_Bool, cases_lt}
use Rattle.std.proofs.lemmas.List.Sums.{sum_by-cons}
use Rattle.sketch_base.specs.Bag.{with_level}
use Rattle.sketch_req.specs.Level.{state_after}
use Rattle.sketch_req.specs.Sections.{IsLegalK, size_of, sections_of, grows, grown_once}
use Rattle.sketch_req.specs.Schedule.{Layout, new_layout, layout_at, retained_of, weight_of, nominal, nominal_sum, is_full, are_full, taken, compacted, filled, compacted_at, steps_layouts, layouts_if_full, put_layouts, update_layouts, joined_layout, joined_layouts, merge_layouts}
use Rattle.sketch_req.specs.ScheduleLaws.{IsLayout, AreLayouts, HoldTwo, UpperHoldTwo}
use Rattle.sketch_req.specs.declared.RankAccuracy.TheVariants.{HighRank}
use Rattle.sketch_req.proofs.layouts.Layouts.{retained-with, Gives, gives, layout_is, compacted_are, filled_are, joined_are, grows_size}
use Rattle.sketch_req.proofs.sections.Sections.{IsSize, size_of_is, are_sections, first_size}

-- ---- section size times section count never falls

size_rises : (k d e e' : ℕ) → IsSize k d e → IsSize k (suc d) e' → 4 ≤ e' → e ≤ 2 * e'
size_rises k d e e' z y four =
    elim (cases_lt (2 * e') e) [
      | inl over ↦
          let p : ℕ = 2 ^ d in
          let far : 2 * e' + 1 ≤ e - 1 = omega (arith, over, z.even) in
          let q : 4 * 4 ≤ e' * e' = mul-le-mul four four in
          let b : (e' + 1) * (e' + 1) ≡ e' * e' + 2 * e' + 1 = omega arith in
          let a : (2 * e' + 1) * (2 * e' + 1) ≡ 4 * (e' * e') + 4 * e' + 1 = omega arith in
          let few : (e' + 1) * (e' + 1) * 2 ≤ (2 * e' + 1) * (2 * e' + 1) = omega (arith, a, b, q) in
          let few' : (e' + 1) * (e' + 1) * 2 * p ≤ (2 * e' + 1) * (2 * e' + 1) * p = mul-le-mul_right p few in
          let near : (2 * e' + 1) * (2 * e' + 1) * p ≤ (e - 1) * (e - 1) * p = mul-le-mul_right p (mul-le-mul far far) in
          let fits : (e - 1) * (e - 1) * p ≤ k * k = z.fits (omega (arith, over)) in
          let two : (e' + 1) * (e' + 1) * 2 ^ suc d ≡ (e' + 1) * (e' + 1) * 2 * p = ap (λ (n : ℕ). (e' + 1) * (e' + 1) * n) (pow-succ' 2 d) ∙ omega arith in
          absurd (omega (arith, few', near, fits, two, y.greatest))
      | inr under ↦ under
    ]

nominal_rises : (k state count : ℕ) (layout : Layout) → nominal k layout ≤ nominal k (record { count = count; state = state; doublings = grown_once k state layout.doublings })
nominal_rises k state count layout = go (grows k state layout.doublings) refl
  where
    go : (b : Bool) → grows k state layout.doublings ≡ b → 2 * size_of k layout.doublings * sections_of layout.doublings ≤ 2 * size_of k
        (if b then suc layout.doublings else layout.doublings) * sections_of (if b then suc layout.doublings else layout.doublings)
    go true e =
        let r = size_rises k layout.doublings _ _ (size_of_is k layout.doublings) (size_of_is k (suc layout.doublings)) (grows_size k state layout.doublings e) in
        let s : sections_of (suc layout.doublings) ≡ 2 * sections_of layout.doublings = let p = pow-succ' 2 layout.doublings in omega (arith, p) in
        let m : size_of k layout.doublings * sections_of layout.doublings ≤ 2 * size_of k (suc layout.doublings) * sections_of layout.doublings = mul-le-mul_right (sections_of layout.doublings) r in
        let t : 2 * size_of k (suc layout.doublings) * sections_of (suc layout.doublings) ≡ 2 * (2 * size_of k (suc layout.doublings) * sections_of layout.doublings) =
        ap (λ (n : ℕ). 2 * size_of k (suc layout.doublings) * n) s ∙ omega arith in
        let u : 2 * size_of k layout.doublings * sections_of layout.doublings ≡ 2 * (size_of k layout.doublings * sections_of layout.doublings) = omega arith in
        omega (arith, m, t, u)
    go false e = omega arith

-- a level at or over its nominal capacity holds at least 24 items
pub nominal_least : (k : ℕ) (layout : Layout) → IsLegalK k → IsLayout k layout → 24 ≤ nominal k layout
nominal_least k layout legal i =
    let a = are_sections k layout.doublings legal i.few i.size in
    let t : 2 * size_of k layout.doublings * sections_of layout.doublings ≡ 2 * (size_of k layout.doublings * sections_of layout.doublings) = omega arith in
    omega (arith, a.tail, t, legal.at_least)

-- ---- sums over the levels

retained-cons : (l : Layout) (ls : List Layout) → retained_of (l ∷ ls) ≡ l.count + retained_of ls
retained-cons l ls = sum_by-cons (λ (m : Layout). m.count) l ls

nominal-cons : (k : ℕ) (l : Layout) (ls : List Layout) → nominal_sum k (l ∷ ls) ≡ nominal k l + nominal_sum k ls
nominal-cons k l ls = sum_by-cons (nominal k) l ls

nominal-with_level : (k h : ℕ) (change : Layout → Layout) (ls : List Layout) → nominal k (layout_at ls h) ≤ nominal k (change (layout_at ls h)) →
    nominal_sum k ls ≤ nominal_sum k (with_level new_layout h change ls)
nominal-with_level k zero change [] e = omega arith
nominal-with_level k zero change (l ∷ ls) e = omega (arith, e, nominal-cons k (change l) ls, nominal-cons k l ls)
nominal-with_level k (suc h) change [] e = omega arith
nominal-with_level k (suc h) change (l ∷ ls) e = omega (arith, nominal-cons k l (with_level new_layout h change ls), nominal-cons k l ls, nominal-with_level k h change ls e)

-- there are as many joined layouts as the longer list has
pub length-joined : (k : ℕ) (ls os : List Layout) → length (joined_layouts k ls os) ≡ max (length ls) (length os)
length-joined k ls [] = omega arith
length-joined k [] (o ∷ os) = let r = length-joined k [] os in omega (arith, r)
length-joined k (l ∷ ls) (o ∷ os) = let r = length-joined k ls os in omega (arith, r)

-- joined layouts weigh as much as both lists together
pub weight-joined : (k : ℕ) (ls os : List Layout) → weight_of (joined_layouts k ls os) ≡ weight_of ls + weight_of os
weight-joined k ls [] = omega arith
weight-joined k [] (o ∷ os) = omega (arith, weight-joined k [] os)
weight-joined k (l ∷ ls) (o ∷ os) = omega (arith, weight-joined k ls os)

-- and count as many items as both together
pub retained-joined : (k : ℕ) (ls os : List Layout) → retained_of (joined_layouts k ls os) ≡ retained_of ls + retained_of os
retained-joined k ls [] = omega arith
retained-joined k [] (o ∷ os) = omega (arith, retained-joined k [] os, retained-cons (joined_layout k new_layout o) (joined_layouts k [] os), retained-cons o os)
retained-joined k (l ∷ ls) (o ∷ os) = omega (arith, retained-joined k ls os, retained-cons (joined_layout k l o) (joined_layouts k ls os), retained-cons o os, retained-cons l ls)

-- the retained count is at most the weight
pub retained-weight : (ls : List Layout) → retained_of ls ≤ weight_of ls
retained-weight [] = omega arith
retained-weight (l ∷ ls) = omega (arith, retained-weight ls, retained-cons l ls)

-- ---- one compaction

module _ (k : ℕ) (legal : IsLegalK k) where
  nominal-compacted : (h : ℕ) (ls : List Layout) → nominal_sum k ls ≤ nominal_sum k (compacted_at k h ls)
  nominal-compacted h ls =
      let l = layout_at ls h in
      let inner : List Layout = with_level new_layout h (compacted k) ls in
      le_trans (nominal-with_level k h (compacted k) ls (nominal_rises k (state_after l.state) (l.count - taken k l) l))
      (nominal-with_level k (suc h) (filled (taken k l / 2)) inner (omega arith))

  -- of a level that gives up at least 4 of its items, an even number
  abbrev Moves : Layout → Type 0
  Moves layout = Gives k legal HighRank layout

  moves : (h : ℕ) (ls : List Layout) → AreLayouts k ls → is_full k (layout_at ls h) ≡ true → Moves (layout_at ls h)
  moves h ls a e = gives k legal HighRank (layout_at ls h) (layout_is k legal h ls a) e

  retained-compacted : (h : ℕ) (ls : List Layout) → Moves (layout_at ls h) → retained_of (compacted_at k h ls) + 2 ≤ retained_of ls
  retained-compacted h ls m =
      let l = layout_at ls h in
      let inner : List Layout = with_level new_layout h (compacted k) ls in
      let a = retained-with h (compacted k) ls in
      let b = retained-with (suc h) (filled (taken k l / 2)) inner in
      omega (arith, a, b, m.four, m.even, m.stay)

  weight-compacted : (h : ℕ) (ls : List Layout) → Moves (layout_at ls h) → weight_of (compacted_at k h ls) ≡ weight_of ls
  weight-compacted zero (l ∷ []) m = omega (arith, m.four, m.even, m.stay)
  weight-compacted zero (l ∷ n ∷ ls) m = omega (arith, m.four, m.even, m.stay)
  weight-compacted (suc h) (l ∷ ls) m = ap (λ (n : ℕ). l.count + 2 * n) (weight-compacted h ls m)
  weight-compacted h ls m = absurd (omega (arith, m.four, m.stay))

  two-filled : (n : ℕ) (ls : List Layout) → 2 ≤ n → HoldTwo ls → HoldTwo (with_level new_layout 0 (filled n) ls)
  two-filled n [] t h = (omega (arith, t), tt)
  two-filled n (l ∷ ls) t h = (omega (arith, t), h.1)

  two-compacted : (h : ℕ) (ls : List Layout) → Moves (layout_at ls h) → HoldTwo ls → HoldTwo (compacted_at k h ls)
  two-compacted zero (l ∷ ls) m t = (omega (arith, m.stay, legal.at_least), two-filled (taken k l / 2) ls (omega (arith, m.four)) t.1)
  two-compacted (suc h) (l ∷ ls) m t = (t.0, two-compacted h ls m t.1)
  two-compacted h ls m t = absurd (omega (arith, m.four, m.stay))

  upper-compacted : (h : ℕ) (ls : List Layout) → Moves (layout_at ls h) → UpperHoldTwo ls → UpperHoldTwo (compacted_at k h ls)
  upper-compacted zero (l ∷ ls) m t = two-filled (taken k l / 2) ls (omega (arith, m.four)) t
  upper-compacted (suc h) (l ∷ ls) m t = two-compacted h ls m t
  upper-compacted h ls m t = absurd (omega (arith, m.four, m.stay))

  weight-at : (h : ℕ) (ls : List Layout) → 2 ^ h * (layout_at ls h).count ≤ weight_of ls
  weight-at zero [] = omega arith
  weight-at (suc h) [] = omega arith
  weight-at zero (l ∷ ls) = omega arith
  weight-at (suc h) (l ∷ ls) = let ih = weight-at h ls in rw (pow-succ' 2 h) (omega (arith, ih))

  length-compacted : (h : ℕ) (ls : List Layout) → h < length ls → length (compacted_at k h ls) ≤ max (length ls) (suc (suc h))
  length-compacted h [] i = absurd (omega (arith, i))
  length-compacted zero (l ∷ []) i = omega arith
  length-compacted zero (l ∷ m ∷ ls) i = omega arith
  length-compacted (suc h) (l ∷ ls) i = omega (arith, length-compacted h ls (omega arith))

  here : (h : ℕ) (ls : List Layout) → 0 < (layout_at ls h).count → h < length ls
  here zero (l ∷ ls) e = omega arith
  here (suc h) (l ∷ ls) e = let r = here h ls e in omega (arith, r)
  here h ls e = absurd (omega (arith, e))

  -- level 63 is never compacted, since 16 items of weight 2^63 weigh too much
  few-compacted : (h : ℕ) (ls : List Layout) → Moves (layout_at ls h) → length ls ≤ 64 → weight_of ls < 2 ^ 64 → length (compacted_at k h ls) ≤ 64
  few-compacted h ls m few light =
      let at : h < length ls = here h ls (omega (arith, m.four, m.stay)) in
      elim (cases_lt h 63) [
        | inl low ↦ omega (arith, length-compacted h ls at, few, low)
        | inr high ↦
            let top : h ≡ 63 = omega (arith, at, few, high) in
            let heavy = subst (λ (j : ℕ). 2 ^ j * (layout_at ls h).count ≤ weight_of ls) top (weight-at h ls) in
            absurd (omega (arith, heavy, m.four, m.stay, light))
      ]

  -- ---- walks

  -- what holds from layouts to later ones: the weight stays the same, and so on
  pub record Sinks (ls after : List Layout) : Type 0 where
    pub weighs : weight_of after ≡ weight_of ls
    pub retains : retained_of after ≤ retained_of ls
    pub nominals : nominal_sum k ls ≤ nominal_sum k after
    pub two : UpperHoldTwo ls → UpperHoldTwo after
    pub few : length ls ≤ 64 → weight_of ls < 2 ^ 64 → length after ≤ 64

  sinks-none : (ls : List Layout) → Sinks ls ls
  sinks-none ls = record { weighs = refl; retains = omega arith; nominals = omega arith; two = λ t. t; few = λ f w. f }

  sinks-on : (ls ms ns : List Layout) → Sinks ls ms → Sinks ms ns → Sinks ls ns
  sinks-on ls ms ns s t = grind (arith, common_steps, le_trans)

  sinks-compact : (h : ℕ) (ls : List Layout) → Moves (layout_at ls h) → Sinks ls (compacted_at k h ls)
  sinks-compact h ls m = grind (arith, common_steps, weight-compacted, retained-compacted, nominal-compacted, upper-compacted, few-compacted)

  -- either some level was compacted, or none in reach is full
  pub record Walked (more h : ℕ) (ls after : List Layout) : Type 0 where
    pub sinks : Sinks ls after
    spares : (retained_of after + 2 ≤ retained_of ls) ⊎ ((j : ℕ) → h ≤ j → j < h + more → is_full k (layout_at ls j) ≡ false)

  steps_walk : (more h : ℕ) (ls : List Layout) → AreLayouts k ls → Walked more h ls (steps_layouts k more h ls)
  steps_walk zero h ls a = record { sinks = sinks-none ls; spares = inr (λ j low high. absurd (omega (arith, low, high))) }
  steps_walk (suc more) h ls a =
      elim (cases_Bool (is_full k (layout_at ls h))) [
        | inl e ↦
            let m = moves h ls a e in
            let next : List Layout = compacted_at k h ls in
            let r = steps_walk more (suc h) next (compacted_are k legal h ls a) in
            rw e (record {
              sinks = sinks-on ls next (steps_layouts k more (suc h) next) (sinks-compact h ls m) r.sinks;
              spares = inl (omega (arith, r.sinks.retains, retained-compacted h ls m));
            })
        | inr e ↦
            let r = steps_walk more (suc h) ls a in
            rw e (record {
              sinks = r.sinks;
              spares =
                  elim r.spares [
                    | inl s ↦ inl s
                    | inr none ↦
                        inr (λ j low high.
                        elim (cases_lt h j) [
                          | inl past ↦ none j past (omega (arith, high))
                          | inr at ↦ let i : h ≡ j = omega (arith, low, at) in subst (λ (n : ℕ). is_full k (layout_at ls n) ≡ false) i e
                        ])
                  ];
            })
      ]

  -- levels below their nominal capacities retain less than the sum
  none-full : (ls : List Layout) → ((j : ℕ) → j < length ls → is_full k (layout_at ls j) ≡ false) → retained_of ls + length ls ≤ nominal_sum k ls
  none-full [] none = omega arith
  none-full (l ∷ ls) none =
      let here : l.count < nominal k l = leb-false (nominal k l) l.count (none 0 (omega arith)) in
      let r = none-full ls (λ j below. none (suc j) (omega (arith, below))) in
      omega (arith, here, r, retained-cons l ls, nominal-cons k l ls)

  room_sinks : (ls : List Layout) → AreLayouts k ls → Sinks ls (layouts_if_full k ls)
  room_sinks ls a =
      elim (are_full k ls) as (λ b. Sinks ls (if b then steps_layouts k (length ls) 0 ls else ls)) [
        | true ↦ (steps_walk (length ls) 0 ls a).sinks
        | false ↦ sinks-none ls
      ]

  -- a sketch that holds at most the sum of its nominal capacities holds less than that after the walk
  room_below : (ls : List Layout) → AreLayouts k ls → 0 < length ls → retained_of ls ≤ nominal_sum k ls → retained_of (layouts_if_full k ls) < nominal_sum k (layouts_if_full k ls)
  room_below ls a some most =
      elim (cases_Bool (are_full k ls)) [
        | inl e ↦
            let w = steps_walk (length ls) 0 ls a in
            rw e (
            elim w.spares [
              | inl s ↦ omega (arith, s, w.sinks.nominals, most)
              | inr none ↦ let n = none-full ls (λ j below. none j (omega arith) (omega (arith, below))) in absurd (omega (arith, n, leb-true (nominal_sum k ls) (retained_of ls) e, some))
            ])
        | inr e ↦ rw e (leb-false (nominal_sum k ls) (retained_of ls) e)
      ]

  -- ---- updates and merges

  weight-put : (ls : List Layout) → weight_of (put_layouts ls) ≡ weight_of ls + 1
  weight-put [] = refl
  weight-put (l ∷ ls) = omega arith

  length-put : (ls : List Layout) → length (put_layouts ls) ≡ max 1 (length ls)
  length-put [] = omega arith
  length-put (l ∷ ls) = omega arith

  two-put : (ls : List Layout) → UpperHoldTwo ls → UpperHoldTwo (put_layouts ls)
  two-put [] t = tt
  two-put (l ∷ ls) t = t

  -- after an update the levels hold less than the sum of their nominal capacities, if they did before
  pub update_below : (ls : List Layout) → AreLayouts k ls → retained_of ls < nominal_sum k ls → retained_of (update_layouts k ls) < nominal_sum k (update_layouts k ls)
  update_below ls a below = grind (arith, common_steps, retained-with, nominal-with_level, room_below, filled_are, length-put)

  -- an update adds 1 to the weight
  pub update_weighs : (ls : List Layout) → AreLayouts k ls → weight_of (update_layouts k ls) ≡ weight_of ls + 1
  update_weighs ls a = (room_sinks (put_layouts ls) (filled_are k legal 0 1 ls a)).weighs ∙ weight-put ls

  -- levels above level 0 hold at least 2 items
  pub update_two : (ls : List Layout) → AreLayouts k ls → UpperHoldTwo ls → UpperHoldTwo (update_layouts k ls)
  update_two ls a t = (room_sinks (put_layouts ls) (filled_are k legal 0 1 ls a)).two (two-put ls t)

  -- there are still at most 64 levels
  pub update_few : (ls : List Layout) → AreLayouts k ls → length ls ≤ 64 → weight_of ls + 1 < 2 ^ 64 → length (update_layouts k ls) ≤ 64
  update_few ls a f w = (room_sinks (put_layouts ls) (filled_are k legal 0 1 ls a)).few (omega (arith, length-put ls, f)) (omega (arith, weight-put ls, w))

  -- an update adds at most 1 to the retained count
  pub update_retains : (ls : List Layout) → AreLayouts k ls → retained_of (update_layouts k ls) ≤ retained_of ls + 1
  update_retains ls a =
      let r = retained-with 0 (filled 1) ls in
      let t = (room_sinks (put_layouts ls) (filled_are k legal 0 1 ls a)).retains in
      omega (arith, r, t)

  -- it leaves fewer items than before, or less than the sum of the nominal capacities
  pub update_spares : (ls : List Layout) → AreLayouts k ls → (retained_of (update_layouts k ls) < retained_of ls) ⊎ (retained_of (update_layouts k ls) < nominal_sum k (update_layouts k ls))
  update_spares ls a =
      let put : List Layout = put_layouts ls in
      let r = retained-with 0 (filled 1) ls in
      elim (cases_Bool (are_full k put)) [
        | inl e ↦
            let w = steps_walk (length put) 0 put (filled_are k legal 0 1 ls a) in
            rw e (
            elim w.spares [
              | inl s ↦ inl (omega (arith, s, r))
              | inr none ↦
                  let n = none-full put (λ j below. none j (omega arith) (omega (arith, below))) in
                  absurd (omega (arith, n, leb-true (nominal_sum k put) (retained_of put) e, length-put ls))
            ])
        | inr e ↦ rw e (inr (leb-false (nominal_sum k put) (retained_of put) e))
      ]

  -- a merge retains at most as many items as both sketches
  pub merge_retains : (ls others : List Layout) → AreLayouts k ls → retained_of (merge_layouts k ls others) ≤ retained_of ls + retained_of others
  merge_retains ls others a = le_trans (room_sinks (joined_layouts k ls others) (joined_are k legal ls others a)).retains (omega (arith, retained-joined k ls others))

  two-joined : (ls others : List Layout) → HoldTwo ls → HoldTwo others → HoldTwo (joined_layouts k ls others)
  two-joined ls [] t u = t
  two-joined [] (m ∷ ms) t u = (omega (arith, u.0), two-joined [] ms tt u.1)
  two-joined (l ∷ ls) (m ∷ ms) t u = (omega (arith, t.0), two-joined ls ms t.1 u.1)

  upper-joined : (ls others : List Layout) → UpperHoldTwo ls → UpperHoldTwo others → UpperHoldTwo (joined_layouts k ls others)
  upper-joined ls [] t u = t
  upper-joined [] (m ∷ ms) t u = two-joined [] ms tt u
  upper-joined (l ∷ ls) (m ∷ ms) t u = two-joined ls ms t u

  -- it weighs as much as both together
  pub merge_weighs : (ls others : List Layout) → AreLayouts k ls → weight_of (merge_layouts k ls others) ≡ weight_of ls + weight_of others
  merge_weighs ls others a = (room_sinks (joined_layouts k ls others) (joined_are k legal ls others a)).weighs ∙ weight-joined k ls others

  -- levels above level 0 hold at least 2 items
  pub merge_two : (ls others : List Layout) → AreLayouts k ls → UpperHoldTwo ls → UpperHoldTwo others → UpperHoldTwo (merge_layouts k ls others)
  merge_two ls others a t u = (room_sinks (joined_layouts k ls others) (joined_are k legal ls others a)).two (upper-joined ls others t u)

  -- there are still at most 64 levels
  pub merge_few : (ls others : List Layout) → AreLayouts k ls → length ls ≤ 64 → length others ≤ 64 → weight_of ls + weight_of others < 2 ^ 64 → length (merge_layouts k ls others) ≤ 64
  merge_few ls others a f g w =
      (room_sinks (joined_layouts k ls others) (joined_are k legal ls others a)).few (omega (arith, length-joined k ls others, f, g)) (omega (arith, weight-joined k ls others, w))

-- ---- levels of at least 2 items weigh much

two_weighs : (l : Layout) (ls : List Layout) → HoldTwo (l ∷ ls) → 2 ^ length (l ∷ ls) ≤ weight_of (l ∷ ls)
two_weighs l [] t = omega (arith, t.0)
two_weighs l (m ∷ ms) t = grind (arith, common_steps, pow-succ', two_weighs m ms t.1)

-- if each level above level 0 holds at least 2 items, the weight is at least 2 ^ length
pub upper_weighs : (ls : List Layout) → UpperHoldTwo ls → 2 ≤ length ls → 2 ^ length ls ≤ weight_of ls
upper_weighs (l ∷ m ∷ ms) t h =
    let r = two_weighs m ms t in
    let p = pow-succ' 2 (length (m ∷ ms)) in
    omega (arith, r, p)
upper_weighs ls t h = absurd (omega (arith, h))

-- an empty sketch holds fewer items than its nominal capacity
pub new_below : (k : ℕ) → IsLegalK k → retained_of (new_layout ∷ []) < nominal_sum k (new_layout ∷ [])
new_below k legal = grind (arith, common_steps, nominal_least, first_size, retained-cons, nominal-cons)
