-- The weighted items of a sketch's levels: how many they are, what they weigh, the view that they make, and the weighted rank level by level.
use Rattle.std.proofs.Common.{◌≡◌, ℕ, suc, ◌*◌, ◌^◌, List, [], ◌∷◌, length, ◌++◌, ◌∙◌, sum_by, refl, sym, ap, ap₂, arith, length-append, Ordering, drop-cons, zero, ◌+◌, ◌-◌, ◌<◌, ◌≤◌, Bool, cond, drop, get_or, count_by, map, take, replicate, flat_map, subst, append_assoc, append-nil, Result}
use Rattle.std.proofs.Math.Nat.{pow-succ'}
use Rattle.std.proofs.lemmas.List.{length-map, take-append-drop, take_more}
use Rattle.std.proofs.lemmas.List.Sums.{sum_by-cons, sum_by-append, count_by-le-length}
use Rattle.sketch_req.specs.Level.{Level}
use Rattle.sketch_req.specs.Pairs.{weighed, pairs_of}
use Rattle.sketch_req.specs.Schedule.{Layout, layout_of, layouts_of, retained_of, weight_of}
use Rattle.sketch_req.specs.Walk.{AreLevels}
use Rattle.sketch_req.specs.declared.RankAccuracy.{RankAccuracy}
use Rattle.std.proofs.lemmas.Grind.{common_steps}
use Rattle.sketch_base.specs.Bag.{weigh, weighted_rank, SameItems, expanded, repeated, sort}
use Rattle.sketch_base.proofs.bags.Acts.{sum_by-expanded}
use Rattle.sketch_req.specs.Actions.{bag_of}
use Rattle.sketch_req.specs.Merged.{item_lists}
use Rattle.sketch_req.specs.Rank.{counted_weight}
use Rattle.std.specs.Prelude.{Option, IfOk, IsSome}
use Rattle.std.specs.Cmp.{IsTotalOrder}
use Rattle.std.specs.List.{All, AllByRecursion}
use Rattle.std.proofs.lemmas.List.Concat.{flat_map-append}
use Rattle.std.proofs.lemmas.List.Folds.{flat_map-map}
use Rattle.std.proofs.lemmas.List.Elements.{All-from_recursion}
use Rattle.std.proofs.lemmas.Nat.{pow_pos}
use Rattle.sketch_base.specs.Pairs.{SamePairs, copies, extreme_among}
use Rattle.sketch_base.specs.Queries.{SameAnswer}
use Rattle.sketch_base.specs.Views.{IsThere, IsViewOf, View}
use Rattle.sketch_base.proofs.bags.Alike.{SameItems-trans}
use Rattle.sketch_base.proofs.calls.Calls.{ok-weaker}
use Rattle.sketch_base.proofs.views.Entries.{built-view}
use Rattle.sketch_base.proofs.views.Built.{extreme-among, alike-length, same-sorted, same-sum, same-weights}
use Rattle.sketch_req.specs.Sketch.{Req, IsSound}
use Rattle.sketch_req.specs.Views.{queried}
use Rattle.sketch_req.proofs.sketches.Copies.{there-alike}

-- The pairs of items and weights: how many there are, and what they weigh.

-- there are as many pairs as items
pub length-pairs : {A : Type 0} (ls : List (Level A)) → length (pairs_of ls) ≡ retained_of (layouts_of ls)
length-pairs [] = refl
length-pairs {A} (l ∷ ls) =
    let pair : A → A × ℕ = λ x. (x, 2 ^ l.lg_weight) in
    omega (arith, length-append (weighed (2 ^ l.lg_weight) l.items) (pairs_of ls), length-map l.items pair, length-pairs ls, sum_by-cons (λ (y : Layout). y.count) (layout_of l) (layouts_of ls))

sum-weighed : {A : Type 0} (w : ℕ) (xs : List A) → sum_by (λ (pair : A × ℕ). pair.1) (weighed w xs) ≡ w * length xs
sum-weighed w [] = omega arith
sum-weighed {A} w (x ∷ xs) = omega (arith, sum_by-cons (λ (pair : A × ℕ). pair.1) (x, w) (weighed w xs), sum-weighed w xs)

weigh-from : {A : Type 0} (cmp : A → A → Ordering) (k : ℕ) (accuracy : RankAccuracy) (h : ℕ)
    (ls : List (Level A)) → AreLevels cmp k accuracy h ls → sum_by (λ (pair : A × ℕ). pair.1) (pairs_of ls) ≡ 2 ^ h * weight_of (layouts_of ls)
weigh-from cmp k accuracy h [] a = omega arith
weigh-from {A} cmp k accuracy h (l ∷ ls) a =
    let r = weigh-from cmp k accuracy (suc h) ls a.1 in
    let p = pow-succ' 2 h in
    let w : 2 ^ l.lg_weight * length l.items ≡ 2 ^ h * length l.items = ap (λ (i : ℕ). 2 ^ i * length l.items) a.0.place_is in
    omega (
      arith,
      sum_by-append (λ (pair : A × ℕ). pair.1) (weighed (2 ^ l.lg_weight) l.items) (pairs_of ls),
      sum-weighed (2 ^ l.lg_weight) l.items,
      r,
      w,
      ap (λ (n : ℕ). n * weight_of (layouts_of ls)) p,
    )

-- they weigh what the levels do
pub weigh-pairs : {A : Type 0} (cmp : A → A → Ordering) (k : ℕ) (accuracy : RankAccuracy) (ls : List (Level A)) → AreLevels cmp k accuracy 0 ls →
    sum_by (λ (pair : A × ℕ). pair.1) (pairs_of ls) ≡ weight_of (layouts_of ls)
weigh-pairs cmp k accuracy ls a = let r = weigh-from cmp k accuracy 0 ls a in omega (arith, r)

-- past a level with no items left, the pairs go on with the next level
pub next-level : {A : Type 0} (levels above : List (Level A)) (level : Level A) (xs ys : List A) (w v : ℕ) → length xs ≡ 0 → levels ≡ level ∷ above → ys ≡ level.items →
    v ≡ 2 ^ level.lg_weight → weighed v ys ++ pairs_of above ≡ weighed w xs ++ pairs_of levels
next-level {A} levels above level [] ys w v none there items weight =
    ap₂ (λ (n : ℕ) (l : List A). weighed n l ++ pairs_of above) weight items ∙ ap pairs_of (sym there)
next-level levels above level (x ∷ xs) ys w v none there items weight = absurd (omega (arith, none))

-- The weighted rank, level by level.

-- the weight of counted items is at most that of all
counted_weight-le : {A : Type 0} (test : A → Bool) (ls : List (Level A)) → counted_weight test ls ≤ weight_of (layouts_of ls)
counted_weight-le test [] = omega arith
counted_weight-le test (l ∷ ls) = grind (arith, common_steps, count_by-le-length, counted_weight-le test ls)

weight-drop : {A : Type 0} (level : ℕ) (ls : List (Level A)) → weight_of (layouts_of (drop level ls)) ≤ weight_of (layouts_of ls)
weight-drop zero ls = omega arith
weight-drop (suc level) [] = omega arith
weight-drop (suc level) (l ∷ ls) = let h = weight-drop level ls in omega (arith, h)

-- a step of the loop from the top level down
pub more_weight : {A : Type 0} (test : A → Bool) (ls : List (Level A)) (level w n : ℕ) (x : Level A) →
    0 < level → level ≤ length ls → w ≡ counted_weight test (drop level ls) → x ≡ get_or ls (level - 1) x → n ≡ count_by test x.items →
    (2 * w + n ≡ counted_weight test (drop (level - 1) ls)) × (2 * w + n ≤ weight_of (layouts_of ls))
more_weight {A} test ls level w n x h k ew ex en =
    let s : suc (level - 1) ≡ level = omega arith in
    let d = drop-cons ls (level - 1) x (omega arith) ∙ ap (λ (y : Level A). y ∷ drop (suc (level - 1)) ls) (sym ex) in
    let m : counted_weight test (drop (level - 1) ls) ≡ count_by test x.items + 2 * counted_weight test (drop level ls) =
    ap (counted_weight test) d ∙ ap (λ (i : ℕ). count_by test x.items + 2 * counted_weight test (drop i ls)) s in
    let e : 2 * w + n ≡ counted_weight test (drop (level - 1) ls) = omega (arith, m, en, ew) in
    let b = counted_weight-le test (drop (level - 1) ls) in
    let f = weight-drop (level - 1) ls in
    (e, omega (arith, e, b, f))

-- what the levels weigh
weigh-counted : {A : Type 0} (test : A → Bool) (h : ℕ) (ls : List (Level A)) → weigh (count_by test) h (item_lists ls) ≡ 2 ^ h * counted_weight test ls
weigh-counted test h [] = omega arith
weigh-counted test h (l ∷ ls) = let ih = weigh-counted test (suc h) ls in let p = pow-succ' 2 h in omega (arith, ih, ap (λ (n : ℕ). n * counted_weight test ls) p)

weigh-length : {A : Type 0} (h : ℕ) (ls : List (Level A)) → weigh length h (item_lists ls) ≡ 2 ^ h * weight_of (layouts_of ls)
weigh-length h [] = omega arith
weigh-length h (l ∷ ls) = let ih = weigh-length (suc h) ls in let p = pow-succ' 2 h in omega (arith, ih, ap (λ (n : ℕ). n * weight_of (layouts_of ls)) p)

-- the weight of levels, by their layouts
pub weight_is : {A : Type 0} (ls : List (Level A)) → weigh length 0 (item_lists ls) ≡ weight_of (layouts_of ls)
weight_is ls = let h = weigh-length 0 ls in omega (arith, h)

-- the rank in levels, by their counts
pub rank_is : {A : Type 0} (cmp : A → A → Ordering) (test : A → Bool) (ls : List (Level A)) → weighted_rank cmp test (bag_of ls) ≡ counted_weight test ls
rank_is cmp test ls =
    let h = weigh-counted test 0 ls in
    let e = sum_by-expanded (λ x. cond (test x) 1 0) cmp (bag_of ls) in
    omega (arith, h, e)

-- the number of items in levels, by their layouts
pub retained_is : {A : Type 0} (ls : List (Level A)) → sum_by length (item_lists ls) ≡ retained_of (layouts_of ls)
retained_is [] = refl
retained_is (l ∷ ls) = omega (arith, sum_by-cons length l.items (item_lists ls), sum_by-cons (λ (x : Layout). x.count) (layout_of l) (layouts_of ls), retained_is ls)

-- The weighted items of a sketch's levels, and the view that they make.

-- the weighted items stand for the same items as the levels
copies-pairs : {A : Type 0} (cmp : A → A → Ordering) (k : ℕ) (accuracy : RankAccuracy)
    (h : ℕ) (ls : List (Level A)) → AreLevels cmp k accuracy h ls → copies (pairs_of ls) ≡ repeated h (map (λ level. level.items) ls)
copies-pairs cmp k accuracy h [] are = refl
copies-pairs {A} cmp k accuracy h (l ∷ ls) are =
    flat_map-append (λ (pair : A × ℕ). replicate pair.1 pair.0) (weighed (2 ^ l.lg_weight) l.items) (pairs_of ls) ∙
    ap₂ (λ (xs ys : List A). xs ++ ys)
    (flat_map-map (λ (pair : A × ℕ). replicate pair.1 pair.0) (λ (x : A). (x, 2 ^ l.lg_weight)) l.items
    ∙ ap (λ i. flat_map (λ x. replicate (2 ^ i) x) l.items) are.0.place_is) (copies-pairs cmp k accuracy (suc h) ls are.1)

module _ {A : Type 0} where
  -- each weighs something
  abbrev HaveWeight : List (A × ℕ) → Type 0
  HaveWeight pairs = AllByRecursion (λ (pair : A × ℕ). 0 < pair.1) pairs

  weighed-weigh : (w : ℕ) (xs : List A) (rest : List (A × ℕ)) → 0 < w → HaveWeight rest → HaveWeight (weighed w xs ++ rest)
  weighed-weigh w [] rest l h = h
  weighed-weigh w (x ∷ xs) rest l h = (l, weighed-weigh w xs rest l h)

  pairs-weigh : (ls : List (Level A)) → HaveWeight (pairs_of ls)
  pairs-weigh [] = tt
  pairs-weigh (l ∷ ls) = weighed-weigh (2 ^ l.lg_weight) l.items (pairs_of ls) (pow_pos l.lg_weight) (pairs-weigh ls)

  weigh-enough : (pairs : List (A × ℕ)) → HaveWeight pairs → length pairs ≤ sum_by (λ (pair : A × ℕ). pair.1) pairs
  weigh-enough [] h = omega arith
  weigh-enough (p ∷ ps) h = let one = h.0 in omega (arith, sum_by-cons (λ (pair : A × ℕ). pair.1) p ps, weigh-enough ps h.1, one)

-- the weighted items of some levels and of others after them
pub pairs-append : {A : Type 0} (ls ms : List (Level A)) → pairs_of (ls ++ ms) ≡ pairs_of ls ++ pairs_of ms
pairs-append [] ms = refl
pairs-append {A} (l ∷ ls) ms =
    ap (λ (ps : List (A × ℕ)). weighed (2 ^ l.lg_weight) l.items ++ ps) (pairs-append ls ms) ∙ sym (append_assoc (weighed (2 ^ l.lg_weight) l.items) (pairs_of ls) (pairs_of ms))

-- one more level
module _ {A : Type 0} (ls : List (Level A)) (i : ℕ) (l : Level A) (within : i < length ls) (at : l ≡ get_or ls i l) where
  more : pairs_of (take (i + 1) ls) ≡ pairs_of (take i ls) ++ pairs_of (l ∷ [])
  more = ap pairs_of (take_more ls i l within ∙ ap (λ k. take i ls ++ k ∷ []) (sym at)) ∙ pairs-append (take i ls) (l ∷ [])

  pub pairs-more : (w : ℕ) (xs : List A) → w ≡ 2 ^ l.lg_weight → xs ≡ l.items → pairs_of (take (i + 1) ls) ≡ pairs_of (take i ls) ++ weighed w xs
  pairs-more w xs weight items = more ∙ ap (λ ps. pairs_of (take i ls) ++ ps) (append-nil (weighed (2 ^ l.lg_weight) l.items) ∙ ap₂ weighed (sym weight) (sym items))

  -- it holds no more than all levels
  pub pairs-room : length (pairs_of (take i ls)) + length l.items ≤ length (pairs_of ls)
  pairs-room =
      let rest = drop (i + 1) ls in
      let own : length (weighed (2 ^ l.lg_weight) l.items) ≡ length l.items = length-map l.items _ in
      omega (
        arith,
        own,
        ap length (ap pairs_of (sym (take-append-drop (i + 1) ls)) ∙ pairs-append (take (i + 1) ls) rest),
        ap length (more ∙ ap (λ ps. pairs_of (take i ls) ++ ps) (append-nil (weighed (2 ^ l.lg_weight) l.items))),
        length-append (pairs_of (take (i + 1) ls)) (pairs_of rest),
        length-append (pairs_of (take i ls)) (weighed (2 ^ l.lg_weight) l.items),
      )

-- a sketch of no weight has no weighted items
pub none-weighed : {A : Type 0} {cmp : A → A → Ordering} (s : Req A) → IsSound cmp s → {count : ℕ} → count ≡ length (pairs_of s.levels) → 0 < count → s.n ≡ 0 → ⊥
none-weighed {cmp = cmp} s sound e some none = omega (
  arith,
  e,
  some,
  none,
  weigh-enough (pairs_of s.levels) (pairs-weigh s.levels),
  weigh-pairs cmp s.k s.accuracy s.levels sound.placed,
  sound.weighs_n,
)

-- clones of the weighted items of a sketch: what a view needs of them
pub record AreWeighed {A : Type 0} (cmp : A → A → Ordering) (s : Req A) (pairs : List (A × ℕ)) : Type 0 where
  pub some : All (λ (p : A × ℕ). 0 < p.1) pairs
  pub sum : sum_by (λ (p : A × ℕ). p.1) pairs ≡ s.n
  pub long : length pairs ≡ length (pairs_of s.levels)
  pub entries : SameItems cmp (expanded cmp (bag_of s.levels)) (sort cmp (copies pairs))

module _ {A : Type 0} {cmp : A → A → Ordering} (order : IsTotalOrder cmp) (s : Req A) (sound : IsSound cmp s) (pairs : List (A × ℕ)) where
  pub are-weighed : SamePairs cmp (pairs_of s.levels) pairs → AreWeighed cmp s pairs
  are-weighed same = record {
    some = same-weights cmp (pairs_of s.levels) pairs same (All-from_recursion (λ (p : A × ℕ). 0 < p.1) (pairs_of s.levels) (pairs-weigh s.levels));
    sum = same-sum cmp (pairs_of s.levels) pairs same ∙ (weigh-pairs cmp s.k s.accuracy s.levels sound.placed ∙ sound.weighs_n);
    long = sym (alike-length cmp (pairs_of s.levels) pairs same);
    entries = subst (λ (xs : List A). SameItems cmp (sort cmp xs) (sort cmp (copies pairs))) (copies-pairs cmp s.k s.accuracy 0 s.levels sound.placed)
        (same-sorted cmp order (pairs_of s.levels) pairs same);
  }

  -- an extreme of the view
  pub view-extreme : AreWeighed cmp s pairs → (extreme found : Option A) → IsThere extreme s.n → SameAnswer cmp extreme found →
      (0 < length pairs → IsSome found) × (extreme_among pairs found ≡ found)
  view-extreme w extreme found there same = extreme-among pairs found s.n (there-alike order extreme found s.n same there) w.sum w.some

  -- the view of them is one of the sketch
  pub entries-view : {E : Type 0} (least greatest : Option A) (r : Result (View A) E) → AreWeighed cmp s pairs → SameAnswer cmp s.least least → SameAnswer cmp s.greatest greatest →
      IfOk r (λ v. SameItems cmp (sort cmp (copies pairs)) v.entries) → IfOk r (λ v. v.least ≡ extreme_among pairs least) →
      IfOk r (λ v. v.greatest ≡ extreme_among pairs greatest) → IfOk r (IsViewOf (queried cmp s))
  entries-view least greatest r w l g found le ge =
      built-view order (bag_of s.levels) s.n s.least least s.greatest greatest r (weight_is s.levels ∙ sound.weighs_n) l g
      (ok-weaker r _ _ (λ v. SameItems-trans cmp order (expanded cmp (bag_of s.levels)) (sort cmp (copies pairs)) v.entries w.entries) found)
      (rw (view-extreme w s.least least sound.least_there l).1 at le) (rw (view-extreme w s.greatest greatest sound.greatest_there g).1 at ge)
