-- A walk, step by step, and its layouts computed from the lengths before anything moves.
use Rattle.std.proofs.Common.{rules, add-one, append-nil, append_assoc, ◌≡◌, ℕ, zero, suc, ◌+◌, ◌^◌, ◌<◌, ◌≤◌, Bool, true, false, cond, if◌then◌else◌, List, [], ◌∷◌, ◌++◌, length, take, drop, get_or, refl, sym, ap, ap₂, ◌∙◌, subst, arith, IsTrue, leb-true, nat_le, Ordering, add-zero, ◌/◌}
use Rattle.std.proofs.lemmas.Grind.{common_steps}
use Rattle.std.specs.Cmp.{IsTotalOrder}
use Rattle.std.specs.List.{AllByRecursion}
use Rattle.std.proofs.lemmas.Bool.{false≢true}
use Rattle.std.proofs.lemmas.List.Sums.{sum_by-cons}
use Rattle.sketch_base.specs.Bag.{Bag, AlikeReq, empty_bag, with_level}
use Rattle.sketch_base.specs.Random.{bits_from, after_draws}
use Rattle.sketch_base.specs.Trace.{Action, Put, Compact, Redraw, Fresh, Turned, next_bit, Work, act, acts, alone, draws, draws_of, is_req_action}
use Rattle.sketch_base.proofs.bags.Parts.{all-append}
use Rattle.sketch_base.proofs.bags.Alike.{acts-req}
use Rattle.sketch_base.proofs.plays.Plays.{acts-enough, calls-compose, source-composes}
use Rattle.sketch_req.specs.Actions.{bag_of}
use Rattle.sketch_req.specs.Level.{Level, nominal_of}
use Rattle.sketch_req.specs.Schedule.{Layout, layout_of, layouts_of, layout_at, is_full, nominal, compacted_at, step_actions, step_layouts, steps_actions, steps_layouts, retained_of, weight_of, new_layout, taken, compacted, filled}
use Rattle.sketch_req.specs.Sections.{IsLegalK}
use Rattle.sketch_req.specs.Walk.{is_own, AreLevels, AreActed, AreWalked, AreOwn, step_of, holding, taken_if_full, with_more}
use Rattle.sketch_req.specs.declared.RankAccuracy.{RankAccuracy}
use Rattle.sketch_req.proofs.walks.Actions.{alike-refl, alike-trans}
use Rattle.sketch_req.proofs.layouts.Layouts.{length-layouts, weight-compacted, retained-compacted, few-below, empty-layout, layout-other, retained-with, around}
use Rattle.sketch_req.proofs.walks.Steps.{moved-none, moved-more, IsStep, compact_of, opened, gives_up-there, layouts-around}

-- A walk, step by step.

-- one more step of a walk
steps_layouts-more : (k n h : ℕ) (ls : List Layout) → steps_layouts k (suc n) h ls ≡ step_layouts k (h + n) (steps_layouts k n h ls)
steps_layouts-more k zero h ls = let e : h ≡ h + 0 = omega arith in ap (λ (i : ℕ). step_layouts k i ls) e
steps_layouts-more k (suc n) h ls =
    let e : suc h + n ≡ h + suc n = omega arith in
    steps_layouts-more k n (suc h) (step_layouts k h ls) ∙ ap (λ (i : ℕ). step_layouts k i (steps_layouts k n (suc h) (step_layouts k h ls))) e

steps_actions-more : {A : Type 0} (k : ℕ) (accuracy : RankAccuracy) (n h : ℕ) (ls : List Layout) →
    steps_actions {A = A} k accuracy (suc n) h ls ≡ steps_actions k accuracy n h ls ++ step_actions k accuracy (h + n) (steps_layouts k n h ls)
steps_actions-more {A} k accuracy zero h ls = grind (arith, common_steps, append-nil)
steps_actions-more {A} k accuracy (suc n) h ls =
    let e : suc h + n ≡ h + suc n = omega arith in
    ap (λ xs. step_actions {A = A} k accuracy h ls ++ xs) (steps_actions-more k accuracy n (suc h) (step_layouts k h ls))
    ∙ (sym (append_assoc (step_actions k accuracy h ls) (steps_actions k accuracy n (suc h) (step_layouts k h ls)) _)
    ∙ ap (λ (i : ℕ). (step_actions {A = A} k accuracy h ls ++ steps_actions k accuracy n (suc h) (step_layouts k h ls))
    ++ step_actions k accuracy i (steps_layouts k n (suc h) (step_layouts k h ls))) e)

-- the last step of a walk from level 0 up
pub steps_layouts-last : (k h : ℕ) (ls : List Layout) → steps_layouts k (h + 1) 0 ls ≡ step_layouts k h (steps_layouts k h 0 ls)
steps_layouts-last k h ls = rw add-one (steps_layouts-more k h 0 ls ∙ ap (λ (i : ℕ). step_layouts k i (steps_layouts k h 0 ls)) (omega arith))

steps_actions-last : (A : Type 0) (k : ℕ) (accuracy : RankAccuracy) (h : ℕ) (ls : List Layout) →
    steps_actions {A = A} k accuracy (h + 1) 0 ls ≡ steps_actions k accuracy h 0 ls ++ step_actions k accuracy h (steps_layouts k h 0 ls)
steps_actions-last A k accuracy h ls =
    rw add-one (steps_actions-more k accuracy h 0 ls ∙ ap (λ (i : ℕ). steps_actions {A = A} k accuracy h 0 ls ++ step_actions k accuracy i (steps_layouts k h 0 ls)) (omega arith))

-- a step's actions leave the scratch alone
own-step : (A : Type 0) (k : ℕ) (accuracy : RankAccuracy) (h : ℕ) (ls : List Layout) → AreOwn {A = A} (step_actions k accuracy h ls)
own-step A k accuracy h ls = grind (arith, common_steps)

-- actions that do are REQ's
pub own-req : {A : Type 0} (actions : List (Action A)) → AreOwn actions → AllByRecursion (λ a. IsTrue (is_req_action a)) actions
own-req [] o = tt
own-req (Put h x ∷ rest) o = (refl, own-req rest o.1)
own-req (Compact h coin part ∷ rest) o = (o.0, own-req rest o.1)
own-req (Redraw h ∷ rest) o = (refl, own-req rest o.1)
own-req (action ∷ rest) o = absurd (false≢true o.0)

-- actions in two parts do so if both parts do
pub own-append : {A : Type 0} (xs ys : List (Action A)) → AreOwn xs → AreOwn ys → AreOwn (xs ++ ys)
own-append xs ys = all-append (λ a. IsTrue (is_own a)) xs ys

-- actions that leave the scratch alone don't depend on it
pub own-bag : {A : Type 0} (cmp : A → A → Ordering) (actions : List (Action A)) (word : List Bool) (a b : Work (Bag A)) → AreOwn actions → a.bag ≡ b.bag →
    (acts cmp actions word a).bag ≡ (acts cmp actions word b).bag
own-bag cmp [] word a b o e = e
own-bag {A} cmp (Put h x ∷ rest) word a b o e = own-bag cmp rest word _ _ o.1 (ap (λ (g : Bag A). (act cmp (Put h x) (next_bit word) (alone g)).bag) e)
own-bag {A} cmp (Compact h Fresh part ∷ rest) word a b o e = own-bag cmp rest (drop 1 word) _ _ o.1 (ap (λ (g : Bag A). (act cmp (Compact h Fresh part) (next_bit word) (alone g)).bag) e)
own-bag {A} cmp (Compact h Turned part ∷ rest) word a b o e = own-bag cmp rest word _ _ o.1 (ap (λ (g : Bag A). (act cmp (Compact h Turned part) (next_bit word) (alone g)).bag) e)
own-bag {A} cmp (Redraw h ∷ rest) word a b o e = own-bag cmp rest (drop 1 word) _ _ o.1 (ap (λ (g : Bag A). (act cmp (Redraw h) (next_bit word) (alone g)).bag) e)
own-bag cmp (action ∷ rest) word a b o e = absurd (false≢true o.0)

module _ {A : Type 0} {cmp : A → A → Ordering} where
  -- a step that compacts
  pub acted-full : {S : Type 0} (order : IsTotalOrder cmp) (bit : S → Bool) (next : S → S) (source after : S) (k : ℕ) (accuracy : RankAccuracy) (h : ℕ) (ls ns : List (Level A)) (old : Level A) →
      AreLevels cmp k accuracy 0 ls → h < length ls → old ≡ get_or ls h old → is_full k (layout_at (layouts_of ls) h) ≡ true →
      IsStep cmp k accuracy h (bit source) ls ns → after ≡ (if draws (compact_of k accuracy h ls) then next source else source) →
      AreWalked cmp bit next source after k accuracy (step_of k accuracy h ls) (step_layouts k h (layouts_of ls)) ls ns
  acted-full {S} order bit next source after k accuracy h ls ns old levels within e full s coins =
      let a : Action A = compact_of k accuracy h ls in
      let n : draws_of (a ∷ []) ≡ cond (draws a) 1 0 = sum_by-cons (λ x. cond (draws x) 1 0) a [] ∙ omega arith in
      let r = around ls h old within e in
      let o = opened k accuracy h ls old levels within e in
      let g = gives_up-there order k accuracy h ls old o full in
      let whole : layouts_of ls ≡ layouts_of r.below ++ layout_of old ∷ layouts_of r.rest = ap layouts_of r.whole ∙ layouts-around r.below r.rest old in
      let place : h ≡ length (layouts_of r.below) = sym (length-layouts r.below ∙ r.place) in
      let same : compacted_at k h (layouts_of ls) ≡ compacted_at k (length (layouts_of r.below)) (layouts_of r.below ++ layout_of old ∷ layouts_of r.rest) =
      ap₂ (λ (i : ℕ) (l : List Layout). compacted_at k i l) place whole in
      rw full (record {
        acted = record {
          bag = subst (λ (w : Work (Bag A)). AlikeReq cmp w.bag (bag_of ns))
              (sym (acts-enough cmp (a ∷ []) (bits_from bit next source (draws_of (a ∷ []))) (bit source ∷ []) (alone (bag_of ls)) (rw n (enough (draws a))))) s.bag;
          own = rw full at (own-step A k accuracy h (layouts_of ls));
          source_is = coins ∙ (drawn (draws a) ∙ sym (ap (after_draws next source) n));
          layouts_are = s.layouts;
          placed = s.placed;
          weigh = omega (arith, ap weight_of (s.layouts ∙ same), weight-compacted k (layouts_of r.below) (layouts_of r.rest) (layout_of old) g.within g.even, ap weight_of whole);
          fewer = omega (arith, ap retained_of (s.layouts ∙ same), ap retained_of whole, retained-compacted k (layouts_of r.below) (layouts_of r.rest) (layout_of old) g.within);
        };
        moved = s.moved;
      })
    where
      enough : (b : Bool) → take (cond b 1 0) (bits_from bit next source (cond b 1 0)) ≡ take (cond b 1 0) (bit source ∷ [])
      enough true = refl
      enough false = refl

      drawn : (b : Bool) → (if b then next source else source) ≡ after_draws next source (cond b 1 0)
      drawn true = refl
      drawn false = refl

  -- no actions
  pub acted-start : {S : Type 0} (order : IsTotalOrder cmp) (bit : S → Bool) (next : S → S) (source : S) (k : ℕ) (accuracy : RankAccuracy) (ls : List (Level A)) →
      AreLevels cmp k accuracy 0 ls → AreWalked cmp bit next source source k accuracy [] (layouts_of ls) ls ls
  acted-start order bit next source k accuracy ls levels = search (rules, alike-refl, moved-none)

  -- a step that compacts nothing
  pub acted-none : {S : Type 0} (order : IsTotalOrder cmp) (bit : S → Bool) (next : S → S) (source : S) (k : ℕ) (accuracy : RankAccuracy) (h : ℕ) (ls : List (Level A)) →
      AreLevels cmp k accuracy 0 ls →
      is_full k (layout_at (layouts_of ls) h) ≡ false → AreWalked cmp bit next source source k accuracy (step_of k accuracy h ls) (step_layouts k h (layouts_of ls)) ls ls
  acted-none order bit next source k accuracy h ls levels full = rw full (acted-start order bit next source k accuracy ls levels)

  -- actions after others, whatever was in the scratch
  pub alike-after : {S : Type 0} (order : IsTotalOrder cmp) (bit : S → Bool) (next : S → S) (source after : S) (k : ℕ) (accuracy : RankAccuracy) (first more : List (Action A))
      (layouts : List Layout) (n : ℕ) (start : Work (Bag A)) (ms ns : List (Level A)) → AlikeReq cmp (acts cmp first (bits_from bit next source (draws_of first)) start).bag (bag_of ms) →
      AreActed cmp bit next (after_draws next source (draws_of first)) after k accuracy more layouts n ms ns →
      AlikeReq cmp (acts cmp (first ++ more) (bits_from bit next source (draws_of (first ++ more))) start).bag (bag_of ns)
  alike-after order bit next source after k accuracy first more layouts n start ms ns alike acted =
      let word = bits_from bit next (after_draws next source (draws_of first)) (draws_of more) in
      let one : Work (Bag A) = acts cmp first (bits_from bit next source (draws_of first)) start in
      let same = own-bag cmp more word (alone one.bag) one acted.own refl in
      let later = acts-req order more word (alone one.bag) (alone (bag_of ms)) (own-req more acted.own) alike (alike-refl order empty_bag) in
      rw (calls-compose cmp bit next source first more start, ← same) (alike-trans order _ _ _ later acted.bag)

  -- some actions after others
  pub acted-more : {S : Type 0} (order : IsTotalOrder cmp) (bit : S → Bool) (next : S → S) (source middle after : S) (k : ℕ) (accuracy : RankAccuracy)
      (first more : List (Action A)) (layouts layouts' : List Layout) (m n : ℕ) (ls ms ns : List (Level A)) →
      AreActed cmp bit next source middle k accuracy first layouts m ls ms → AreActed cmp bit next middle after k accuracy more layouts' n ms ns →
      AreActed cmp bit next source after k accuracy (first ++ more) layouts' (m + n) ls ns
  acted-more order bit next source middle after k accuracy first more layouts layouts' m n ls ms ns s t =
      let later = rw s.source_is at t in
      record {
        bag = alike-after order bit next source after k accuracy first more layouts' n (alone (bag_of ls)) ms ns s.bag later;
        own = own-append first more s.own t.own;
        source_is = later.source_is ∙ sym (source-composes next source first more);
        layouts_are = t.layouts_are;
        placed = t.placed;
        weigh = omega (arith, t.weigh, s.weigh);
        fewer = omega (arith, s.fewer, t.fewer);
      }

-- whether a level is full, by what it holds and its nominal capacity
pub is-full-there : {A : Type 0} (cmp : A → A → Ordering) (k : ℕ) (accuracy : RankAccuracy) (h : ℕ) (ls : List (Level A)) (old : Level A)
    (count capacity : ℕ) → AreLevels cmp k accuracy 0 ls → h < length ls → old ≡ get_or ls h old → count ≡ length old.items → capacity ≡ nominal_of old →
    is_full k (layout_at (layouts_of ls) h) ≡ nat_le capacity count
is-full-there cmp k accuracy h ls old count capacity levels within e many room = grind (arith, common_steps, opened)

-- levels from 60 up are never full
pub step-low : {A : Type 0} {cmp : A → A → Ordering} (order : IsTotalOrder cmp) (k : ℕ) (accuracy : RankAccuracy) (h : ℕ) (ls : List (Level A)) (old : Level A) → IsLegalK k →
    AreLevels cmp k accuracy 0 ls → h < length ls → old ≡ get_or ls h old →
    is_full k (layout_at (layouts_of ls) h) ≡ true → weight_of (layouts_of ls) < 2 ^ 64 → h < 60
step-low {A} order k accuracy h ls old legal levels within e full fits =
    let r = around ls h old within e in
    let o = opened k accuracy h ls old levels within e in
    let whole : layouts_of ls ≡ layouts_of r.below ++ layout_of old ∷ layouts_of r.rest = ap layouts_of r.whole ∙ layouts-around r.below r.rest old in
    let f : nominal k (layout_of old) ≤ length old.items = leb-true _ _ (sym (ap (is_full k) o.layout) ∙ full) in
    let low = few-below k (layouts_of r.below) (layouts_of r.rest) (layout_of old) legal o.placed.sound.few_doublings
    (let s = o.placed.sound.size_at_least in rw o.placed.k_is at s) f (rw whole at fits) in
    omega (arith, low, length-layouts r.below, r.place)

-- one step after others
pub walked-more : {A S : Type 0} {cmp : A → A → Ordering} (order : IsTotalOrder cmp) (bit : S → Bool) (next : S → S) (source middle after : S) (k : ℕ) (accuracy : RankAccuracy)
    (h : ℕ) (ls ms ns : List (Level A)) →
    AreWalked cmp bit next source middle k accuracy (steps_actions k accuracy h 0 (layouts_of ls)) (steps_layouts k h 0 (layouts_of ls)) ls ms →
    AreWalked cmp bit next middle after k accuracy (step_of k accuracy h ms) (step_layouts k h (layouts_of ms)) ms ns →
    AreWalked cmp bit next source after k accuracy (steps_actions k accuracy (h + 1) 0 (layouts_of ls)) (steps_layouts k (h + 1) 0 (layouts_of ls)) ls ns
walked-more {A} {S} {cmp} order bit next source middle after k accuracy h ls ms ns s t =
    rw (steps_layouts-last k h (layouts_of ls), steps_actions-last A k accuracy h (layouts_of ls), ← s.acted.layouts_are)
    (record {
      acted = acted-more order bit next source middle after k accuracy _ _ _ _ 0 0 ls ms ns s.acted t.acted;
      moved = moved-more _ _ ls ms ns s.moved t.moved;
    })

-- A walk's layouts, computed from the lengths before anything moves.

-- the level that was changed
pub layout-same : (h : ℕ) (change : Layout → Layout) (ls : List Layout) → layout_at (with_level new_layout h change ls) h ≡ change (layout_at ls h)
layout-same zero change [] = refl
layout-same zero change (l ∷ ls) = refl
layout-same (suc h) change [] = layout-same h change []
layout-same (suc h) change (l ∷ ls) = layout-same h change ls

-- a level holds at most as many items as all levels
pub count-within : (h : ℕ) (ls : List Layout) → (layout_at ls h).count ≤ retained_of ls
count-within h [] = omega (arith, ap (λ (l : Layout). l.count) (empty-layout h))
count-within zero (l ∷ ls) = omega (arith, sum_by-cons (λ (l : Layout). l.count) l ls)
count-within (suc h) (l ∷ ls) = omega (arith, sum_by-cons (λ (l : Layout). l.count) l ls, count-within h ls)

-- a step retains no more items
step-fewer : (k h : ℕ) (ls : List Layout) → retained_of (step_layouts k h ls) ≤ retained_of ls
step-fewer k h ls =
    let low : List Layout = with_level new_layout h (compacted k) ls in
    let here = retained-with h (compacted k) ls in
    let above = retained-with (suc h) (filled (taken k (layout_at ls h) / 2)) low in
    elim (is_full k (layout_at ls h)) as (λ b. retained_of (if b then compacted_at k h ls else ls) ≤ retained_of ls) [
      | true ↦ omega (arith, here, above)
      | false ↦ omega arith
    ]

filled-none : (l : Layout) → filled 0 l ≡ l
filled-none l = ap (λ (n : ℕ). let m : Layout = record { count = n; state = l.state; doublings = l.doublings } in m) (add-zero l.count)

-- what a step makes of the level above, and of those above that one
step-next : (k h n : ℕ) (ls : List Layout) → n ≡ taken_if_full k (layout_at ls h) / 2 → layout_at (step_layouts k h ls) (suc h) ≡ filled n (layout_at ls (suc h))
step-next k h n ls e = search (rules, layout-same, layout-other, filled-none)

step-above : (k h j : ℕ) (ls : List Layout) → suc h < j → layout_at (step_layouts k h ls) j ≡ layout_at ls j
step-above k h j ls above = search (rules, layout-other, above)

-- items that come in add no level
pub length-more : (more : ℕ) (ls : List Layout) → 0 < length ls → length (with_more more ls) ≡ length ls
length-more more [] h = absurd (omega arith)
length-more more (l ∷ ls) h = refl

pub more-none : (ls : List Layout) → 0 < length ls → with_more 0 ls ≡ ls
more-none [] h = absurd (omega arith)
more-none (l ∷ ls) h = ap (λ (m : Layout). m ∷ ls) (filled-none l)

-- a plan up to level h, which then holds `here` items: what is known of the layouts at its turn
pub record IsPlanned (k h here : ℕ) (start layouts : List Layout) : Type 0 where
  pub next : layout_at (steps_layouts k h 0 start) h ≡ holding here (layout_at layouts h)
  pub above : (j : ℕ) → h < j → layout_at (steps_layouts k h 0 start) j ≡ layout_at layouts j
  pub fewer : retained_of (steps_layouts k h 0 start) ≤ retained_of start

-- what the level gives up, and to how many items
pub planned-rise : (k h here n own : ℕ) (start layouts : List Layout) → n ≡ taken_if_full k (holding here (layout_at layouts h)) → own ≡ (layout_at layouts (h + 1)).count → IsPlanned k h here start layouts →
    let now = steps_layouts k h 0 start in (taken_if_full k (layout_at now h) ≡ n) × ((layout_at now (suc h)).count ≡ own)
planned-rise k h here n own start layouts e o p =
    let one : suc h ≡ h + 1 = omega arith in
    (ap (taken_if_full k) p.next ∙ sym e, ap (λ (l : Layout). l.count) (p.above (suc h) (omega arith) ∙ ap (layout_at layouts) one) ∙ sym o)

-- at the next level
pub planned-more : (k h here n own next : ℕ) (start layouts : List Layout) → n ≡ taken_if_full k (holding here (layout_at layouts h)) → own ≡ (layout_at layouts (h + 1)).count → next ≡ own + n / 2 →
    IsPlanned k h here start layouts → IsPlanned k (h + 1) next start layouts
planned-more k h here n own next start layouts e o e' p =
    let one : suc h ≡ h + 1 = omega arith in
    let now : List Layout = steps_layouts k h 0 start in
    let s = steps_layouts-last k h start in
    let n_is : n / 2 ≡ taken_if_full k (layout_at now h) / 2 = ap (λ (m : ℕ). m / 2) (e ∙ sym (ap (taken_if_full k) p.next)) in
    let up = step-next k h (n / 2) now n_is ∙ ap (filled (n / 2)) (p.above (suc h) (omega arith)) in
    record {
      next = ap₂ (λ (ls : List Layout) (i : ℕ). layout_at ls i) s (sym one) ∙ (up ∙ (ap (λ (i : ℕ). filled (n / 2) (layout_at layouts i)) one
          ∙ ap (λ (m : ℕ). holding m (layout_at layouts (h + 1))) (sym (e' ∙ ap (λ (m : ℕ). m + n / 2) o))));
      above = λ j a. ap (λ (ls : List Layout). layout_at ls j) s ∙ (step-above k h j now (omega (arith, a)) ∙ p.above j (omega (arith, a)));
      fewer = omega (arith, ap retained_of s, step-fewer k h now, p.fewer);
    }

-- the level holds no more than all levels did
pub planned-few : (k h here : ℕ) (start layouts : List Layout) → IsPlanned k h here start layouts → here ≤ retained_of start
planned-few k h here start layouts p = omega (arith, count-within h (steps_layouts k h 0 start), p.fewer, ap (λ (l : Layout). l.count) p.next)
