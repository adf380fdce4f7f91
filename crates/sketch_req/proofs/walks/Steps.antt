-- One step of a walk: a level is compacted into the one above. Which levels a walk moves, and that the others stay as they are.
use Rattle.std.proofs.lemmas.Grind.{common_steps}
use Rattle.std.proofs.Common.{◌≡◌, ℕ, zero, suc, ◌==◌, ◌||◌, ◌⊎◌, inl, inr, eq-eqb, eqb-true, Bool, true, false, List, [], ◌∷◌, ◌++◌, length, get_or, refl, sym, ap, ◌∙◌, arith, min, ◌+◌, ◌-◌, ◌*◌, ◌/◌, ◌%◌, ◌<◌, ◌≤◌, if◌then◌else◌, set, ap₂, subst, leb-true, Ordering, Equal, length-append, append_assoc}
use Rattle.std.proofs.lemmas.Bool.{false≢true, or_parts, ne_eqb}
use Rattle.sketch_base.specs.Trace.{Action, Compact, Coin, joins_actions, act, alone, draws}
use Rattle.sketch_base.specs.Bag.{Taken, AlikeReq, half, with_level}
use Rattle.sketch_req.specs.Level.{Level, IsLevel, IsCompacted, IsTakenIn, fresh, parted, takes_any, draws_coin, coin_of, taken_count, taken_side}
use Rattle.sketch_req.specs.Moved.{AreMoved, is_moved}
use Rattle.std.specs.Cmp.{IsTotalOrder}
use Rattle.std.proofs.lemmas.List.{map-append}
use Rattle.std.proofs.lemmas.List.Elements.{length_all_zip}
use Rattle.sketch_base.specs.Lengths.{takes}
use Rattle.sketch_base.proofs.plays.Plays.{length-left, length-taken, length-half, length-sort}
use Rattle.sketch_req.specs.Actions.{bag_of, compact_action}
use Rattle.sketch_req.specs.Schedule.{Layout, new_layout, layout_of, layouts_of, layout_at, is_full, nominal, taken, compacted, filled, compact_level, compacted_at, retained_of}
use Rattle.sketch_req.specs.Sections.{IsLegalK}
use Rattle.sketch_req.specs.Walk.{IsPlaced, AreLevels}
use Rattle.sketch_req.specs.declared.RankAccuracy.{RankAccuracy}
use Rattle.sketch_req.specs.declared.RankAccuracy.TheVariants.{HighRank, LowRank}
use Rattle.sketch_req.proofs.walks.Actions.{action_draws, gives_up_few, compaction_is_action, top_compaction_is_action, alike-sym}
use Rattle.sketch_req.proofs.layouts.Layouts.{length-layouts, layout-here, layout-next, compacted-here, two-counts, IsAround, around, set-at, set-next, get-next}
use Rattle.sketch_req.proofs.sections.Sections.{is_plan}

-- Which levels a walk moves, and that the others stay as they are.

-- without actions nothing is moved
pub moved-none : {A : Type 0} (ls : List (Level A)) → AreMoved {A = A} [] ls ls
moved-none ls = record { stays = λ h none e. refl; sorted = λ h none e. absurd (false≢true e) }

moved-append : {A : Type 0} (xs ys : List (Action A)) (h : ℕ) → is_moved (xs ++ ys) h ≡ (is_moved xs h || is_moved ys h)
moved-append [] ys h = refl
moved-append {A} (x ∷ xs) ys h = grind (arith, common_steps, moved-append xs ys h)

-- actions after others
pub moved-more : {A : Type 0} (xs ys : List (Action A)) (ls ms ns : List (Level A)) → AreMoved xs ls ms → AreMoved ys ms ns → AreMoved (xs ++ ys) ls ns
moved-more {A} xs ys ls ms ns s t = grind (arith, common_steps, or_parts, moved-append, false≢true)

-- Joins and Puts move nothing
pub joins-move : {A : Type 0} (n i : ℕ) (rest : List (Action A)) (h : ℕ) → is_moved (joins_actions n i ++ rest) h ≡ is_moved rest h
joins-move zero i rest h = refl
joins-move (suc n) i rest h = joins-move n (suc i) rest h

-- actions that move the same levels
pub moved-alike : {A : Type 0} (xs ys : List (Action A)) (ls ns : List (Level A)) → ((h : ℕ) → is_moved ys h ≡ is_moved xs h) → AreMoved xs ls ns → AreMoved ys ls ns
moved-alike xs ys ls ns e m = grind (arith, common_steps)

-- a compaction into the level above moves only these two levels
pub moved-around : {A : Type 0} (coin : Coin) (part : Taken) (below rest rest' : List (Level A)) (old new upper : Level A) → new.is_sorted ≡ true → upper.is_sorted ≡ true →
    ((i : ℕ) (none : Level A) → get_or rest' i none ≡ get_or rest (suc i) none) →
    AreMoved (Compact (length below) coin part ∷ []) (below ++ old ∷ rest) (below ++ new ∷ upper ∷ rest')
moved-around {A} coin part below rest rest' old new upper one two above = record {
  stays = λ h none e.
      let off = or_parts (h == length below) (h == suc (length below)) (or_parts ((h == length below) || (h == suc (length below))) false e).0 in
      stays below h none (λ q. false≢true (sym off.0 ∙ eq-eqb h (length below) q)) (λ q. false≢true (sym off.1 ∙ eq-eqb h (suc (length below)) q));
  sorted = λ h none e. sorted below h none (either h (length below) (h == length below) (h == suc (length below)) refl refl e);
}
  where
    either : (h n : ℕ) (a b : Bool) → (h == n) ≡ a → (h == suc n) ≡ b → ((a || b) || false) ≡ true → (h ≡ n) ⊎ (h ≡ suc n)
    either h n true b p q e = inl (eqb-true h n p)
    either h n false true p q e = inr (eqb-true h (suc n) q)
    either h n false false p q e = absurd (false≢true e)

    stays : (below : List (Level A)) (h : ℕ) (none : Level A) → (h ≡ length below → ⊥) → (h ≡ suc (length below) → ⊥) →
        get_or (below ++ new ∷ upper ∷ rest') h none ≡ get_or (below ++ old ∷ rest) h none
    stays [] zero none a b = absurd (a refl)
    stays [] (suc zero) none a b = absurd (b refl)
    stays [] (suc (suc i)) none a b = above i none
    stays (x ∷ below) zero none a b = refl
    stays (x ∷ below) (suc h) none a b = stays below h none (λ q. a (ap suc q)) (λ q. b (ap suc q))

    sorted : (below : List (Level A)) (h : ℕ) (none : Level A) → (h ≡ length below) ⊎ (h ≡ suc (length below)) → (get_or (below ++ new ∷ upper ∷ rest') h none).is_sorted ≡ true
    sorted [] zero none e = one
    sorted [] (suc zero) none e = two
    sorted (x ∷ below) (suc h) none (inl q) = sorted below h none (inl (omega (arith, q)))
    sorted (x ∷ below) (suc h) none (inr q) = sorted below h none (inr (omega (arith, q)))
    sorted below h none (inl q) = absurd (omega (arith, q))
    sorted below h none (inr q) = absurd (omega (arith, q))

-- One step of a walk: a level is compacted into the one above.

-- ---- the levels around a place

-- the action of a compaction of level h
abbrev pub compact_of : {A : Type 0} → ℕ → RankAccuracy → ℕ → List (Level A) → Action A
compact_of k accuracy h levels = compact_level k accuracy h (layouts_of levels)

-- the levels after it, under the next bit
pub record IsStep {A : Type 0} (cmp : A → A → Ordering) (k : ℕ) (accuracy : RankAccuracy) (h : ℕ) (next : Bool) (ls ns : List (Level A)) : Type 0 where
  pub bag : AlikeReq cmp (act cmp (compact_of k accuracy h ls) next (alone (bag_of ls))).bag (bag_of ns)
  pub layouts : layouts_of ns ≡ compacted_at k h (layouts_of ls)
  pub placed : AreLevels cmp k accuracy 0 ns
  pub moved : AreMoved (compact_of k accuracy h ls ∷ []) ls ns

-- the layouts of the levels around a place
pub layouts-around : {A : Type 0} (below rest : List (Level A)) (x : Level A) → layouts_of (below ++ x ∷ rest) ≡ layouts_of below ++ layout_of x ∷ layouts_of rest
layouts-around below rest x = map-append layout_of below (x ∷ rest)

layout-there : {A : Type 0} (below rest : List (Level A)) (x : Level A) → layout_at (layouts_of (below ++ x ∷ rest)) (length below) ≡ layout_of x
layout-there [] rest x = refl
layout-there (b ∷ below) rest x = layout-there below rest x

-- what a full level gives up
pub record GivesUp {A : Type 0} (k : ℕ) (old : Level A) : Type 0 where
  pub takes : takes_any old ≡ true
  pub within : taken k (layout_of old) ≤ length old.items
  pub even : taken k (layout_of old) % 2 ≡ 0
  pub some : 4 ≤ taken k (layout_of old)
  pub count : taken_count old ≡ taken k (layout_of old)

takes-side : (accuracy : RankAccuracy) (count length : ℕ) → takes (taken_side accuracy count) length ≡ min count length
takes-side HighRank count length = refl
takes-side LowRank count length = refl

-- the level above a level, or a fresh one if there is none; and the levels above that one
abbrev pub upper_of : {A : Type 0} → ℕ → RankAccuracy → ℕ → List (Level A) → Level A
upper_of k accuracy h [] = fresh [] true h k accuracy
upper_of k accuracy h (u ∷ above) = u

abbrev pub above_of : {A : Type 0} → List (Level A) → List (Level A)
above_of [] = []
above_of (u ∷ above) = above

-- the levels with a fresh one added if there is none above level h
abbrev pub raised : {A : Type 0} → ℕ → RankAccuracy → ℕ → List (Level A) → List (Level A)
raised k accuracy h levels = if h + 1 == length levels then levels ++ fresh [] true (h + 1) k accuracy ∷ [] else levels

raised-around : {A : Type 0} (k : ℕ) (accuracy : RankAccuracy) (below rest : List (Level A)) (x : Level A) →
    raised k accuracy (length below) (below ++ x ∷ rest) ≡ below ++ x ∷ upper_of k accuracy (length below + 1) rest ∷ above_of rest
raised-around k accuracy below [] x = grind (arith, common_steps, eq-eqb, length-append, append_assoc)
raised-around k accuracy below (u ∷ above) x = grind (arith, common_steps, ne_eqb, length-append)

layouts-step : {A : Type 0} (k : ℕ) (accuracy : RankAccuracy) (h n : ℕ) (rest : List (Level A)) (upper' : Level A) → layout_of upper' ≡ filled n (layout_of (upper_of k accuracy h rest)) →
    layout_of upper' ∷ layouts_of (above_of rest) ≡ with_level new_layout 0 (filled n) (layouts_of rest)
layouts-step k accuracy h n [] upper' e = ap (λ (l : Layout). l ∷ []) e
layouts-step k accuracy h n (u ∷ above) upper' e = ap (λ (l : Layout). l ∷ layouts_of above) e

-- the level at a place, which is compacted
pub record IsOpened {A : Type 0} (cmp : A → A → Ordering) (k : ℕ) (accuracy : RankAccuracy) (h : ℕ) (ls : List (Level A)) (old : Level A) : Type 0 where
  pub layout : layout_at (layouts_of ls) h ≡ layout_of old
  pub placed : IsPlaced cmp k accuracy h old

-- the level above
pub record IsUpper {A : Type 0} (k h : ℕ) (ls ms : List (Level A)) (upper : Level A) : Type 0 where
  pub layout : layout_of upper ≡ layout_at (layouts_of ls) (h + 1)
  pub few : (layout_at (layouts_of ls) h).count + length upper.items ≤ retained_of (layouts_of ls)

raised-set : {A : Type 0} (k : ℕ) (accuracy : RankAccuracy) (h : ℕ) (ls ms : List (Level A)) (old new : Level A) (r : IsAround ls h old) → ms ≡ raised k accuracy h (set ls h new) →
    ms ≡ r.below ++ new ∷ upper_of k accuracy (length r.below + 1) r.rest ∷ above_of r.rest
raised-set {A = A} k accuracy h ls ms old new r e = grind (arith, common_steps, set-at, raised-around)

upper-is : {A : Type 0} (k : ℕ) (accuracy : RankAccuracy) (h : ℕ) (ls ms : List (Level A)) (old new upper : Level A) (r : IsAround ls h old) →
    ms ≡ raised k accuracy h (set ls h new) → upper ≡ get_or ms (h + 1) upper → upper ≡ upper_of k accuracy (length r.below + 1) r.rest
upper-is {A = A} k accuracy h ls ms old new upper r m u = grind (arith, common_steps, raised-set, get-next)

upper-there : {A : Type 0} (k : ℕ) (accuracy : RankAccuracy) (h : ℕ) (ls ms : List (Level A)) (old new upper : Level A) → h < length ls → old ≡ get_or ls h old →
    ms ≡ raised k accuracy h (set ls h new) → upper ≡ get_or ms (h + 1) upper → IsUpper k h ls ms upper
upper-there {A = A} k accuracy h ls ms old new upper within e m u =
    let r = around ls h old within e in
    let up : upper ≡ upper_of k accuracy (length r.below + 1) r.rest = upper-is k accuracy h ls ms old new upper r m u in
    let all : layouts_of ls ≡ layouts_of r.below ++ layout_of old ∷ layouts_of r.rest = ap layouts_of r.whole ∙ layouts-around r.below r.rest old in
    let i : h + 1 ≡ suc (length (layouts_of r.below)) = omega (arith, r.place, length-layouts r.below) in
    let j : h ≡ length (layouts_of r.below) = omega (arith, r.place, length-layouts r.below) in
    let there : layout_at (layouts_of ls) (h + 1) ≡ layout_at (layouts_of r.rest) 0 = ap₂ layout_at all i ∙ layout-next (layouts_of r.below) (layouts_of r.rest) (layout_of old) in
    let here : layout_at (layouts_of ls) h ≡ layout_of old = ap₂ layout_at all j ∙ layout-here (layouts_of r.below) (layouts_of r.rest) (layout_of old) in
    let c : layout_of upper ≡ layout_at (layouts_of ls) (h + 1) = ap layout_of up ∙ (first r.rest (length r.below + 1) ∙ sym there) in
    let two = two-counts (layouts_of r.below) (layouts_of r.rest) (layout_of old) in
    record {
      layout = c;
      few = omega (arith, ap (λ (l : Layout). l.count) c, two, ap retained_of all, ap (λ (l : Layout). l.count) there, ap (λ (l : Layout). l.count) here);
    }
  where
    first : (rest : List (Level A)) (i : ℕ) → layout_of (upper_of k accuracy i rest) ≡ layout_at (layouts_of rest) 0
    first [] i = refl
    first (u ∷ rest) i = refl

module _ {A : Type 0} {cmp : A → A → Ordering} where
  -- the levels around a place
  placed-at : (k : ℕ) (accuracy : RankAccuracy) (h : ℕ) (below rest : List (Level A)) (x : Level A) → AreLevels cmp k accuracy h (below ++ x ∷ rest) →
      IsPlaced cmp k accuracy (h + length below) x × AreLevels cmp k accuracy (suc (h + length below)) rest
  placed-at k accuracy h [] rest x a = let e : h ≡ h + 0 = omega arith in (subst (λ (i : ℕ). IsPlaced cmp k accuracy i x) e a.0, subst (λ (i : ℕ). AreLevels cmp k accuracy (suc i) rest) e a.1)
  placed-at k accuracy h (b ∷ below) rest x a = grind (arith, common_steps, placed-at k accuracy (suc h) below rest x a.1)

  placed-with : (k : ℕ) (accuracy : RankAccuracy) (h : ℕ) (below rest rest' : List (Level A)) (x y : Level A) → AreLevels cmp k accuracy h (below ++ x ∷ rest) →
      IsPlaced cmp k accuracy (h + length below) y → AreLevels cmp k accuracy (suc (h + length below)) rest' → AreLevels cmp k accuracy h (below ++ y ∷ rest')
  placed-with k accuracy h [] rest rest' x y a p q = grind (arith, common_steps)
  placed-with k accuracy h (b ∷ below) rest rest' x y a p q =
      let e : h + suc (length below) ≡ suc h + length below = omega arith in
      (a.0, placed-with k accuracy (suc h) below rest rest' x y a.1 (subst (λ (i : ℕ). IsPlaced cmp k accuracy i y) e p) (subst (λ (i : ℕ). AreLevels cmp k accuracy (suc i) rest') e q))

  gives_up : (order : IsTotalOrder cmp) (k : ℕ) (accuracy : RankAccuracy) (h : ℕ) (old : Level A) → IsPlaced cmp k accuracy h old → nominal k (layout_of old) ≤ length old.items → GivesUp k old
  gives_up order k accuracy h old p full =
      let f = gives_up_few order old p.sound (rw p.k_is full) in
      let i = is_plan k old.state old.doublings (length old.items) (subst IsLegalK p.k_is p.sound.legal_k) p.sound.few_doublings (let s = p.sound.size_at_least in rw p.k_is at s) in
      record { takes = f.0; within = i.within; even = i.even; some = i.full full; count = rw p.k_is refl }

  -- ---- what a step does

  -- the level after it, and the one above
  pub length-up : (k : ℕ) (old new : Level A) (coin : Bool) (up : List A) → GivesUp k old → IsCompacted cmp old coin up new →
      (length new.items ≡ length old.items - taken k (layout_of old)) × (length up ≡ taken k (layout_of old) / 2)
  length-up k old new coin up g c =
      let side = taken_side old.accuracy (taken_count old) in
      let kept = length_all_zip (λ x y. cmp x y ≡ Equal) (parted cmp old).0 new.items c.items_are in
      let went = length_all_zip (λ x y. cmp x y ≡ Equal) (half coin (parted cmp old).1) up c.up_is in
      let left = length-left cmp side false old.items in
      let gone = length-taken cmp side false old.items in
      let count = takes-side old.accuracy (taken_count old) (length old.items) in
      let halves : length (parted cmp old).1 ≡ 2 * (taken k (layout_of old) / 2) = omega (arith, gone, count, g.count, g.within, g.even) in
      (omega (arith, left, kept, count, g.count, g.within), omega (arith, went, length-half coin (taken k (layout_of old) / 2) (parted cmp old).1 halves))

  pub length-taken_in : (upper upper' : Level A) (up : List A) → IsTakenIn cmp upper up upper' → length upper'.items ≡ length upper.items + length up
  length-taken_in upper upper' up t = grind (arith, common_steps, length_all_zip, length-sort, length-append)

  layout-compacted : (k : ℕ) (accuracy : RankAccuracy) (h : ℕ) (old new : Level A) (coin : Bool) (up : List A) → IsPlaced cmp k accuracy h old → GivesUp k old →
      IsCompacted cmp old coin up new → layout_of new ≡ compacted k (layout_of old)
  layout-compacted k accuracy h old new coin up p g c =
      let count = (length-up k old new coin up g c).0 in
      rw (c.rest_is, g.takes, count, p.k_is) refl

  layout-taken_in : (upper upper' : Level A) (up : List A) (n : ℕ) → IsTakenIn cmp upper up upper' → length up ≡ n → layout_of upper' ≡ filled n (layout_of upper)
  layout-taken_in upper upper' up n t e = grind (arith, common_steps, length-taken_in)

  -- the action at a place is that of its level
  action-of : (k : ℕ) (accuracy : RankAccuracy) (h place : ℕ) (ls : List (Level A)) (old : Level A) →
      layout_at (layouts_of ls) h ≡ layout_of old → IsPlaced cmp k accuracy place old → compact_of k accuracy h ls ≡ compact_action h old
  action-of k accuracy h place ls old layout p = rw (layout, ← p.k_is, ← p.accuracy_is) refl

  pub placed-new : (k : ℕ) (accuracy : RankAccuracy) (h : ℕ) (old new : Level A) (coin : Bool) (up : List A) → IsPlaced cmp k accuracy h old → IsCompacted cmp old coin up new →
      IsLevel cmp new → IsPlaced cmp k accuracy h new
  placed-new k accuracy h old new coin up p c sound = grind (arith, common_steps)

  placed-taken : (k : ℕ) (accuracy : RankAccuracy) (h : ℕ) (upper upper' : Level A) (up : List A) → upper.k ≡ k → upper.accuracy ≡ accuracy → upper.lg_weight ≡ h →
      IsTakenIn cmp upper up upper' → IsLevel cmp upper' → IsPlaced cmp k accuracy h upper'
  placed-taken k accuracy h upper upper' up a b c t sound = grind (arith, common_steps)

  step-around : (order : IsTotalOrder cmp) (k : ℕ) (accuracy : RankAccuracy) (next : Bool) (below rest : List (Level A)) (old new upper' : Level A) (up : List A) →
      AreLevels cmp k accuracy 0 (below ++ old ∷ rest) → nominal k (layout_of old) ≤ length old.items →
      IsCompacted cmp old (coin_of old next) up new → IsTakenIn cmp (upper_of k accuracy (length below + 1) rest) up upper' → IsLevel cmp new → IsLevel cmp upper' →
      IsStep cmp k accuracy (length below) next (below ++ old ∷ rest) (below ++ new ∷ upper' ∷ above_of rest)
  step-around order k accuracy next below rest old new upper' up levels full c t sound sound' =
      let at = placed-at k accuracy 0 below rest old levels in
      let z : 0 + length below ≡ length below = omega arith in
      let g = gives_up order k accuracy (0 + length below) old at.0 full in
      let one = length-up k old new (coin_of old next) up g c in
      let lower = layout-compacted k accuracy (0 + length below) old new (coin_of old next) up at.0 g c in
      let upper = layout-taken_in (upper_of k accuracy (length below + 1) rest) upper' up (taken k (layout_of old) / 2) t one.1 in
      record {
        bag = subst (λ a. AlikeReq cmp (act cmp a next (alone (bag_of (below ++ old ∷ rest)))).bag (bag_of (below ++ new ∷ upper' ∷ above_of rest)))
            (sym (action-of k accuracy (length below) (0 + length below) (below ++ old ∷ rest) old (layout-there below rest old) at.0)) (alike-sym order _ _ (bag rest t g.takes));
        layouts = layouts-around below (upper' ∷ above_of rest) new
            ∙ (ap₂ (λ (x : Layout) (ls : List Layout). layouts_of below ++ x ∷ ls) lower (layouts-step k accuracy (length below + 1) (taken k (layout_of old) / 2) rest upper' upper)
            ∙ (sym (compacted-here k (layouts_of below) (layouts_of rest) (layout_of old))
            ∙ ap₂ (λ (h : ℕ) (ls : List Layout). compacted_at k h ls) (length-layouts below) (sym (layouts-around below rest old))));
        placed = placed-with k accuracy 0 below rest (upper' ∷ above_of rest) old new levels (placed-new k accuracy (0 + length below) old new (coin_of old next) up at.0 c sound) (above rest at.1 t);
        moved = moved-around _ _ below rest (above_of rest) old new upper' (ap (λ (l : Level A). l.is_sorted) c.rest_is) (ap (λ (l : Level A). l.is_sorted) t.rest_is) (same rest);
      }
    where
      same : (rest : List (Level A)) (i : ℕ) (none : Level A) → get_or (above_of rest) i none ≡ get_or rest (suc i) none
      same [] zero none = refl
      same [] (suc i) none = refl
      same (u ∷ above) i none = refl

      bag : (rest : List (Level A)) → IsTakenIn cmp (upper_of k accuracy (length below + 1) rest) up upper' → takes_any old ≡ true →
          AlikeReq cmp (bag_of (below ++ new ∷ upper' ∷ above_of rest)) (act cmp (compact_action (length below) old) next (alone (bag_of (below ++ old ∷ rest)))).bag
      bag [] t takes = top_compaction_is_action order below old new (fresh [] true (length below + 1) k accuracy) upper' next up refl refl takes c t
      bag (u ∷ above) t takes = compaction_is_action order below above old new u upper' next up takes c t

      above : (rest : List (Level A)) → AreLevels cmp k accuracy (suc (0 + length below)) rest → IsTakenIn cmp (upper_of k accuracy (length below + 1) rest) up upper' →
          AreLevels cmp k accuracy (suc (0 + length below)) (upper' ∷ above_of rest)
      above [] a t = let e : length below + 1 ≡ suc (0 + length below) = omega arith in
          (placed-taken k accuracy (suc (0 + length below)) (fresh [] true (length below + 1) k accuracy) upper' up refl refl e t sound', tt)
      above (u ∷ rest) a t = (placed-taken k accuracy (suc (0 + length below)) u upper' up a.0.k_is a.0.accuracy_is a.0.place_is t sound', a.1)

  -- the level at a place
  pub opened : (k : ℕ) (accuracy : RankAccuracy) (h : ℕ) (ls : List (Level A)) (old : Level A) → AreLevels cmp k accuracy 0 ls → h < length ls → old ≡ get_or ls h old →
      IsOpened cmp k accuracy h ls old
  opened k accuracy h ls old levels within e =
      let r = around ls h old within e in
      let p = placed-at k accuracy 0 r.below r.rest old (subst (λ (l : List (Level A)). AreLevels cmp k accuracy 0 l) r.whole levels) in
      let z : 0 + length r.below ≡ h = omega (arith, r.place) in
      record {
        layout = ap₂ (λ (l : List (Level A)) (i : ℕ). layout_at (layouts_of l) i) r.whole (sym r.place) ∙ layout-there r.below r.rest old;
        placed = subst (λ (i : ℕ). IsPlaced cmp k accuracy i old) z p.0;
      }

  -- what it gives up
  pub gives_up-there : (order : IsTotalOrder cmp) (k : ℕ) (accuracy : RankAccuracy) (h : ℕ) (ls : List (Level A)) (old : Level A) → IsOpened cmp k accuracy h ls old →
      is_full k (layout_at (layouts_of ls) h) ≡ true → GivesUp k old
  gives_up-there order k accuracy h ls old o full = gives_up order k accuracy h old o.placed (leb-true _ _ (sym (ap (is_full k) o.layout) ∙ full))

  -- the level above, what comes up into it, and that both together hold no more items than all levels
  pub comes-up : (order : IsTotalOrder cmp) (k : ℕ) (accuracy : RankAccuracy) (h : ℕ) (ls ms : List (Level A)) (old new upper : Level A)
      (coin : Bool) (up : List A) → AreLevels cmp k accuracy 0 ls → h < length ls → is_full k (layout_at (layouts_of ls) h) ≡ true → old ≡ get_or ls h old →
      ms ≡ raised k accuracy h (set ls h new) → upper ≡ get_or ms (h + 1) upper → IsCompacted cmp old coin up new →
      (layout_of upper ≡ layout_at (layouts_of ls) (h + 1)) × (length up ≡ taken k (layout_at (layouts_of ls) h) / 2)
      × (length upper.items + length up ≤ retained_of (layouts_of ls))
  comes-up order k accuracy h ls ms old new upper coin up levels within full e m u c =
      let o = opened k accuracy h ls old levels within e in
      let g = gives_up-there order k accuracy h ls old o full in
      let n = length-up k old new coin up g c in
      let a = upper-there k accuracy h ls ms old new upper within e m u in (
        a.layout,
        omega (arith, n.1, ap (taken k) o.layout),
        omega (arith, n.1, a.few, g.within, ap (λ (l : Layout). l.count) o.layout, ap (λ (l : Layout). l.count) a.layout),
      )

  -- a step as a whole
  pub stepped : (order : IsTotalOrder cmp) (k : ℕ) (accuracy : RankAccuracy) (h : ℕ) (next : Bool) (ls ms : List (Level A)) (old new upper upper' : Level A) (up : List A) →
      AreLevels cmp k accuracy 0 ls → h < length ls → is_full k (layout_at (layouts_of ls) h) ≡ true → old ≡ get_or ls h old → ms ≡ raised k accuracy h (set ls h new) →
      upper ≡ get_or ms (h + 1) upper →
      IsCompacted cmp old (coin_of old next) up new → IsTakenIn cmp upper up upper' → IsLevel cmp new → IsLevel cmp upper' →
      IsStep cmp k accuracy h next ls (set ms (h + 1) upper')
  stepped order k accuracy h next ls ms old new upper upper' up levels within full e m u c t sound sound' =
      let r = around ls h old within e in
      let i : h + 1 ≡ suc (length r.below) = omega (arith, r.place) in
      let whole : below-old r ≡ ls = sym r.whole in
      let full' : nominal k (layout_of old) ≤ length old.items = leb-true _ _ (sym (ap (is_full k) (opened k accuracy h ls old levels within e).layout) ∙ full) in
      let t' = subst (λ (l : Level A). IsTakenIn cmp l up upper') (upper-is k accuracy h ls ms old new upper r m u) t in
      let done = step-around order k accuracy next r.below r.rest old new upper' up (subst (λ (l : List (Level A)). AreLevels cmp k accuracy 0 l) r.whole levels) full' c t' sound sound' in
      let after : set ms (h + 1) upper' ≡ r.below ++ new ∷ upper' ∷ above_of r.rest =
      ap₂ (λ (l : List (Level A)) (i : ℕ). set l i upper') (raised-set k accuracy h ls ms old new r m) i
      ∙ set-next r.below new (upper_of k accuracy (length r.below + 1) r.rest) upper' (above_of r.rest) in
      subst (λ (l : List (Level A)). IsStep cmp k accuracy h next ls l) (sym after)
      (subst (λ (l : List (Level A)). IsStep cmp k accuracy h next l (r.below ++ new ∷ upper' ∷ above_of r.rest)) whole
      (subst (λ (i : ℕ). IsStep cmp k accuracy i next (below-old r) (r.below ++ new ∷ upper' ∷ above_of r.rest)) r.place done))
    where
      below-old : IsAround ls h old → List (Level A)
      below-old r = r.below ++ old ∷ r.rest

  -- a compaction draws a coin exactly if its action does
  pub coins-there : {S : Type 0} (order : IsTotalOrder cmp) (k : ℕ) (accuracy : RankAccuracy) (h : ℕ) (ls : List (Level A)) (old : Level A)
      (before drawn after : S) → AreLevels cmp k accuracy 0 ls → h < length ls → is_full k (layout_at (layouts_of ls) h) ≡ true → old ≡ get_or ls h old →
      after ≡ (if draws_coin old then drawn else before) → after ≡ (if draws (compact_of k accuracy h ls) then drawn else before)
  coins-there order k accuracy h ls old before drawn after levels within full there e =
      let o = opened k accuracy h ls old levels within there in
      let g = gives_up-there order k accuracy h ls old o full in
      let a = action-of k accuracy h h ls old o.layout o.placed in
      e ∙ ap (λ (b : Bool). if b then drawn else before) (sym (ap draws a ∙ action_draws h old g.takes))

-- ---- what a place tells

-- the k and the accuracy of a level at a place are those of the sketch
pub own-there : {A : Type 0} (cmp : A → A → Ordering) (k : ℕ) (accuracy : RankAccuracy) (h : ℕ) (ls : List (Level A)) (old : Level A) (own : ℕ × RankAccuracy) →
    AreLevels cmp k accuracy 0 ls → h < length ls → old ≡ get_or ls h old → own ≡ (old.k, old.accuracy) → own ≡ (k, accuracy)
own-there cmp k accuracy h ls old own levels within e tells =
    let p = (opened k accuracy h ls old levels within e).placed in
    tells ∙ ap₂ (λ (m : ℕ) (a : RankAccuracy). (m, a)) p.k_is p.accuracy_is
