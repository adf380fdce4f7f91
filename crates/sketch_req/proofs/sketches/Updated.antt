-- Updates: an item is appended to level 0, and then perhaps a walk follows; also for many items, one after another.
use Rattle.std.proofs.Common.{rules, ◌≡◌, ℕ, ◌+◌, ◌-◌, ◌^◌, ◌<◌, Bool, true, false, List, [], ◌∷◌, ◌++◌, length, Option, Some, refl, ap, ◌∙◌, subst, arith, eqb-true, length-append, Ordering, is_gt, sym, ◌↔◌, ◌⊎◌, suc, ◌≤◌, get_or, set, take, drop, append-nil, append_assoc, inl, inr, Equal}
use Rattle.std.proofs.lemmas.Grind.{common_steps}
use Rattle.std.specs.Cmp.{IsTotalOrder}
use Rattle.std.specs.List.{AllByRecursion}
use Rattle.std.specs.Option.{option_to_list}
use Rattle.std.proofs.lemmas.Bool.{and_parts, cases_lt, false≢true}
use Rattle.std.proofs.lemmas.Cmp.{tied_itself}
use Rattle.std.proofs.lemmas.List.Sums.{sum_by-cons}
use Rattle.std.specs.Prelude.{IsTrue}
use Rattle.sketch_base.specs.Bag.{retained}
use Rattle.sketch_base.specs.Extremes.{IsLeastOf, IsGreatestOf}
use Rattle.sketch_base.specs.Random.{bits_from, after_draws}
use Rattle.sketch_base.specs.Trace.{Put, Action, draws_of}
use Rattle.sketch_base.proofs.order.Order.{short_sorted}
use Rattle.sketch_base.proofs.bags.Parts.{all-append, all-flat, all-by-level}
use Rattle.sketch_base.proofs.order.Extremes.{least-one, greatest-one, least-parts, greatest-parts, least_of_both, greatest_of_both}
use Rattle.sketch_req.specs.Actions.{bag_of}
use Rattle.sketch_req.specs.Level.{Level, IsLevel, appended}
use Rattle.sketch_req.specs.Moved.{is_moved}
use Rattle.sketch_req.specs.Schedule.{Layout, layout_of, layouts_of, put_layouts, retained_of, weight_of, nominal_sum, nominal, are_full, actions_if_full, layouts_if_full, walk_actions, walk_layouts, update_layouts, update_actions}
use Rattle.sketch_req.specs.Sketch.{Req, sketch_of, items_in, HasEnds, IsSmall, IsSound, IsUpdated, Ties, least_with, greatest_with, update_of, coins_of_update}
use Rattle.sketch_req.specs.Walk.{AreLevels, AreActed, AreWalked, appended_first, room_of, AreWalkedIfFull}
use Rattle.sketch_req.specs.declared.RankAccuracy.{RankAccuracy}
use Rattle.sketch_req.proofs.walks.Actions.{levels-refl}
use Rattle.sketch_req.proofs.sketches.Extremes.{Holds, IsNew, acted-all, held, held-left, held-right, has-ends, holds-same, one-before, small-acted}
use Rattle.sketch_req.proofs.walks.Steps.{moved-alike}
use Rattle.sketch_req.proofs.views.Views.{retained_is}
use Rattle.sketch_req.proofs.sketches.Sound.{one_of, alone, kept_sketch, few-placed, some-weight}
use Rattle.sketch_req.proofs.walks.Walks.{acted-start, acted-more}
use Rattle.std.proofs.lemmas.List.{drop_more}
use Rattle.sketch_base.proofs.plays.Plays.{draws-append, source-composes}
use Rattle.sketch_req.specs.ScheduleLaws.{AreLayouts, updates_actions, updates_layouts}
use Rattle.sketch_req.specs.Updates.{AreLeft, AreTakenInTurn}
use Rattle.sketch_req.proofs.sketches.Copies.{own-levels}
use Rattle.sketch_req.proofs.sections.Sections.{nominal-few}
use Rattle.sketch_req.proofs.layouts.Capacities.{update_spares}

-- An update: an item is appended to level 0, and then perhaps a walk follows.

sound-appended : {A : Type 0} {cmp : A → A → Ordering} (level : Level A) (x : A) → IsLevel cmp level → length level.items + 1 < 2 ^ 32 → IsLevel cmp (appended level x)
sound-appended {cmp = cmp} level x l few = grind (arith, common_steps, length-append, short_sorted, eqb-true, and_parts)

-- levels stay at their places
pub placed-appended : {A : Type 0} (cmp : A → A → Ordering) (k : ℕ) (accuracy : RankAccuracy) (ls : List (Level A)) (x : A) → AreLevels cmp k accuracy 0 ls →
    retained_of (layouts_of ls) < 4294967295 → AreLevels cmp k accuracy 0 (appended_first ls x)
placed-appended cmp k accuracy [] x a few = a
placed-appended cmp k accuracy (l ∷ ls) x a few = grind (arith, common_steps, sum_by-cons, sound-appended)

-- their layouts are those after the item was put in
pub layouts-appended : {A : Type 0} (ls : List (Level A)) (x : A) → 0 < length ls → layouts_of (appended_first ls x) ≡ put_layouts (layouts_of ls)
layouts-appended [] x h = absurd (omega arith)
layouts-appended (l ∷ ls) x h = ap (λ (n : ℕ). let m : Layout = record { count = n; state = l.state; doublings = l.doublings } in m ∷ layouts_of ls) (length-append l.items (x ∷ []))

-- they hold one more item
pub retained-appended : {A : Type 0} (ls : List (Level A)) (x : A) → 0 < length ls → retained_of (layouts_of (appended_first ls x)) ≡ retained_of (layouts_of ls) + 1
retained-appended [] x h = absurd (omega arith)
retained-appended (l ∷ ls) x h = grind (arith, common_steps, length-append, sum_by-cons)

-- their nominal capacities stay as they are
pub nominal-appended : {A : Type 0} (k : ℕ) (ls : List (Level A)) (x : A) → nominal_sum k (layouts_of (appended_first ls x)) ≡ nominal_sum k (layouts_of ls)
nominal-appended k [] x = refl
nominal-appended k (l ∷ ls) x = omega (arith, sum_by-cons (nominal k) (layout_of (appended l x)) (layouts_of ls), sum_by-cons (nominal k) (layout_of l) (layouts_of ls))

-- the number of levels stays as it is
pub length-appended : {A : Type 0} (ls : List (Level A)) (x : A) → length (appended_first ls x) ≡ length ls
length-appended [] x = refl
length-appended (l ∷ ls) x = refl

-- their weight is one more
pub weight-appended : {A : Type 0} (ls : List (Level A)) (x : A) → 0 < length ls → weight_of (layouts_of (appended_first ls x)) ≡ weight_of (layouts_of ls) + 1
weight-appended [] x h = absurd (omega arith)
weight-appended (l ∷ ls) x h = omega (arith, length-append l.items (x ∷ []))

-- the levels after the item was put in
pub acted-put : {A : Type 0} {cmp : A → A → Ordering} {S : Type 0} (order : IsTotalOrder cmp) (bit : S → Bool) (next : S → S) (source : S) (k : ℕ) (accuracy : RankAccuracy)
    (ls : List (Level A)) (x : A) → 0 < length ls →
    AreLevels cmp k accuracy 0 ls → retained_of (layouts_of ls) < 4294967295 →
    AreActed cmp bit next source source k accuracy (Put 0 x ∷ []) (put_layouts (layouts_of ls)) 1 ls (appended_first ls x)
acted-put {cmp = cmp} order bit next source k accuracy [] x h a few = absurd (omega arith)
acted-put {cmp = cmp} order bit next source k accuracy (l ∷ ls) x h a few = search (rules, levels-refl, layouts-appended, placed-appended, weight-appended, retained-appended)

-- if the levels are not full together, nothing more happens
pub acted-spare : {A : Type 0} {cmp : A → A → Ordering} {S : Type 0} (order : IsTotalOrder cmp) (bit : S → Bool) (next : S → S) (source : S) (k : ℕ) (accuracy : RankAccuracy)
    (ls : List (Level A)) → AreLevels cmp k accuracy 0 ls → are_full k (layouts_of ls) ≡ false →
    AreWalked cmp bit next source source k accuracy (room_of k accuracy ls) (layouts_if_full k (layouts_of ls)) ls ls
acted-spare order bit next source k accuracy ls a full = rw full (acted-start order bit next source k accuracy ls a)

-- if they are full together, the walk follows
pub acted-walk : {A : Type 0} {cmp : A → A → Ordering} {S : Type 0} (bit : S → Bool) (next : S → S) (source after : S) (k : ℕ) (accuracy : RankAccuracy) (ls ns : List (Level A)) →
    are_full k (layouts_of ls) ≡ true →
    AreWalked cmp bit next source after k accuracy (walk_actions k accuracy (layouts_of ls)) (walk_layouts k (layouts_of ls)) ls ns →
    AreWalked cmp bit next source after k accuracy (room_of k accuracy ls) (layouts_if_full k (layouts_of ls)) ls ns
acted-walk bit next source after k accuracy ls ns full w = rw full w

-- an update as a whole
acted-update : {A : Type 0} {cmp : A → A → Ordering} {S : Type 0} (order : IsTotalOrder cmp) (bit : S → Bool) (next : S → S) (source after : S) (s : Req A) (x : A)
    (ns : List (Level A)) → IsSound cmp s → retained_of (layouts_of s.levels) < 4294967295 →
    AreActed cmp bit next source after s.k s.accuracy (room_of s.k s.accuracy (appended_first s.levels x)) (layouts_if_full s.k (layouts_of (appended_first s.levels x))) 0
    (appended_first s.levels x) ns →
    AreActed cmp bit next source after s.k s.accuracy (update_of s x) (update_layouts s.k (layouts_of s.levels)) 1 s.levels ns
acted-update {cmp = cmp} order bit next source after s x ns sound few room =
    let put = acted-put order bit next source s.k s.accuracy s.levels x sound.has_level sound.placed few in
    let both = acted-more order bit next source source after s.k s.accuracy _ _ _ _ 1 0 s.levels (appended_first s.levels x) ns put room in
    let e = layouts-appended s.levels x sound.has_level in
    subst (λ (ls : List Layout). AreActed cmp bit next source after s.k s.accuracy (Put 0 x ∷ actions_if_full s.k s.accuracy ls) (layouts_if_full s.k ls) 1 s.levels ns) e both

all-appended : {A : Type 0} (P : A → Type 0) (ls : List (Level A)) (x : A) → P x → AllByRecursion P (items_in ls) → AllByRecursion P (items_in (appended_first ls x))
all-appended P [] x p a = a
all-appended {A} P (l ∷ ls) x p a =
    let item : Level A → List A = λ level. level.items in
    let r = all-by-level P item (l ∷ ls) a in
    all-flat P item (appended l x ∷ ls) (all-append P l.items (x ∷ []) r.0 (p, tt), r.1)

module _ {A S : Type 0} {cmp : A → A → Ordering} {bit : S → Bool} {next : S → S} {source after : S} (order : IsTotalOrder cmp) (s : Req A) (x : A) (ns : List (Level A))
    (least greatest : Option A) (sound : IsSound cmp s)
    (room : AreActed cmp bit next source after s.k s.accuracy (room_of s.k s.accuracy (appended_first s.levels x)) (layouts_if_full s.k (layouts_of (appended_first s.levels x))) 0
    (appended_first s.levels x) ns)
    (il : IsLeastOf cmp (option_to_list s.least ++ x ∷ []) least) (ig : IsGreatestOf cmp (option_to_list s.greatest ++ x ∷ []) greatest) where
  updated-ends : HasEnds cmp (sketch_of s.k s.accuracy (s.n + 1) ns least greatest)
  updated-ends =
      let t : Req A = sketch_of s.k s.accuracy (s.n + 1) ns least greatest in
      let here : Holds order (Some x) (Some x) x = (ap is_gt (tied_itself order x), ap is_gt (tied_itself order x)) in
      let now = held-right order s.least (Some x) least s.greatest (Some x) greatest il ig (x ∷ []) (here, tt) in
      let old = held-left order s.least (Some x) least s.greatest (Some x) greatest il ig (items_in s.levels) (held order s sound) in
      has-ends order t x now.0 (acted-all order s.k s.accuracy (appended_first s.levels x) ns room (Holds order least greatest) (holds-same order least greatest)
      (all-appended (Holds order least greatest) s.levels x now.0 old))

  -- if one level is left, there was one before
  updated-small : length ns ≡ 1 → IsSmall cmp (sketch_of s.k s.accuracy (s.n + 1) ns least greatest)
  updated-small one =
      let ms = appended_first s.levels x in
      let some = length-appended s.levels x in
      let before = one-before order s.k s.accuracy ms ns room (omega (arith, some, sound.has_level)) one in
      let small = sound.one_level (omega (arith, some, before)) in
      let l = one_of s.levels (omega (arith, some, before)) in
      let e : ms ≡ appended l.0 x ∷ [] = ap (λ (ls : List (Level A)). appended_first ls x) l.1 in
      let items : items_in ms ≡ items_in s.levels ++ x ∷ [] = (alone ms (appended l.0 x) e).items ∙ ap (λ (xs : List A). xs ++ x ∷ []) (sym (alone s.levels l.0 l.1).items) in
      small-acted order s.k s.accuracy ms ns room (s.n + 1) least greatest (omega (arith, before)) one
      (subst (λ (xs : List A). IsLeastOf cmp xs least) (sym items) (least-parts order (items_in s.levels) (x ∷ []) s.least (Some x) least small.least_is (least-one order x) il))
      (subst (λ (xs : List A). IsGreatestOf cmp xs greatest) (sym items) (greatest-parts order (items_in s.levels) (x ∷ []) s.greatest (Some x) greatest small.greatest_is (greatest-one order x) ig))
      (λ few. rw e (subst (AllByRecursion (IsNew order)) l.1 (small.fresh_if_few (omega (arith, few)))))

-- an update as a whole: the sketch is sound and is the updated one, and the coins are drawn from the source
pub updated_sketch : {A : Type 0} {cmp : A → A → Ordering} {S : Type 0} (order : IsTotalOrder cmp) (bit : S → Bool) (next : S → S) (source after : S) (s : Req A) (x : A)
    (ns : List (Level A)) (least greatest : Option A) →
    IsSound cmp s → s.n < 2 ^ 64 - 1 → retained_of (layouts_of s.levels) < 4294967295 →
    AreWalked cmp bit next source after s.k s.accuracy (room_of s.k s.accuracy (appended_first s.levels x)) (layouts_if_full s.k (layouts_of (appended_first s.levels x)))
    (appended_first s.levels x) ns →
    Ties cmp (least_with cmp x s.least) least → Ties cmp (greatest_with cmp x s.greatest) greatest →
    IsSound cmp (sketch_of s.k s.accuracy (s.n + 1) ns least greatest)
    × IsUpdated cmp s x (bits_from bit next source (coins_of_update s x)) (sketch_of s.k s.accuracy (s.n + 1) ns least greatest)
    × (after ≡ after_draws next source (coins_of_update s x))
updated_sketch {A = A} {cmp = cmp} order bit next source after s x ns least greatest sound small few room tl tg =
    let a = acted-update order bit next source after s x ns sound few room.acted in
    let e = layouts-appended s.levels x sound.has_level in
    let il = least_of_both order x s.least least tl in
    let ig = greatest_of_both order x s.greatest greatest tg in
    let moved = moved-alike (room_of s.k s.accuracy (appended_first s.levels x)) (update_of s x) (appended_first s.levels x) ns
    (λ h. ap (λ (ls : List Layout). is_moved {A = A} (actions_if_full s.k s.accuracy ls) h) (sym e)) room.moved in (
      kept_sketch (sketch_of s.k s.accuracy (s.n + 1) ns least greatest) sound.legal_k a.placed
          (omega (arith, a.weigh, sound.weighs_n)) (omega arith) (omega (arith, small)) (omega (arith, a.fewer, few))
          (updated-ends order s x ns least greatest sound room.acted il ig) (λ one. updated-small order s x ns least greatest sound room.acted il ig one),
      assumption,
      a.source_is,
    )

-- an update that is not refused
pub not-full : {A : Type 0} {cmp : A → A → Ordering} (s s' : Req A) (b : Bool) → s ≡ s' → IsSound cmp s → (IsTrue b ↔ ((s'.n ≡ 2 ^ 64 - 1) ⊎ (retained (bag_of s'.levels) ≡ 4294967295))) → b ≡ false →
    (s.n < 2 ^ 64 - 1) × (retained_of (layouts_of s.levels) < 4294967295)
not-full {A} s s' b e sound h off = grind (arith, common_steps, false≢true, cases_lt, retained_is)

-- Levels that take in clones of items, one after another.

-- ---- layouts

-- the layouts of levels are legal
pub legal-layouts : {A : Type 0} (cmp : A → A → Ordering) (k : ℕ) (accuracy : RankAccuracy) (h : ℕ) (ls : List (Level A)) → AreLevels cmp k accuracy h ls → AreLayouts k (layouts_of ls)
legal-layouts cmp k accuracy h [] a = tt
legal-layouts cmp k accuracy h (l ∷ ls) a =
    (record { few = a.0.sound.few_doublings; size = rw a.0.k_is at a.0.sound.size_at_least }, legal-layouts cmp k accuracy (suc h) ls a.1)

-- the nominal capacities add up to fewer items than a level may hold
pub nominal-small : {A : Type 0} (cmp : A → A → Ordering) (k : ℕ) (accuracy : RankAccuracy) (ls : List (Level A)) → AreLevels cmp k accuracy 0 ls → nominal_sum k (layouts_of ls) < 4294967295
nominal-small cmp k accuracy ls a =
    let few = few-placed cmp k accuracy 0 ls (omega arith) a in
    let n = nominal-few cmp k accuracy 0 ls a in
    omega (arith, few, n)

-- ---- updates by lists

module _ {A : Type 0} (k : ℕ) (accuracy : RankAccuracy) where
  -- updates by some items and then by more
  pub actions-append : (ls : List Layout) (xs ys : List A) → updates_actions k accuracy ls (xs ++ ys) ≡ updates_actions k accuracy ls xs ++ updates_actions k accuracy (updates_layouts k ls xs) ys
  actions-append ls [] ys = refl
  actions-append ls (x ∷ xs) ys =
      ap (λ (zs : List (Action A)). update_actions k accuracy ls x ++ zs) (actions-append (update_layouts k ls) xs ys)
      ∙ sym (append_assoc (update_actions k accuracy ls x) (updates_actions k accuracy (update_layouts k ls) xs) (updates_actions k accuracy (updates_layouts k (update_layouts k ls) xs) ys))

  -- fewer items take no more coins
  pub draws-few : (ls : List Layout) (xs ys : List A) → draws_of (updates_actions k accuracy ls xs) ≤ draws_of (updates_actions k accuracy ls (xs ++ ys))
  draws-few ls xs ys =
      let e = ap draws_of (actions-append ls xs ys) in
      omega (arith, e, draws-append (updates_actions k accuracy ls xs) (updates_actions k accuracy (updates_layouts k ls xs) ys))

  layouts-append : (ls : List Layout) (xs ys : List A) → updates_layouts k ls (xs ++ ys) ≡ updates_layouts k (updates_layouts k ls xs) ys
  layouts-append ls [] ys = refl
  layouts-append ls (x ∷ xs) ys = layouts-append (update_layouts k ls) xs ys

-- ---- levels

module _ {A S : Type 0} (next : S → S) where
  -- what is left after no items, and after some and then more
  pub left-none : (source : S) (k : ℕ) (accuracy : RankAccuracy) (ls : List (Level A)) → retained_of (layouts_of ls) < 4294967295 → AreLeft {A = A} next source source k accuracy ls [] ls
  left-none source k accuracy ls few = record { weigh = omega arith; few = few; layouts = refl; source_is = refl }

  pub left-append : (source middle after : S) (k : ℕ) (accuracy : RankAccuracy) (ls ms ns : List (Level A)) (xs ys : List A) → AreLeft next source middle k accuracy ls xs ms →
      AreLeft next middle after k accuracy ms ys ns → AreLeft next source after k accuracy ls (xs ++ ys) ns
  left-append source middle after k accuracy ls ms ns xs ys s t =
      let first : List (Action A) = updates_actions k accuracy (layouts_of ls) xs in
      let more : List (Action A) = updates_actions k accuracy (updates_layouts k (layouts_of ls) xs) ys in
      record {
        weigh = omega (arith, s.weigh, t.weigh, length-append xs ys);
        few = t.few;
        layouts = t.layouts ∙ (ap (λ (os : List Layout). updates_layouts k os ys) s.layouts ∙ sym (layouts-append k accuracy (layouts_of ls) xs ys));
        source_is =
            t.source_is ∙ (ap (λ (os : List Layout). after_draws next middle (draws_of (updates_actions {A = A} k accuracy os ys))) s.layouts
            ∙ (ap (λ (m : S). after_draws next m (draws_of more)) s.source_is
            ∙ (sym (source-composes next source first more) ∙ ap (λ (ps : List (Action A)). after_draws next source (draws_of ps)) (sym (actions-append k accuracy (layouts_of ls) xs ys)))));
      }

module _ {A S : Type 0} {cmp : A → A → Ordering} (order : IsTotalOrder cmp) (bit : S → Bool) (next : S → S) (k : ℕ) (accuracy : RankAccuracy) where
  -- some items, and then more
  pub taken-append : (source middle after : S) (ls ms ns : List (Level A)) (xs ys : List A) → AreTakenInTurn cmp bit next source middle k accuracy ls xs ms →
      AreTakenInTurn cmp bit next middle after k accuracy ms ys ns → AreTakenInTurn cmp bit next source after k accuracy ls (xs ++ ys) ns
  taken-append source middle after ls ms ns [] ys t u =
      subst (λ (s : S). AreTakenInTurn cmp bit next s after k accuracy ls ys ns) t.1
      (subst (λ (l : List (Level A)). AreTakenInTurn cmp bit next middle after k accuracy l ys ns) t.0 u)
  taken-append source middle after ls ms ns (x ∷ xs) ys t u = record {
    clone = t.clone;
    is_clone = t.is_clone;
    after = t.after;
    levels = t.levels;
    walked = t.walked;
    rest = taken-append t.after middle after t.levels ms ns xs ys t.rest u;
  }

  -- one item
  pub taken-one : (source after : S) (ls ns : List (Level A)) (x clone : A) → cmp x clone ≡ Equal → AreWalkedIfFull cmp bit next source after k accuracy (appended_first ls clone) ns →
      AreTakenInTurn cmp bit next source after k accuracy ls (x ∷ []) ns
  taken-one source after ls ns x clone same walked = record { clone = clone; is_clone = same; after = after; levels = ns; walked = walked; rest = (refl, refl) }

  -- what is known of the levels after it, and of the source of coins
  pub record AreKept (source after : S) (ls : List (Level A)) (xs : List A) (ns : List (Level A)) : Type 0 where
    pub some : 0 < length ns
    pub placed : AreLevels cmp k accuracy 0 ns
    pub left : AreLeft next source after k accuracy ls xs ns

  -- after one item
  kept-one : (source after : S) (ls ns : List (Level A)) (x clone : A) → 0 < length ls → AreLevels cmp k accuracy 0 ls → retained_of (layouts_of ls) < 4294967295 →
      AreWalkedIfFull cmp bit next source after k accuracy (appended_first ls clone) ns → AreKept source after ls (x ∷ []) ns
  kept-one source after ls ns x clone some a few walked =
      let put = acted-put order bit next source k accuracy ls clone some a few in
      let room = subst (λ (os : List Layout). AreActed cmp bit next source after k accuracy (actions_if_full k accuracy os) (layouts_if_full k os) 0 (appended_first ls clone) ns)
      (layouts-appended ls clone some) walked.acted in
      let both = acted-more order bit next source source after k accuracy _ _ _ _ 1 0 ls (appended_first ls clone) ns put room in
      let legal = (own-levels cmp k accuracy ls some a).legal in
      let laid : layouts_of ns ≡ update_layouts k (layouts_of ls) = both.layouts_are in
      let small = nominal-small cmp k accuracy ns both.placed in
      let few_left : retained_of (layouts_of ns) < 4294967295 =
      elim (update_spares k legal (layouts_of ls) (legal-layouts cmp k accuracy 0 ls a)) [
        | inl less ↦ omega (arith, less, few, ap retained_of laid)
        | inr less ↦ omega (arith, less, small, ap retained_of laid, ap (nominal_sum k) laid)
      ] in
      let drawn : draws_of (updates_actions k accuracy (layouts_of ls) (x ∷ [])) ≡ draws_of (update_actions k accuracy (layouts_of ls) clone) =
      ap draws_of (append-nil (update_actions k accuracy (layouts_of ls) x)) in
      record {
        some = some-weight ns (omega (arith, both.weigh));
        placed = both.placed;
        left = record { weigh = both.weigh; few = few_left; layouts = laid; source_is = both.source_is ∙ sym (ap (after_draws next source) drawn) };
      }

  -- after all items
  pub are-kept : (source after : S) (ls ns : List (Level A)) (xs : List A) → 0 < length ls → AreLevels cmp k accuracy 0 ls → retained_of (layouts_of ls) < 4294967295 →
      AreTakenInTurn cmp bit next source after k accuracy ls xs ns → AreKept source after ls xs ns
  are-kept source after ls ns [] some a few t =
      rw (t.0, t.1) (record { some = some; placed = a; left = left-none next source k accuracy ls few })
  are-kept source after ls ns (x ∷ xs) some a few t =
      let one = kept-one source t.after ls t.levels x t.clone some a few t.walked in
      let rest = are-kept t.after after t.levels ns xs one.some one.placed one.left.few t.rest in
      record { some = rest.some; placed = rest.placed; left = left-append next source t.after after k accuracy ls t.levels ns (x ∷ []) xs one.left rest.left }

-- ---- level 0

-- the next of some items
pub next-item : {A : Type 0} (xs : List A) (n : ℕ) (x : A) → n < length xs → x ≡ get_or xs n x → take 1 (drop n xs) ≡ x ∷ []
next-item {A} xs n x l e = ap (take 1) (drop_more xs n x l) ∙ ap (λ (z : A). z ∷ []) (sym e)

-- if an item was appended to level 0, it was appended to the levels as a whole
pub first-appended : {A : Type 0} (ls : List (Level A)) (first new : Level A) (x : A) → 0 < length ls → first ≡ get_or ls 0 first → new ≡ appended first x →
    set ls 0 new ≡ appended_first ls x
first-appended [] first new x some is e = absurd (omega (arith, some))
first-appended {A} (l ∷ ls) first new x some is e = ap (λ (m : Level A). m ∷ ls) (e ∙ ap (λ (m : Level A). appended m x) is)
