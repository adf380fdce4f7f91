-- REQ sketches do what the rules of their kind say. Copies, and what is read from an image, are as a run requires.
use Rattle.std.proofs.Common.{arith, ◌≡◌, ℕ, zero, suc, false, List, [], ◌∷◌, map, Option, refl, sym, ap, ◌∙◌, subst, Ordering, ◌≢◌, ◌⊎◌, ◌++◌, ◌+◌, ◌-◌, ◌^◌, ◌<◌, ◌≤◌, ◌==◌, if◌then◌else◌, Bool, true, None, Some, Result, Ok, Err, ap₂, inl, inr, eqb-true}
use Rattle.std.proofs.lemmas.Grind.{common_steps}
use mathlib.Core.Path.{fun_ext}
use Rattle.std.specs.Cmp.{IsTotalOrder}
use Rattle.std.specs.List.{AllZip}
use Rattle.std.proofs.lemmas.List.Elements.{length_all_zip}
use Rattle.sketch_base.specs.Bag.{Bag, AlikeReq, SameItems, sort, retained}
use Rattle.sketch_base.proofs.order.Order.{sorted_items, SameCounts-from_items}
use Rattle.sketch_req.specs.Actions.{bag_of, coins_of}
use Rattle.sketch_req.specs.Imaged.{IsSameLevel, IsSameSketch}
use Rattle.sketch_req.specs.ImageLaws.{without_coins}
use Rattle.sketch_req.specs.Level.{Level}
use Rattle.sketch_req.specs.LevelImage.{forgotten}
use Rattle.sketch_req.specs.Schedule.{Layout, layouts_of, retained_of, merge_layouts}
use Rattle.sketch_req.specs.Sketch.{Req, IsSound}
use Rattle.sketch_req.specs.declared.RankAccuracy.{RankAccuracy}
use Rattle.sketch_req.proofs.images.Written.{layouts_forgotten}
use Rattle.quantile_sketches.specs.ReqKind.{req_kind, req_shape}
use Rattle.quantile_sketches.specs.ReqRules.{ReqShape, new_shape, is_same, is_too_much, req_rules}
use Rattle.quantile_sketches.specs.RunSteps.{IsPlainCopy, IsReadBack, Refuses, Acts, merge_of, IsFresh, IsUpdated, IsWeighted, IsRedrawn, IsSketchMerged}
use Rattle.std.specs.Prelude.{◌↔◌, IsTrue, IfOk, IfErr}
use Rattle.std.proofs.lemmas.Result.{IfOk-weaker}
use Rattle.std.proofs.lemmas.Bool.Decides.{nat_tests}
use Rattle.std.proofs.lemmas.Bool.{cases_Bool, both_ways, eqb-false, false_from_ne_true, false≢true, not-true, or_parts, true_from_ne_false}
use Rattle.std.specs.Option.{option_to_list}
use Rattle.std.specs.declared.alloc.Global.{Global}
use Rattle.std.specs.declared.vec.Vec.{Vec}
use Rattle.sketch_base.specs.Extremes.{IsLeastOf, IsGreatestOf}
use Rattle.sketch_base.specs.Random.{bits_from, after_draws}
use Rattle.sketch_base.specs.Spelling.{SpellingsTie}
use Rattle.sketch_base.specs.declared.error.ErrorKind.{ErrorKind}
use Rattle.sketch_base.specs.declared.error.ErrorKind.TheVariants.{InvalidArgument, OutOfMemory}
use Rattle.sketch_base.proofs.images.Spelled.{IsPrefixFree}
use Rattle.sketch_req.specs.Redrawn.{coins_of_redraw}
use Rattle.sketch_req.proofs.images.Texts.{one_sketch}
use Rattle.sketch_req.proofs.views.Views.{retained_is}
use Rattle.sketch_req.proofs.sketches.Copies.{layouts-redrawn, redraws-are, redraws-draw}
use Rattle.quantile_sketches.specs.Calls.{Obeys, ObeysRules}
use Rattle.quantile_sketches.specs.Rules.{none_if}
use Rattle.quantile_sketches.specs.ReqBehaviour.{req, IsEmptyOf, IsMade, IsImaged, IsLoaded, IsUnfit, TakesIn, DrawsAnew, JoinsIn}
use Rattle.quantile_sketches.proofs.kll.Obeys.{imaged, never, unless-none, no-err, refuses-by, err-of, unread}
use Rattle.quantile_sketches.proofs.req.Rules.{may_be_k, not-false, same_accuracy, legal_k, enough_room, merged_as, no_merge}

-- Copies of a REQ sketch, and what is read from its image, are as a run requires.

-- a shape from its parts
abbrev pub shape : ℕ → RankAccuracy → ℕ → List Layout → ReqShape
shape k accuracy n layouts = record { k = k; accuracy = accuracy; n = n; layouts = layouts }

-- shapes with the same parts are the same
pub same-shape : (k k' : ℕ) (a a' : RankAccuracy) (n n' : ℕ) (ls ls' : List Layout) → k ≡ k' → a ≡ a' → n ≡ n' → ls ≡ ls' → shape k a n ls ≡ shape k' a' n' ls'
same-shape k k' a a' n n' ls ls' p q r l = λ i. shape (p i) (q i) (r i) (l i)

-- levels that are the same as others, place by place
module _ {A : Type 0} {cmp : A → A → Ordering} (o : IsTotalOrder cmp) where
  abbrev AreSame : List (Level A) → List (Level A) → Type 0
  AreSame = AllZip (IsSameLevel cmp)

  same-layouts : (xs ys : List (Level A)) → AreSame xs ys → layouts_of ys ≡ layouts_of xs
  same-layouts [] [] c = refl
  same-layouts (x ∷ xs) (y ∷ ys) c = grind (arith, common_steps, length_all_zip, same-layouts xs ys c.1)
  same-layouts xs ys c = absurd c

  same-levels : (xs ys : List (Level A)) → AreSame xs ys → AllZip (λ xs ys. SameItems cmp (sort cmp xs) (sort cmp ys)) (map (λ level. level.items) xs) (map (λ level. level.items) ys)
  same-levels [] [] c = tt
  same-levels (x ∷ xs) (y ∷ ys) c = (sorted_items o x.items y.items (SameCounts-from_items o x.items y.items c.0.items), same-levels xs ys c.1)
  same-levels xs ys c = absurd c

  same-coins : (xs ys : List (Level A)) → AreSame xs ys → (h : ℕ) → coins_of xs h ≡ coins_of ys h
  same-coins [] [] c h = refl
  same-coins (x ∷ xs) (y ∷ ys) c zero = sym (ap (λ (l : Level A). l.coin) c.0.rest)
  same-coins (x ∷ xs) (y ∷ ys) c (suc h) = same-coins xs ys c.1 h
  same-coins xs ys c h = absurd c

  same-bag : (xs ys : List (Level A)) → AreSame xs ys → AlikeReq cmp (bag_of xs) (bag_of ys)
  same-bag xs ys c = record { levels = same-levels xs ys c; kept = same-coins xs ys c }

  -- in the bag of levels that forgot their coins all kept bits are false
  forgotten-bag : (xs : List (Level A)) → bag_of (map forgotten xs) ≡ record (bag_of xs) { kept = λ h. false }
  forgotten-bag xs = λ i. let b : Bag A = record { levels = lists xs i; is_sorted = false; kept = fun_ext (none xs) i } in b
    where
      lists : (xs : List (Level A)) → map (λ (level : Level A). level.items) (map forgotten xs) ≡ map (λ level. level.items) xs
      lists [] = refl
      lists (x ∷ xs) = ap (λ ls. x.items ∷ ls) (lists xs)

      none : (xs : List (Level A)) (h : ℕ) → coins_of (map forgotten xs) h ≡ false
      none [] h = refl
      none (x ∷ xs) zero = refl
      none (x ∷ xs) (suc h) = none xs h

  module _ (spelling : A → Option (List ℕ)) where
    -- a copy
    pub copy_is : (s t : Req A) → IsSameSketch cmp s t → IsSound cmp t → IsPlainCopy (req_kind cmp spelling) s t
    copy_is s t c sound = record {
      shape_is = same-shape _ _ _ _ _ _ _ _ c.k c.accuracy c.n (same-layouts s.levels t.levels c.levels);
      alike = same-bag s.levels t.levels c.levels;
      least_is = c.least;
      greatest_is = c.greatest;
      sound = sound;
    }

    -- what is read back
    pub read_is : (s t : Req A) → IsSameSketch cmp (without_coins s) t → IsSound cmp t → IsReadBack (req_kind cmp spelling) s t
    read_is s t c sound = record {
      shape_is = same-shape _ _ _ _ _ _ _ _ c.k c.accuracy c.n (same-layouts (map forgotten s.levels) t.levels c.levels ∙ layouts_forgotten s.levels);
      alike = subst (λ (b : Bag A). AlikeReq cmp b (bag_of t.levels)) (forgotten-bag s.levels) (same-bag (map forgotten s.levels) t.levels c.levels);
      least_is = c.least;
      greatest_is = c.greatest;
      sound = sound;
    }

-- REQ sketches do what the rules of their kind say.

-- an accuracy is the same as itself
pub same-itself : (a : RankAccuracy) → is_same a a ≡ true
same-itself a = grind (arith, common_steps)

-- a merge that the rules refuse
unfit : {A : Type 0} (s p : Req A) → no_merge (req_shape s) (req_shape p) ≡ true →
    (s.accuracy ≢ p.accuracy) ⊎ ((2 ^ 64 ≤ s.n + p.n) ⊎ (2 ^ 32 ≤ retained (bag_of s.levels) + retained (bag_of p.levels)))
unfit s p is = grind (arith, common_steps, same-itself, nat_tests)

module _ {A : Type 0} {cmp : A → A → Ordering} (o : IsTotalOrder cmp) (spelling : A → Option (List ℕ)) where
  -- an item is the extreme of itself alone
  own-least : (x : Option A) → IsLeastOf cmp (option_to_list x ++ []) x
  own-least x = grind (arith, common_steps)

  own-greatest : (x : Option A) → IsGreatestOf cmp (option_to_list x ++ []) x
  own-greatest x = grind (arith, common_steps)

  empty-of : (k : ℕ) (accuracy : RankAccuracy) (shape : Option ReqShape) (s : Req A) → IsEmptyOf cmp spelling k accuracy s → shape ≡ Some (new_shape k accuracy) →
      IsFresh (req_kind cmp spelling) shape s
  empty-of k accuracy shape s is e = grind (arith, common_steps, same-shape)

  made : (config : ℕ × RankAccuracy) (r : Result (Req A) ErrorKind) → IsMade cmp spelling config r →
      IfOk r (IsFresh (req_kind cmp spelling) ((req_rules {A = A}).made config)) × IfErr r (Refuses ((req_rules {A = A}).made config))
  made config (Ok s) h = grind (arith, common_steps, empty-of, may_be_k, true_from_ne_false, no-err, both_ways)
  made config (Err e) h = grind (arith, common_steps, refuses-by, may_be_k, err-of, both_ways, not-true, legal_k, not-false)

  read-back : IsPrefixFree spelling → SpellingsTie cmp spelling → (s : Req A) (bytes : Vec ℕ Global) (r : Result (Req A) ErrorKind) → IsImaged cmp spelling s (Ok bytes) →
      IsLoaded cmp spelling bytes.items r →
      IfOk r (IsReadBack (req_kind cmp spelling) s) × IfErr r (λ e. e ≡ OutOfMemory)
  read-back free ties s bytes (Ok t) w h = (read_is o spelling s t (one_sketch o spelling free ties bytes.items (without_coins s) t [] h.0.0.0 w.0.1 h.0.0.1).0 h.0.1, tt)
  read-back free ties s bytes (Err e) w h = (tt, unread e h.1 (λ d. h.2 d (without_coins s) [] w.0.1))

  -- two sketches whose merge the rules accept fit
  fits : (s p : Req A) → IsSound cmp s → IsSound cmp p → no_merge (req_shape s) (req_shape p) ≡ false →
      (s.accuracy ≡ p.accuracy) × (s.n + p.n < 2 ^ 64) × (retained (bag_of s.levels) + retained (bag_of p.levels) < 2 ^ 32)
  fits s p sound other is = grind (arith, common_steps, same_accuracy, not-false, or_parts, nat_tests)

  -- sound sketches whose merge the rules accept aren't unfit
  unfit-not : (s p : Req A) → IsSound cmp s → IsSound cmp p → IsUnfit cmp spelling s p → no_merge (req_shape s) (req_shape p) ≡ false → ⊥
  unfit-not s p sound other h4 is = grind (arith, common_steps, fits)

  refuses : (redraws : Bool) (s p : Req A) (answer : Bool) → IsSound cmp s → IsSound cmp p → IsTrue answer ↔ IsUnfit cmp spelling s p →
      IsTrue answer ↔ ((req_rules {A = A}).merged redraws (req_shape s) (req_shape p) ≡ None)
  refuses redraws s p answer sound other h = grind (arith, common_steps, unless-none, no_merge, true_from_ne_false, unfit-not, unfit)

  module _ {Source : Type 0} (bit : Source → Bool) (next : Source → Source) where
    -- an update that the rules refuse
    full : (s : Req A) → IsSound cmp s → is_too_much (s.n + 1) (retained_of (layouts_of s.levels) + 1) ≡ true → (s.n ≡ 2 ^ 64 - 1) ⊎ (retained (bag_of s.levels) ≡ 4294967295)
    full s was is = let retains = retained_is s.levels in grind (arith, nat_tests)

    taken : (x : A) (s : Req A) (coins : Source) (r : Result (Unit {0}) ErrorKind) (t : Req A) (coins' : Source) → IsSound cmp s → TakesIn cmp spelling bit next s x coins r t coins' →
        Obeys ((req_rules {A = A}).updated (req_shape s)) (IsUpdated (req_kind cmp spelling) bit next s x coins) s coins r t coins'
    taken x s coins (Ok v) t coins' was h =
        let u = h.2 in
        let shape = same-shape _ _ _ _ _ _ _ _ (sym u.k) (sym u.accuracy) (sym u.n) (sym u.layouts) in
        let accepted = false_from_ne_true (is_too_much (s.n + 1) (retained_of (layouts_of s.levels) + 1)) (λ is. no-err v InvalidArgument (h.0.1 (full s was is))) in
        ((record { shape_is = ap₂ none_if accepted shape; alike = u.bag; least_is = u.least; greatest_is = u.greatest; sound = h.4 }, h.3), tt, tt)
    taken x s coins (Err e) t coins' was h =
        (tt, refuses-by (is_too_much (s.n + 1) (retained_of (layouts_of s.levels) + 1)) _ e (λ is. err-of {T = Unit {0}} e (h.0.1 (full s was is))) good, h.5)
      where
        good : is_too_much (s.n + 1) (retained_of (layouts_of s.levels) + 1) ≡ false → e ≡ OutOfMemory
        good is =
            let room = enough_room (s.n + 1) (retained_of (layouts_of s.levels) + 1) is in
            h.1 (λ n. omega (arith, n, room.0)) (λ n. omega (arith, n, retained_is s.levels, room.1))

    redrawn : (s : Req A) (coins : Source) (r : Result (Unit {0}) ErrorKind) (t : Req A) (coins' : Source) → DrawsAnew cmp spelling bit next s coins r t coins' →
        Obeys (Some (req_shape s)) (IsRedrawn (req_kind cmp spelling) bit next s coins) s coins r t coins'
    redrawn s coins (Ok u) t coins' (done, is, drawn, sound) =
        let word = bits_from bit next coins (coins_of_redraw s) in
        let n = redraws-draw A 0 (layouts_of s.levels) in
        let shape : List Layout → ReqShape = λ layouts. record { k = s.k; accuracy = s.accuracy; n = s.n; layouts = layouts } in (
          rw is (rw drawn (
            record {
              shape_is = ap (λ (layouts : List Layout). Some (shape layouts)) (sym (layouts-redrawn word s.levels));
              alike = rw n (redraws-are o word s.levels);
              least_is = own-least s.least;
              greatest_is = own-greatest s.greatest;
              sound = rw is at sound;
            },
            ap (after_draws next coins) (sym n),
          )),
          tt,
          tt,
        )
    redrawn s coins (Err e) t coins' h = absurd (false≢true h.0)

    joined : (redraws : Bool) (p s : Req A) (coins : Source) (r : Result (Unit {0}) ErrorKind) (t : Req A) (coins' : Source) → IsSound cmp p → IsSound cmp s →
        JoinsIn cmp spelling bit next redraws p s coins r t coins' →
        Obeys ((req_rules {A = A}).merged redraws (req_shape s) (req_shape p)) (λ t coins'. IsSketchMerged (req_kind cmp spelling) bit next redraws s p coins t coins' × IsSound cmp t) s coins r t coins'
    joined redraws p s coins (Ok u) t coins' other was h =
        ((record { shape_is = ap₂ none_if accepted shape; empty = λ none. let kept = h.2 same none in (kept.1, kept.2); after = after }, h.5), tt, tt)
      where
        after : 0 < p.n → Acts (req_kind cmp spelling) bit next (Some (req_shape t)) s (bag_of p.levels) (merge_of (req_kind cmp spelling) redraws s p)
            (option_to_list p.least) (option_to_list p.greatest) coins t coins'
        after some = let is = h.3 some in (record { shape_is = refl; alike = is.bag; least_is = is.least; greatest_is = is.greatest; sound = h.5 }, h.4 some)

        accepted : no_merge (req_shape s) (req_shape p) ≡ false
        accepted = false_from_ne_true _ (λ is. no-err u InvalidArgument (h.0.1 (unfit s p is)))

        same : s.accuracy ≡ p.accuracy
        same = (fits s p was other accepted).0

        shape : merged_as (req_shape s) (req_shape p) (if p.n == 0 then layouts_of s.levels else merge_layouts s.k (layouts_of s.levels) (layouts_of p.levels)) ≡ req_shape t
        shape = elim (cases_Bool (p.n == 0)) [
          | inl e ↦
              rw e (same-shape _ _ _ _ _ _ _ _ refl refl (omega (arith, eqb-true p.n 0 e)) refl ∙ ap req_shape (sym (h.2 same (eqb-true p.n 0 e)).1))
          | inr e ↦
              let is = h.3 (omega (arith, eqb-false p.n 0 e)) in
              rw e (same-shape _ _ _ _ _ _ _ _ (sym is.k) (sym is.accuracy) (sym is.n) (sym is.layouts))
        ]
    joined redraws p s coins (Err e) t coins' other was h = (tt, refuses-by (no_merge (req_shape s) (req_shape p)) _ e (λ is. err-of {T = Unit {0}} e (h.0.1 (unfit s p is))) good, h.6)
      where
        good : no_merge (req_shape s) (req_shape p) ≡ false → e ≡ OutOfMemory
        good is = let room = fits s p was other is in h.1 room.0 room.1 room.2

    -- so they obey the rules
    pub req-obeys : IsPrefixFree spelling → SpellingsTie cmp spelling → ObeysRules (req cmp spelling) (req_kind cmp spelling) bit next
    req-obeys free ties = record {
      made = made;
      copied = λ s r h. (IfOk-weaker r _ _ (λ t c. copy_is o spelling s t c.0 c.1) h.0, h.1);
      emptied = λ s t h. empty-of s.k s.accuracy _ t h refl;
      taken = taken;
      taken_weighted = λ x weight s coins r t coins' was h. never ReqShape (IsWeighted (req_kind cmp spelling) bit next s x weight coins) s coins r t coins' h;
      redrawn = λ s coins r t coins' was h. redrawn s coins r t coins' h;
      joined = λ redraws p sound s coins r t coins' was h. joined redraws p s coins r t coins' sound was h;
      refuses = refuses;
      imaged = λ s r sound h. imaged r h.1 h.2 h.3;
      read_back = read-back free ties;
    }
