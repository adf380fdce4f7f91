-- KLL sketches do what the rules of their kind say, and return errors for their reasons alone.
use Rattle.std.proofs.Common.{arith, ◌≡◌, ◌⊎◌, Bool, true, false, Result, Ok, Err, IfOk, IfErr, OnOk, IsErrAnd, is_ok, if◌then◌else◌, refl, ◌≢◌, ℕ, ◌+◌, ◌-◌, ◌^◌, ◌==◌, nat_lt, List, Option, None, Some, sym, ap, ap₂, ◌∙◌, ◌<◌, length, min, inl, inr, eqb-true, Ordering}
use Rattle.std.proofs.lemmas.Grind.{common_steps}
use Rattle.std.specs.Prelude.{IsErrOf, MatchResult, ◌↔◌, IsTrue}
use Rattle.sketch_base.specs.declared.error.ErrorKind.{ErrorKind}
use Rattle.sketch_base.specs.declared.error.ErrorKind.TheVariants.{InvalidArgument, InvalidData, OutOfMemory}
use Rattle.quantile_sketches.specs.Rules.{none_if}
use Rattle.quantile_sketches.specs.RunSteps.{Refuses, Acts, merge_of, IsFresh, IsReadBack, IsUpdated, IsWeighted, IsRedrawn, IsSketchMerged}
use Rattle.std.proofs.lemmas.Result.{IfOk-weaker}
use Rattle.std.proofs.lemmas.Bool.{cases_lt, eqb-false, lt-ltb, ne_eqb, ltb-true, ltb-false, false_from_ne_true, false≢true}
use Rattle.std.specs.Cmp.{IsTotalOrder}
use Rattle.std.specs.Option.{option_to_list}
use Rattle.std.specs.Ordering.{is_eq}
use Rattle.std.specs.declared.alloc.Global.{Global}
use Rattle.std.specs.declared.vec.Vec.{Vec}
use Rattle.sketch_base.specs.Bag.{empty_bag}
use Rattle.sketch_base.specs.Lengths.{bag_lengths}
use Rattle.sketch_base.specs.Random.{bits_from}
use Rattle.sketch_base.specs.Spelling.{SpellingsTie}
use Rattle.sketch_base.proofs.images.Spelled.{IsPrefixFree}
use Rattle.sketch_kll.specs.Merged.{coins_of_merge}
use Rattle.sketch_kll.specs.Sketch.{Kll, bag_of, coins_of_update, IsSound}
use Rattle.sketch_kll.specs.Weighted.{coins_of_weighted}
use Rattle.sketch_kll.proofs.layout.Alike.{length-lengths}
use Rattle.sketch_kll.proofs.merges.Actions.{merge_lengths}
use Rattle.sketch_kll.proofs.plays.Updates.{update_lengths, alike-lengths}
use Rattle.sketch_kll.proofs.weights.Weighted.{weighted_lengths_are}
use Rattle.sketch_kll.proofs.images.Texts.{one_sketch_lem}
use Rattle.quantile_sketches.specs.Calls.{Obeys, ObeysRules}
use Rattle.quantile_sketches.specs.KllBehaviour.{kll, IsMade, IsImaged, IsLoaded, IsTooHeavy, TakesIn, TakesWeighted, MergesIn}
use Rattle.quantile_sketches.specs.KllRules.{KllShape, empty_shape, updated_shape, weighted_shape, merged_shape, kll_shape, kll_rules, kll_kind}
use Rattle.quantile_sketches.proofs.kll.Rules.{weighted-lengths, merge-lengths, shape-same, copy_is, is_bad_weight, taken-weight, merged-some, merged-none}

-- Which errors a call may return, by the reasons for which it is refused.

-- a call that is accepted isn't refused
pub no-err : {T E : Type 0} (x : T) (e : E) → Ok x ≡ Err e → ⊥
no-err x e same = cc

-- a result has only one error
pub same-err : {T E : Type 0} (e f : E) (r : Result T E) → r ≡ Err e → r ≡ Err f → e ≡ f
same-err e f r one two = cc

-- a call that may run out of memory, with that as a sketch's error
pub memory_told : {T D : Type 0} (P Q : T → Type 0) (o : Result T D) (r : Result T ErrorKind) → MatchResult o (λ x. r ≡ Ok x) (λ _. IsErrAnd r (λ e. e ≡ OutOfMemory)) → IfOk o P → IfOk o Q →
    IfOk r (λ x. P x × Q x) × IfErr r (λ e. e ≡ OutOfMemory)
memory_told P Q o r is p q = grind (arith, common_steps)

-- the same of a call that leaves a list as it was where memory ran out
pub push_told : {T D A : Type 0} (list more same : A) (o : Result T D) (r : Result T ErrorKind) →
    MatchResult o (λ x. r ≡ Ok x) (λ _. IsErrAnd r (λ e. e ≡ OutOfMemory)) → list ≡ (if is_ok o then more else same) →
    OnOk r (list ≡ more) × IfErr r (λ e. e ≡ OutOfMemory)
push_told list more same o r is p = grind (arith, common_steps)

-- if the test holds, the call is refused, and if not, memory ran out
pub refuses-by : {Shape : Type 0} (b : Bool) (shape : Shape) (e : ErrorKind) → (b ≡ true → e ≡ InvalidArgument) → (b ≡ false → e ≡ OutOfMemory) → Refuses (none_if b shape) e
refuses-by b shape e f g = grind (arith, common_steps)

-- the error of a result
pub err-of : {T : Type 0} (e : ErrorKind) → IsErrOf {T = T} (Err e) InvalidArgument → e ≡ InvalidArgument
err-of {T} e h = same-err {T = T} e InvalidArgument (Err e) refl h

-- an image that isn't written is refused, or memory ran out
pub unwritten : (e : ErrorKind) (P : Type 0) → (e ≡ InvalidArgument → P) → (e ≡ InvalidData → ⊥) → ((e ≡ InvalidArgument) × P) ⊎ (e ≡ OutOfMemory)
unwritten e P f d = grind (arith, common_steps)

-- if no data is bad and no argument is refused, memory ran out
pub unread : (e : ErrorKind) → (e ≡ InvalidArgument → ⊥) → (e ≡ InvalidData → ⊥) → e ≡ OutOfMemory
unread e a d = grind (arith, common_steps)

-- KLL sketches do what the rules of their kind say.

-- `none_if` gives nothing exactly if the test holds
pub unless-none : {B : Type 0} (b : Bool) (made : B) → IsTrue b ↔ (none_if b made ≡ None)
unless-none b made = grind (arith, common_steps, false≢true)

-- an image is given, or refused because the sketch has none, or memory runs out
pub imaged : {H : Type 0} (r : Result (Vec ℕ Global) ErrorKind) → OnOk r H → (IsErrOf r InvalidArgument → ¬ H) → IfErr r (λ e. e ≢ InvalidData) →
    OnOk r H × IfErr r (λ e. ((e ≡ InvalidArgument) × (¬ H)) ⊎ (e ≡ OutOfMemory))
imaged r has denied kind = grind (arith, common_steps, unwritten)

-- a call that is always refused
pub never : {S Source : Type 0} (Shape : Type 0) (does : S → Source → Type 0) (s : S) (coins : Source) (r : Result (Unit {0}) ErrorKind) (t : S) (coins' : Source) →
    IsErrOf r InvalidArgument × (t ≡ s) × (coins' ≡ coins) → Obeys {Shape = Shape} None does s coins r t coins'
never Shape does s coins r t coins' h = grind (arith, common_steps, no-err, err-of)

module _ {A : Type 0} {cmp : A → A → Ordering} (o : IsTotalOrder cmp) (spelling : A → Option (List ℕ)) where
  fresh-of : (k : ℕ) (shape : Option KllShape) (s : Kll A) → (s.k ≡ k) × (s.n ≡ 0) × (bag_of s ≡ empty_bag) × (s.least ≡ None) × (s.greatest ≡ None) × IsSound cmp s →
      shape ≡ Some (empty_shape k) → IsFresh (kll_kind cmp spelling) shape s
  fresh-of k shape s is e = grind (arith, common_steps, shape-same)

  made : (k : ℕ) (r : Result (Kll A) ErrorKind) → IsMade cmp spelling k r → IfOk r (IsFresh (kll_kind cmp spelling) ((kll_rules {A = A}).made k)) × IfErr r (Refuses ((kll_rules {A = A}).made k))
  made k (Ok s) h = (fresh-of k _ s h.2 (ap (λ (b : Bool). none_if b (empty_shape k)) (false_from_ne_true _ (λ t. no-err s InvalidArgument (h.0.1 (ltb-true k 8 t))))), tt)
  made k (Err e) h = (tt, refuses-by (nat_lt k 8) (empty_shape k) e (λ t. err-of {T = Kll A} e (h.0.1 (ltb-true k 8 t))) (λ f. h.1 (omega (arith, ltb-false k 8 f))))

  read-back : IsPrefixFree spelling → SpellingsTie cmp spelling → (s : Kll A) (bytes : Vec ℕ Global) (r : Result (Kll A) ErrorKind) → IsImaged cmp spelling s (Ok bytes) →
      IsLoaded cmp spelling bytes.items r →
      IfOk r (IsReadBack (kll_kind cmp spelling) s) × IfErr r (λ e. e ≡ OutOfMemory)
  read-back free ties s bytes (Ok t) w h = (copy_is o spelling s t (one_sketch_lem o (λ x y. is_eq (cmp x y)) (λ x y. refl) spelling free ties bytes.items s t w.0.1 h.0.0).copied h.0.1, tt)
  read-back free ties s bytes (Err e) w h = (tt, unread e h.1 (λ d. h.2 d s w.0.1))

  some-lengths : (s : Kll A) → IsSound cmp s → 0 < length (bag_lengths (bag_of s))
  some-lengths s sound = omega (arith, sound.has_level, length-lengths s.levels)

  module _ {Source : Type 0} (bit : Source → Bool) (next : Source → Source) where
    taken : (x : A) (s : Kll A) (coins : Source) (r : Result (Unit {0}) ErrorKind) (t : Kll A) (coins' : Source) → IsSound cmp s → TakesIn cmp spelling bit next s x coins r t coins' →
        Obeys ((kll_rules {A = A}).updated (kll_shape s)) (IsUpdated (kll_kind cmp spelling) bit next s x coins) s coins r t coins'
    taken x s coins (Ok u) t coins' was h =
        let is = h.2.0 in
        let shape = shape-same (updated_shape (kll_shape s)) (kll_shape t) (sym is.k) (sym is.min_k) (sym is.n)
        (sym (grind (arith, common_steps)) ∙ (sym (update_lengths cmp s.k (bag_of s) x (bits_from bit next coins (coins_of_update s x)) (some-lengths s was)) ∙ alike-lengths o _ (bag_of t) is.bag)) in
        let accepted = ne_eqb s.n (2 ^ 64 - 1) (λ e. no-err u InvalidArgument (h.0.1 e)) in
        ((record { shape_is = ap₂ none_if accepted shape; alike = is.bag; least_is = is.least; greatest_is = is.greatest; sound = h.3 }, h.2.1), tt, tt)
    taken x s coins (Err e) t coins' was h = (
      tt,
      refuses-by (s.n == 2 ^ 64 - 1) (updated_shape (kll_shape s)) e (λ t. err-of {T = Unit {0}} e (h.0.1 (eqb-true s.n (2 ^ 64 - 1) t))) (λ f. h.1 (eqb-false s.n (2 ^ 64 - 1) f)),
      h.4,
    )

    weighted : (x : A) (weight : ℕ) (s : Kll A) (coins : Source) (r : Result (Unit {0}) ErrorKind) (t : Kll A) (coins' : Source) → IsSound cmp s →
        TakesWeighted cmp spelling bit next s x weight coins r t coins' →
        Obeys ((kll_rules {A = A}).updated_weighted (kll_shape s) weight) (IsWeighted (kll_kind cmp spelling) bit next s x weight coins) s coins r t coins'
    weighted x weight s coins (Ok u) t coins' was h =
        let is = h.2 in
        let lengths = weighted_lengths_are cmp o s.k weight (bag_of s) x (bits_from bit next coins (coins_of_weighted s x weight)) (some-lengths s was) in
        let shape = shape-same (weighted_shape (kll_shape s) weight) (kll_shape t) (sym is.k) (sym is.min_k) (sym is.n)
        (sym (weighted-lengths A s.k (bag_lengths (bag_of s)) x weight) ∙ (sym lengths ∙ alike-lengths o _ (bag_of t) is.bag)) in
        let accepted = false_from_ne_true (is_bad_weight weight s.n) (λ bad. no-err u InvalidArgument (h.0.1 (grind (arith)))) in
        ((record { shape_is = ap₂ none_if accepted shape; alike = is.bag; least_is = is.least; greatest_is = is.greatest; sound = h.4 }, h.3), tt, tt)
    weighted x weight s coins (Err e) t coins' was h =
        (tt, refuses-by (is_bad_weight weight s.n) (weighted_shape (kll_shape s) weight) e (λ is. err-of {T = Unit {0}} e (h.0.1 (grind (arith)))) good, h.5)
      where
        good : is_bad_weight weight s.n ≡ false → e ≡ OutOfMemory
        good is = let fits = taken-weight weight s.n is in h.1 fits.0 fits.1 fits.2

    joined : (redraws : Bool) (p s : Kll A) (coins : Source) (r : Result (Unit {0}) ErrorKind) (t : Kll A) (coins' : Source) → IsSound cmp s →
        MergesIn cmp spelling bit next redraws p s coins r t coins' →
        Obeys ((kll_rules {A = A}).merged redraws (kll_shape s) (kll_shape p)) (λ t coins'. IsSketchMerged (kll_kind cmp spelling) bit next redraws s p coins t coins' × IsSound cmp t) s coins r t coins'
    joined true p s coins r t coins' was h = never KllShape (λ t coins'. IsSketchMerged (kll_kind cmp spelling) bit next true s p coins t coins' × IsSound cmp t) s coins r t coins' h
    joined false p s coins (Ok u) t coins' was h = ((record { shape_is = ap₂ none_if accepted shape; empty = λ none. let kept = h.2 none in (kept.1, kept.2); after = after }, h.5), tt, tt)
      where
        after : 0 < p.n → Acts (kll_kind cmp spelling) bit next (Some (kll_shape t)) s (bag_of p) (merge_of (kll_kind cmp spelling) false s p)
            (option_to_list p.least) (option_to_list p.greatest) coins t coins'
        after some = let is = h.3 some in (record { shape_is = refl; alike = is.bag; least_is = is.least; greatest_is = is.greatest; sound = h.5 }, h.4 some)

        accepted : nat_lt (2 ^ 64 - 1) (s.n + p.n) ≡ false
        accepted = false_from_ne_true _ (λ heavy. no-err u InvalidArgument (h.0.1 (omega (arith, ltb-true (2 ^ 64 - 1) (s.n + p.n) heavy))))

        shape : (if p.n == 0 then kll_shape s else merged_shape (kll_shape s) (kll_shape p)) ≡ kll_shape t
        shape = elim (cases_lt 0 p.n) [
          | inl some ↦
              let is = h.3 some in
              let lengths = merge_lengths cmp s.k (record { bag = bag_of s; scratch = bag_of p }) (bits_from bit next coins (coins_of_merge s p)) (some-lengths s was) in
              merged-some (kll_shape s) (kll_shape p) some ∙ shape-same (merged_shape (kll_shape s) (kll_shape p)) (kll_shape t) (sym is.k)
              (ap (λ (n : ℕ). if nat_lt 1 n then min s.min_k p.min_k else s.min_k) (length-lengths p.levels) ∙ sym is.min_k) (sym is.n)
              (sym (merge-lengths A s.k (record { bag = bag_lengths (bag_of s); scratch = bag_lengths (bag_of p) })) ∙ (sym lengths ∙ alike-lengths o _ (bag_of t) is.bag))
          | inr none ↦ merged-none (kll_shape s) (kll_shape p) (omega arith) ∙ ap kll_shape (sym (h.2 (omega arith)).1)
        ]
    joined false p s coins (Err e) t coins' was h = (
      tt,
      refuses-by (nat_lt (2 ^ 64 - 1) (s.n + p.n)) _ e (λ t. err-of {T = Unit {0}} e (h.0.1 (omega (arith, ltb-true (2 ^ 64 - 1) (s.n + p.n) t))))
          (λ f. h.1 (omega (arith, ltb-false (2 ^ 64 - 1) (s.n + p.n) f))),
      h.6,
    )

    refuses : (redraws : Bool) (s p : Kll A) (answer : Bool) → IsTrue answer ↔ (IsTrue redraws ⊎ IsTooHeavy cmp spelling s p) →
        IsTrue answer ↔ ((kll_rules {A = A}).merged redraws (kll_shape s) (kll_shape p) ≡ None)
    refuses true s p answer h = (λ t. refl, λ none. h.1 (inl refl))
    refuses false s p answer h =
        let n = unless-none (nat_lt (2 ^ 64 - 1) (s.n + p.n)) (if p.n == 0 then kll_shape s else merged_shape (kll_shape s) (kll_shape p)) in
        (λ t. n.0 (too-much (h.0 t)), λ none. h.1 (inr (omega (arith, ltb-true (2 ^ 64 - 1) (s.n + p.n) (n.1 none)))))
      where
        too-much : IsTrue false ⊎ IsTooHeavy cmp spelling s p → nat_lt (2 ^ 64 - 1) (s.n + p.n) ≡ true
        too-much h0 = grind (arith, common_steps, false≢true, lt-ltb)

    -- so they obey the rules
    pub kll-obeys : IsPrefixFree spelling → SpellingsTie cmp spelling → ObeysRules (kll cmp spelling) (kll_kind cmp spelling) bit next
    kll-obeys free ties = record {
      made = made;
      copied = λ s r h. (IfOk-weaker r _ _ (λ t c. copy_is o spelling s t c.0 c.1) h.0, h.1);
      emptied = λ s t h. fresh-of s.k _ t (h.0, h.2, h.3, h.4, h.5, h.6) refl;
      taken = taken;
      taken_weighted = weighted;
      redrawn = λ s coins r t coins' was h. never KllShape (IsRedrawn (kll_kind cmp spelling) bit next s coins) s coins r t coins' h;
      joined = λ redraws p sound s coins r t coins' was h. joined redraws p s coins r t coins' was h;
      refuses = λ redraws s p answer sound other h. refuses redraws s p answer h;
      imaged = λ s r sound h. imaged r h.1 h.2 h.3;
      read_back = read-back free ties;
    }
