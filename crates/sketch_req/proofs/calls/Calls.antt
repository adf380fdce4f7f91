-- What updates, merges and reads come to, as their contracts tell it: they fail, they are refused, or they are done.
use Rattle.std.proofs.Common.{◌≡◌, ◌≤◌, ◌∙◌, ℕ, Bool, List, Result, Ordering, IsErr, IsErrAnd, IfErr, OnErr, OnOk, drop, subst, take, ◌⊎◌, ◌↔◌, ◌≢◌, ◌+◌, ◌-◌, ◌<◌, ◌^◌, false, Option, IsTrue, inl, inr, sym, ap, arith, [], ◌∷◌, ◌++◌, length, refl, Ok, Err, IsOk, IfOk}
use Rattle.std.proofs.lemmas.List.{take-append-drop}
use Rattle.std.proofs.lemmas.Result.{IfOk-from_err, IfErr-weaker}
use Rattle.sketch_base.specs.Trace.{draws_of}
use Rattle.sketch_base.specs.declared.error.ErrorKind.{ErrorKind}
use Rattle.sketch_base.specs.declared.error.ErrorKind.TheVariants.{OutOfMemory, InvalidArgument, InvalidData}
use Rattle.sketch_base.proofs.calls.Calls.{on_error, only_error, memory_not_argument, memory_not_data, accepted, no_value, returned, with_error, accepted_alone, none_or_some, refused_as, data_not_argument, no_found}
use Rattle.sketch_req.specs.Held.{Held, held_of}
use Rattle.sketch_req.specs.Schedule.{layouts_of, layouts_if_full, retained_of}
use Rattle.sketch_req.specs.ScheduleLaws.{updates_actions}
use Rattle.sketch_req.specs.Updates.{AreAllTaken, AreLeft, IsDrawnFrom, AreTakenInTurn, AreUpdated, coins_of_updates}
use Rattle.sketch_req.proofs.sketches.Updated.{draws-few, updated_sketch}
use Rattle.std.proofs.lemmas.Bool.{false≢true}
use Rattle.sketch_req.specs.Sketch.{sketch_of, Req, IsSound, IsUpdated, Ties, coins_of_update, empty_sketch, greatest_with, least_with}
use Rattle.std.proofs.lemmas.Grind.{common_steps}
use Rattle.std.specs.Cmp.{IsTotalOrder}
use Rattle.std.specs.List.{AllZip}
use Rattle.std.specs.Option.{option_to_list}
use Rattle.sketch_base.specs.Extremes.{IsLeastOf, IsGreatestOf}
use Rattle.sketch_base.specs.Queries.{SameAnswer}
use Rattle.sketch_base.specs.Random.{bits_from, after_draws}
use Rattle.sketch_req.specs.Imaged.{IsSameLevel, IsSameSketch}
use Rattle.sketch_req.specs.Level.{Level}
use Rattle.sketch_req.specs.Merged.{AreTakenIn, IsMergedBy, coins_of_merge_by}
use Rattle.sketch_req.specs.Sections.{IsLegalK}
use Rattle.sketch_req.specs.Walk.{AreWalked, appended_first, room_of}
use Rattle.sketch_req.proofs.sketches.Copies.{copied_sketch, first-levels}
use Rattle.sketch_req.specs.declared.RankAccuracy.{RankAccuracy}
use Rattle.sketch_req.proofs.merges.Merges.{Merges, merged_sketch}
use Rattle.sketch_req.proofs.calls.InTurn.{updates_sketch, updates_none}
use Rattle.sketch_base.specs.Bag.{retained}
use Rattle.sketch_req.specs.Actions.{bag_of}

-- What calls on levels come to that fail, as their contracts tell it.

module _ {A S : Type 0} (cmp : A → A → Ordering) (bit : S → Bool) (next : S → S) (s new : Held A) (items : List A) (source after : S) where
  -- all items are taken in, or none
  abbrev AllEnd : {T : Type 0} → Result T ErrorKind → Type 0
  AllEnd r = record {
    kept : new ≡ record s { levels = new.levels };
    taken : OnOk r (AreAllTaken cmp bit next source after s.k s.accuracy s.levels items new.levels);
    err : OnErr r (new ≡ s);
    drawn : OnErr r (IsDrawnFrom next (draws_of (updates_actions s.k s.accuracy (layouts_of s.levels) items)) source after);
    memory : IfErr r (λ e. e ≡ OutOfMemory);
  }

  pub all_failed : {T : Type 0} {x : ErrorKind} (r : Result T ErrorKind) → IsErr r × IsErrAnd r (λ e. e ≡ x) → x ≡ OutOfMemory → new ≡ record s
      { levels = new.levels } → new ≡ s →
      IsDrawnFrom next (draws_of (updates_actions s.k s.accuracy (layouts_of s.levels) items)) source after → AllEnd r
  all_failed r h short kept same drawn =
      record { kept = kept; taken = IfOk-from_err r _ h.0; err = on_error r same; drawn = on_error r drawn; memory = only_error r h.1 short }

module _ {A S : Type 0} (next : S → S) (s : Held A) (items : List A) (source after : S) where
  -- a part of the items takes no more coins than all
  draws-part : (n : ℕ) → draws_of (updates_actions s.k s.accuracy (layouts_of s.levels) (take n items)) ≤ draws_of (updates_actions s.k s.accuracy (layouts_of s.levels) items)
  draws-part n =
      let first = draws_of (updates_actions s.k s.accuracy (layouts_of s.levels) (take n items)) in
      subst (λ (xs : List A). first ≤ draws_of (updates_actions s.k s.accuracy (layouts_of s.levels) xs)) (take-append-drop n items)
      (draws-few s.k s.accuracy (layouts_of s.levels) (take n items) (drop n items))

  -- nor do those of a part that was taken in
  pub part_drawn : (own : Held A) (middle : S) (n : ℕ) → AreLeft next source middle s.k s.accuracy s.levels (take n items) own.levels → after ≡ middle →
      IsDrawnFrom next (draws_of (updates_actions s.k s.accuracy (layouts_of s.levels) items)) source after
  part_drawn own middle n left still = record {
    count = draws_of (updates_actions s.k s.accuracy (layouts_of s.levels) (take n items));
    few = draws-part n;
    after_is = still ∙ left.source_is;
  }

-- Calls that return an error or are not refused: what their clauses say, and the numbers that decide it.

-- levels that are kept make the same sketch
pub same_sketch : {A : Type 0} (n : ℕ) (least greatest : Option A) {held old : Held A} → held ≡ old →
    sketch_of held.k held.accuracy n held.levels least greatest ≡ sketch_of old.k old.accuracy n old.levels least greatest
same_sketch {A} n least greatest e = ap (λ (h : Held A). sketch_of h.k h.accuracy n h.levels least greatest) e

-- what holds if and only if a flag is set doesn't hold if it isn't
pub not_flagged : {P : Type 0} {b : Bool} → (IsTrue b ↔ P) → b ≡ false → P → ⊥
not_flagged told off p = false≢true (sym off ∙ told.1 p)

-- a sketch that isn't full takes in items that leave its weight below 2^64
pub items_fit : {n m l r : ℕ} {full : Bool} {P : Type 0} → n ≡ m → n + l < 2 ^ 64 → (IsTrue full ↔ (P ⊎ (r ≡ 4294967295))) → full ≡ false →
    ((2 ^ 64 ≤ m + l) ⊎ ((0 < l) × (r ≡ 4294967295))) → ⊥
items_fit e fits told off (inl heavy) = omega (arith, e, fits, heavy)
items_fit e fits told off (inr many) = false≢true (sym off ∙ told.1 (inr many.1))

-- items whose number isn't above what is left
pub weight_fits : {n : ℕ} (l : ℕ) → l ≤ 2 ^ 64 - 1 - n → n < 2 ^ 64 → n + l < 2 ^ 64
weight_fits l most fits = omega (arith, most, fits)

pub not_both : (m l : ℕ) {r : ℕ} → (2 ^ 64 ≤ m + l) ⊎ ((0 < l) × (r ≡ 4294967295)) → m + l < 2 ^ 64 → r < 4294967295 → ⊥
not_both m l (inl heavy) light few = omega (arith, heavy, light)
not_both m l (inr many) light few = omega (arith, many.1, few)

pub not_full_both : {n r : ℕ} → (n ≡ 2 ^ 64 - 1) ⊎ (r ≡ 4294967295) → n < 2 ^ 64 - 1 → r < 4294967295 → ⊥
not_full_both (inl all) light few = omega (arith, all, light)
not_full_both (inr most) light few = omega (arith, most, few)

-- no items leave the weight as it is
pub light_still : {n m l r : ℕ} → n ≡ m → n < 2 ^ 64 → l ≡ 0 → (2 ^ 64 ≤ m + l) ⊎ ((0 < l) × (r ≡ 4294967295)) → ⊥
light_still e fits none (inl heavy) = omega (arith, e, fits, none, heavy)
light_still e fits none (inr many) = omega (arith, none, many.0)

-- a merge that is refused, by its reasons
pub not_apart : {A : Type 0} {a b : A} (x y : ℕ) → (a ≢ b) ⊎ ((2 ^ 64 ≤ x) ⊎ (2 ^ 32 ≤ y)) → a ≡ b → x < 2 ^ 64 → y < 2 ^ 32 → ⊥
not_apart x y (inl other) same light few = other same
not_apart x y (inr (inl heavy)) same light few = omega (arith, heavy, light)
not_apart x y (inr (inr many)) same light few = omega (arith, many, few)

-- an error that says out of memory says nothing of the data or the arguments
pub no_refusal_of : {T : Type 0} (P : Type 0) (r : Result T ErrorKind) → IfErr r (λ e. e ≡ OutOfMemory) → IfErr r (λ e. e ≡ InvalidData → P)
no_refusal_of P r memory = IfErr-weaker r (λ e. e ≡ OutOfMemory) (λ e. e ≡ InvalidData → P) (λ e is k. absurd (memory_not_data (sym is ∙ k))) memory

pub memory_alone : {T : Type 0} (r : Result T ErrorKind) → IfErr r (λ e. e ≡ OutOfMemory) → IfErr r (λ e. e ≡ InvalidArgument → ⊥)
memory_alone r memory = IfErr-weaker r (λ e. e ≡ OutOfMemory) (λ e. e ≡ InvalidArgument → ⊥) (λ e is k. memory_not_argument (sym is ∙ k)) memory

-- an item alone in a list
pub pushed_alone : {A : Type 0} {xs ys : List A} {x : A} → ys ≡ xs ++ x ∷ [] → xs ≡ [] → ys ≡ x ∷ []
pushed_alone {A} {x = x} e none = e ∙ ap (λ (zs : List A). zs ++ x ∷ []) none

pub from_zero : {n most : ℕ} → n ≤ most → 0 + n ≤ most
from_zero few = omega (arith, few)

pub none_below : {n : ℕ} → n < n → ⊥
none_below below = omega (arith, below)

-- ---- images

pub still_many : {p q l n : ℕ} → p ≡ q → p ≡ l → 5 ≤ q → n ≡ l → 4 < n
still_many e f many g = omega (arith, e, f, many, g)

pub few_counted : {n m most : ℕ} → n ≡ m → m ≤ most → n ≤ most
few_counted e few = omega (arith, e, few)

pub many_counted : {n m l : ℕ} → l ≡ m → n ≡ m → 4 < n → 5 ≤ l
many_counted f e many = omega (arith, e, f, many)

-- ---- queries

-- What updates and merges make of the fields, of the sketch as callers see it.

-- the fields of the levels, where nothing but the levels changed
abbrev pub with_levels : {A : Type 0} → Req A → List (Level A) → Held A
with_levels s levels = record { k = s.k; accuracy = s.accuracy; levels = levels }

-- one empty level
pub empty_sound : {A : Type 0} (cmp : A → A → Ordering) (k : ℕ) (accuracy : RankAccuracy) → IsLegalK k → IsSound cmp (empty_sketch k accuracy)
empty_sound cmp k accuracy legal = let placed = first-levels cmp k accuracy legal in grind (arith, common_steps)

-- updates by no items draw no coin
pub none_taken : {A S : Type 0} (next : S → S) (source : S) (s : Req A) (xs : List A) → length xs ≡ 0 → source ≡ after_draws next source (coins_of_updates s xs)
none_taken next source s [] none = refl
none_taken next source s (x ∷ xs) none = absurd (omega (arith, none))

module _ {A S : Type 0} {cmp : A → A → Ordering} (order : IsTotalOrder cmp) (bit : S → Bool) (next : S → S)
    {s s' : Req A} {held : Held A} {least greatest kept_least kept_greatest : Option A} (seen : s ≡ s') (sound : IsSound cmp s) where
  pub update_makes : (source after : S) {x : A} → s.n < 2 ^ 64 - 1 → retained_of (layouts_of s.levels) < 4294967295 → held ≡ with_levels s held.levels →
      AreWalked cmp bit next source after s.k s.accuracy (room_of s.k s.accuracy (appended_first s.levels x))
      (layouts_if_full s.k (layouts_of (appended_first s.levels x))) (appended_first s.levels x) held.levels →
      Ties cmp (least_with cmp x s.least) least → kept_least ≡ least → Ties cmp (greatest_with cmp x s.greatest) greatest → kept_greatest ≡ greatest →
      IsSound cmp (sketch_of held.k held.accuracy (s.n + 1) held.levels kept_least kept_greatest)
      × IsUpdated cmp s' x (bits_from bit next source (coins_of_update s' x)) (sketch_of held.k held.accuracy (s.n + 1) held.levels kept_least kept_greatest)
      × (after ≡ after_draws next source (coins_of_update s' x))
  update_makes source after {x} small few kept walked least_ties least_is greatest_ties greatest_is =
      rw (← seen, ap (λ (h : Held A). h.k) kept, ap (λ (h : Held A). h.accuracy) kept, least_is, greatest_is)
      (updated_sketch order bit next source after s x held.levels least greatest sound small few walked least_ties greatest_ties)

  pub updates_make : (source after : S) (copies : List (Level A)) {xs : List A} → s.n + length xs < 2 ^ 64 →
      retained_of (layouts_of s.levels) < 4294967295 → held ≡ with_levels s held.levels →
      AllZip (IsSameLevel cmp) s.levels copies → AreTakenInTurn cmp bit next source after s.k s.accuracy copies xs held.levels →
      IsLeastOf cmp (option_to_list s.least ++ xs) least → kept_least ≡ least →
      IsGreatestOf cmp (option_to_list s.greatest ++ xs) greatest → kept_greatest ≡ greatest →
      IsSound cmp (sketch_of held.k held.accuracy (s.n + length xs) held.levels kept_least kept_greatest)
      × AreUpdated cmp s' xs (bits_from bit next source (coins_of_updates s' xs))
      (sketch_of held.k held.accuracy (s.n + length xs) held.levels kept_least kept_greatest)
      × (after ≡ after_draws next source (coins_of_updates s' xs))
  updates_make source after copies {xs} fits few kept are_copies taken least_of least_is greatest_of greatest_is =
      rw (← seen, ap (λ (h : Held A). h.k) kept, ap (λ (h : Held A). h.accuracy) kept, least_is, greatest_is)
      (updates_sketch order bit next source after s copies held.levels xs least greatest sound fits few are_copies taken least_of greatest_of)

  pub merge_makes : (source after : S) {t t' : Req A} {redraws : Bool} → t ≡ t' → IsSound cmp t → 0 < t.n → Merges s t → held ≡ with_levels s held.levels →
      AreTakenIn cmp bit next source after s.k s.accuracy redraws s.levels t.levels held.levels →
      IsLeastOf cmp (option_to_list s.least ++ option_to_list t.least) least → kept_least ≡ least →
      IsGreatestOf cmp (option_to_list s.greatest ++ option_to_list t.greatest) greatest → kept_greatest ≡ greatest →
      IsSound cmp (sketch_of held.k held.accuracy (s.n + t.n) held.levels kept_least kept_greatest)
      × IsMergedBy cmp redraws s' t' (bits_from bit next source (coins_of_merge_by redraws s' t'))
      (sketch_of held.k held.accuracy (s.n + t.n) held.levels kept_least kept_greatest)
      × (after ≡ after_draws next source (coins_of_merge_by redraws s' t'))
  merge_makes source after {t} {t'} {redraws} other_seen other_sound some merges kept taken least_of least_is greatest_of greatest_is =
      rw (← seen, ← other_seen, ap (λ (h : Held A). h.k) kept, ap (λ (h : Held A). h.accuracy) kept, least_is, greatest_is)
      (merged_sketch order bit next source after redraws s t held.levels least greatest sound other_sound some merges.fits merges.few
      taken least_of greatest_of)

-- a clone of the levels makes a copy of the sketch
pub clone_makes : {A : Type 0} {cmp : A → A → Ordering} (order : IsTotalOrder cmp) {old kept made : Held A} {s t : Req A} {n : ℕ}
    {least greatest least' greatest' : Option A} (copies : List (Level A)) →
    old ≡ kept → sketch_of kept.k kept.accuracy n kept.levels least greatest ≡ s → IsSound cmp (sketch_of kept.k kept.accuracy n kept.levels least greatest) →
    made ≡ held_of old.k old.accuracy copies → AllZip (IsSameLevel cmp) old.levels copies → SameAnswer cmp least least' → SameAnswer cmp greatest greatest' →
    t ≡ sketch_of made.k made.accuracy n made.levels least' greatest' → IsSameSketch cmp s t × IsSound cmp t
clone_makes {A} {cmp} order {old} {kept} {made} {s} {t} {n} {least} {greatest} {least'} {greatest'} copies view seen sound made_is are_copies low high t_is =
    let before : Req A = sketch_of old.k old.accuracy n old.levels least greatest in
    let after : Req A = sketch_of old.k old.accuracy n copies least' greatest' in
    let from : before ≡ s = same_sketch n least greatest view ∙ seen in
    let to : after ≡ t = sym (t_is ∙ same_sketch n least' greatest' made_is) in
    let copy : IsSameSketch cmp before after = record { k = refl; accuracy = refl; n = refl; levels = are_copies; least = low; greatest = high } in
    let sound_before = subst (IsSound cmp) (sym (same_sketch n least greatest view)) sound in (
      subst (λ (u : Req A). IsSameSketch cmp u t) from (subst (IsSameSketch cmp before) to copy),
      subst (IsSound cmp) to (copied_sketch order _ _ _ _ _ _ _ _ _ sound_before are_copies low high),
    )

-- What updates and merges come to, as their contracts tell it: they fail, they are refused, or they are done.

-- ---- what is refused

abbrev IsFull : {A : Type 0} → Req A → Type 0
IsFull s = (s.n ≡ 2 ^ 64 - 1) ⊎ (retained (bag_of s.levels) ≡ 4294967295)

abbrev AreTooMany : {A : Type 0} → Req A → List A → Type 0
AreTooMany s xs = (2 ^ 64 ≤ s.n + length xs) ⊎ ((0 < length xs) × (retained (bag_of s.levels) ≡ 4294967295))

abbrev AreApart : {A : Type 0} → Req A → Req A → Type 0
AreApart s t = (s.accuracy ≢ t.accuracy) ⊎ ((2 ^ 64 ≤ s.n + t.n) ⊎ (2 ^ 32 ≤ retained (bag_of s.levels) + retained (bag_of t.levels)))

module _ {A S T : Type 0} (cmp : A → A → Ordering) (bit : S → Bool) (next : S → S) (s new : Req A) (source after : S) (r : Result T ErrorKind) where
  -- of a call that was refused
  refused_of : {x : ErrorKind} → IsErrAnd r (λ e. e ≡ x) → x ≡ InvalidArgument → r ≡ Err InvalidArgument
  refused_of {x} h refusal = returned r x h ∙ ap Err refusal

  -- ---- an update by an item

  abbrev pub UpdateEnds : A → Type 0
  UpdateEnds x = record {
    ok : OnOk r (IsUpdated cmp s x (bits_from bit next source (coins_of_update s x)) new);
    sound : IsSound cmp new;
    coins : OnOk r (after ≡ after_draws next source (coins_of_update s x));
    err : OnErr r ((new ≡ s) × (after ≡ source));
    full : (r ≡ Err InvalidArgument) ↔ IsFull s;
    memory : IfErr r (λ e. s.n < 2 ^ 64 - 1 → retained (bag_of s.levels) < 4294967295 → e ≡ OutOfMemory);
  }

  -- ---- updates by all items

  abbrev pub UpdatesEnd : List A → Type 0
  UpdatesEnd xs = record {
    empty : xs ≡ [] → IsOk r × (new ≡ s) × (after ≡ source);
    ok : OnOk r (AreUpdated cmp s xs (bits_from bit next source (coins_of_updates s xs)) new);
    sound : IsSound cmp new;
    coins : OnOk r (after ≡ after_draws next source (coins_of_updates s xs));
    err : OnErr r (new ≡ s);
    full : (r ≡ Err InvalidArgument) ↔ AreTooMany s xs;
    refused : r ≡ Err InvalidArgument → after ≡ source;
    drawn : OnErr r (IsDrawnFrom next (coins_of_updates s xs) source after);
    memory : IfErr r (λ e. s.n + length xs < 2 ^ 64 → retained (bag_of s.levels) < 4294967295 → e ≡ OutOfMemory);
  }

  -- ---- a merge

  abbrev pub MergeEnds : Bool → Req A → Type 0
  MergeEnds redraws t = record {
    empty : s.accuracy ≡ t.accuracy → t.n ≡ 0 → IsOk r × (new ≡ s) × (after ≡ source);
    ok : OnOk r (0 < t.n → IsMergedBy cmp redraws s t (bits_from bit next source (coins_of_merge_by redraws s t)) new);
    sound : IsSound cmp new;
    coins : OnOk r (0 < t.n → after ≡ after_draws next source (coins_of_merge_by redraws s t));
    err : OnErr r ((new ≡ s) × (after ≡ source));
    refused : (r ≡ Err InvalidArgument) ↔ AreApart s t;
    memory : IfErr r (λ e. s.accuracy ≡ t.accuracy → s.n + t.n < 2 ^ 64 → retained (bag_of s.levels) + retained (bag_of t.levels) < 2 ^ 32 → e ≡ OutOfMemory);
  }

  pub merge_refused : (redraws : Bool) (t : Req A) {y : ErrorKind} → IsErrAnd r (λ e. e ≡ y) → y ≡ InvalidArgument → IsSound cmp new → new ≡ s →
      after ≡ source →
      (s.accuracy ≡ t.accuracy → t.n ≡ 0 → ⊥) → AreApart s t → MergeEnds redraws t
  merge_refused redraws t h refusal sound same still some apart = grind (arith, common_steps, refused_of, no_value, with_error, refused_as, not_apart)

-- ---- calls that are done

module _ {A S : Type 0} (cmp : A → A → Ordering) (bit : S → Bool) (next : S → S) (s new : Req A) (source after : S) where
  abbrev pub IsDone : A → Type 0
  IsDone x = IsSound cmp new × IsUpdated cmp s x (bits_from bit next source (coins_of_update s x)) new × (after ≡ after_draws next source (coins_of_update s x))

  abbrev pub AreDone : List A → Type 0
  AreDone xs = IsSound cmp new × AreUpdated cmp s xs (bits_from bit next source (coins_of_updates s xs)) new ×
      (after ≡ after_draws next source (coins_of_updates s xs))

  abbrev pub IsMergeDone : Bool → Req A → Type 0
  IsMergeDone redraws t = IsSound cmp new × IsMergedBy cmp redraws s t (bits_from bit next source (coins_of_merge_by redraws s t)) new
      × (after ≡ after_draws next source (coins_of_merge_by redraws s t))

module _ {A S T : Type 0} (cmp : A → A → Ordering) (bit : S → Bool) (next : S → S) (s new : Req A) (source after : S) (v : T) where
  pub update_done : (x : A) → IsDone cmp bit next s new source after x →
      (IsFull s → ⊥) → UpdateEnds cmp bit next s new source after (Ok v) x
  update_done x made not_full = record { ok = made.1; sound = made.0; coins = made.2; err = tt; full = accepted not_full; memory = tt }

  pub updates_done : (xs : List A) → AreDone cmp bit next s new source after xs →
      (length xs ≡ 0 → ⊥) → (AreTooMany s xs → ⊥) → UpdatesEnd cmp bit next s new source after (Ok v) xs
  updates_done xs made some few = grind (arith, common_steps, accepted, accepted_alone)

  pub merge_done : (redraws : Bool) (t : Req A) → IsMergeDone cmp bit next s new source after redraws t →
      (t.n ≡ 0 → ⊥) → (AreApart s t → ⊥) → MergeEnds cmp bit next s new source after (Ok v) redraws t
  merge_done redraws t made some near = grind (arith, common_steps, accepted)

-- ---- calls that take nothing in
module _ {A S T : Type 0} (cmp : A → A → Ordering) (bit : S → Bool) (next : S → S) (s : Req A) (source : S) (v : T) where
  pub merge_none : (redraws : Bool) (t : Req A) → t.n ≡ 0 → IsSound cmp s → (AreApart s t → ⊥) → MergeEnds cmp bit next s s source source (Ok v) redraws t
  merge_none redraws t none sound near = grind (arith, common_steps, none_or_some, accepted)

  pub updates_of_none : IsTotalOrder cmp → (xs : List A) → length xs ≡ 0 → IsSound cmp s → (AreTooMany s xs → ⊥) → UpdatesEnd cmp bit next s s source source
      (Ok v) xs
  updates_of_none order xs none sound few = record {
    empty = λ _. (refl, refl, refl);
    ok = updates_none order _ _ _ none;
    sound = sound;
    coins = none_taken _ _ s _ none;
    err = tt;
    full = accepted few;
    refused = accepted_alone _;
    drawn = tt;
    memory = tt;
  }

-- What reading a body comes to that fails, as its contract tells it.

module _ {A T : Type 0} (Found : T → Type 0) (IsBody : Req A → List ℕ → Type 0) (r : Result T ErrorKind) where
  abbrev ReadEnds : Type 0
  ReadEnds = record {
    found : IfOk r Found;
    refused : IfErr r (λ e. e ≡ InvalidData → (s : Req A) (rest : List ℕ) → ¬ IsBody s rest);
    kind : IfErr r (λ e. e ≢ InvalidArgument);
  }

  -- another call failed
  pub read_failed : {x : ErrorKind} → IsErrAnd r (λ e. e ≡ x) → (x ≡ InvalidData → (s : Req A) (rest : List ℕ) → ¬ IsBody s rest) → x ≢ InvalidArgument →
      ReadEnds
  read_failed {x} h refused kind =
      let e : r ≡ Err x = returned r x h in record { found = no_found _ e; refused = with_error _ e refused; kind = with_error _ e kind }

  -- the text begins with no such body
  pub read_refused : {x : ErrorKind} → IsErrAnd r (λ e. e ≡ x) → x ≡ InvalidData → ((s : Req A) (rest : List ℕ) → ¬ IsBody s rest) → ReadEnds
  read_refused h is refused = read_failed h (λ _. refused) (λ k. data_not_argument (sym is ∙ k))
