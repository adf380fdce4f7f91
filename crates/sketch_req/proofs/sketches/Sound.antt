-- What makes a sketch that is not empty sound, and that a sketch that was read from an image is sound.
use Rattle.std.proofs.Common.{◌≡◌, ℕ, ◌+◌, ◌*◌, ◌<◌, ◌≤◌, Option, Some, sym, subst, arith, suc, ◌^◌, true, IsSorted, List, [], ◌∷◌, length, None, Ordering, refl, ap, ◌∙◌, append-nil}
use Rattle.sketch_base.specs.Views.{IsThere}
use Rattle.std.specs.List.{AllByRecursion}
use Rattle.std.specs.Cmp.{IsTotalOrder}
use Rattle.std.proofs.lemmas.Cmp.{upto}
use Rattle.sketch_base.specs.Extremes.{IsAtMost, IsLeastOf, IsGreatestOf, newer_or}
use Rattle.sketch_base.proofs.order.Extremes.{newer_or-none}
use Rattle.sketch_req.specs.Sections.{IsLegalK}
use Rattle.sketch_req.specs.Level.{Level}
use Rattle.sketch_req.specs.LevelImage.{Place, next_place, IsImaged, BeginsLevels}
use Rattle.sketch_req.specs.Schedule.{layouts_of, retained_of, weight_of}
use Rattle.sketch_req.specs.Sketch.{Req, IsSmall, IsSound, empty_sketch}
use Rattle.sketch_req.specs.Imaged.{items_in, AreEnds, HasEnds}
use Rattle.sketch_req.specs.Walk.{IsMarkedSorted, IsPlaced, AreLevels}
use Rattle.sketch_req.specs.declared.RankAccuracy.{RankAccuracy}

-- Facts about levels and extremes that were read from an image.

-- an extreme that was read is there
pub there_told : {A : Type 0} (extreme : Option A) (n : ℕ) (x : A) → extreme ≡ Some x → 0 < n → IsThere extreme n
there_told extreme n x e some = subst (λ y. IsThere y n) (sym e) some

-- fewer were read than there are, while the counter is below their number, and all once it isn't
pub still_fewer : {n m counter count : ℕ} → n ≡ counter → m ≡ count → counter < count → n < m
still_fewer here all less = omega (arith, here, all, less)

-- a level that takes at least twenty bytes has room
pub has_room : {place first before mid count len most : ℕ} (rest : ℕ) → count ≡ place → len ≡ place → place < first → count * 20 + mid ≤ before → 20 + rest ≤ mid →
    ((n : ℕ) → n ≤ first → n * 20 ≤ before → n ≤ most) → len < most
has_room {place} rest as_many held less read here room = omega (arith, held, room (place + 1) (omega (arith, less)) (omega (arith, as_many, read, here)))

-- What makes a sketch that is not empty sound, and that a sketch that was read from an image is sound.

-- ---- levels at their places

-- a level that was read is at its place
pub imaged_at : {A : Type 0} (cmp : A → A → Ordering) (place : Place) (level : Level A) → IsLegalK place.k → place.lg_weight ≤ 63 →
    (0 < place.lg_weight → place.is_said_sorted ≡ true) → IsImaged cmp place level → IsPlaced cmp place.k place.accuracy place.lg_weight level
imaged_at cmp place level legal low said h =
    let legal_k = subst IsLegalK (sym h.k_is) legal in
    let weight_fits : level.lg_weight ≤ 63 = omega (arith, h.place_is, low) in
    let in_order : level.is_sorted ≡ true → IsSorted cmp level.items = λ t. (h.sorted.0 t).1 in
    let marked : 0 < place.lg_weight → IsMarkedSorted cmp level = λ above up. h.sorted.1 (said above, up) in
    assumption

-- so are several
pub levels_at : {A : Type 0} (cmp : A → A → Ordering) (spelling : A → Option (List ℕ)) (place : Place) (text : List ℕ) (levels : List (Level A)) (rest : List ℕ) → IsLegalK place.k →
    place.lg_weight + length levels ≤ 64 → (0 < place.lg_weight → place.is_said_sorted ≡ true) →
    BeginsLevels cmp spelling place text levels rest → AreLevels cmp place.k place.accuracy place.lg_weight levels
levels_at cmp spelling place text [] rest legal few said h = tt
levels_at cmp spelling place text (l ∷ ls) rest legal few said h =
    (imaged_at cmp place l legal (omega (arith, few)) said h.1.imaged, levels_at cmp spelling (next_place place) h.0 ls rest legal (omega (arith, few)) (λ above. refl) h.2)

-- ---- one level

-- a list of one level
pub one_of : {A : Type 0} (levels : List (Level A)) → length levels ≡ 1 → (level : Level A) × (levels ≡ level ∷ [])
one_of (l ∷ []) e = (l, refl)
one_of levels e = absurd (omega (arith, e))

-- what the list of one level holds and weighs
pub record IsAlone {A : Type 0} (levels : List (Level A)) (level : Level A) : Type 0 where
  pub items : items_in levels ≡ level.items
  pub retained : retained_of (layouts_of levels) ≡ length level.items
  pub weight : weight_of (layouts_of levels) ≡ length level.items

-- it holds and weighs what the level does
pub alone : {A : Type 0} (levels : List (Level A)) (level : Level A) → levels ≡ level ∷ [] → IsAlone levels level
alone {A} levels level e = rw e (record { items = append-nil level.items; retained = omega arith; weight = omega arith })

-- ---- extremes

both_hold : {A : Type 0} (P Q : A → Type 0) (xs : List A) → AllByRecursion P xs → AllByRecursion Q xs → AllByRecursion (λ x. P x × Q x) xs
both_hold P Q [] p q = tt
both_hold P Q (x ∷ xs) p q = ((p.0, q.0), both_hold P Q xs p.1 q.1)

ends_from : {A : Type 0} {cmp : A → A → Ordering} → IsTotalOrder cmp → (levels : List (Level A)) (x y : A) → 0 < length (items_in levels) →
    IsLeastOf cmp (items_in levels) (Some x) → IsGreatestOf cmp (items_in levels) (Some y) → AreEnds cmp levels x y
ends_from {A} {cmp} o levels x y some l g = record {
  in_order = go (items_in levels) some l.bounds g.bounds;
  between =
      both_hold (λ z. IsAtMost cmp x z) (λ z. IsAtMost cmp z y) (items_in levels) l.bounds g.bounds;
}
  where
    go : (items : List A) → 0 < length items → AllByRecursion (λ z. IsAtMost cmp x z) items → AllByRecursion (λ z. IsAtMost cmp z y) items → IsAtMost cmp x y
    go [] some p q = absurd (omega arith)
    go (z ∷ zs) some p q = upto o x z y p.0 q.0

-- if there are items, both extremes are there
ends_told : {A : Type 0} {cmp : A → A → Ordering} → IsTotalOrder cmp → (s : Req A) → 0 < length (items_in s.levels) → IsLeastOf cmp (items_in s.levels) s.least →
    IsGreatestOf cmp (items_in s.levels) s.greatest → HasEnds cmp s
ends_told {A} {cmp} o s some l g = go s.least s.greatest refl refl l g
  where
    go : (a b : Option A) → s.least ≡ a → s.greatest ≡ b → IsLeastOf cmp (items_in s.levels) a → IsGreatestOf cmp (items_in s.levels) b → HasEnds cmp s
    go None b e f l g = let n = ap length l in absurd (omega (arith, n, some))
    go (Some x) None e f l g = let n = ap length g in absurd (omega (arith, n, some))
    go (Some x) (Some y) e f l g = record { least = x; greatest = y; least_is = e; greatest_is = f; ends = ends_from o s.levels x y some l g }

-- ---- a sketch that is not empty

-- levels at their places are at most 64
pub few-placed : {A : Type 0} (cmp : A → A → Ordering) (k : ℕ) (accuracy : RankAccuracy) (h : ℕ) (ls : List (Level A)) → h ≤ 64 → AreLevels cmp k accuracy h ls → h + length ls ≤ 64
few-placed cmp k accuracy h [] low a = omega arith
few-placed cmp k accuracy h (l ∷ ls) low a =
    let r = few-placed cmp k accuracy (suc h) ls (omega (arith, a.0.place_is, a.0.sound.weight_fits)) a.1 in
    omega (arith, r)

-- if the levels weigh something, there is at least one
pub some-weight : {A : Type 0} (ls : List (Level A)) → 0 < weight_of (layouts_of ls) → 0 < length ls
some-weight [] h = absurd (omega arith)
some-weight (l ∷ ls) h = omega arith

-- what makes it sound: its k, its levels, its weight and its extremes
pub kept_sketch : {A : Type 0} {cmp : A → A → Ordering} (s : Req A) → IsLegalK s.k → AreLevels cmp s.k s.accuracy 0 s.levels →
    weight_of (layouts_of s.levels) ≡ s.n → 0 < s.n → s.n < 2 ^ 64 → retained_of (layouts_of s.levels) < 2 ^ 32 → HasEnds cmp s → (length s.levels ≡ 1 → IsSmall cmp s) → IsSound cmp s
kept_sketch {cmp = cmp} s legal placed weighs some fits few ends small =
    let has_level = some-weight s.levels (omega (arith, weighs, some)) in
    let count = few-placed cmp s.k s.accuracy 0 s.levels (omega arith) placed in
    let few_levels : length s.levels ≤ 64 = omega (arith, count) in
    let least_there = there_told s.least s.n ends.least ends.least_is some in
    let greatest_there = there_told s.greatest s.n ends.greatest ends.greatest_is some in
    let empty : s.n ≡ 0 → s ≡ empty_sketch s.k s.accuracy = λ none. absurd (omega (arith, none, some)) in
    assumption

-- ---- a sketch of one level

one_sound : {A : Type 0} {cmp : A → A → Ordering} → IsTotalOrder cmp → (s : Req A) (level : Level A) → s.levels ≡ level ∷ [] → IsLegalK s.k → IsPlaced cmp s.k s.accuracy 0 level →
    s.n ≡ length (items_in s.levels) → 0 < s.n → IsLeastOf cmp (items_in s.levels) s.least → IsGreatestOf cmp (items_in s.levels) s.greatest →
    (s.n ≤ 4 → (level.state ≡ 0) × (level.doublings ≡ 0)) → IsSound cmp s
one_sound {A} {cmp} o s level e legal at n_is some l g few =
    let a = alone s.levels level e in
    let many = ap length a.items in
    let small = at.sound.few_items in
    kept_sketch s legal (rw e (at, tt)) (omega (arith, a.weight, n_is, many)) some (omega (arith, n_is, many, small)) (omega (arith, a.retained, small))
    (ends_told o s (omega (arith, some, n_is)) l g) (λ _. record { least_is = l; greatest_is = g; fresh_if_few = λ f. rw e (few f, tt) })

-- a sketch of one level whose items determine n and the extremes
pub record IsRebuilt {A : Type 0} (cmp : A → A → Ordering) (s : Req A) : Type 0 where
  pub n_is : s.n ≡ length (items_in s.levels)
  pub least_is : IsLeastOf cmp (items_in s.levels) s.least
  pub greatest_is : IsGreatestOf cmp (items_in s.levels) s.greatest
  pub sound : IsSound cmp s

-- a sketch of one level whose extremes pass none
pub rebuilt : {A : Type 0} {cmp : A → A → Ordering} → IsTotalOrder cmp → (s : Req A) (level : Level A) → s.levels ≡ level ∷ [] →
    IsLegalK s.k → IsPlaced cmp s.k s.accuracy 0 level →
    s.n ≡ length level.items → 0 < length level.items → (length level.items ≤ 4 → (level.state ≡ 0) × (level.doublings ≡ 0)) →
    IsLeastOf cmp level.items (newer_or s.least None) → IsGreatestOf cmp level.items (newer_or s.greatest None) → IsRebuilt cmp s
rebuilt {A} {cmp} o s level e legal at n_is some few l g =
    let a = alone s.levels level e in
    let n : s.n ≡ length (items_in s.levels) = n_is ∙ sym (ap length a.items) in
    let least : IsLeastOf cmp (items_in s.levels) s.least =
    subst (λ (xs : List A). IsLeastOf cmp xs s.least) (sym a.items) (subst (λ (x : Option A). IsLeastOf cmp level.items x) (newer_or-none s.least) l) in
    let greatest : IsGreatestOf cmp (items_in s.levels) s.greatest =
    subst (λ (xs : List A). IsGreatestOf cmp xs s.greatest) (sym a.items) (subst (λ (x : Option A). IsGreatestOf cmp level.items x) (newer_or-none s.greatest) g) in
    let sound = one_sound o s level e legal at n (omega (arith, n_is, some)) least greatest (λ f. few (omega (arith, f, n_is))) in
    assumption

-- ---- several levels
