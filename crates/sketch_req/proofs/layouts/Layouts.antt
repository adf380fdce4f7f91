-- Layouts of levels: their lengths, states and sections, the levels around one of their places, and which of them are legal.
use Rattle.std.proofs.lemmas.Grind.{common_steps}
use Rattle.std.proofs.Common.{◌≡◌, ◌≢◌, ℕ, zero, suc, ◌+◌, ◌*◌, ◌/◌, ◌%◌, ◌^◌, ◌<◌, ◌≤◌, List, [], ◌∷◌, ◌++◌, length, sum_by, refl, ap, ◌∙◌, arith, lit<, inl, inr, ◌-◌, true, slice_index, sym, ap₂, nat_le, leb-true, drop, get_or, Option, append-nil, append_assoc, set}
use Rattle.std.proofs.Math.Nat.{pow-succ', pow-le-pow_right, mul-le-mul}
use Rattle.std.proofs.lemmas.Bool.{cases_lt, and_parts, cases_Bool}
use Rattle.std.proofs.lemmas.List.Sums.{sum_by-cons, sum_by-append}
use Rattle.sketch_base.specs.Bag.{with_level}
use Rattle.sketch_req.specs.Level.{Level, taken_side, state_after}
use Rattle.sketch_req.specs.Schedule.{Layout, new_layout, layouts_of, layout_at, retained_of, weight_of, nominal, taken, compacted, filled, compacted_at, counts_of, is_full, compact_level, joined_layout, joined_layouts}
use Rattle.sketch_req.specs.Sections.{IsLegalK, size_of, sections_of, grows, grown_up_to}
use Rattle.sketch_req.proofs.sections.Sections.{are_sections, first_size, is_plan, grows_few}
use Rattle.std.specs.Prelude.{bit_or}
use Rattle.sketch_base.specs.Lengths.{takes, act_on_lengths, TakesFew}
use Rattle.sketch_req.specs.ScheduleLaws.{IsLayout, AreLayouts, tail_side}
use Rattle.sketch_req.specs.declared.RankAccuracy.{RankAccuracy}
use Rattle.std.specs.List.{AllByRecursion}
use Rattle.std.proofs.lemmas.List.Concat.{flat_map-append}
use Rattle.sketch_base.proofs.bags.Parts.{all-parts}
use Rattle.sketch_req.specs.LevelImage.{level_text, levels_text}
use Rattle.sketch_req.specs.Imaged.{items_in}

-- Layouts around one of their places.

-- past the last level the layout is a new one
pub empty-layout : (h : ℕ) → layout_at [] h ≡ new_layout
empty-layout zero = refl
empty-layout (suc h) = refl

-- there are as many layouts as levels
pub length-layouts : {A : Type 0} (levels : List (Level A)) → length (layouts_of levels) ≡ length levels
length-layouts [] = refl
length-layouts (l ∷ ls) = ap suc (length-layouts ls)

-- a change of one level leaves the others as they are
pub layout-other : (h i : ℕ) (change : Layout → Layout) (ls : List Layout) → i ≢ h → layout_at (with_level new_layout h change ls) i ≡ layout_at ls i
layout-other zero zero change ls ne = absurd (ne refl)
layout-other zero (suc i) change [] ne = empty-layout i
layout-other zero (suc i) change (l ∷ ls) ne = refl
layout-other (suc h) zero change [] ne = refl
layout-other (suc h) zero change (l ∷ ls) ne = refl
layout-other (suc h) (suc i) change [] ne = layout-other h i change [] (λ e. ne (ap suc e)) ∙ empty-layout i
layout-other (suc h) (suc i) change (l ∷ ls) ne = layout-other h i change ls (λ e. ne (ap suc e))

-- a sum over the levels after it, if a new level adds nothing to the sum
pub sum-with : (f : Layout → ℕ) → f new_layout ≡ 0 → (h : ℕ) (change : Layout → Layout) (ls : List Layout) →
    sum_by f (with_level new_layout h change ls) + f (layout_at ls h) ≡ sum_by f ls + f (change (layout_at ls h))
sum-with f none zero change [] = omega (arith, none, sum_by-cons f (change new_layout) [])
sum-with f none zero change (l ∷ ls) = omega (arith, sum_by-cons f (change l) ls, sum_by-cons f l ls)
sum-with f none (suc h) change [] = grind (arith, common_steps, empty-layout, sum_by-cons, sum-with f none h change)
sum-with f none (suc h) change (l ∷ ls) = omega (arith, sum_by-cons f l (with_level new_layout h change ls), sum_by-cons f l ls, sum-with f none h change ls)

-- how many items are retained after it
pub retained-with : (h : ℕ) (change : Layout → Layout) (ls : List Layout) → retained_of (with_level new_layout h change ls) + (layout_at ls h).count ≡ retained_of ls + (change (layout_at ls h)).count
retained-with = sum-with (λ l. l.count) refl

-- the layout at a place
pub layout-here : (below rest : List Layout) (x : Layout) → layout_at (below ++ x ∷ rest) (length below) ≡ x
layout-here [] rest x = refl
layout-here (b ∷ below) rest x = layout-here below rest x

-- the layout at the next place
pub layout-next : (below rest : List Layout) (x : Layout) → layout_at (below ++ x ∷ rest) (suc (length below)) ≡ layout_at rest 0
layout-next [] rest x = refl
layout-next (b ∷ below) rest x = layout-next below rest x

level-here : (change : Layout → Layout) (below rest : List Layout) (x : Layout) → with_level new_layout (length below) change (below ++ x ∷ rest) ≡ below ++ change x ∷ rest
level-here change [] rest x = refl
level-here change (b ∷ below) rest x = ap (λ ls. b ∷ ls) (level-here change below rest x)

level-next : (change : Layout → Layout) (below rest : List Layout) (x : Layout) →
    with_level new_layout (suc (length below)) change (below ++ x ∷ rest) ≡ below ++ x ∷ with_level new_layout 0 change rest
level-next change [] rest x = refl
level-next change (b ∷ below) rest x = ap (λ ls. b ∷ ls) (level-next change below rest x)

-- a compaction of the level at a place
pub compacted-here : (k : ℕ) (below rest : List Layout) (x : Layout) →
    compacted_at k (length below) (below ++ x ∷ rest) ≡ below ++ compacted k x ∷ with_level new_layout 0 (filled (taken k x / 2)) rest
compacted-here k below rest x = grind (arith, common_steps, layout-here, level-here, level-next)

-- it keeps the weight if it takes an even number of the items
pub weight-compacted : (k : ℕ) (below rest : List Layout) (x : Layout) → taken k x ≤ x.count → taken k x % 2 ≡ 0 →
    weight_of (compacted_at k (length below) (below ++ x ∷ rest)) ≡ weight_of (below ++ x ∷ rest)
weight-compacted k [] [] x within even = omega (arith, within, even)
weight-compacted k [] (r ∷ rest) x within even = omega (arith, within, even)
weight-compacted k (b ∷ below) rest x within even = ap (λ (n : ℕ). b.count + 2 * n) (weight-compacted k below rest x within even)

-- and it retains no more items than there were
pub retained-compacted : (k : ℕ) (below rest : List Layout) (x : Layout) → taken k x ≤ x.count →
    retained_of (compacted_at k (length below) (below ++ x ∷ rest)) ≤ retained_of (below ++ x ∷ rest)
retained-compacted k below rest x within =
    let ls : List Layout = below ++ x ∷ rest in
    let h : ℕ = length below in
    omega (arith, retained-with h (compacted k) ls, retained-with (suc h) (filled (taken k (layout_at ls h) / 2)) (with_level new_layout h (compacted k) ls))

weighs-at-least : (below rest : List Layout) (x : Layout) → 2 ^ length below * x.count ≤ weight_of (below ++ x ∷ rest)
weighs-at-least [] rest x = omega arith
weighs-at-least (b ∷ below) rest x =
    let h = weighs-at-least below rest x in
    let p = pow-succ' 2 (length below) in
    let e : 2 ^ suc (length below) * x.count ≡ 2 * (2 ^ length below * x.count) = omega (arith, ap (λ (n : ℕ). n * x.count) p) in
    omega (arith, h, e)

-- a full level is at a place below 60
pub few-below : (k : ℕ) (below rest : List Layout) (x : Layout) → IsLegalK k → x.doublings ≤ 5 → 4 ≤ size_of k x.doublings →
    nominal k x ≤ x.count → weight_of (below ++ x ∷ rest) < 2 ^ 64 → length below < 60
few-below k below rest x legal few size full fits =
    elim (cases_lt (length below) 60) [
      | inl h ↦ h
      | inr h ↦
          let s = are_sections k x.doublings legal few size in
          let tail : 3 * k ≤ size_of k x.doublings * sections_of x.doublings = s.tail in
          let e : nominal k x ≡ 2 * (size_of k x.doublings * sections_of x.doublings) = omega arith in
          let many : 24 ≤ x.count = omega (arith, tail, e, full, legal.at_least) in
          let p : 2 ^ 60 ≤ 2 ^ length below = pow-le-pow_right {n = 2} (lit< tt) {i = 60} {j = length below} h in
          let m : 2 ^ 60 * 24 ≤ 2 ^ length below * x.count = mul-le-mul p many in
          absurd (omega (arith, m, weighs-at-least below rest x, fits))
    ]

-- a level and the one above hold no more items than all
pub two-counts : (below rest : List Layout) (x : Layout) → x.count + (layout_at rest 0).count ≤ retained_of (below ++ x ∷ rest)
two-counts below rest x = grind (arith, common_steps, sum_by-append, sum_by-cons, retained-with)

-- Layouts of levels: their lengths, which of them are legal, and one compaction.

-- ---- lengths

-- the count of a layout
pub count-layout_at : (h : ℕ) (ls : List Layout) → slice_index (counts_of ls) h ≡ (layout_at ls h).count
count-layout_at zero [] = refl
count-layout_at (suc h) [] = refl
count-layout_at zero (l ∷ ls) = refl
count-layout_at (suc h) (l ∷ ls) = count-layout_at h ls

-- a change of one level changes the lengths alike
pub counts-with_level : (h : ℕ) (change : Layout → Layout) (change' : ℕ → ℕ) (ls : List Layout) → (change (layout_at ls h)).count ≡ change' (layout_at ls h).count →
    counts_of (with_level new_layout h change ls) ≡ with_level 0 h change' (counts_of ls)
counts-with_level zero change change' [] e = ap (λ (n : ℕ). n ∷ []) e
counts-with_level zero change change' (l ∷ ls) e = ap (λ (n : ℕ). n ∷ counts_of ls) e
counts-with_level (suc h) change change' [] e = ap (λ (ns : List ℕ). 0 ∷ ns) (counts-with_level h change change' [] e)
counts-with_level (suc h) change change' (l ∷ ls) e = ap (λ (ns : List ℕ). l.count ∷ ns) (counts-with_level h change change' ls e)

-- ---- legal layouts

-- sections that double keep a size of at least 4
pub grows_size : (k state d : ℕ) → grows k state d ≡ true → 4 ≤ size_of k (suc d)
grows_size k state d h = leb-true 4 (size_of k (suc d)) (and_parts _ (nat_le 4 (size_of k (suc d))) h).1

-- the layout of a fresh level is legal
pub new_is : (k count state : ℕ) → IsLegalK k → IsLayout k (record { count = count; state = state; doublings = 0 })
new_is k count state l = record { few = omega arith; size = omega (arith, first_size k l.even, l.at_least) }

-- so are those of a new sketch
pub new_are : (k : ℕ) → IsLegalK k → AreLayouts k (new_layout ∷ [])
new_are k legal = (new_is k 0 0 legal, tt)

up_to_is : (times k state count : ℕ) (layout : Layout) → IsLayout k layout → IsLayout k (record { count = count; state = state; doublings = grown_up_to times k state layout.doublings })
up_to_is zero k state count layout l = record { few = l.few; size = l.size }
up_to_is (suc times) k state count layout l =
    let d : ℕ = layout.doublings in
    elim (cases_Bool (grows k state d)) [
      | inl more ↦
          rw more (up_to_is times k state count (record { count = count; state = state; doublings = suc d })
          (record { few = omega (arith, grows_few k state d more); size = grows_size k state d more }))
      | inr none ↦ rw none (record { few = l.few; size = l.size })
    ]

joined_is : (k : ℕ) (layout other : Layout) → IsLayout k layout → IsLayout k (joined_layout k layout other)
joined_is k layout other l = up_to_is (5 - layout.doublings) k (bit_or layout.state other.state) (layout.count + other.count) layout l

module _ (k : ℕ) (legal : IsLegalK k) where
  -- each of some legal layouts is legal
  pub layout_is : (h : ℕ) (ls : List Layout) → AreLayouts k ls → IsLayout k (layout_at ls h)
  layout_is zero [] a = new_is k 0 0 legal
  layout_is (suc h) [] a = new_is k 0 0 legal
  layout_is zero (l ∷ ls) a = a.0
  layout_is (suc h) (l ∷ ls) a = layout_is h ls a.1

  with_level_are : (h : ℕ) (change : Layout → Layout) (ls : List Layout) → AreLayouts k ls → IsLayout k (change (layout_at ls h)) → AreLayouts k (with_level new_layout h change ls)
  with_level_are zero change [] a i = (i, tt)
  with_level_are zero change (l ∷ ls) a i = (i, a.1)
  with_level_are (suc h) change [] a i = (new_is k 0 0 legal, with_level_are h change [] tt i)
  with_level_are (suc h) change (l ∷ ls) a i = (a.0, with_level_are h change ls a.1 i)

  -- layouts stay legal when items come in
  pub filled_are : (h more : ℕ) (ls : List Layout) → AreLayouts k ls → AreLayouts k (with_level new_layout h (filled more) ls)
  filled_are h more ls a = let i = layout_is h ls a in with_level_are h (filled more) ls a (record { few = i.few; size = i.size })

  -- when a level is compacted
  pub compacted_are : (h : ℕ) (ls : List Layout) → AreLayouts k ls → AreLayouts k (compacted_at k h ls)
  compacted_are h ls a =
      let l = layout_at ls h in
      filled_are (suc h) (taken k l / 2) (with_level new_layout h (compacted k) ls)
      (with_level_are h (compacted k) ls a (up_to_is 1 k (state_after l.state) (l.count - taken k l) l (layout_is h ls a)))

  -- when others are joined in
  pub joined_are : (ls others : List Layout) → AreLayouts k ls → AreLayouts k (joined_layouts k ls others)
  joined_are ls [] a = a
  joined_are [] (m ∷ ms) a = (joined_is k new_layout m (new_is k 0 0 legal), joined_are [] ms tt)
  joined_are (l ∷ ls) (m ∷ ms) a = (joined_is k l m a.0, joined_are ls ms a.1)

  -- ---- one compaction

  -- what it takes of a full level: an even number of items, at least 4,
  -- from the side away from the accurate one; at least 3k stay
  pub record Gives (accuracy : RankAccuracy) (layout : Layout) : Type 0 where
    pub side : tail_side accuracy (taken_side accuracy (taken k layout)) ≡ true
    pub takes_it : takes (taken_side accuracy (taken k layout)) layout.count ≡ taken k layout
    pub few : TakesFew (3 * k) (taken_side accuracy (taken k layout)) layout.count
    pub four : 4 ≤ taken k layout
    pub even : taken k layout % 2 ≡ 0
    pub stay : 3 * k + taken k layout ≤ layout.count

  -- what a full level gives up
  pub gives : (accuracy : RankAccuracy) (layout : Layout) → IsLayout k layout → is_full k layout ≡ true → Gives accuracy layout
  gives accuracy layout i e = grind (arith, common_steps, is_plan, leb-true)

  -- the lengths after it
  pub counts-compacted : (A : Type 0) (accuracy : RankAccuracy) (h : ℕ) (ls : List Layout) (scratch : List ℕ) → AreLayouts k ls → is_full k (layout_at ls h) ≡ true →
      (act_on_lengths {A = A} (compact_level k accuracy h ls) (record { bag = counts_of ls; scratch = scratch })).bag ≡ counts_of (compacted_at k h ls)
  counts-compacted A accuracy h ls scratch a e =
      let l = layout_at ls h in
      let n : ℕ = taken k l in
      let g = gives accuracy l (layout_is h ls a) e in
      let c = count-layout_at h ls in
      let t : takes (taken_side accuracy n) (slice_index (counts_of ls) h) ≡ n = ap (takes (taken_side accuracy n)) c ∙ g.takes_it in
      let inner = counts-with_level h (compacted k) (λ m. l.count - n) ls refl in
      let outer = counts-with_level (suc h) (filled (n / 2)) (λ m. m + n / 2) (with_level new_layout h (compacted k) ls) refl in
      ap₂ (λ (i m : ℕ). with_level 0 (suc h) (λ p. p + m / 2) (with_level 0 h (λ p. i - m) (counts_of ls))) c t
      ∙ sym (outer ∙ ap (with_level 0 (suc h) (λ m. m + n / 2)) inner)

-- Lists of levels, a level at a time.

-- ---- one more level

items_in-append : {A : Type 0} (xs ys : List (Level A)) → items_in (xs ++ ys) ≡ items_in xs ++ items_in ys
items_in-append {A} xs ys = flat_map-append (λ (level : Level A). level.items) xs ys

-- the items with one more level
pub items_in-last : {A : Type 0} (xs : List (Level A)) (level : Level A) → items_in (xs ++ level ∷ []) ≡ items_in xs ++ level.items
items_in-last xs level = items_in-append xs (level ∷ []) ∙ ap (λ l. items_in xs ++ l) (append-nil level.items)

-- the text with one more level
pub levels_text-last : {A : Type 0} (spelling : A → Option (List ℕ)) (xs : List (Level A)) (level : Level A) →
    levels_text spelling (xs ++ level ∷ []) ≡ levels_text spelling xs ++ level_text spelling level
levels_text-last spelling [] level = append-nil (level_text spelling level)
levels_text-last spelling (x ∷ xs) level = ap (λ t. level_text spelling x ++ t) (levels_text-last spelling xs level)
    ∙ sym (append_assoc (level_text spelling x) (levels_text spelling xs) (level_text spelling level))

-- what holds of all items holds of a level's
pub all_items_at : {A : Type 0} (P : A → Type 0) (levels : List (Level A)) (i : ℕ) (level : Level A) → AllByRecursion P (items_in levels) → i < length levels →
    level ≡ get_or levels i level → AllByRecursion P level.items
all_items_at P [] i level h lt e = absurd (omega arith)
all_items_at {A} P (l ∷ ls) zero level h lt e = rw (ap (λ (m : Level A). m.items) e) (all-parts P l.items (items_in ls) h).0
all_items_at P (l ∷ ls) (suc i) level h lt e = all_items_at P ls i level (all-parts P l.items (items_in ls) h).1 (omega arith) e

-- ---- weights, from the top down

-- what lies above a level weighs at most half of all
pub weight_above : {A : Type 0} (levels : List (Level A)) (i : ℕ) → 2 * weight_of (layouts_of (drop (suc i) levels)) ≤ weight_of (layouts_of levels)
weight_above [] i = omega arith
weight_above (l ∷ ls) zero = omega arith
weight_above (l ∷ ls) (suc i) = omega (arith, weight_above ls i)

-- with the level itself it weighs at most as much as all
pub weight_from : {A : Type 0} (levels : List (Level A)) (i : ℕ) (level : Level A) → i < length levels → level ≡ get_or levels i level →
    length level.items + 2 * weight_of (layouts_of (drop (suc i) levels)) ≤ weight_of (layouts_of levels)
weight_from [] i level inside is = absurd (omega arith)
weight_from {A} (l ∷ ls) zero level inside is = omega (arith, ap (λ (m : Level A). length m.items) is)
weight_from (l ∷ ls) (suc i) level inside is = omega (arith, weight_from ls i level (omega arith) is)

-- A list around one of its places.

-- a list with an item at a place
pub record IsAround {A : Type 0} (xs : List A) (i : ℕ) (x : A) : Type 0 where
  pub below : List A
  pub rest : List A
  pub whole : xs ≡ below ++ x ∷ rest
  pub place : length below ≡ i

-- what is around a place
pub around : {A : Type 0} (xs : List A) (i : ℕ) (x : A) → i < length xs → x ≡ get_or xs i x → IsAround xs i x
around [] i x h e = absurd (omega arith)
around (y ∷ ys) zero x h e = record { below = []; rest = ys; whole = ap (λ z. z ∷ ys) (sym e); place = refl }
around (y ∷ ys) (suc i) x h e =
    let r = around ys i x (omega arith) e in
    record { below = y ∷ r.below; rest = r.rest; whole = ap (λ zs. y ∷ zs) r.whole; place = ap suc r.place }

-- an item set at a place
pub set-at : {A : Type 0} (below : List A) (x y : A) (rest : List A) → set (below ++ x ∷ rest) (length below) y ≡ below ++ y ∷ rest
set-at [] x y rest = refl
set-at (b ∷ below) x y rest = ap (λ zs. b ∷ zs) (set-at below x y rest)

-- an item set at the next place
pub set-next : {A : Type 0} (below : List A) (b x y : A) (rest : List A) → set (below ++ b ∷ x ∷ rest) (suc (length below)) y ≡ below ++ b ∷ y ∷ rest
set-next [] b x y rest = refl
set-next (a ∷ below) b x y rest = ap (λ zs. a ∷ zs) (set-next below b x y rest)

-- the item at the next place
pub get-next : {A : Type 0} (below : List A) (b x d : A) (rest : List A) → get_or (below ++ b ∷ x ∷ rest) (suc (length below)) d ≡ x
get-next [] b x d rest = refl
get-next (a ∷ below) b x d rest = get-next below b x d rest

-- lists that are equal at each place are equal
pub by-place : {A : Type 0} (xs ys : List A) → length xs ≡ length ys → ((i : ℕ) (d : A) → i < length xs → get_or xs i d ≡ get_or ys i d) → xs ≡ ys
by-place [] [] n e = refl
by-place {A} (x ∷ xs) (y ∷ ys) n e = ap₂ (λ (z : A) (zs : List A). z ∷ zs) (e 0 x (omega arith)) (by-place xs ys (omega (arith, n)) (λ i d l. e (suc i) d (omega arith)))
by-place xs ys n e = absurd (omega (arith, n))
