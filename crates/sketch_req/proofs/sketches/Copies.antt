-- A sketch that is like a sound one, such as a copy or one whose coins were redrawn, is sound.
use Rattle.std.proofs.lemmas.Grind.{common_steps}
use Rattle.std.proofs.Common.{IsSorted, ◌≡◌, ◌∙◌, ℕ, suc, true, length, List, [], ◌∷◌, Option, None, Some, refl, sym, ap, subst, arith, Ordering, is_gt, ◌<◌, ◌≤◌, ◌^◌, inl, inr, zero, ◌+◌, ◌-◌, Bool, false, cond, if◌then◌else◌, ◌++◌, map, flat_map, take, drop, get_or, set, append_assoc}
use Rattle.std.specs.Cmp.{IsTotalOrder}
use Rattle.std.specs.List.{AllZip}
use Rattle.std.proofs.lemmas.Cmp.{tied_itself}
use Rattle.std.proofs.lemmas.List.Elements.{length_all_zip}
use Rattle.sketch_base.proofs.views.Built.{no-items}
use Rattle.sketch_base.specs.Queries.{SameAnswer}
use Rattle.sketch_base.specs.Bag.{SameItems, Bag, AlikeReq}
use Rattle.sketch_base.specs.Views.{IsThere}
use Rattle.sketch_base.proofs.bags.Parts.{all-map, all-same}
use Rattle.sketch_base.proofs.bags.Alike.{SameItems-append, SameItems-back, SameItems-refl}
use Rattle.sketch_base.proofs.order.Order.{sorted_same}
use Rattle.sketch_req.specs.Imaged.{IsSameLevel}
use Rattle.sketch_req.specs.Level.{Level, IsLevel, fresh, turns_coin, redrawn_level}
use Rattle.sketch_req.specs.Schedule.{layouts_of, retained_of, weight_of, Layout, layout_of, turning_levels, redraws_from, redraw_actions, nominal_sum}
use Rattle.sketch_req.specs.Sketch.{Req, sketch_of, items_in, HasEnds, IsSmall, IsSound, empty_sketch}
use Rattle.sketch_req.specs.Walk.{AreLevels, AreOwn, AreActed, AreHeld, accuracy_of, k_of}
use Rattle.sketch_req.specs.declared.RankAccuracy.{RankAccuracy}
use Rattle.sketch_req.proofs.sketches.Extremes.{Holds, Moves, has-ends, held, holds-same, holds-tied, least-moved, greatest-moved, news, longer-room}
use Rattle.sketch_req.proofs.layouts.Layouts.{length-layouts}
use Rattle.std.proofs.lemmas.Bool.{cases_Bool}
use Rattle.std.proofs.lemmas.List.{drop-set-lt, drop_more, take_more_set}
use Rattle.std.proofs.lemmas.List.Folds.{flat_map-map}
use Rattle.std.proofs.lemmas.List.Sums.{sum_by-cons}
use Rattle.sketch_base.specs.Random.{bits_from, after_draws}
use Rattle.sketch_base.specs.Trace.{Action, Redraw, Work, act, acts, alone, bag_after, draws_of, next_bit}
use Rattle.sketch_base.proofs.bags.Acts.{changed-there, changed-other}
use Rattle.sketch_req.specs.Actions.{bag_of, coins_of}
use Rattle.sketch_req.specs.Merged.{redrawn_if, redraws_of, AreTakenIn}
use Rattle.sketch_req.specs.Moved.{is_moved}
use Rattle.sketch_req.specs.Redrawn.{redrawn, redrawn_sketch}
use Rattle.sketch_req.proofs.walks.Actions.{AlikeLevels, levels-refl}
use Rattle.sketch_req.proofs.walks.Walks.{acted-start}
use Rattle.sketch_req.specs.Held.{Held, IsHeld, held_of}
use Rattle.sketch_req.specs.Sections.{IsLegalK}
use Rattle.sketch_req.proofs.level.Changes.{fresh_placed}
use Rattle.sketch_req.proofs.sketches.Sound.{few-placed}
use Rattle.sketch_base.proofs.views.Entries.{SameAnswer-itself}

-- A sketch that is like a sound one, such as a copy, is sound.

module _ {A : Type 0} {cmp : A → A → Ordering} (order : IsTotalOrder cmp) where
  -- an extreme that compares equal is there too
  pub there-alike : (x y : Option A) (n : ℕ) → SameAnswer cmp x y → IsThere x n → IsThere y n
  there-alike None None n same there = there
  there-alike (Some x) (Some y) n same there = there
  there-alike x y n same there = absurd same

  -- a sketch with levels of the same layouts, and items and extremes that compare equal
  module _ (s : Req A) (ys : List (Level A)) (least greatest : Option A) (sound : IsSound cmp s) (layouts : layouts_of ys ≡ layouts_of s.levels)
      (items : SameItems cmp (items_in s.levels) (items_in ys)) (low : SameAnswer cmp s.least least) (high : SameAnswer cmp s.greatest greatest) where
    abbrev other : Req A
    other = sketch_of s.k s.accuracy s.n ys least greatest

    ends-alike : 0 < s.n → HasEnds cmp other
    ends-alike some =
        let e = sound.ends some in
        let tied = holds-tied order s.least least s.greatest greatest low high in
        let here : Holds order s.least s.greatest e.least = rw (e.least_is, e.greatest_is) (ap is_gt (tied_itself order e.least), e.ends.in_order) in
        let P = Holds order least greatest in
        has-ends order other e.least (tied e.least here)
        (all-same P cmp (holds-same order least greatest) (items_in s.levels) (items_in ys) items (all-map (Holds order s.least s.greatest) P tied (items_in s.levels) (held order s sound)))

    small-alike : IsSmall cmp s → IsSmall cmp other
    small-alike small =
        let to : Moves order (items_in s.levels) (items_in ys) = λ P keeps. all-same P cmp keeps (items_in s.levels) (items_in ys) items in
        let from : Moves order (items_in ys) (items_in s.levels) = λ P keeps. all-same P cmp keeps (items_in ys) (items_in s.levels) (SameItems-back order (items_in s.levels) (items_in ys) items) in
        record {
          least_is = least-moved order (items_in s.levels) (items_in ys) to from s.least least low small.least_is;
          greatest_is = greatest-moved order (items_in s.levels) (items_in ys) to from s.greatest greatest high small.greatest_is;
          fresh_if_few = λ few. news order s.levels ys layouts (small.fresh_if_few few);
        }

    -- it is sound
    pub sound-alike : AreLevels cmp s.k s.accuracy 0 ys → (s.n ≡ 0 → other ≡ empty_sketch s.k s.accuracy) → IsSound cmp other
    sound-alike placed none =
        let count : length ys ≡ length s.levels = omega (arith, ap length layouts, length-layouts ys, length-layouts s.levels) in
        let some : 0 < length ys = omega (arith, count, sound.has_level) in
        let few : length ys ≤ 64 = omega (arith, count, sound.has_few_levels) in
        let weight = ap weight_of layouts ∙ sound.weighs_n in
        let retained : retained_of (layouts_of ys) < 2 ^ 32 = omega (arith, ap retained_of layouts, sound.few_items) in
        let least_there = there-alike s.least least s.n low sound.least_there in
        let greatest_there = there-alike s.greatest greatest s.n high sound.greatest_there in
        let one_level : length ys ≡ 1 → IsSmall cmp other = λ one. small-alike (sound.one_level (sym count ∙ one)) in
        assumption ends-alike

  -- levels are copies of themselves
  pub levels-itself : (ls : List (Level A)) → AllZip (IsSameLevel cmp) ls ls
  levels-itself [] = tt
  levels-itself (l ∷ ls) = (record { items = SameItems-refl cmp order l.items; rest = refl }, levels-itself ls)

  -- copies have the same layouts
  pub layouts-copied : (xs ys : List (Level A)) → AllZip (IsSameLevel cmp) xs ys → layouts_of ys ≡ layouts_of xs
  layouts-copied [] [] c = refl
  layouts-copied (x ∷ xs) (y ∷ ys) c = grind (arith, common_steps, length_all_zip, layouts-copied xs ys c.1)
  layouts-copied xs ys c = absurd c

  -- a copy of a level keeps what every level keeps
  same-sound : (x y : Level A) → IsSameLevel cmp x y → IsLevel cmp x → IsLevel cmp (record x { items = y.items })
  same-sound x y c was = grind (arith, common_steps, length_all_zip, sorted_same)

  -- copies of levels at their places are at their places too
  pub placed-copied : (k : ℕ) (accuracy : RankAccuracy) (h : ℕ) (xs ys : List (Level A)) → AllZip (IsSameLevel cmp) xs ys → AreLevels cmp k accuracy h xs → AreLevels cmp k accuracy h ys
  placed-copied k accuracy h [] [] c a = tt
  placed-copied k accuracy h (x ∷ xs) (y ∷ ys) c a =
      let first = a.0 in
      let sound = same-sound x y c.0 first.sound in
      let marked : 0 < h → IsSorted cmp y.items → x.is_sorted ≡ true = λ low up. first.marked low (sorted_same order y.items x.items (SameItems-back order x.items y.items c.0.items) up) in
      (rw c.0.rest (assumption), placed-copied k accuracy (suc h) xs ys c.1 a.1)
  placed-copied k accuracy h xs ys c a = absurd c

  -- their items compare equal
  pub items-copied : (xs ys : List (Level A)) → AllZip (IsSameLevel cmp) xs ys → SameItems cmp (items_in xs) (items_in ys)
  items-copied [] [] c = tt
  items-copied (x ∷ xs) (y ∷ ys) c = SameItems-append cmp x.items y.items (items_in xs) (items_in ys) c.0.items (items-copied xs ys c.1)
  items-copied xs ys c = absurd c

  no-item : (y : Option A) → SameAnswer cmp None y → y ≡ None
  no-item None same = refl
  no-item (Some y) same = absurd same

  one-copied : (k : ℕ) (accuracy : RankAccuracy) (ys : List (Level A)) → AllZip (IsSameLevel cmp) (fresh [] true 0 k accuracy ∷ []) ys → ys ≡ fresh [] true 0 k accuracy ∷ []
  one-copied k accuracy (y ∷ []) c = ap (λ (l : Level A). l ∷ []) (c.0.rest ∙ ap (λ (is : List A). fresh is true 0 k accuracy) (no-items cmp y.items c.0.items))
  one-copied k accuracy [] c = absurd c
  one-copied k accuracy (y ∷ z ∷ ys) c = absurd c.1

  -- a copy of a sound sketch is sound
  pub copied_sketch : (k : ℕ) (accuracy : RankAccuracy) (n : ℕ) (xs ys : List (Level A)) (least least' greatest greatest' : Option A) →
      IsSound cmp (sketch_of k accuracy n xs least greatest) → AllZip (IsSameLevel cmp) xs ys → SameAnswer cmp least least' → SameAnswer cmp greatest greatest' →
      IsSound cmp (sketch_of k accuracy n ys least' greatest')
  copied_sketch k accuracy n xs ys least least' greatest greatest' sound c low high =
      sound-alike (sketch_of k accuracy n xs least greatest) ys least' greatest' sound (layouts-copied xs ys c) (items-copied xs ys c) low high
      (placed-copied k accuracy 0 xs ys c sound.placed) (λ none.
      let empty = sound.empty_at_first none in
      let levels = one-copied k accuracy ys (subst (λ (ls : List (Level A)). AllZip (IsSameLevel cmp) ls ys) (ap (λ (t : Req A). t.levels) empty) c) in
      let no-least = no-item least' (subst (λ (x : Option A). SameAnswer cmp x least') (ap (λ (t : Req A). t.least) empty) low) in
      let no-greatest = no-item greatest' (subst (λ (x : Option A). SameAnswer cmp x greatest') (ap (λ (t : Req A). t.greatest) empty) high) in
      rw (none, levels, no-least, no-greatest) refl)

-- Redraws of the levels' coins, level by level.

-- one more level
turning-first : {A : Type 0} (x : Level A) (rest : List (Level A)) → turning_levels (layouts_of (x ∷ rest)) ≡ cond (turns_coin x.state) 1 0 + turning_levels (layouts_of rest)
turning-first x rest = sum_by-cons (λ (l : Layout). cond (turns_coin l.state) 1 0) (layout_of x) (layouts_of rest)

module _ {A S : Type 0} (bit : S → Bool) (next : S → S) where
  -- the levels, and the source, after coins were redrawn from the source
  abbrev pub redrawn_by : S → List (Level A) → List (Level A)
  redrawn_by source ls = redrawn (bits_from bit next source (turning_levels (layouts_of ls))) ls

  abbrev pub source_by : S → List (Level A) → S
  source_by source ls = after_draws next source (turning_levels (layouts_of ls))

  -- the source after one level
  abbrev pub source_past : S → Level A → S
  source_past source x = if turns_coin x.state then next source else source

  redrawn-next : (source : S) (n m : ℕ) (x : Level A) (rest : List (Level A)) → n ≡ cond (turns_coin x.state) 1 0 + m →
      redrawn (bits_from bit next source n) (x ∷ rest) ≡ redrawn_level x (bit source) ∷ redrawn (bits_from bit next (source_past source x) m) rest
  redrawn-next source n m x rest e = grind (arith, common_steps, cases_Bool)

  redrawn-first : (source : S) (x : Level A) (rest : List (Level A)) → redrawn_by source (x ∷ rest) ≡ redrawn_level x (bit source) ∷ redrawn_by (source_past source x) rest
  redrawn-first source x rest = redrawn-next source (turning_levels (layouts_of (x ∷ rest))) (turning_levels (layouts_of rest)) x rest (turning-first x rest)

  source-first : (source : S) (x : Level A) (rest : List (Level A)) → source_by source (x ∷ rest) ≡ source_by (source_past source x) rest
  source-first source x rest = grind (arith, common_steps, turning-first)

  -- more bits than there are levels that take one make no difference
  pub redrawn-enough : (source : S) (n : ℕ) (ls : List (Level A)) → turning_levels (layouts_of ls) ≤ n → redrawn (bits_from bit next source n) ls ≡ redrawn_by source ls
  redrawn-enough source n [] i = refl
  redrawn-enough source n (x ∷ rest) i =
      let m : ℕ = n - cond (turns_coin x.state) 1 0 in
      let t = turning-first x rest in
      redrawn-next source n m x rest (omega (arith, i, t)) ∙ (ap (λ ls. redrawn_level x (bit source) ∷ ls) (redrawn-enough (source_past source x) m rest (omega (arith, i, t)))
      ∙ sym (redrawn-first source x rest))

  -- what a loop has done, and what is left
  abbrev pub drawn_so_far : S → ℕ → List (Level A) → List (Level A)
  drawn_so_far source i ls = take i ls ++ redrawn_by source (drop i ls)

  pub redrawn-more : (source : S) (i : ℕ) (ls : List (Level A)) (x : Level A) → i < length ls → x ≡ get_or ls i x →
      (drawn_so_far (source_past source x) (i + 1) (set ls i (redrawn_level x (bit source))) ≡ drawn_so_far source i ls)
      × (source_by (source_past source x) (drop (i + 1) (set ls i (redrawn_level x (bit source)))) ≡ source_by source (drop i ls))
  redrawn-more source i ls x h e = grind (arith, common_steps, drop_more, drop-set-lt, take_more_set, append_assoc, redrawn-first, source-first)

-- ---- what stays

-- redraws leave the layouts as they are
pub layouts-redrawn : {A : Type 0} (word : List Bool) (ls : List (Level A)) → layouts_of (redrawn word ls) ≡ layouts_of ls
layouts-redrawn word [] = refl
layouts-redrawn word (x ∷ rest) = ap (λ (l : List Layout). layout_of x ∷ l) (layouts-redrawn (if turns_coin x.state then drop 1 word else word) rest)

-- and the items
pub items-redrawn : {A : Type 0} (word : List Bool) (ls : List (Level A)) → map (λ level. level.items) (redrawn word ls) ≡ map (λ level. level.items) ls
items-redrawn word [] = refl
items-redrawn {A} word (x ∷ rest) = ap (λ (l : List (List A)). x.items ∷ l) (items-redrawn (if turns_coin x.state then drop 1 word else word) rest)

-- all items, level by level
pub flat-items : {A : Type 0} (ls : List (Level A)) → items_in ls ≡ flat_map (λ xs. xs) (map (λ level. level.items) ls)
flat-items {A} ls = sym (flat_map-map (λ (xs : List A). xs) (λ (level : Level A). level.items) ls)

-- and the places
pub placed-redrawn : {A : Type 0} (cmp : A → A → Ordering) (k : ℕ) (accuracy : RankAccuracy) (h : ℕ) (word : List Bool) (ls : List (Level A)) → AreLevels cmp k accuracy h ls →
    AreLevels cmp k accuracy h (redrawn word ls)
placed-redrawn cmp k accuracy h word [] a = tt
placed-redrawn cmp k accuracy h word (x ∷ rest) a =
    (let first = a.0 in assumption, placed-redrawn cmp k accuracy (suc h) (if turns_coin x.state then drop 1 word else word) rest a.1)

-- ---- the actions

-- they draw one coin for each level at an odd state
pub redraws-draw : (A : Type 0) (h : ℕ) (ls : List Layout) → draws_of (redraws_from {A = A} h ls) ≡ turning_levels ls
redraws-draw A h [] = refl
redraws-draw A h (l ∷ ls) = grind (arith, common_steps, sum_by-cons, cases_Bool, redraws-draw A (suc h) ls)

-- they leave the scratch alone
pub own-redraws : (A : Type 0) (h : ℕ) (ls : List Layout) → AreOwn {A = A} (redraws_from h ls)
own-redraws A h [] = tt
own-redraws A h (l ∷ ls) = grind (arith, common_steps, own-redraws A (suc h) ls)

-- they move nothing
pub redraws-move : {A : Type 0} (h : ℕ) (ls : List Layout) (rest : List (Action A)) (i : ℕ) → is_moved (redraws_from h ls ++ rest) i ≡ is_moved rest i
redraws-move h [] rest i = refl
redraws-move {A} h (l ∷ ls) rest i = grind (arith, common_steps, redraws-move (suc h) ls rest i)

-- a bag of the same items, whose kept bits from level h up are the coins of some levels
record IsKept {A : Type 0} (h : ℕ) (ns : List (Level A)) (old new : Bag A) : Type 0 where
  levels : new.levels ≡ old.levels
  kept : (i : ℕ) → new.kept (h + i) ≡ coins_of ns i
  below : (i : ℕ) → i < h → new.kept i ≡ old.kept i

kept-all : {A : Type 0} (h : ℕ) (f : ℕ → Bool) (y : Level A) (rest : List (Level A)) → f h ≡ y.coin → ((i : ℕ) → f (suc h + i) ≡ coins_of rest i) → (i : ℕ) → f (h + i) ≡ coins_of (y ∷ rest) i
kept-all h f y rest here above zero = let e : h + 0 ≡ h = omega arith in ap f e ∙ here
kept-all h f y rest here above (suc i) = let e : h + suc i ≡ suc h + i = omega arith in ap f e ∙ above i

redraws-keep : {A : Type 0} (cmp : A → A → Ordering) (h : ℕ) (word : List Bool) (ls : List (Level A)) (work : Work (Bag A)) → ((i : ℕ) → work.bag.kept (h + i) ≡ coins_of ls i) →
    IsKept h (redrawn word ls) work.bag (acts cmp (redraws_from h (layouts_of ls)) word work).bag
redraws-keep cmp h word [] work kept = record { levels = refl; kept = kept; below = λ i l. refl }
redraws-keep {A} cmp h word (x ∷ rest) work kept =
    let old : ℕ → Bool = work.bag.kept in
    let up : (i : ℕ) → suc h + i ≡ h + suc i = λ i. omega arith in
    let above : (i : ℕ) → old (suc h + i) ≡ coins_of rest i = λ i. ap old (up i) ∙ kept (suc i) in
    elim (cases_Bool (turns_coin x.state)) [
      | inl turns ↦
          let bit : Bool = next_bit word in
          let drawn : Work (Bag A) = act cmp (Redraw h) bit work in
          let r = redraws-keep cmp (suc h) (drop 1 word) rest drawn (λ i. changed-other old h bit (suc h + i) (λ e. absurd (omega (arith, e))) ∙ above i) in
          let here = r.below h (omega arith) ∙ changed-there old h bit in
          rw turns (record {
            levels = r.levels;
            kept = kept-all h (acts cmp (redraws_from (suc h) (layouts_of rest)) (drop 1 word) drawn).bag.kept (record x { coin = bit }) (redrawn (drop 1 word) rest) here r.kept;
            below = λ i l. r.below i (omega (arith, l)) ∙ changed-other old h bit i (λ e. absurd (omega (arith, e, l)));
          })
      | inr stays ↦
          let r = redraws-keep cmp (suc h) word rest work above in
          let here : h ≡ h + 0 = omega arith in
          rw stays (record {
            levels = r.levels;
            kept = kept-all h (acts cmp (redraws_from (suc h) (layouts_of rest)) word work).bag.kept x (redrawn word rest) (r.below h (omega arith) ∙ (ap old here ∙ kept 0)) r.kept;
            below = λ i l. r.below i (omega (arith, l));
          })
    ]

module _ {A : Type 0} {cmp : A → A → Ordering} (order : IsTotalOrder cmp) where
  -- the actions do to the bag what the redraws do to the levels
  pub redraws-are : (word : List Bool) (ls : List (Level A)) → AlikeReq cmp (bag_after cmp (redraw_actions (layouts_of ls)) word (bag_of ls)) (bag_of (redrawn word ls))
  redraws-are word ls =
      let r = redraws-keep cmp 0 word ls (alone (bag_of ls)) (λ i. let e : 0 + i ≡ i = omega arith in ap (coins_of ls) e) in
      let item : Level A → List A = λ level. level.items in
      let new : Bag A = bag_after cmp (redraw_actions (layouts_of ls)) word (bag_of ls) in
      record {
        levels = subst (λ (l : List (List A)). AlikeLevels order new.levels l) (r.levels ∙ sym (items-redrawn word ls)) (levels-refl order new.levels);
        kept = λ i. let e : i ≡ 0 + i = omega arith in ap new.kept e ∙ r.kept i;
      }

  acted-redrawn : {S : Type 0} (bit : S → Bool) (next : S → S) (source : S) (k : ℕ) (accuracy : RankAccuracy) (ls : List (Level A)) → AreLevels cmp k accuracy 0 ls →
      AreActed cmp bit next source (source_by bit next source ls) k accuracy (redraw_actions (layouts_of ls)) (layouts_of ls) 0 ls (redrawn_by bit next source ls)
  acted-redrawn bit next source k accuracy ls a = grind (arith, common_steps, redraws-draw, layouts-redrawn, redraws-are, own-redraws, placed-redrawn)

-- ---- redrawn or not

-- the layouts stay, whether coins were redrawn or not
pub layouts-ready : {A : Type 0} (redraws : Bool) (word : List Bool) (ls : List (Level A)) → layouts_of (redrawn_if redraws word ls) ≡ layouts_of ls
layouts-ready true word ls = layouts-redrawn word ls
layouts-ready false word ls = refl

-- so do the items
pub items-ready : {A : Type 0} (redraws : Bool) (word : List Bool) (ls : List (Level A)) → map (λ level. level.items) (redrawn_if redraws word ls) ≡ map (λ level. level.items) ls
items-ready true word ls = items-redrawn word ls
items-ready false word ls = refl

-- and the places
pub placed-ready : {A : Type 0} (cmp : A → A → Ordering) (k : ℕ) (accuracy : RankAccuracy) (redraws : Bool) (word : List Bool) (ls : List (Level A)) →
    AreLevels cmp k accuracy 0 ls → AreLevels cmp k accuracy 0 (redrawn_if redraws word ls)
placed-ready cmp k accuracy true word ls a = placed-redrawn cmp k accuracy 0 word ls a
placed-ready cmp k accuracy false word ls a = a

-- the actions of the redraws, if there are any
abbrev pub redraws_if : {A : Type 0} → Bool → List Layout → List (Action A)
redraws_if redraws layouts = if redraws then redraw_actions layouts else []

-- the levels after these actions
pub acted-ready : {A S : Type 0} {cmp : A → A → Ordering} (order : IsTotalOrder cmp) (bit : S → Bool) (next : S → S) (source : S) (k : ℕ) (accuracy : RankAccuracy) (redraws : Bool)
    (ls : List (Level A)) → AreLevels cmp k accuracy 0 ls →
    AreActed cmp bit next source (after_draws next source (redraws_of redraws ls)) k accuracy (redraws_if redraws (layouts_of ls)) (layouts_of ls) 0 ls
    (redrawn_if redraws (bits_from bit next source (redraws_of redraws ls)) ls)
acted-ready order bit next source k accuracy true ls a = acted-redrawn order bit next source k accuracy ls a
acted-ready order bit next source k accuracy false ls a = (acted-start order bit next source k accuracy ls a).acted

-- Levels of one sketch: their k and their accuracy are those of level 0.

-- what is known of levels whose k and accuracy are given
pub record IsOwn {A : Type 0} (cmp : A → A → Ordering) (k : ℕ) (accuracy : RankAccuracy) (ls : List (Level A)) : Type 0 where
  pub legal : IsLegalK k
  pub k_is : k_of ls ≡ k
  pub accuracy_is : accuracy_of ls ≡ accuracy
  pub held : AreHeld cmp ls

-- levels from level 0 up have the k and the accuracy of the sketch
pub own-levels : {A : Type 0} (cmp : A → A → Ordering) (k : ℕ) (accuracy : RankAccuracy) (ls : List (Level A)) → 0 < length ls → AreLevels cmp k accuracy 0 ls → IsOwn cmp k accuracy ls
own-levels cmp k accuracy [] some a = absurd (omega arith)
own-levels cmp k accuracy (l ∷ ls) some a = record {
  legal = subst IsLegalK a.0.k_is a.0.sound.legal_k;
  k_is = a.0.k_is;
  accuracy_is = a.0.accuracy_is;
  held = record {
    some = some;
    placed = subst (λ (n : ℕ). AreLevels cmp n l.accuracy 0 (l ∷ ls)) (sym a.0.k_is)
        (subst (λ (b : RankAccuracy). AreLevels cmp k b 0 (l ∷ ls)) (sym a.0.accuracy_is) a);
  };
}

-- the same after coins were redrawn
pub held-redrawn : {A : Type 0} (cmp : A → A → Ordering) (k n capacity : ℕ) (accuracy : RankAccuracy) (word : List Bool) (ls : List (Level A)) → IsHeld cmp n capacity (held_of k accuracy ls) →
    IsHeld cmp n capacity (held_of k accuracy (redrawn word ls))
held-redrawn cmp k n capacity accuracy word ls held =
    let same = layouts-redrawn word ls in
    record {
      some = omega (arith, held.some, ap length same, length-layouts ls, length-layouts (redrawn word ls));
      placed = placed-redrawn cmp k accuracy 0 word ls held.placed;
      retained_is = held.retained_is ∙ ap retained_of (sym same);
      capacity_is = held.capacity_is ∙ ap (nominal_sum k) (sym same);
    }

-- there are at most 64 of them
pub few-levels : {A : Type 0} (cmp : A → A → Ordering) (k : ℕ) (accuracy : RankAccuracy) (ls xs : List (Level A)) → AreLevels cmp k accuracy 0 ls → xs ≡ ls → length xs ≤ 64
few-levels cmp k accuracy ls xs a same = let few = few-placed cmp k accuracy 0 ls (omega arith) a in omega (arith, few, ap length same)

-- levels as they are stored, with the sums over them
pub held-sums : {A : Type 0} (cmp : A → A → Ordering) (k n capacity : ℕ) (accuracy : RankAccuracy) (ls xs : List (Level A)) → 0 < length ls → AreLevels cmp k accuracy 0 ls → xs ≡ ls →
    n ≡ retained_of (layouts_of xs) → ((k : ℕ) (accuracy : RankAccuracy) → AreLevels cmp k accuracy 0 xs → capacity ≡ nominal_sum k (layouts_of xs)) →
    IsHeld cmp n capacity (held_of k accuracy ls)
held-sums {A} cmp k n capacity accuracy ls xs some a same retained told =
    let retained_is = rw same at retained in
    let all = rw same at told in
    let capacity_is = all k accuracy a in
    assumption

-- one empty level
pub first-levels : {A : Type 0} (cmp : A → A → Ordering) (k : ℕ) (accuracy : RankAccuracy) → IsLegalK k → AreLevels cmp k accuracy 0 (fresh [] true 0 k accuracy ∷ [])
first-levels cmp k accuracy legal = (fresh_placed cmp k accuracy 0 legal (omega arith), tt)

-- there is at least one level after levels took others in
pub some-taken : {A S : Type 0} {cmp : A → A → Ordering} (bit : S → Bool) (next : S → S) (source after : S) (k : ℕ) (accuracy : RankAccuracy) (redraws : Bool)
    (ls others ns : List (Level A)) → 0 < length ls →
    AreTakenIn cmp bit next source after k accuracy redraws ls others ns → 0 < length ns
some-taken bit next source after k accuracy redraws ls others ns some t =
    let same = ap length (ap layouts_of t.ready_are ∙ layouts-ready redraws _ t.joined) in
    let n = ap length t.acted.acted.layouts_are in
    omega (arith, some, t.count_is, length-layouts t.joined, length-layouts ns, same, n, longer-room k (layouts_of t.ready))

-- the levels of a sketch replaced
pub with-levels : {A : Type 0} (h s : Held A) (ls : List (Level A)) → h ≡ s → held_of h.k h.accuracy ls ≡ held_of s.k s.accuracy ls
with-levels {A} h s ls e = ap (λ (x : Held A). held_of x.k x.accuracy ls) e

-- A sketch whose coins are redrawn stays sound.

module _ {A : Type 0} {cmp : A → A → Ordering} (order : IsTotalOrder cmp) (word : List Bool) (s : Req A) where
  -- a sketch stays sound when coins are redrawn
  pub redrawn-sound : IsSound cmp s → IsSound cmp (redrawn_sketch word s)
  redrawn-sound sound =
      let ys = redrawn word s.levels in
      let items : items_in ys ≡ items_in s.levels = flat-items ys ∙ (ap (flat_map (λ xs. xs)) (items-redrawn word s.levels) ∙ sym (flat-items s.levels)) in
      let same : SameItems cmp (items_in s.levels) (items_in ys) = rw items (SameItems-refl cmp order (items_in s.levels)) in
      sound-alike order s ys s.least s.greatest sound (layouts-redrawn word s.levels) same (SameAnswer-itself order s.least) (SameAnswer-itself order s.greatest)
      (placed-redrawn cmp s.k s.accuracy 0 word s.levels sound.placed) (λ none. ap (redrawn_sketch word) (sound.empty_at_first none))
