-- A merge: the Joins of all levels, and then perhaps a walk follows.
use Rattle.std.proofs.lemmas.Grind.{common_steps}
use Rattle.std.proofs.Common.{append-nil, ◌≡◌, ◌≢◌, ◌↔◌, ◌⊎◌, ℕ, zero, suc, ◌+◌, ◌^◌, ◌<◌, ◌≤◌, max, Bool, true, false, cond, List, [], ◌∷◌, ◌++◌, length, flat_map, Option, refl, sym, ap, ◌∙◌, subst, arith, inl, inr, Ordering, Equal, is_gt, map}
use Rattle.std.specs.Cmp.{IsTotalOrder}
use Rattle.std.specs.Prelude.{IsTrue}
use Rattle.std.specs.List.{AllByRecursion, AllZip}
use Rattle.std.specs.Option.{option_to_list}
use Rattle.std.proofs.lemmas.Bool.{cases_lt, false≢true}
use Rattle.std.proofs.lemmas.Cmp.{tied_itself}
use Rattle.std.proofs.lemmas.List.{get_or_default, length-map}
use Rattle.std.proofs.lemmas.List.Sums.{sum_by-cons}
use Rattle.sketch_base.specs.Bag.{Bag, retained, SameItems, AlikeReq, sort, level_at}
use Rattle.sketch_base.specs.Extremes.{IsLeastOf, IsGreatestOf}
use Rattle.sketch_base.specs.Random.{bits_from, after_draws}
use Rattle.sketch_base.specs.Trace.{Action, Join, Work, act, acts, draws, draws_of, next_bit, joins_actions, bag_beside}
use Rattle.sketch_base.proofs.views.Entries.{SameAnswer-itself}
use Rattle.sketch_base.proofs.bags.Parts.{all-alike, all-append, all-by-level, all-by-place, all-flat, all-level}
use Rattle.sketch_base.proofs.order.Extremes.{least-parts, greatest-parts}
use Rattle.sketch_base.proofs.bags.Alike.{SameItems-back}
use Rattle.sketch_base.proofs.plays.Plays.{draws-append, source-composes}
use Rattle.sketch_req.specs.Actions.{bag_of, coins_of}
use Rattle.sketch_req.specs.Level.{Level}
use Rattle.sketch_req.specs.Merged.{item_lists, AreJoined, AreTakenIn, IsMergedBy, merge_by, coins_of_merge_by, redrawn_if, redraws_of}
use Rattle.sketch_req.specs.Moved.{AreMoved, is_moved}
use Rattle.sketch_req.specs.Schedule.{Layout, layout_at, new_layout, layouts_of, joined_layouts, actions_if_full, layouts_if_full, retained_of, weight_of}
use Rattle.sketch_req.specs.Sketch.{Req, sketch_of, items_in, HasEnds, IsSmall, IsSound}
use Rattle.sketch_req.specs.Walk.{AreActed, room_of}
use Rattle.sketch_req.specs.declared.RankAccuracy.{RankAccuracy}
use Rattle.sketch_req.specs.declared.RankAccuracy.TheVariants.{HighRank, LowRank}
use Rattle.sketch_req.proofs.sketches.Extremes.{Holds, IsNew, acted-all, alike-moves, greatest-moved, has-ends, held, held-left, held-right, holds-same, least-moved, news, one-before, small-acted}
use Rattle.sketch_req.proofs.merges.Levels.{coin-none}
use Rattle.sketch_req.proofs.layouts.Layouts.{length-layouts, by-place}
use Rattle.sketch_req.proofs.walks.Steps.{joins-move, moved-alike}
use Rattle.sketch_req.proofs.views.Views.{retained_is}
use Rattle.sketch_req.proofs.sketches.Copies.{acted-ready, flat-items, items-ready, layouts-ready, redrawn-enough, redraws-draw, redraws-move, redraws_if}
use Rattle.sketch_req.proofs.sketches.Sound.{one_of, kept_sketch}
use Rattle.sketch_req.proofs.layouts.Capacities.{length-joined, retained-joined, retained-weight, weight-joined}
use Rattle.sketch_req.proofs.walks.Walks.{acted-more, alike-after}

-- ---- the joins

-- the layouts of levels that are joined
pub layouts-joined : {A : Type 0} {cmp : A → A → Ordering} (k : ℕ) (accuracy : RankAccuracy) (ls others ms : List (Level A)) → AreJoined cmp k accuracy ls others ms →
    length ms ≡ max (length ls) (length others) →
    layouts_of ms ≡ joined_layouts k (layouts_of ls) (layouts_of others)
layouts-joined k accuracy ls others ms a n =
    let m = length-layouts ms in
    let all : List Layout = joined_layouts k (layouts_of ls) (layouts_of others) in
    let count : length (layouts_of ms) ≡ length all = omega (arith, n, m, length-layouts ls, length-layouts others, length-joined k (layouts_of ls) (layouts_of others)) in
    by-place (layouts_of ms) all count (λ h d i. get_or_default (layouts_of ms) h d new_layout i ∙ (a.layouts h (omega (arith, i, m)) ∙ get_or_default all h new_layout d (omega (arith, i, count))))

-- the levels after all Joins
abbrev joined_lists : {A : Type 0} → List (List A) → List (List A) → List (List A)
joined_lists ls [] = ls
joined_lists [] (o ∷ os) = ([] ++ o) ∷ joined_lists [] os
joined_lists (l ∷ ls) (o ∷ os) = (l ++ o) ∷ joined_lists ls os

level-none : {A : Type 0} (h : ℕ) → level_at {A = A} [] h ≡ []
level-none zero = refl
level-none (suc h) = refl

joined-level : {A : Type 0} (ls os : List (List A)) (h : ℕ) → level_at (joined_lists ls os) h ≡ level_at ls h ++ level_at os h
joined-level ls [] h = sym (append-nil (level_at ls h)) ∙ ap (λ xs. level_at ls h ++ xs) (sym (level-none h))
joined-level [] (o ∷ os) zero = refl
joined-level (l ∷ ls) (o ∷ os) zero = refl
joined-level [] (o ∷ os) (suc h) = joined-level [] os h ∙ ap (λ xs. xs ++ level_at os h) (level-none h)
joined-level (l ∷ ls) (o ∷ os) (suc h) = joined-level ls os h

length-lists : {A : Type 0} (ls os : List (List A)) → length (joined_lists ls os) ≡ max (length ls) (length os)
length-lists ls [] = omega arith
length-lists {A} [] (o ∷ os) = let r = length-lists {A = A} [] os in omega (arith, r)
length-lists (l ∷ ls) (o ∷ os) = let r = length-lists ls os in omega (arith, r)

zip-by-place : {A : Type 0} (R : List A → List A → Type 0) (xs ys : List (List A)) → length xs ≡ length ys → ((h : ℕ) → h < length ys → R (level_at xs h) (level_at ys h)) → AllZip R xs ys
zip-by-place R [] [] n e = tt
zip-by-place R (x ∷ xs) (y ∷ ys) n e = (e 0 (omega arith), zip-by-place R xs ys (omega (arith, n)) (λ h i. e (suc h) (omega arith)))
zip-by-place R xs ys n e = absurd (omega (arith, n))

-- the work on such levels
abbrev works : {A : Type 0} → (ℕ → Bool) → (ℕ → Bool) → List (List A) → List (List A) → Work (Bag A)
works kept kept' ls os = record { bag = record { levels = ls; is_sorted = false; kept = kept }; scratch = record { levels = os; is_sorted = false; kept = kept' } }

-- the work with one more level at the bottom of both the bag and the scratch
abbrev consed : {A : Type 0} → List A → List A → Work (Bag A) → Work (Bag A)
consed b d work = record { bag = record work.bag { levels = b ∷ work.bag.levels }; scratch = record work.scratch { levels = d ∷ work.scratch.levels } }

joins-above : {A : Type 0} (cmp : A → A → Ordering) (n h : ℕ) (word : List Bool) (b d : List A) (work : Work (Bag A)) →
    acts cmp (joins_actions n (suc h)) word (consed b d work) ≡ consed b d (acts cmp (joins_actions n h) word work)
joins-above cmp zero h word b d work = refl
joins-above cmp (suc n) h word b d work = joins-above cmp n (suc h) word b d (act cmp (Join h) (next_bit word) work)

joins-bag : {A : Type 0} (cmp : A → A → Ordering) (kept kept' : ℕ → Bool) (ls os : List (List A)) (word : List Bool) →
    (acts cmp (joins_actions (length os) 0) word (works kept kept' ls os)).bag ≡ (works kept kept' (joined_lists ls os) []).bag
joins-bag cmp kept kept' ls [] word = refl
joins-bag {A} cmp kept kept' [] (o ∷ os) word =
    ap (λ (w : Work (Bag A)). w.bag) (joins-above cmp (length os) 0 word ([] ++ o) [] (works kept kept' [] os))
    ∙ ap (λ (b : Bag A). let c : Bag A = record b { levels = ([] ++ o) ∷ b.levels } in c) (joins-bag cmp kept kept' [] os word)
joins-bag {A} cmp kept kept' (l ∷ ls) (o ∷ os) word =
    ap (λ (w : Work (Bag A)). w.bag) (joins-above cmp (length os) 0 word (l ++ o) [] (works kept kept' ls os))
    ∙ ap (λ (b : Bag A). let c : Bag A = record b { levels = (l ++ o) ∷ b.levels } in c) (joins-bag cmp kept kept' ls os word)

joins-draw : (A : Type 0) (n h : ℕ) → draws_of (joins_actions {A = A} n h) ≡ 0
joins-draw A zero h = refl
joins-draw A (suc n) h = omega (arith, sum_by-cons (λ (a : Action A). cond (draws a) 1 0) (Join h) (joins_actions n (suc h)), joins-draw A n (suc h))

module _ {A : Type 0} {cmp : A → A → Ordering} (order : IsTotalOrder cmp) where
  -- the bag after the Joins is alike to that of the joined levels
  joined-alike : (k : ℕ) (accuracy : RankAccuracy) (ls others ms : List (Level A)) → AreJoined cmp k accuracy ls others ms → length ms ≡ max (length ls) (length others) →
      AlikeReq cmp (works (coins_of ls) (coins_of others) (joined_lists (item_lists ls) (item_lists others)) []).bag (bag_of ms)
  joined-alike k accuracy ls others ms a n = grind (arith, common_steps, length-map, zip-by-place, length-lists, joined-level, cases_lt, coin-none)

  -- the Joins, and then what is done to the joined levels
  has_merged : {S : Type 0} (bit : S → Bool) (next : S → S) (source after : S) (k : ℕ) (accuracy : RankAccuracy) (more : List (Action A)) (layouts : List Layout) (ls others ms ns : List (Level A)) →
      AreJoined cmp k accuracy ls others ms → length ms ≡ max (length ls) (length others) → AreActed cmp bit next source after k accuracy more layouts 0 ms ns →
      let actions : List (Action A) = joins_actions (length (layouts_of others)) 0 ++ more in
      AlikeReq cmp (bag_beside cmp actions (bits_from bit next source (draws_of actions)) (bag_of ls) (bag_of others)) (bag_of ns) × (after ≡ after_draws next source (draws_of actions))
  has_merged {S} bit next source after k accuracy more layouts ls others ms ns a n room =
      let item : Level A → List A = λ level. level.items in
      let joins : List (Action A) = joins_actions (length (layouts_of others)) 0 in
      let none : draws_of joins ≡ 0 = joins-draw A (length (layouts_of others)) 0 in
      let same_source : after_draws next source (draws_of joins) ≡ source = ap (after_draws next source) none in
      let start : Work (Bag A) = record { bag = bag_of ls; scratch = bag_of others } in
      let word = bits_from bit next source (draws_of joins) in
      let count : length (layouts_of others) ≡ length (item_lists others) = length-layouts others ∙ sym (length-map others item) in
      let joined : (acts cmp joins word start).bag ≡ (works (coins_of ls) (coins_of others) (joined_lists (item_lists ls) (item_lists others)) []).bag =
      ap (λ (i : ℕ). (acts cmp (joins_actions i 0) word start).bag) count ∙ joins-bag cmp (coins_of ls) (coins_of others) (item_lists ls) (item_lists others) word in
      let alike : AlikeReq cmp (acts cmp joins word start).bag (bag_of ms) = rw joined (joined-alike k accuracy ls others ms a n) in
      let later = rw (← same_source) at room in
      (alike-after order bit next source after k accuracy joins more layouts 0 start ms ns alike later, later.source_is ∙ sym (source-composes next source joins more))

-- accuracies that don't differ are the same
pub same-accuracy : (a b : RankAccuracy) → (a ≢ b → ⊥) → a ≡ b
same-accuracy HighRank HighRank n = refl
same-accuracy LowRank LowRank n = refl
same-accuracy a b n = absurd (n (λ e. cc))

-- ---- merges

-- what is known of two sketches whose merge is not refused
pub record Merges {A : Type 0} (s t : Req A) : Type 0 where
  pub accuracy : s.accuracy ≡ t.accuracy
  pub fits : s.n + t.n < 2 ^ 64
  pub few : retained_of (layouts_of s.levels) + retained_of (layouts_of t.levels) < 2 ^ 32

-- a merge that is not refused
pub not-refused : {A : Type 0} (s t s' t' : Req A) (b : Bool) → s ≡ s' → t ≡ t' →
    (IsTrue b ↔ ((s'.accuracy ≢ t'.accuracy) ⊎ ((2 ^ 64 ≤ s'.n + t'.n) ⊎ (2 ^ 32 ≤ retained (bag_of s'.levels) + retained (bag_of t'.levels))))) → b ≡ false → Merges s t
not-refused {A} s t s' t' b e f h off =
    let never : IsTrue b → ⊥ = λ y. false≢true (sym off ∙ y) in
    rw (e, f) (record {
      accuracy = same-accuracy s'.accuracy t'.accuracy (λ n. never (h.1 (inl n)));
      fits = elim (cases_lt (s'.n + t'.n) (2 ^ 64)) [ inl low ↦ low | inr high ↦ absurd (never (h.1 (inr (inl high)))) ];
      few =
          elim (cases_lt (retained (bag_of s'.levels) + retained (bag_of t'.levels)) (2 ^ 32)) [
            | inl low ↦ omega (arith, low, retained_is s'.levels, retained_is t'.levels)
            | inr high ↦ absurd (never (h.1 (inr (inr high))))
          ];
    })

-- a merge of an empty sketch is not refused
pub never-refused : {A : Type 0} {cmp : A → A → Ordering} (s t s' t' : Req A) (b : Bool) → s ≡ s' → t ≡ t' → IsSound cmp s → IsSound cmp t →
    (IsTrue b ↔ ((s'.accuracy ≢ t'.accuracy) ⊎ ((2 ^ 64 ≤ s'.n + t'.n) ⊎ (2 ^ 32 ≤ retained (bag_of s'.levels) + retained (bag_of t'.levels))))) → IsTrue b → s'.accuracy ≡ t'.accuracy → t'.n ≡ 0 → ⊥
never-refused {A} s t s' t' b e f sound sound' h on same none = grind (arith, common_steps, retained_is, retained-weight)

all-joined : {A : Type 0} {cmp : A → A → Ordering} (P : A → Type 0) → ((x y : A) → cmp x y ≡ Equal → P x → P y) →
    (k : ℕ) (accuracy : RankAccuracy) (ls others ms : List (Level A)) → AreJoined cmp k accuracy ls others ms →
    AllByRecursion P (items_in ls) → AllByRecursion P (items_in others) → AllByRecursion P (items_in ms)
all-joined {A} {cmp} P keeps k accuracy ls others ms joined a b =
    let item : Level A → List A = λ level. level.items in
    let own = all-by-level P item ls a in
    let other = all-by-level P item others b in
    all-flat P item ms (all-by-place P (map item ms) (λ h i.
    all-alike P cmp keeps _ _ (joined.items h (omega (arith, i, length-map ms item)))
    (all-append P (level_at (item_lists ls) h) (level_at (item_lists others) h) (all-level P (item_lists ls) h own) (all-level P (item_lists others) h other))))

only-items : {A : Type 0} (ls : List (Level A)) → length ls ≡ 1 → items_in ls ≡ level_at (item_lists ls) 0
only-items ls one = let only = one_of ls one in rw only.1 (append-nil only.0.items)

-- a level joined from two that were never compacted wasn't compacted either
new-joined : {A : Type 0} {cmp : A → A → Ordering} (order : IsTotalOrder cmp) (k : ℕ) (ls os ms : List (Level A)) → length ls ≡ 1 → length os ≡ 1 → length ms ≡ 1 →
    AllByRecursion (IsNew order) ls → AllByRecursion (IsNew order) os →
    layout_at (layouts_of ms) 0 ≡ layout_at (joined_layouts k (layouts_of ls) (layouts_of os)) 0 → AllByRecursion (IsNew order) ms
new-joined order k (l ∷ []) (o ∷ []) (m ∷ []) one two three a b layout = grind (arith, common_steps)
new-joined order k ls os ms one two three a b layout = absurd (omega (arith, one, two, three))

module _ {A S : Type 0} {cmp : A → A → Ordering} {bit : S → Bool} {next : S → S} {source after : S} (order : IsTotalOrder cmp) (s t : Req A) (ms rs ns : List (Level A))
    (least greatest : Option A) (sound : IsSound cmp s) (sound' : IsSound cmp t)
    (joined : AreJoined cmp s.k s.accuracy s.levels t.levels ms) (n : length ms ≡ max (length s.levels) (length t.levels))
    (items : item_lists rs ≡ item_lists ms) (layouts : layouts_of rs ≡ layouts_of ms)
    (room : AreActed cmp bit next source after s.k s.accuracy (room_of s.k s.accuracy rs) (layouts_if_full s.k (layouts_of rs)) 0 rs ns)
    (il : IsLeastOf cmp (option_to_list s.least ++ option_to_list t.least) least) (ig : IsGreatestOf cmp (option_to_list s.greatest ++ option_to_list t.greatest) greatest) where
  same_items : items_in rs ≡ items_in ms
  same_items = flat-items rs ∙ (ap (flat_map (λ xs. xs)) items ∙ sym (flat-items ms))

  merged-ends : 0 < t.n → HasEnds cmp (sketch_of s.k s.accuracy (s.n + t.n) ns least greatest)
  merged-ends some =
      let u : Req A = sketch_of s.k s.accuracy (s.n + t.n) ns least greatest in
      let e = sound'.ends some in
      let least' : Holds order t.least t.greatest e.least = rw (e.least_is, e.greatest_is) (ap is_gt (tied_itself order e.least), e.ends.in_order) in
      let here = held-right order s.least t.least least s.greatest t.greatest greatest il ig (e.least ∷ []) (least', tt) in
      let own = held-left order s.least t.least least s.greatest t.greatest greatest il ig (items_in s.levels) (held order s sound) in
      let other = held-right order s.least t.least least s.greatest t.greatest greatest il ig (items_in t.levels) (held order t sound') in
      let P = Holds order least greatest in
      has-ends order u e.least here.0 (acted-all order s.k s.accuracy rs ns room P (holds-same order least greatest)
      (subst (AllByRecursion P) (sym same_items) (all-joined P (holds-same order least greatest) s.k s.accuracy s.levels t.levels ms joined own other)))

  -- if one level is left, each sketch had one before
  merged-small : length ns ≡ 1 → IsSmall cmp (sketch_of s.k s.accuracy (s.n + t.n) ns least greatest)
  merged-small one =
      let count : length rs ≡ length ms = omega (arith, ap length layouts, length-layouts rs, length-layouts ms) in
      let here : 0 < length rs = omega (arith, count, n, sound.has_level) in
      let before : length ms ≡ 1 = sym count ∙ one-before order s.k s.accuracy rs ns room here one in
      let first : length s.levels ≡ 1 = omega (arith, n, before, sound.has_level, sound'.has_level) in
      let second : length t.levels ≡ 1 = omega (arith, n, before, sound.has_level, sound'.has_level) in
      let own = sound.one_level first in
      let other = sound'.one_level second in
      let both : List A = items_in s.levels ++ items_in t.levels in
      let alike : SameItems cmp (sort cmp both) (sort cmp (items_in rs)) =
      rw (same_items, only-items s.levels first, only-items t.levels second, only-items ms before) (joined.items 0 (omega (arith, before))) in
      let to = alike-moves order both (items_in rs) alike in
      let from = alike-moves order (items_in rs) both (SameItems-back order (sort cmp both) (sort cmp (items_in rs)) alike) in
      small-acted order s.k s.accuracy rs ns room (s.n + t.n) least greatest here one
      (least-moved order both (items_in rs) to from least least (SameAnswer-itself order least)
      (least-parts order (items_in s.levels) (items_in t.levels) s.least t.least least own.least_is other.least_is il))
      (greatest-moved order both (items_in rs) to from greatest greatest (SameAnswer-itself order greatest)
      (greatest-parts order (items_in s.levels) (items_in t.levels) s.greatest t.greatest greatest own.greatest_is other.greatest_is ig))
      (λ few. news order ms rs layouts (new-joined order s.k s.levels t.levels ms first second before
      (own.fresh_if_few (omega (arith, few))) (other.fresh_if_few (omega (arith, few))) (joined.layouts 0 (omega (arith, before)))))

-- the actions of a merge of either kind, given the layouts
merge-by : (A : Type 0) (redraws : Bool) (s t : Req A) (ls ms : List Layout) → ls ≡ joined_layouts s.k (layouts_of s.levels) (layouts_of t.levels) →
    ms ≡ joined_layouts s.k (layouts_of s.levels) (layouts_of t.levels) →
    joins_actions (length (layouts_of t.levels)) 0 ++ (redraws_if redraws ls ++ actions_if_full s.k s.accuracy ms) ≡ merge_by redraws s t
merge-by A true s t ls ms e f = rw (e, f) refl
merge-by A false s t ls ms e f = rw f refl

ready-move : (A : Type 0) (redraws : Bool) (ls : List Layout) (rest : List (Action A)) (h : ℕ) → is_moved (redraws_if redraws ls ++ rest) h ≡ is_moved rest h
ready-move A true ls rest h = redraws-move 0 ls rest h
ready-move A false ls rest h = refl

ready-draws : (A : Type 0) (redraws : Bool) (ls : List (Level A)) → draws_of (redraws_if {A = A} redraws (layouts_of ls)) ≡ redraws_of redraws ls
ready-draws A true ls = redraws-draw A 0 (layouts_of ls)
ready-draws A false ls = refl

-- more bits than the redraws take make no difference
ready-enough : {A S : Type 0} (bit : S → Bool) (next : S → S) (redraws : Bool) (source : S) (n : ℕ) (ls : List (Level A)) → redraws_of redraws ls ≤ n →
    redrawn_if redraws (bits_from bit next source n) ls ≡ redrawn_if redraws (bits_from bit next source (redraws_of redraws ls)) ls
ready-enough bit next true source n ls i = redrawn-enough bit next source n ls i
ready-enough bit next false source n ls i = refl

-- a merge as a whole: the sketch is sound and is the merged one, and the coins are drawn from the source
pub merged_sketch : {A S : Type 0} {cmp : A → A → Ordering} (order : IsTotalOrder cmp) (bit : S → Bool) (next : S → S) (source after : S) (redraws : Bool) (s t : Req A)
    (ns : List (Level A)) (least greatest : Option A) →
    IsSound cmp s → IsSound cmp t → 0 < t.n → s.n + t.n < 2 ^ 64 → retained_of (layouts_of s.levels) + retained_of (layouts_of t.levels) < 2 ^ 32 →
    AreTakenIn cmp bit next source after s.k s.accuracy redraws s.levels t.levels ns →
    IsLeastOf cmp (option_to_list s.least ++ option_to_list t.least) least → IsGreatestOf cmp (option_to_list s.greatest ++ option_to_list t.greatest) greatest →
    IsSound cmp (sketch_of s.k s.accuracy (s.n + t.n) ns least greatest)
    × IsMergedBy cmp redraws s t (bits_from bit next source (coins_of_merge_by redraws s t)) (sketch_of s.k s.accuracy (s.n + t.n) ns least greatest)
    × (after ≡ after_draws next source (coins_of_merge_by redraws s t))
merged_sketch {A} {S} {cmp} order bit next source after redraws s t ns least greatest sound sound' some small few taken il ig =
    let ms : List (Level A) = taken.joined in
    let rs : List (Level A) = taken.ready in
    let joined = taken.joined_are in
    let n = taken.count_is in
    let word = bits_from bit next source (redraws_of redraws ms) in
    let middle : S = after_draws next source (redraws_of redraws ms) in
    let walked = taken.acted in
    let room = walked.acted in
    let e = layouts-joined s.k s.accuracy s.levels t.levels ms joined n in
    let layouts : layouts_of rs ≡ layouts_of ms = ap layouts_of taken.ready_are ∙ layouts-ready redraws word ms in
    let all = layouts ∙ e in
    let items : item_lists rs ≡ item_lists ms = ap item_lists taken.ready_are ∙ items-ready redraws word ms in
    let joins = length (layouts_of t.levels) in
    let between : List (Action A) = redraws_if redraws (layouts_of ms) in
    let walk : List (Action A) = room_of s.k s.accuracy rs in
    let actions : joins_actions joins 0 ++ (between ++ walk) ≡ merge_by redraws s t = merge-by A redraws s t (layouts_of ms) (layouts_of rs) e all in
    let drawn : AreActed cmp bit next source middle s.k s.accuracy between (layouts_of ms) 0 ms rs = rw taken.ready_are (acted-ready order bit next source s.k s.accuracy redraws ms joined.placed) in
    let both = acted-more order bit next source middle after s.k s.accuracy between walk (layouts_of ms) (layouts_if_full s.k (layouts_of rs)) 0 0 ms rs ns drawn room in
    let whole = has_merged order bit next source after s.k s.accuracy (between ++ walk) (layouts_if_full s.k (layouts_of rs)) s.levels t.levels ms ns joined n both in
    let done = rw actions at whole in
    let enough : redraws_of redraws ms ≤ coins_of_merge_by redraws s t =
    omega (arith, ready-draws A redraws ms, ap draws_of actions, draws-append (joins_actions joins 0) (between ++ walk), draws-append between walk) in (
      kept_sketch (sketch_of s.k s.accuracy (s.n + t.n) ns least greatest) sound.legal_k room.placed
          (omega (arith, room.weigh, ap weight_of all, weight-joined s.k (layouts_of s.levels) (layouts_of t.levels), sound.weighs_n, sound'.weighs_n)) (omega (arith, some)) small
          (omega (arith, room.fewer, ap retained_of all, retained-joined s.k (layouts_of s.levels) (layouts_of t.levels), few))
          (merged-ends order s t ms rs ns least greatest sound sound' joined n items layouts room il ig some)
          (λ one. merged-small order s t ms rs ns least greatest sound sound' joined n items layouts room il ig one),
      record {
        k = refl;
        accuracy = refl;
        n = refl;
        bag = done.0;
        layouts = room.layouts_are ∙ ap (layouts_if_full s.k) all;
        joined = ms;
        joined_are = record { count = n; each = joined.merged };
        moved = subst (λ (ls : List (Level A)). AreMoved (merge_by redraws s t) ls ns) (taken.ready_are ∙ sym (ready-enough bit next redraws source (coins_of_merge_by redraws s t) ms enough))
            (moved-alike walk (merge_by redraws s t) rs ns (λ h. ap (λ (a : List (Action A)). is_moved a h) (sym actions)
            ∙ (joins-move joins 0 (between ++ walk) h ∙ ready-move A redraws (layouts_of ms) walk h)) walked.moved);
        least = il;
        greatest = ig;
      },
      done.1,
    )
