-- The extremes of a sketch bound what it retains, and those of a sketch of one level are its items'.
use Rattle.std.proofs.lemmas.Grind.{common_steps}
use Rattle.std.proofs.Common.{◌≡◌, ℕ, zero, suc, ◌/◌, ◌<◌, ◌≤◌, inl, inr, Bool, true, false, if◌then◌else◌, List, [], ◌∷◌, ◌++◌, length, map, drop, Option, None, Some, refl, sym, ap, ◌∙◌, subst, arith, Ordering, Equal, is_gt}
use Rattle.std.specs.List.{AllByRecursion}
use Rattle.std.specs.Cmp.{IsTotalOrder}
use Rattle.std.specs.Option.{option_to_list}
use Rattle.std.proofs.lemmas.Bool.{cases_Bool}
use Rattle.std.proofs.lemmas.Cmp.{upto, alike_right}
use Rattle.std.proofs.lemmas.List.Sums.{sum_by-cons}
use Rattle.sketch_base.specs.Bag.{Bag, SameItems, AlikeReq, sort, with_level}
use Rattle.sketch_base.specs.Extremes.{TiesWithOne, IsExtremeOf, IsAtMost, IsLeastOf, IsGreatestOf}
use Rattle.sketch_base.specs.Queries.{SameAnswer}
use Rattle.sketch_base.specs.Trace.{Action, Work, act, acts, alone, bit_of, draws, next_bit}
use Rattle.sketch_base.proofs.views.Entries.{SameAnswer-itself}
use Rattle.sketch_base.proofs.bags.Parts.{AllIn, all-alike, all-compaction, all-alike-levels, all-flat, all-by-level, all-map}
use Rattle.sketch_req.specs.Actions.{bag_of, coin_kind}
use Rattle.sketch_req.specs.Level.{Level, taken_side}
use Rattle.sketch_req.specs.Schedule.{Layout, new_layout, layouts_of, layout_at, is_full, are_full, taken, compacted, compact_level, compacted_at, step_layouts, steps_actions, steps_layouts, walk_layouts, layouts_if_full, filled}
use Rattle.sketch_req.specs.Sketch.{Req, IsSound, HasEnds, IsSmall, items_in, sketch_of}
use Rattle.sketch_req.specs.Walk.{AreActed, room_of}
use Rattle.sketch_req.specs.declared.RankAccuracy.{RankAccuracy}
use Rattle.sketch_req.proofs.walks.Actions.{alike-sym}
use Rattle.sketch_req.proofs.layouts.Layouts.{length-layouts}

-- ---- a walk over one level that is full adds another

longer-with : (h : ℕ) (change : Layout → Layout) (ls : List Layout) → length ls ≤ length (with_level new_layout h change ls)
longer-with h change [] = omega arith
longer-with zero change (l ∷ ls) = omega arith
longer-with (suc h) change (l ∷ ls) = let r = longer-with h change ls in omega (arith, r)

longer-step : (k h : ℕ) (ls : List Layout) → length ls ≤ length (step_layouts k h ls)
longer-step k h ls =
    elim (is_full k (layout_at ls h)) as (λ b. length ls ≤ length (if b then compacted_at k h ls else ls)) [
      | true ↦
          let a = longer-with h (compacted k) ls in
          let b = longer-with (suc h) (filled (taken k (layout_at ls h) / 2)) (with_level new_layout h (compacted k) ls) in
          omega (arith, a, b)
      | false ↦ omega arith
    ]

longer-steps : (k more h : ℕ) (ls : List Layout) → length ls ≤ length (steps_layouts k more h ls)
longer-steps k zero h ls = omega arith
longer-steps k (suc more) h ls = grind (arith, common_steps, longer-step, longer-steps k more (suc h) (step_layouts k h ls))

-- a walk removes no level
pub longer-room : (k : ℕ) (ls : List Layout) → length ls ≤ length (layouts_if_full k ls)
longer-room k ls = grind (arith, common_steps, longer-steps)

full-one : (k : ℕ) (l : Layout) → are_full k (l ∷ []) ≡ true → is_full k l ≡ true
full-one k l e = grind (arith, common_steps, sum_by-cons)

walk-adds : (k : ℕ) (ls : List Layout) → 0 < length ls → are_full k ls ≡ true → 1 < length (walk_layouts k ls)
walk-adds k [] some e = absurd (omega arith)
walk-adds k (l ∷ []) some e = grind (arith, common_steps, full-one)
walk-adds k (l ∷ m ∷ ls) some e = let a = longer-steps k (length (l ∷ m ∷ ls)) 0 (l ∷ m ∷ ls) in omega (arith, a)

-- so if one level is left, there was no walk
one-left : (k : ℕ) (ls : List Layout) → 0 < length ls → length (layouts_if_full k ls) ≡ 1 → are_full k ls ≡ false
one-left k ls some one = grind (arith, common_steps, cases_Bool, walk-adds)

module _ {A : Type 0} {cmp : A → A → Ordering} (order : IsTotalOrder cmp) where
  abbrev pub Keeps : (A → Type 0) → Type 0
  Keeps P = (x y : A) → cmp x y ≡ Equal → P x → P y

  -- ---- what holds of each item holds after a walk

  steps-all : (P : A → Type 0) (k : ℕ) (accuracy : RankAccuracy) (more h : ℕ) (layouts : List Layout) (word : List Bool) (work : Work (Bag A)) → AllIn P work.bag.levels →
      AllIn P (acts cmp (steps_actions k accuracy more h layouts) word work).bag.levels
  steps-all P k accuracy zero h layouts word work a = a
  steps-all P k accuracy (suc more) h layouts word work a =
      let c : Action A = compact_level k accuracy h layouts in
      let l = layout_at layouts h in
      let rest : List (Action A) = steps_actions k accuracy more (suc h) (step_layouts k h layouts) in
      elim (is_full k l) as (λ b. AllIn P (acts cmp ((if b then c ∷ [] else []) ++ rest) word work).bag.levels) [
        | true ↦
            let bit = bit_of (coin_kind l.state) h (next_bit word) work.bag in
            steps-all P k accuracy more (suc h) (step_layouts k h layouts) (if draws c then drop 1 word else word) (act cmp c (next_bit word) work)
            (all-compaction P cmp h (taken_side accuracy (taken k l)) bit work.bag a)
        | false ↦ steps-all P k accuracy more (suc h) (step_layouts k h layouts) word work a
      ]

  room-all : (P : A → Type 0) (k : ℕ) (accuracy : RankAccuracy) (layouts : List Layout) (word : List Bool) (work : Work (Bag A)) → AllIn P work.bag.levels →
      AllIn P (acts cmp (if are_full k layouts then steps_actions k accuracy (length layouts) 0 layouts else []) word work).bag.levels
  room-all P k accuracy layouts word work a =
      elim (are_full k layouts) as (λ b. AllIn P (acts cmp (if b then steps_actions k accuracy (length layouts) 0 layouts else []) word work).bag.levels) [
        | true ↦ steps-all P k accuracy (length layouts) 0 layouts word work a
        | false ↦ a
      ]

  -- ---- extremes that bound

  -- an item within an extreme; without an extreme no item is
  abbrev pub Reaches : (A → A → Type 0) → Option A → A → Type 0
  Reaches Bounds None x = ⊥
  Reaches Bounds (Some e) x = Bounds e x

  abbrev AtLeast : A → A → Type 0
  AtLeast x y = IsAtMost cmp x y

  abbrev AtMost : A → A → Type 0
  AtMost x y = IsAtMost cmp y x

  -- an item lies between two extremes
  abbrev pub Holds : Option A → Option A → A → Type 0
  Holds least greatest x = Reaches AtLeast least x × Reaches AtMost greatest x

  -- so do items that compare equal to it
  pub holds-same : (least greatest : Option A) → Keeps (Holds least greatest)
  holds-same (Some l) (Some g) x y e h = (ap is_gt (sym (alike_right order x y l e)) ∙ h.0, ap is_gt (sym (order.congr x y g e)) ∙ h.1)
  holds-same None greatest x y e h = absurd h.0
  holds-same (Some l) None x y e h = absurd h.1

  module _ (Bounds : A → A → Type 0) (on : (a b c : A) → Bounds a b → Bounds b c → Bounds a c) where
    reach-left : (a b e : Option A) → IsExtremeOf cmp Bounds (option_to_list a ++ option_to_list b) e → (x : A) → Reaches Bounds a x → Reaches Bounds e x
    reach-left (Some l) b (Some z) i x h = on z l x i.bounds.0 h
    reach-left (Some l) b None i x h = absurd cc
    reach-left None b e i x h = absurd h

    reach-right : (a b e : Option A) → IsExtremeOf cmp Bounds (option_to_list a ++ option_to_list b) e → (x : A) → Reaches Bounds b x → Reaches Bounds e x
    reach-right a None e i x h = absurd h
    reach-right None (Some l) e i x h = reach-left (Some l) None e i x h
    reach-right (Some m) (Some l) None i x h = absurd cc
    reach-right (Some m) (Some l) (Some z) i x h = on z l x i.bounds.1.0 h

  -- the extremes of two sketches together bound what either's do
  module _ (a b least c d greatest : Option A) (il : IsLeastOf cmp (option_to_list a ++ option_to_list b) least) (ig : IsGreatestOf cmp (option_to_list c ++ option_to_list d) greatest) where
    down : (x y z : A) → AtMost x y → AtMost y z → AtMost x z
    down x y z p q = upto order z y x q p

    -- what lay between the first extremes lies between those of both
    pub held-left : (xs : List A) → AllByRecursion (Holds a c) xs → AllByRecursion (Holds least greatest) xs
    held-left xs h = all-map (Holds a c) (Holds least greatest) (λ x p. (reach-left AtLeast (upto order) a b least il x p.0, reach-left AtMost down c d greatest ig x p.1)) xs h

    -- so does what lay between the others
    pub held-right : (xs : List A) → AllByRecursion (Holds b d) xs → AllByRecursion (Holds least greatest) xs
    held-right xs h = all-map (Holds b d) (Holds least greatest) (λ x p. (reach-right AtLeast (upto order) a b least il x p.0, reach-right AtMost down c d greatest ig x p.1)) xs h

  -- the items of a sketch lie between its extremes
  pub held : (s : Req A) → IsSound cmp s → AllByRecursion (Holds s.least s.greatest) (items_in s.levels)
  held s sound = go s.n refl
    where
      go : (n : ℕ) → s.n ≡ n → AllByRecursion (Holds s.least s.greatest) (items_in s.levels)
      go zero e =
          let none : items_in s.levels ≡ [] = ap (λ (t : Req A). items_in t.levels) (sound.empty_at_first e) in
          subst (AllByRecursion (Holds s.least s.greatest)) (sym none) tt
      go (suc n) e =
          let h = sound.ends (omega (arith, e)) in
          rw (h.least_is, h.greatest_is) h.ends.between

  -- if the items of a sketch do, and some item does, the sketch has both extremes
  pub has-ends : (s : Req A) (x : A) → Holds s.least s.greatest x → AllByRecursion (Holds s.least s.greatest) (items_in s.levels) → HasEnds cmp s
  has-ends s x h all = go s.least s.greatest refl refl h all
    where
      go : (a b : Option A) → s.least ≡ a → s.greatest ≡ b → Holds a b x → AllByRecursion (Holds a b) (items_in s.levels) → HasEnds cmp s
      go None b e f h all = absurd h.0
      go (Some l) None e f h all = absurd h.1
      go (Some l) (Some g) e f h all = record { least = l; greatest = g; least_is = e; greatest_is = f; ends = record { in_order = upto order l x g h.0 h.1; between = all } }

  -- ---- extremes of lists that hold the same items

  -- if an item compares equal to one of some items, what follows from each such item follows
  by-tie : (Q : Type 0) (x : A) (ys : List A) → TiesWithOne cmp ys x → AllByRecursion (λ y. cmp x y ≡ Equal → Q) ys → Q
  by-tie Q x [] tie each = absurd tie
  by-tie Q x (y ∷ ys) (inl tie) each = each.0 tie
  by-tie Q x (y ∷ ys) (inr tie) each = by-tie Q x ys tie each.1

  each-ties : (x : A) (ys : List A) → AllByRecursion (λ y. cmp x y ≡ Equal → TiesWithOne cmp ys x) ys
  each-ties x [] = tt
  each-ties x (y ∷ ys) = (λ e. inl e, all-map _ (λ z. cmp x z ≡ Equal → TiesWithOne cmp (y ∷ ys) x) (λ z tie e. inr (tie e)) ys (each-ties x ys))

  -- what holds of each item of one list holds of each item of the other
  abbrev pub Moves : List A → List A → Type 1
  Moves xs ys = (P : A → Type 0) → Keeps P → AllByRecursion P xs → AllByRecursion P ys

  module _ (Bounds : A → A → Type 0) (keeps : (x : A) → Keeps (Bounds x)) where
    extreme-moved : (xs ys : List A) → Moves xs ys → Moves ys xs → (e : Option A) → IsExtremeOf cmp Bounds xs e → IsExtremeOf cmp Bounds ys e
    extreme-moved xs ys to from None i = go ys (to (λ y. ⊥) (λ x y e h. h) (subst (AllByRecursion (λ y. ⊥)) (sym i) tt))
      where
        go : (zs : List A) → AllByRecursion (λ y. ⊥) zs → zs ≡ []
        go [] n = refl
        go (z ∷ zs) n = absurd n.0
    extreme-moved xs ys to from (Some x) i = record {
      ties = by-tie (TiesWithOne cmp ys x) x xs i.ties (from (λ y. cmp x y ≡ Equal → TiesWithOne cmp ys x) (λ y z e tie q. tie (alike_right order y z x e ∙ q)) (each-ties x ys));
      bounds = to (Bounds x) (keeps x) i.bounds;
    }

    extreme-tied : (xs : List A) (x y : Option A) → ((a b c : A) → cmp a b ≡ Equal → Bounds a c → Bounds b c) → SameAnswer cmp x y → IsExtremeOf cmp Bounds xs x → IsExtremeOf cmp Bounds xs y
    extreme-tied xs None None other s i = i
    extreme-tied xs (Some x) (Some y) other s i = record {
      ties = by-tie (TiesWithOne cmp xs y) x xs i.ties (all-map _ (λ z. cmp x z ≡ Equal → TiesWithOne cmp xs y) (λ z tie e. tie (sym (order.congr x y z s) ∙ e)) xs (each-ties y xs));
      bounds = all-map (Bounds x) (Bounds y) (λ z b. other x y z s b) xs i.bounds;
    }
    extreme-tied xs x y other s i = absurd s

  from-same : (x : A) → Keeps (λ y. IsAtMost cmp x y)
  from-same x y z e h = ap is_gt (sym (alike_right order y z x e)) ∙ h

  up-same : (x : A) → Keeps (λ y. IsAtMost cmp y x)
  up-same x y z e h = ap is_gt (sym (order.congr y z x e)) ∙ h

  -- two such lists have the same least item
  pub least-moved : (xs ys : List A) → Moves xs ys → Moves ys xs → (x y : Option A) → SameAnswer cmp x y → IsLeastOf cmp xs x → IsLeastOf cmp ys y
  least-moved xs ys to from x y s i = extreme-tied (λ x y. IsAtMost cmp x y) from-same ys x y (λ a b c e h. up-same c a b e h) s (extreme-moved (λ x y. IsAtMost cmp x y) from-same xs ys to from x i)

  -- and the same greatest item
  pub greatest-moved : (xs ys : List A) → Moves xs ys → Moves ys xs → (x y : Option A) → SameAnswer cmp x y → IsGreatestOf cmp xs x → IsGreatestOf cmp ys y
  greatest-moved xs ys to from x y s i = extreme-tied (λ x y. IsAtMost cmp y x) up-same ys x y (λ a b c e h. from-same c a b e h) s (extreme-moved (λ x y. IsAtMost cmp y x) up-same xs ys to from x i)

  pub alike-moves : (xs ys : List A) → SameItems cmp (sort cmp xs) (sort cmp ys) → Moves xs ys
  alike-moves xs ys s P keeps a = all-alike P cmp keeps xs ys s a

  -- the items of alike bags are such lists
  levels-move : (ms ns : List (Level A)) → AlikeReq cmp (bag_of ms) (bag_of ns) → Moves (items_in ms) (items_in ns)
  levels-move ms ns alike P keeps a =
      let item : Level A → List A = λ level. level.items in
      all-flat P item ns (all-alike-levels P cmp keeps (map item ms) (map item ns) alike.levels (all-by-level P item ms a))

  pub holds-tied : (a b c d : Option A) → SameAnswer cmp a b → SameAnswer cmp c d → (x : A) → Holds a c x → Holds b d x
  holds-tied None b c d s t x h = absurd h.0
  holds-tied (Some l) None c d s t x h = absurd s
  holds-tied (Some l) (Some m) None d s t x h = absurd h.1
  holds-tied (Some l) (Some m) (Some g) None s t x h = absurd t
  holds-tied (Some l) (Some m) (Some g) (Some i) s t x h = (up-same x l m s h.0, from-same x g i t h.1)

  -- ---- one level left

  -- a level that was never compacted
  abbrev pub IsNew : Level A → Type 0
  IsNew level = (level.state ≡ 0) × (level.doublings ≡ 0)

  -- levels with the layouts of new levels are new
  pub news : (ls ms : List (Level A)) → layouts_of ms ≡ layouts_of ls → AllByRecursion IsNew ls → AllByRecursion IsNew ms
  news [] [] e n = tt
  news (l ∷ ls) (m ∷ ms) e n = grind (arith, common_steps, news ls ms (ap (λ (xs : List Layout). drop 1 xs) e) n.1)
  news ls ms e n = absurd cc

  module _ {S : Type 0} {bit : S → Bool} {next : S → S} {source after : S} (k : ℕ) (accuracy : RankAccuracy) (ms ns : List (Level A))
      (room : AreActed cmp bit next source after k accuracy (room_of k accuracy ms) (layouts_if_full k (layouts_of ms)) 0 ms ns) where
    -- what holds of all items, and of items that compare equal to them, holds after actions too
    pub acted-all : (P : A → Type 0) → Keeps P → AllByRecursion P (items_in ms) → AllByRecursion P (items_in ns)
    acted-all P keeps a =
        let item : Level A → List A = λ level. level.items in
        all-flat P item ns (all-alike-levels P cmp keeps _ (map item ns) room.bag.levels (room-all P k accuracy (layouts_of ms) _ (alone (bag_of ms)) (all-by-level P item ms a)))

    -- if one level is left, there was one before
    pub one-before : 0 < length ms → length ns ≡ 1 → length ms ≡ 1
    one-before some one =
        let a = longer-room k (layouts_of ms) in
        let b = ap length room.layouts_are in
        omega (arith, some, one, a, b, length-layouts ms, length-layouts ns)

    -- and its items still determine the extremes
    pub small-acted : (n : ℕ) (least greatest : Option A) → 0 < length ms → length ns ≡ 1 → IsLeastOf cmp (items_in ms) least → IsGreatestOf cmp (items_in ms) greatest →
        (n ≤ 4 → AllByRecursion IsNew ms) → IsSmall cmp (sketch_of k accuracy n ns least greatest)
    small-acted n least greatest some one l g new =
        let full = one-left k (layouts_of ms) (omega (arith, some, length-layouts ms)) (sym (ap length room.layouts_are) ∙ (length-layouts ns ∙ one)) in
        let alike = rw full at room.bag in
        let to = levels-move ms ns alike in
        let from = levels-move ns ms (alike-sym order (bag_of ms) (bag_of ns) alike) in
        let same : layouts_of ns ≡ layouts_of ms = room.layouts_are ∙ ap (λ (b : Bool). if b then walk_layouts k (layouts_of ms) else layouts_of ms) full in
        record {
          least_is = least-moved (items_in ms) (items_in ns) to from least least (SameAnswer-itself order least) l;
          greatest_is = greatest-moved (items_in ms) (items_in ns) to from greatest greatest (SameAnswer-itself order greatest) g;
          fresh_if_few = λ few. news ms ns same (new few);
        }
