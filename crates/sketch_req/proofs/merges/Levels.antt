-- Levels with those of another sketch merged in, place by place.
use Rattle.std.proofs.lemmas.Grind.{common_steps}
use Rattle.std.proofs.Common.{◌≡◌, ℕ, ◌+◌, ◌<◌, ◌≤◌, List, [], ◌∷◌, ◌++◌, length, get_or, set, ◌∙◌, sym, subst, arith, append-nil, zero, suc, Bool, true, false, ◌==◌, eq-eqb, if◌then◌else◌, max, length-set, IsSorted, refl, ap, ap₂, inl, inr, length-append, Ordering, Equal}
use Rattle.std.proofs.Math.Seq.{get_or-append_seam}
use Rattle.std.proofs.lemmas.Bool.{cases_lt, ne_eqb}
use Rattle.std.proofs.lemmas.List.{get_or_append_left, get_or-set_other, get_or_default, get_or_past, get_or-set_same}
use Rattle.std.specs.Cmp.{IsTotalOrder}
use Rattle.std.proofs.lemmas.List.Elements.{length_all_zip}
use Rattle.sketch_base.specs.Bag.{SameItems, sort, level_at}
use Rattle.sketch_base.proofs.plays.Plays.{length-sort}
use Rattle.sketch_base.proofs.bags.Alike.{SameItems-append, SameItems-refl, SameItems-trans}
use Rattle.sketch_base.proofs.order.Order.{IsSorted-sort, Ordered-from_sorted, SameItems-sort, ordered-sort, sorted_same}
use Rattle.sketch_req.specs.Actions.{coins_of}
use Rattle.sketch_req.specs.Level.{Level, IsLevel, fresh, IsLevelMerged}
use Rattle.sketch_req.specs.Merged.{item_lists, IsCopied, AreJoined, AreCloned}
use Rattle.sketch_req.specs.Moved.{IsMergedIn}
use Rattle.sketch_req.specs.Schedule.{Layout, layout_of, layouts_of, layout_at, joined_layout, joined_layouts, retained_of}
use Rattle.sketch_req.specs.Sections.{IsLegalK}
use Rattle.sketch_req.specs.Walk.{IsPlaced, AreLevels}
use Rattle.sketch_req.specs.declared.RankAccuracy.{RankAccuracy}
use Rattle.sketch_req.specs.declared.RankAccuracy.TheVariants.{HighRank}
use Rattle.sketch_req.proofs.layouts.Layouts.{empty-layout, length-layouts}
use Rattle.sketch_req.proofs.level.Changes.{fresh_placed}
use Rattle.sketch_req.proofs.walks.Steps.{opened}
use Rattle.sketch_req.proofs.walks.Walks.{count-within}
use Rattle.sketch_req.specs.Arriving.{AreClones}
use Rattle.sketch_req.specs.declared.compactor.Arrivals.{Arrivals}

-- Lists with a place for each level, as they are made and as one place is set.

module _ {X : Type 0} where
  -- one more place
  pub places-more : (P : ℕ → X → Type 0) (xs all : List X) (x : X) (n : ℕ) → length xs ≡ n → all ≡ xs ++ x ∷ [] →
      ((h : ℕ) (none : X) → h < n → P h (get_or xs h none)) → P n x → (h : ℕ) (none : X) → h < n + 1 → P h (get_or all h none)
  places-more P xs all x n long is below here h none within = grind (arith, common_steps, cases_lt, get_or_append_left, get_or-append_seam)

  -- the places above one that is set stay as they are
  pub places-above : (xs : List X) (h : ℕ) (x : X) (j : ℕ) (none : X) → h + 1 ≤ j → get_or (set xs h x) j none ≡ get_or xs j none
  places-above xs h x j none low = get_or-set_other xs h j x none (λ e. absurd (omega (arith, e, low)))

  -- what was taken from a place that was not set yet
  pub taken-there : (xs all : List X) (h : ℕ) (m a : X) → a ≡ m → m ≡ get_or xs h m → ((none : X) → get_or xs h none ≡ get_or all h none) → a ≡ get_or all h a
  taken-there xs all h m a e f same = subst (λ x. x ≡ get_or all h x) (sym e) (f ∙ same m)

-- Levels with those of another sketch merged in, place by place.

-- level h with the other sketch's level h merged in
pub record IsJoined {A : Type 0} (cmp : A → A → Ordering) (k : ℕ) (accuracy : RankAccuracy) (h : ℕ) (ls others : List (Level A)) (m : Level A) : Type 0 where
  pub items : SameItems cmp (sort cmp (level_at (item_lists ls) h ++ level_at (item_lists others) h)) (sort cmp m.items)
  pub layout : layout_of m ≡ layout_at (joined_layouts k (layouts_of ls) (layouts_of others)) h
  pub coin : m.coin ≡ coins_of ls h
  pub placed : IsPlaced cmp k accuracy h m
  pub merged : IsMergedIn cmp k accuracy h ls others m

-- ---- places

-- what is read at a place, where a fresh level stands in for one that is missing
pub reads : {A : Type 0} (k p : ℕ) (accuracy : RankAccuracy) (ls : List (Level A)) (h : ℕ) → let x = get_or ls h (fresh [] true p k accuracy) in
    (level_at (item_lists ls) h ≡ x.items) × (layout_at (layouts_of ls) h ≡ layout_of x) × (coins_of ls h ≡ x.coin)
reads k p accuracy [] zero = (refl, refl, refl)
reads k p accuracy [] (suc h) = (refl, refl, refl)
reads k p accuracy (l ∷ ls) zero = (refl, refl, refl)
reads k p accuracy (l ∷ ls) (suc h) = reads k p accuracy ls h

-- the items at a place
pub items-there : {A : Type 0} (ls : List (Level A)) (h : ℕ) (x : Level A) → h < length ls → x ≡ get_or ls h x → level_at (item_lists ls) h ≡ x.items
items-there {A} ls h x i e = (reads 0 0 HighRank ls h).0 ∙ ap (λ (y : Level A). y.items) (sym (e ∙ get_or_default ls h x _ i))

-- its layout
pub layout-there : {A : Type 0} (ls : List (Level A)) (h : ℕ) (x : Level A) → h < length ls → x ≡ get_or ls h x → layout_at (layouts_of ls) h ≡ layout_of x
layout-there ls h x i e = (reads 0 0 HighRank ls h).1 ∙ ap layout_of (sym (e ∙ get_or_default ls h x _ i))

-- its coin
pub coin-there : {A : Type 0} (ls : List (Level A)) (h : ℕ) (x : Level A) → h < length ls → x ≡ get_or ls h x → coins_of ls h ≡ x.coin
coin-there {A} ls h x i e = (reads 0 0 HighRank ls h).2 ∙ ap (λ (y : Level A). y.coin) (sym (e ∙ get_or_default ls h x _ i))

-- if there is no level at a place, the coin there is false
pub coin-none : {A : Type 0} (ls : List (Level A)) (h : ℕ) → length ls ≤ h → coins_of ls h ≡ false
coin-none {A} ls h i = (reads 0 0 HighRank ls h).2 ∙ ap (λ (y : Level A). y.coin) (get_or_past ls h _ i)

-- a level at a place is placed there
pub placed-at-place : {A : Type 0} (cmp : A → A → Ordering) (k : ℕ) (accuracy : RankAccuracy) (h : ℕ) (ls : List (Level A)) (x : Level A) → AreLevels cmp k accuracy 0 ls →
    h < length ls → x ≡ get_or ls h x → IsPlaced cmp k accuracy h x
placed-at-place cmp k accuracy h ls x a i e = (opened {cmp = cmp} k accuracy h ls x a i e).placed

-- the k of a level, or of another one if there is none
pub k-at : {A : Type 0} (cmp : A → A → Ordering) (k : ℕ) (accuracy : RankAccuracy) (s h : ℕ) (ls : List (Level A)) (none : Level A) → AreLevels cmp k accuracy s ls → none.k ≡ k →
    (get_or ls h none).k ≡ k
k-at cmp k accuracy s h [] none a e = e
k-at cmp k accuracy s zero (l ∷ ls) none a e = a.0.k_is
k-at cmp k accuracy s (suc h) (l ∷ ls) none a e = k-at cmp k accuracy (suc s) h ls none a.1 e

-- a level if there is one, and a fresh one otherwise
copied : {A : Type 0} {cmp : A → A → Ordering} (order : IsTotalOrder cmp) (k : ℕ) (accuracy : RankAccuracy) (h : ℕ) (ls : List (Level A)) (x : Level A) →
    x ≡ get_or ls h (fresh [] true h k accuracy) → IsPlaced cmp k accuracy h x → IsCopied cmp k accuracy h ls x
copied {A} {cmp} order k accuracy h ls x e placed =
    let read = reads k h accuracy ls h in
    record {
      items = rw (read.0, ← e) (SameItems-refl cmp order x.items);
      layout = sym (read.1 ∙ ap layout_of (sym e));
      coin = sym (read.2 ∙ ap (λ (y : Level A). y.coin) (sym e));
      same = e;
      placed = placed;
    }

-- ---- one level joined

-- joined layouts, place by place
pub joined-at : (k : ℕ) (ls os : List Layout) (h : ℕ) → h < length os → layout_at (joined_layouts k ls os) h ≡ joined_layout k (layout_at ls h) (layout_at os h)
joined-at k ls [] h i = absurd (omega arith)
joined-at k [] (o ∷ os) zero i = refl
joined-at k (l ∷ ls) (o ∷ os) zero i = refl
joined-at k [] (o ∷ os) (suc h) i = joined-at k [] os h (omega arith) ∙ ap (λ (l : Layout). joined_layout k l (layout_at os h)) (empty-layout h)
joined-at k (l ∷ ls) (o ∷ os) (suc h) i = joined-at k ls os h (omega arith)

pub joined-past : (k : ℕ) (ls os : List Layout) (h : ℕ) → length os ≤ h → layout_at (joined_layouts k ls os) h ≡ layout_at ls h
joined-past k ls [] h i = refl
joined-past k ls (o ∷ os) zero i = absurd (omega arith)
joined-past k [] (o ∷ os) (suc h) i = joined-past k [] os h (omega arith) ∙ empty-layout h
joined-past k (l ∷ ls) (o ∷ os) (suc h) i = joined-past k ls os h (omega arith)

module _ {A : Type 0} {cmp : A → A → Ordering} (order : IsTotalOrder cmp) where
  -- a copy into which the other's level was merged
  pub joined-there : (k j : ℕ) (accuracy : RankAccuracy) (h : ℕ) (ls others : List (Level A)) (copy o m : Level A) → IsCopied cmp k accuracy h ls copy → h < length others → o ≡ get_or others h o →
      IsLevelMerged cmp copy o m → IsLevel cmp m → IsJoined cmp k accuracy h ls others m
  joined-there k j accuracy h ls others copy o m c i e merged sound =
      let o_items = items-there others h o i e in
      let count : length m.items ≡ length copy.items + length o.items = counts o.items merged.none_came merged.some_came in
      let n = length-layouts others in
      record {
        items = rw o_items sorted;
        layout = rw (joined-at k (layouts_of ls) (layouts_of others) h (omega (arith, n, i)), layout-there others h o i e, ← c.layout, merged.rest_is, count, c.placed.k_is) refl;
        coin = ap (λ (l : Level A). l.coin) merged.rest_is ∙ c.coin;
        merged = record {
          merged = λ none low. subst (λ (old : Level A). IsLevelMerged cmp old (get_or others h none) m) c.same
              (subst (λ (other : Level A). IsLevelMerged cmp copy other m) (e ∙ get_or_default others h o none low) merged);
          kept = λ high. absurd (omega (arith, high, i));
        };
        placed = record {
          sound = sound;
          k_is = ap (λ (l : Level A). l.k) merged.rest_is ∙ c.placed.k_is;
          accuracy_is =
              ap (λ (l : Level A). l.accuracy) merged.rest_is ∙ c.placed.accuracy_is;
          place_is = ap (λ (l : Level A). l.lg_weight) merged.rest_is ∙ c.placed.place_is;
          marked =
              λ low up. ap (λ (l : Level A). l.is_sorted) merged.rest_is ∙ flag o.items m.items merged.none_came (c.placed.marked low) up;
        };
      }
    where
      flag : (os ms : List A) → (os ≡ [] → ms ≡ copy.items) → (IsSorted cmp copy.items → copy.is_sorted ≡ true) → IsSorted cmp ms → (if length os == 0 then copy.is_sorted else true) ≡ true
      flag [] ms a b up = b (subst (IsSorted cmp) (a refl) up)
      flag (x ∷ os) ms a b up =
          let e : (length (x ∷ os) == 0) ≡ false = ne_eqb (length (x ∷ os)) 0 (λ q. absurd (omega (arith, q))) in
          ap (λ (z : Bool). if z then copy.is_sorted else true) e

      counts : (os : List A) → (os ≡ [] → m.items ≡ copy.items) → (0 < length os → SameItems cmp (sort cmp (copy.items ++ os)) m.items) → length m.items ≡ length copy.items + length os
      counts [] a b = ap length (a refl) ∙ omega arith
      counts (x ∷ os) a b = sym (length_all_zip (λ x y. cmp x y ≡ Equal) (sort cmp (copy.items ++ x ∷ os)) m.items (b (omega arith)))
          ∙ (length-sort cmp (copy.items ++ x ∷ os) ∙ length-append copy.items (x ∷ os))

      sorted : SameItems cmp (sort cmp (level_at (item_lists ls) h ++ o.items)) (sort cmp m.items)
      sorted =
          let own : List A = level_at (item_lists ls) h in
          let both = SameItems-sort cmp order (own ++ o.items) (copy.items ++ o.items) (SameItems-append cmp own copy.items o.items o.items c.items (SameItems-refl cmp order o.items)) in
          elim (cases_lt 0 (length o.items)) [
            | inl some ↦
                let came = merged.some_came some in
                let up = sorted_same order (sort cmp (copy.items ++ o.items)) m.items came (IsSorted-sort cmp order (copy.items ++ o.items)) in
                SameItems-trans cmp order _ _ _ both (SameItems-trans cmp order _ _ _ came (ordered-sort cmp order m.items (Ordered-from_sorted cmp order m.items up)))
            | inr few ↦
                let none : o.items ≡ [] = empty o.items few in
                let all : copy.items ++ o.items ≡ m.items = rw (none, append-nil) (sym (merged.none_came none)) in
                rw all at both
          ]
        where
          empty : (xs : List A) → length xs ≤ 0 → xs ≡ []
          empty [] h = refl
          empty (x ∷ xs) h = absurd (omega arith)

  -- a copy of a level above the other's top
  joined-alone : (k : ℕ) (accuracy : RankAccuracy) (h : ℕ) (ls others : List (Level A)) (m : Level A) → IsCopied cmp k accuracy h ls m → length others ≤ h → IsJoined cmp k accuracy h ls others m
  joined-alone k accuracy h ls others m c i =
      let n = length-layouts others in
      let none : level_at (item_lists others) h ≡ [] = (reads 0 0 HighRank others h).0 ∙ ap (λ (l : Level A). l.items) (get_or_past others h _ i) in
      record {
        items = rw (none, append-nil) (SameItems-sort cmp order (level_at (item_lists ls) h) m.items c.items);
        layout = c.layout ∙ sym (joined-past k (layouts_of ls) (layouts_of others) h (omega (arith, n, i)));
        coin = c.coin;
        placed = c.placed;
        merged = record { merged = λ none low. absurd (omega (arith, low, i)); kept = λ high. c.same };
      }

-- a level and the other's hold no more items than all levels of both
pub copied-few : {A : Type 0} (h : ℕ) (ls others : List (Level A)) (copy o : Level A) → layout_of copy ≡ layout_at (layouts_of ls) h → h < length others → o ≡ get_or others h o →
    length copy.items + length o.items ≤ retained_of (layouts_of ls) + retained_of (layouts_of others)
copied-few h ls others copy o e i there = grind (arith, common_steps, layout-there, count-within)

-- how many items a joined layout counts
pub joined-count : (k : ℕ) (ls os : List Layout) (h : ℕ) → (layout_at (joined_layouts k ls os) h).count ≡ (layout_at ls h).count + (layout_at os h).count
joined-count k ls [] h = omega (arith, ap (λ (l : Layout). l.count) (empty-layout h))
joined-count k [] (o ∷ os) zero = refl
joined-count k (l ∷ ls) (o ∷ os) zero = refl
joined-count k [] (o ∷ os) (suc h) = joined-count k [] os h ∙ ap (λ (l : Layout). l.count + (layout_at os h).count) (empty-layout h)
joined-count k (l ∷ ls) (o ∷ os) (suc h) = joined-count k ls os h

-- a level is added at a place if there is none
pub record IsAdded {A : Type 0} (h : ℕ) (f : Level A) (ms ns : List (Level A)) : Type 0 where
  pub len : length ns ≡ max (length ms) (suc h)
  pub below : (i : ℕ) (d : Level A) → i < length ms → get_or ns i d ≡ get_or ms i d
  pub new : (d : Level A) → length ms ≡ h → get_or ns h d ≡ f

-- that is what `add_level` does
pub is-added : {A : Type 0} (h : ℕ) (f : Level A) (ms ns : List (Level A)) → h ≤ length ms → ns ≡ (if h == length ms then ms ++ f ∷ [] else ms) → IsAdded h f ms ns
is-added {A} h f ms ns i e =
    elim (cases_lt h (length ms)) [
      | inl low ↦
          let s : ns ≡ ms = e ∙ ap (λ (b : Bool). if b then ms ++ f ∷ [] else ms) (ne_eqb h (length ms) (λ q. absurd (omega (arith, q, low)))) in
          record {
            len = omega (arith, ap length s, low);
            below = λ j d l. ap (λ (ls : List (Level A)). get_or ls j d) s;
            new = λ d q. absurd (omega (arith, q, low));
          }
      | inr high ↦
          let z : h ≡ length ms = omega (arith, i, high) in
          let s : ns ≡ ms ++ f ∷ [] = e ∙ ap (λ (b : Bool). if b then ms ++ f ∷ [] else ms) (eq-eqb h (length ms) z) in
          record {
            len = omega (arith, ap length s, length-append ms (f ∷ []), z);
            below = λ j d l. ap (λ (ls : List (Level A)). get_or ls j d) s ∙ get_or_append_left ms (f ∷ []) d j l;
            new = λ d q. ap₂ (λ (ls : List (Level A)) (j : ℕ). get_or ls j d) s z ∙ get_or-append_seam ms f [] d;
          }
    ]

-- ---- all levels joined

-- levels of which the first `count` are joined, and the others are as they were
pub record AreJoinedTo {A : Type 0} (cmp : A → A → Ordering) (k : ℕ) (accuracy : RankAccuracy) (count : ℕ) (ls others ms : List (Level A)) : Type 0 where
  pub len : length ms ≡ max (length ls) count
  pub joined : (h : ℕ) (d : Level A) → h < count → IsJoined cmp k accuracy h ls others (get_or ms h d)
  pub same : (h : ℕ) (d : Level A) → count ≤ h → h < length ls → get_or ms h d ≡ get_or ls h d

placed-all : {A : Type 0} (cmp : A → A → Ordering) (k : ℕ) (accuracy : RankAccuracy) (s : ℕ) (ms : List (Level A)) →
    ((h : ℕ) (d : Level A) → h < length ms → IsPlaced cmp k accuracy (s + h) (get_or ms h d)) → AreLevels cmp k accuracy s ms
placed-all cmp k accuracy s [] p = tt
placed-all cmp k accuracy s (m ∷ ms) p =
    let z : s + 0 ≡ s = omega arith in (
      subst (λ (j : ℕ). IsPlaced cmp k accuracy j m) z (p 0 m (omega arith)),
      placed-all cmp k accuracy (suc s) ms (λ h d i. let e : s + suc h ≡ suc s + h = omega arith in subst (λ (j : ℕ). IsPlaced cmp k accuracy j (get_or ms h d)) e (p (suc h) d (omega (arith, i)))),
    )

joined-each : {A : Type 0} {cmp : A → A → Ordering} (k : ℕ) (accuracy : RankAccuracy) (ls others ms : List (Level A)) →
    ((h : ℕ) (d : Level A) → h < length ms → IsJoined cmp k accuracy h ls others (get_or ms h d)) → AreJoined cmp k accuracy ls others ms
joined-each {A} {cmp} k accuracy ls others ms p =
    let none : Level A = fresh [] true 0 k accuracy in
    record {
      items = λ h i. rw (reads k 0 accuracy ms h).0 (p h none i).items;
      layouts = λ h i. (reads k 0 accuracy ms h).1 ∙ (p h none i).layout;
      coins = λ h i. (reads k 0 accuracy ms h).2 ∙ (p h none i).coin;
      placed = placed-all cmp k accuracy 0 ms (λ h d i. let z : h ≡ 0 + h = omega arith in subst (λ (j : ℕ). IsPlaced cmp k accuracy j (get_or ms h d)) z (p h d i).placed);
      merged = λ h d i. (p h d i).merged;
    }

module _ {A : Type 0} {cmp : A → A → Ordering} (order : IsTotalOrder cmp) (k : ℕ) (accuracy : RankAccuracy) (ls others : List (Level A)) (levels : AreLevels cmp k accuracy 0 ls) where
  -- the next level, before it is joined
  pub next-copied : (h : ℕ) (ms ns : List (Level A)) (x : Level A) → IsLegalK k → h ≤ 63 → AreJoinedTo cmp k accuracy h ls others ms →
      IsAdded h (fresh [] true h k accuracy) ms ns → x ≡ get_or ns h x → IsCopied cmp k accuracy h ls x
  next-copied h ms ns x legal low j a e =
      elim (cases_lt h (length ls)) [
        | inl there ↦
            let same : x ≡ get_or ls h x = e ∙ (a.below h x (omega (arith, j.len, there)) ∙ j.same h x (omega arith) there) in
            copied order k accuracy h ls x (same ∙ get_or_default ls h x _ there) (placed-at-place cmp k accuracy h ls x levels there same)
        | inr none ↦
            let new : x ≡ fresh [] true h k accuracy = e ∙ a.new x (omega (arith, j.len, none)) in
            copied order k accuracy h ls x (new ∙ sym (get_or_past ls h _ none)) (subst (IsPlaced cmp k accuracy h) (sym new) (fresh_placed cmp k accuracy h legal low))
      ]

  -- it is joined
  pub next-joined : (h : ℕ) (ms ns : List (Level A)) (f x : Level A) → AreJoinedTo cmp k accuracy h ls others ms → IsAdded h f ms ns → IsJoined cmp k accuracy h ls others x →
      AreJoinedTo cmp k accuracy (h + 1) ls others (set ns h x)
  next-joined h ms ns f x j a new = record {
    len = omega (arith, length-set ns h x, a.len, j.len);
    joined = λ i d l. elim (cases_lt i h) [
      | inl low ↦
          let e : get_or (set ns h x) i d ≡ get_or ms i d = get_or-set_other ns h i x d (λ q. absurd (omega (arith, q, low))) ∙ a.below i d (omega (arith, j.len, low)) in
          subst (IsJoined cmp k accuracy i ls others) (sym e) (j.joined i d low)
      | inr high ↦
          let z : h ≡ i = omega (arith, l, high) in
          subst (λ (n : ℕ). IsJoined cmp k accuracy n ls others (get_or (set ns h x) n d)) z
          (subst (IsJoined cmp k accuracy h ls others) (sym (get_or-set_same ns h x d (omega (arith, a.len)))) new)
    ];
    same = λ i d l m. get_or-set_other ns h i x d (λ q. absurd (omega (arith, q, l))) ∙ (a.below i d (omega (arith, j.len, m)) ∙ j.same i d (omega (arith, l)) m);
  }

  -- all are joined
  pub all-joined-to : (count : ℕ) (ms : List (Level A)) → count ≡ length others → AreJoinedTo cmp k accuracy count ls others ms →
      AreJoined cmp k accuracy ls others ms
  all-joined-to count ms all j =
      joined-each k accuracy ls others ms (λ h d i. elim (cases_lt h (length others)) [
        | inl low ↦ j.joined h d (omega (arith, low, all))
        | inr high ↦
            let there : h < length ls = omega (arith, j.len, i, high, all) in
            let x : Level A = get_or ms h d in
            let same : x ≡ get_or ls h x = get_or_default ms h d x i ∙ j.same h x (omega (arith, high, all)) there in
            joined-alone order k accuracy h ls others x (copied order k accuracy h ls x (same ∙ get_or_default ls h x _ there) (placed-at-place cmp k accuracy h ls x levels there same)) high
      ])

-- Clones of the items of levels that are joined: what a join of one level finds.

-- the clones are those of the other's level, and have room beside this level's own
pub are-clones : {A : Type 0} (cmp : A → A → Ordering) (k : ℕ) (accuracy : RankAccuracy) (h : ℕ) (ls others : List (Level A)) (all : List (Arrivals A)) (old o : Level A) (a : Arrivals A) →
    IsCopied cmp k accuracy h ls old → h < length others → o ≡ get_or others h o → AreCloned cmp ls others all → a ≡ get_or all h a → AreClones cmp (length old.items) o.items a
are-clones {A} cmp k accuracy h ls others all old o a c i e cloned there = grind (arith, common_steps, items-there)
