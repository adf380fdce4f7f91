-- Levels that compare equal place by place: they still do after the same steps, and clones do. So the levels that the code holds give bags
-- alike to those that the actions give.
use Rattle.std.proofs.Common.{arith, ◌≡◌, ℕ, zero, suc, ◌-◌, ◌%◌, Bool, true, false, List, [], ◌∷◌, length, drop, refl, Ordering, IsSorted, map, ap₂, ◌<◌, cond, not, ◌++◌, sym, subst, inl, inr, IsTrue, ◌&&◌, ap, ◌∙◌, ◌+◌, ◌*◌, ◌≤◌, get_or, take, take_at, take-append-drop, length-append, length-drop}
use Rattle.std.proofs.lemmas.Grind.{common_steps}
use Rattle.std.specs.Cmp.{IsTotalOrder, both_ways}
use Rattle.sketch_base.specs.Bag.{SameItems, parity_up, AllButLeftover, half, sort, cut, AlikeKll, level_at, with_level}
use Rattle.sketch_kll.specs.Levels.{SameLevels, compacted, first_level, leftover_of, body_of, AllSorted, UpperSorted, retained_in, weight_in}
use Rattle.sketch_base.proofs.bags.Alike.{SameItems-take, SameItems-drop, SameItems-half, SameItems-append, SameItems-refl, SameItems-trans}
use Rattle.sketch_base.proofs.order.Order.{SameItems-sort, sorted_same, Ordered-sort, Ordered-from_sorted, Ordered-drop, sort-ordered, ordered-sort}
use Rattle.sketch_kll.proofs.layout.Compacted.{length-same, alike_size}
use Rattle.std.specs.List.{AllZip}
use Rattle.std.proofs.lemmas.Bool.{cases_Bool, false≢true, and_right, and_parts, and_from}
use Rattle.sketch_base.specs.Trace.{Put, Compact, Fresh, bag_after, draws_of}
use Rattle.sketch_base.specs.Random.{bits_from}
use Rattle.sketch_kll.specs.Schedule.{lowest_full, are_full, update_actions}
use Rattle.sketch_kll.specs.Steps.{needs_sorting, compacted_if_full, put}
use Rattle.sketch_kll.specs.Sketch.{bag_in, Kll}
use Rattle.sketch_kll.proofs.layout.Full.{full_holds, with_room_full, with_room_spare, full_level_at}
use Rattle.std.proofs.lemmas.Cmp.{tied_itself}
use Rattle.std.specs.Prelude.{Option, None, Some, nat_eq}
use Rattle.std.specs.Option.{option_eq}
use Rattle.std.specs.Ordering.{is_eq}
use Rattle.sketch_kll.specs.Copy.{IsCopy, same_sketch}
use Rattle.std.specs.Cmp.Lexicographic.{pointwise, same_text, nat_list_eq_equiv}
use Rattle.std.proofs.Math.Bool.{and_assoc}
use Rattle.sketch_base.specs.Queries.{SameAnswer}
use Rattle.sketch_kll.specs.Flat.{IsFlat, flat, levels_in, marks, cut_at}
use Rattle.sketch_kll.proofs.layout.Flats.{length-flat, marks_head, is_flat, length-bounds}
use Rattle.std.proofs.lemmas.List.{nil_from_length}
use Rattle.sketch_kll.specs.Stored.{AreStored, AreClones}
use Rattle.sketch_kll.specs.declared.levels.merging.Incoming.{Incoming}
pub use Rattle.sketch_kll.proofs.layout.Full.{length-lengths, sum-lengths}
pub use Rattle.sketch_base.proofs.bags.Alike.{SameItems-clones as same_clones}

-- Two lists of levels that compare equal still do after a compaction; if the levels of one are sorted, so are those of the other.

SameItems-leftover : {A : Type 0} (cmp : A → A → Ordering) (last : Bool) (xs ys : List A) → SameItems cmp xs ys → SameItems cmp (leftover_of last xs) (leftover_of last ys)
unfolding leftover_of
SameItems-leftover cmp true xs ys s = rw (length-same cmp xs ys s) (SameItems-drop cmp (length ys - length ys % 2) xs ys s)
SameItems-leftover cmp false xs ys s = rw (length-same cmp xs ys s) (SameItems-take cmp (length ys % 2) xs ys s)

SameItems-body : {A : Type 0} (cmp : A → A → Ordering) (last : Bool) (xs ys : List A) → SameItems cmp xs ys → SameItems cmp (body_of last xs) (body_of last ys)
unfolding body_of
SameItems-body cmp true xs ys s = rw (length-same cmp xs ys s) (SameItems-take cmp (length ys - length ys % 2) xs ys s)
SameItems-body cmp false xs ys s = rw (length-same cmp xs ys s) (SameItems-drop cmp (length ys % 2) xs ys s)

-- the levels 0 compare equal item by item
pub SameItems-first : {A : Type 0} (cmp : A → A → Ordering) (ls ms : List (List A)) → SameLevels cmp ls ms → SameItems cmp (first_level ls) (first_level ms)
SameItems-first cmp [] [] s = tt
SameItems-first cmp (l ∷ ls) (m ∷ ms) s = s.0
SameItems-first cmp ls ms s = absurd s

SameLevels-rest : {A : Type 0} (cmp : A → A → Ordering) (ls ms : List (List A)) → SameLevels cmp ls ms → SameLevels cmp (drop 1 ls) (drop 1 ms)
SameLevels-rest cmp [] [] s = tt
SameLevels-rest cmp (l ∷ ls) (m ∷ ms) s = s.1
SameLevels-rest cmp ls ms s = absurd s

same_side : {A : Type 0} (cmp : A → A → Ordering) (coin : Bool) (xs ys : List A) → SameItems cmp xs ys → parity_up AllButLeftover coin xs ≡ parity_up AllButLeftover coin ys
same_side cmp coin [] [] s = refl
same_side cmp coin (x ∷ xs) (y ∷ ys) s = refl
same_side cmp coin xs ys s = absurd s

-- levels that compare equal still do after the same compaction
pub SameLevels-compacted : {A : Type 0} (cmp : A → A → Ordering) → IsTotalOrder cmp → (last coin : Bool) (h : ℕ) (ls ms : List (List A)) → SameLevels cmp ls ms →
    SameLevels cmp (compacted cmp last coin h ls) (compacted cmp last coin h ms)
SameLevels-compacted cmp o last coin h [] [] s = tt
SameLevels-compacted {A} cmp o last coin zero (l ∷ ls) (m ∷ ms) s = grind (arith, common_steps, SameItems-first, SameItems-half, SameItems-sort, SameItems-body, same_side, SameItems-leftover, SameItems-append, SameLevels-rest)
SameLevels-compacted cmp o last coin (suc h) (l ∷ ls) (m ∷ ms) s = (s.0, SameLevels-compacted cmp o last coin h ls ms s.1)
SameLevels-compacted cmp o last coin h ls ms s = absurd s

module _ {A : Type 0} (cmp : A → A → Ordering) (o : IsTotalOrder cmp) where
  AllSorted-same : (ls ms : List (List A)) → SameLevels cmp ls ms → AllSorted cmp ls → AllSorted cmp ms
  AllSorted-same [] [] s h = tt
  AllSorted-same (l ∷ ls) (m ∷ ms) s h = (sorted_same o l m s.0 h.0, AllSorted-same ls ms s.1 h.1)
  AllSorted-same ls ms s h = absurd s

  -- if the upper levels of the first list are sorted, so are those of the second
  pub UpperSorted-same : (ls ms : List (List A)) → SameLevels cmp ls ms → UpperSorted cmp ls → UpperSorted cmp ms
  UpperSorted-same [] [] s h = tt
  UpperSorted-same (l ∷ ls) (m ∷ ms) s h = AllSorted-same ls ms s.1 h
  UpperSorted-same ls ms s h = absurd s

  -- if level 0 of the first list is sorted, so is that of the second
  pub first-same : (ls ms : List (List A)) → SameLevels cmp ls ms → IsSorted cmp (first_level ls) → IsSorted cmp (first_level ms)
  first-same ls ms s h = sorted_same o (first_level ls) (first_level ms) (SameItems-first cmp ls ms s) h

-- Lists that are related place by place.

-- if a list is related to a second one, and that one to a third, then the first is related to the third
pub zip-trans : {X : Type 0} (R S : X → X → Type 0) → ((x y z : X) → R x y → S y z → R x z) → (xs ys zs : List X) → AllZip R xs ys → AllZip S ys zs → AllZip R xs zs
zip-trans R S step [] [] [] r s = tt
zip-trans R S step (x ∷ xs) (y ∷ ys) (z ∷ zs) r s = (step x y z r.0 s.0, zip-trans R S step xs ys zs r.1 s.1)
zip-trans R S step [] [] (z ∷ zs) r s = absurd s
zip-trans R S step (x ∷ xs) (y ∷ ys) [] r s = absurd s
zip-trans R S step xs ys zs r s = absurd r

-- the same relation the other way round
pub zip-back : {X : Type 0} (R : X → X → Type 0) → ((x y : X) → R x y → R y x) → (xs ys : List X) → AllZip R xs ys → AllZip R ys xs
zip-back R back [] [] r = tt
zip-back R back (x ∷ xs) (y ∷ ys) r = (back x y r.0, zip-back R back xs ys r.1)
zip-back R back xs ys r = absurd r

-- if related items have the same number, related lists have the same numbers
pub zip-map : {X : Type 0} (R : X → X → Type 0) (f : X → ℕ) → ((x y : X) → R x y → f x ≡ f y) → (xs ys : List X) → AllZip R xs ys → map f xs ≡ map f ys
zip-map R f same [] [] r = refl
zip-map R f same (x ∷ xs) (y ∷ ys) r = ap₂ (λ (n : ℕ) (ns : List ℕ). n ∷ ns) (same x y r.0) (zip-map R f same xs ys r.1)
zip-map R f same xs ys r = absurd r

-- Steps on levels in list order give bags alike to those that the actions give.

-- an update of full levels compacts one first
pub update_full : {A : Type 0} (k : ℕ) (lengths : List ℕ) (x : A) → are_full k lengths ≡ true → update_actions k lengths x ≡ Compact (lowest_full k lengths) Fresh AllButLeftover ∷ Put 0 x ∷ []
update_full k lengths x e = rw e refl

-- an update of other levels only puts its item in
pub update_spare : {A : Type 0} (k : ℕ) (lengths : List ℕ) (x : A) → are_full k lengths ≡ false → update_actions k lengths x ≡ Put 0 x ∷ []
update_spare k lengths x e = rw e refl

-- an update takes one coin if the levels are full, else none
pub draws_of_update : {A : Type 0} (k : ℕ) (lengths : List ℕ) (x : A) → draws_of (update_actions k lengths x) ≡ cond (are_full k lengths) 1 0
draws_of_update k lengths x = grind (arith, common_steps, cases_Bool, update_full, update_spare)

-- lists and levels that compare equal once they are sorted
module _ {A : Type 0} (cmp : A → A → Ordering) (o : IsTotalOrder cmp) where
  -- two lists that, once sorted, compare equal place by place
  abbrev pub SameSorted : List A → List A → Type 0
  SameSorted xs ys = SameItems cmp (sort cmp xs) (sort cmp ys)

  SameSorted-refl : (xs : List A) → SameSorted xs xs
  SameSorted-refl xs = SameItems-refl cmp o (sort cmp xs)

  -- a list that is sorted twice compares equal to the list sorted once
  pub sort-twice : (xs : List A) → SameItems cmp (sort cmp xs) (sort cmp (sort cmp xs))
  sort-twice xs = ordered-sort cmp o (sort cmp xs) (Ordered-sort o xs)

  -- what a cut leaves and takes, of a sorted level or one whose last item is the leftover
  record CutIs (last : Bool) (low : List A) : Type 0 where
    left : SameItems cmp (cut cmp AllButLeftover last low).0 (leftover_of last low)
    taken : SameItems cmp (cut cmp AllButLeftover last low).1 (sort cmp (body_of last low))

  cut_is : (last : Bool) (low : List A) → (last ≡ false → IsSorted cmp low) → CutIs last low
  unfolding leftover_of body_of
  cut_is true low h = record { left = SameItems-refl cmp o _; taken = SameItems-refl cmp o _ }
  cut_is false low h =
      let n = length low % 2 in
      let i = Ordered-from_sorted cmp o low (h refl) in
      let s = sort-ordered cmp o low i in
      record {
        left = SameItems-take cmp n (sort cmp low) low s;
        taken = SameItems-trans cmp o (drop n (sort cmp low)) (drop n low) (sort cmp (drop n low)) (SameItems-drop cmp n (sort cmp low) low s)
            (ordered-sort cmp o (drop n low) (Ordered-drop cmp o n low i));
      }

  -- the levels of a bag after a compaction
  abbrev pub compacted_levels : Bool → Bool → ℕ → List (List A) → List (List A)
  compacted_levels last bit h ls =
      let above = level_at ls (suc h) in
      let parts = cut cmp AllButLeftover last (level_at ls h) in
      with_level [] (suc h) (λ level. level ++ half (parity_up AllButLeftover bit above) parts.1) (with_level [] h (λ level. parts.0) ls)

  -- alike levels: each pair of them, sorted, compares equal, and the levels 0 compare equal in list order too
  pub record LikeLevels (xs ys : List (List A)) : Type 0 where
    pub levels : AllZip SameSorted xs ys
    pub zeroth : SameItems cmp (level_at xs 0) (level_at ys 0)

  -- levels compare equal to themselves once each is sorted
  pub zip-refl : (ls : List (List A)) → AllZip SameSorted ls ls
  zip-refl [] = tt
  zip-refl (l ∷ ls) = (SameSorted-refl l, zip-refl ls)

  -- levels are alike to themselves
  pub like-refl : (ls : List (List A)) → LikeLevels ls ls
  like-refl ls = record { levels = zip-refl ls; zeroth = SameItems-refl cmp o (level_at ls 0) }

  moved_up : (p : Bool) (up taken body : List A) → SameItems cmp taken (sort cmp body) → SameSorted (up ++ half p taken) (sort cmp (up ++ half p (sort cmp body)))
  moved_up p up taken body s =
      let a = SameItems-sort cmp o (up ++ half p taken) (up ++ half p (sort cmp body)) (SameItems-append cmp up up _ _ (SameItems-refl cmp o up) (SameItems-half cmp p taken (sort cmp body) s)) in
      SameItems-trans cmp o _ _ _ a (sort-twice (up ++ half p (sort cmp body)))

  -- a compaction by the action and one by the code give alike levels
  pub compacted_like : (last bit : Bool) (h : ℕ) (ls : List (List A)) → h < length ls → (last ≡ false → IsSorted cmp (level_at ls h)) →
      LikeLevels (compacted_levels last bit h ls) (compacted cmp last bit h ls)
  compacted_like last bit h [] b i = absurd (omega arith)
  compacted_like last bit zero (low ∷ []) b i =
      let c = cut_is last low i in
      record { levels = (SameItems-sort cmp o _ _ c.left, (moved_up (not bit) [] _ (body_of last low) c.taken, tt)); zeroth = c.left }
  compacted_like last bit zero (low ∷ up ∷ above) b i =
      let c = cut_is last low i in
      record { levels = (SameItems-sort cmp o _ _ c.left, (moved_up (parity_up AllButLeftover bit up) up _ (body_of last low) c.taken, zip-refl above)); zeroth = c.left }
  compacted_like last bit (suc h) (l ∷ ls) b i = grind (arith, common_steps, SameSorted-refl, SameItems-refl, compacted_like last bit h ls (omega arith) i)

  -- alike levels stay alike if the same item is appended to level 0 of both
  put_like : (x : A) (xs ys : List (List A)) → LikeLevels xs ys → LikeLevels (with_level [] 0 (λ level. level ++ x ∷ []) xs) (put x ys)
  put_like x [] [] l = like-refl ((x ∷ []) ∷ [])
  put_like x (m ∷ ms) (n ∷ ns) l = grind (arith, common_steps, SameItems-append, tied_itself, SameItems-sort)
  put_like x [] (n ∷ ns) l = absurd l.levels
  put_like x (m ∷ ms) [] l = absurd l.levels

  -- levels that are alike to others are alike to any levels that compare equal to those
  pub like_same : (xs ys zs : List (List A)) → LikeLevels xs ys → SameLevels cmp ys zs → LikeLevels xs zs
  like_same xs ys zs l s = record {
    levels = zip-trans SameSorted (SameItems cmp) (λ x y z e f. SameItems-trans cmp o _ _ _ e (SameItems-sort cmp o y z f)) xs ys zs l.levels s;
    zeroth = SameItems-trans cmp o _ _ _ l.zeroth (zeroth ys zs s);
  }
    where
      zeroth : (ys zs : List (List A)) → SameLevels cmp ys zs → SameItems cmp (level_at ys 0) (level_at zs 0)
      zeroth [] [] s = tt
      zeroth (y ∷ ys) (z ∷ zs) s = s.0
      zeroth ys zs s = absurd s

  -- if all levels are sorted, each of them is
  sorted_at : (h : ℕ) (ls : List (List A)) → AllSorted cmp ls → h < length ls → IsSorted cmp (level_at ls h)
  sorted_at h [] u b = absurd (omega arith)
  sorted_at zero (l ∷ ls) u b = u.0
  sorted_at (suc h) (l ∷ ls) u b = sorted_at h ls u.1 (omega arith)

  -- a level that needs no sorting is sorted
  pub in_order_at : (flag : Bool) (h : ℕ) (ls : List (List A)) → h < length ls → UpperSorted cmp ls →
      (h ≡ 0 → IsTrue flag → IsSorted cmp (first_level ls)) → needs_sorting flag h ≡ false → IsSorted cmp (level_at ls h)
  in_order_at flag h [] b u f e = absurd (omega arith)
  in_order_at true zero (l ∷ ls) b u f e = f refl refl
  in_order_at false zero (l ∷ ls) b u f e = absurd (false≢true (sym e))
  in_order_at flag (suc h) (l ∷ ls) b u f e = sorted_at h ls u (omega arith)

  -- the levels after an item was taken in are alike to those that the actions of its update give
  pub bridged_levels : {S : Type 0} (bit : S → Bool) (next : S → S) (source : S) (k : ℕ) (flag : Bool) (ls : List (List A)) (x : A) (ms : List (List A)) → 0 < length ls →
      UpperSorted cmp ls → (IsTrue flag → IsSorted cmp (first_level ls)) →
      SameLevels cmp (put x (compacted_if_full cmp k flag (bit source) ls)) ms →
      AlikeKll cmp (bag_after cmp (update_actions k (map length ls) x) (bits_from bit next source (draws_of (update_actions k (map length ls) x))) (bag_in flag ls)) (bag_in false ms)
  bridged_levels {S} bit next source k flag ls x ms some upper holds same =
      let lengths : List ℕ = map length ls in
      elim (cases_Bool (are_full k lengths)) [
        | inl e ↦
            let h = lowest_full k lengths in
            let last = needs_sorting flag h in
            let within : h < length ls = (full_level_at k ls some (full_holds k ls e)).0 in
            let w = with_room_full cmp k h flag (bit source) ls (sym e) refl in
            let c = compacted_like last (bit source) h ls within (in_order_at flag h ls within upper (λ _. holds)) in
            let p = put_like x _ _ (subst (λ (y : List (List A)). LikeLevels (compacted_levels last (bit source) h ls) y) (sym w) c) in
            let l = like_same _ _ _ p same in
            rw e (record { levels = l.levels; level_zero = l.zeroth; flag = and_right flag false refl })
        | inr e ↦
            let w = with_room_spare cmp k flag (bit source) ls (sym e) in
            let p = put_like x _ _ (subst (λ (y : List (List A)). LikeLevels ls y) (sym w) (like-refl ls)) in
            let l = like_same _ _ _ p same in
            rw e (record { levels = l.levels; level_zero = l.zeroth; flag = and_right flag false refl })
      ]

-- Levels are equal if their items and bounds are, and a copy is equal to what it copies.

-- the first number of a list, or 0 if it is empty
abbrev head-of : List ℕ → ℕ
head-of [] = 0
head-of (n ∷ ns) = n

module _ {A : Type 0} (E : A → A → Bool) where
  same-length : (xs ys : List A) → pointwise E xs ys ≡ true → length xs ≡ length ys
  same-length [] [] h = refl
  same-length (x ∷ xs) (y ∷ ys) h = ap suc (same-length xs ys (and_parts (E x y) (pointwise E xs ys) h).1)
  same-length xs ys h = absurd (false≢true h)

  pointwise-append : (xs ys us vs : List A) → length xs ≡ length ys → pointwise E (xs ++ us) (ys ++ vs) ≡ (pointwise E xs ys && pointwise E us vs)
  pointwise-append [] [] us vs e = refl
  pointwise-append (x ∷ xs) (y ∷ ys) us vs e = rw (pointwise-append xs ys us vs (omega (arith, e))) (sym (and_assoc (E x y) (pointwise E xs ys) (pointwise E us vs)))
  pointwise-append xs ys us vs e = absurd (omega (arith, e))

  from-levels : (ls ms : List (List A)) → pointwise (pointwise E) ls ms ≡ true → (marks ls ≡ marks ms) × (pointwise E (flat ls) (flat ms) ≡ true)
  from-levels [] [] h = (refl, refl)
  from-levels (l ∷ ls) (m ∷ ms) h =
      let parts = and_parts (pointwise E l m) (pointwise (pointwise E) ls ms) h in
      let rest = from-levels ls ms parts.1 in
      let long = same-length (flat ls) (flat ms) rest.1 in
      let held : retained_in (l ∷ ls) ≡ retained_in (m ∷ ms) = omega (arith, same-length l m parts.0, long, length-flat ls, length-flat ms) in
      (cc (held, rest.0), rw (pointwise-append (flat ls) (flat ms) l m long) (and_from (pointwise E (flat ls) (flat ms)) (pointwise E l m) rest.1 parts.0))
  from-levels ls ms h = absurd (false≢true h)

  to-levels : (ls ms : List (List A)) → marks ls ≡ marks ms → pointwise E (flat ls) (flat ms) ≡ true → pointwise (pointwise E) ls ms ≡ true
  to-levels [] [] e h = refl
  to-levels [] (m ∷ ms) e h = absurd (omega (arith, ap length e, ap length (marks_head ms)))
  to-levels (l ∷ ls) [] e h = absurd (omega (arith, ap length e, ap length (marks_head ls)))
  to-levels (l ∷ ls) (m ∷ ms) e h =
      let held : retained_in (l ∷ ls) ≡ retained_in (m ∷ ms) = ap head-of e in
      let rest : marks ls ≡ marks ms = ap (drop 1) e in
      let below : retained_in ls ≡ retained_in ms = ap head-of (sym (marks_head ls) ∙ (rest ∙ marks_head ms)) in
      let parts = and_parts (pointwise E (flat ls) (flat ms)) (pointwise E l m) (rw (pointwise-append (flat ls) (flat ms) l m (omega (arith, below, length-flat ls, length-flat ms))) at h) in
      and_from (pointwise E l m) (pointwise (pointwise E) ls ms) parts.1 (to-levels ls ms rest parts.0)

  -- levels are equal exactly if their bounds and their items are
  pub levels-equal : (items items' : List A) (bounds bounds' : List ℕ) → IsFlat items bounds → IsFlat items' bounds' →
      (pointwise nat_eq bounds bounds' && pointwise E items items') ≡ pointwise (pointwise E) (levels_in items bounds) (levels_in items' bounds')
  levels-equal items items' bounds bounds' f f' =
      both_ways (pointwise nat_eq bounds bounds' && pointwise E items items') (pointwise (pointwise E) (levels_in items bounds) (levels_in items' bounds'))
      (λ h.
      let parts = and_parts (pointwise nat_eq bounds bounds') (pointwise E items items') h in
      to-levels (levels_in items bounds) (levels_in items' bounds') (f.bounds_are ∙ (same_text bounds bounds' (sym parts.0) ∙ sym f'.bounds_are))
      (ap₂ (λ xs ys. pointwise E xs ys) f.items_are f'.items_are ∙ parts.1))
      (λ h.
      let parts = from-levels (levels_in items bounds) (levels_in items' bounds') h in
      let same : bounds ≡ bounds' = sym f.bounds_are ∙ (parts.0 ∙ f'.bounds_are) in
      and_from (pointwise nat_eq bounds bounds') (pointwise E items items')
      (subst (λ bs. pointwise nat_eq bounds bs ≡ true) same (nat_list_eq_equiv.refl bounds))
      (sym (ap₂ (λ xs ys. pointwise E xs ys) f.items_are f'.items_are) ∙ parts.1))

-- a copy that is made of clones is equal
module _ {A : Type 0} {cmp : A → A → Ordering} (order : IsTotalOrder cmp) where
  -- if related items pass an equality test, lists of related items pass it place by place
  zip-equal : {X : Type 0} (R : X → X → Type 0) (eq : X → X → Bool) → ((x y : X) → R x y → eq x y ≡ true) → (xs ys : List X) → AllZip R xs ys → pointwise eq xs ys ≡ true
  zip-equal R eq ties [] [] h = refl
  zip-equal R eq ties (x ∷ xs) (y ∷ ys) h = and_from (eq x y) (pointwise eq xs ys) (ties x y h.0) (zip-equal R eq ties xs ys h.1)
  zip-equal R eq ties xs ys h = absurd h

  extremes-equal : (eq : A → A → Bool) → ((x y : A) → eq x y ≡ is_eq (cmp x y)) → (x y : Option A) → SameAnswer cmp x y → option_eq eq x y ≡ true
  extremes-equal eq ties None None h = refl
  extremes-equal eq ties (Some x) (Some y) h = ties x y ∙ ap is_eq h
  extremes-equal eq ties x y h = absurd h

  -- sketches with equal numbers are equal if their items compare equal
  pub copy_is_equal : (eq : A → A → Bool) → ((x y : A) → eq x y ≡ is_eq (cmp x y)) → (s t : Kll A) → IsCopy cmp s t → same_sketch eq s t ≡ true
  copy_is_equal eq ties s t c = grind (arith, common_steps, and_from, zip-equal, extremes-equal)

-- Clones of levels that lie in one list: level 0, and the levels above it.

-- items that compare equal, cut at the same bounds, give levels that compare equal
pub same_cut : {A : Type 0} (cmp : A → A → Ordering) (xs ys : List A) (bs : List ℕ) → SameItems cmp xs ys → SameLevels cmp (cut_at xs bs) (cut_at ys bs)
same_cut cmp xs ys [] s = tt
same_cut cmp xs ys (b ∷ bs) s = (SameItems-drop cmp b xs ys s, same_cut cmp (take b xs) (take b ys) bs (SameItems-take cmp b xs ys s))

-- levels that compare equal have the same marks
pub same_marks : {A : Type 0} (cmp : A → A → Ordering) (ls ms : List (List A)) → SameLevels cmp ls ms → (marks ls ≡ marks ms) × (retained_in ls ≡ retained_in ms)
same_marks cmp [] [] s = (refl, refl)
same_marks cmp (l ∷ ls) (m ∷ ms) s = grind (arith, common_steps, length-same, same_marks cmp ls ms s.1)
same_marks cmp ls ms s = absurd s

-- a list that is cut at its bounds and laid out again is the same list
pub flat-cut : {A : Type 0} (zs : List A) (bs : List ℕ) → length (flat (cut_at zs bs)) ≡ length zs → flat (cut_at zs bs) ≡ zs
flat-cut zs [] e = sym (nil_from_length zs (sym e))
flat-cut zs (b ∷ bs) e =
    let whole : take b zs ++ drop b zs ≡ zs = take-append-drop b zs in
    let size : length (flat (cut_at (take b zs) bs)) ≡ length (take b zs) =
    omega (arith, e, length-append (flat (cut_at (take b zs) bs)) (drop b zs), length-append (take b zs) (drop b zs), ap length whole) in
    rw (flat-cut (take b zs) bs size) whole

-- clones of the items in two parts: level 0, and the levels above it
pub record IsCloned {A : Type 0} (cmp : A → A → Ordering) (items : List A) (bounds : List ℕ) (low upper : List A) : Type 0 where
  pub same : SameLevels cmp (levels_in items bounds) (low ∷ levels_in upper (drop 1 bounds))
  pub fits : IsFlat upper (drop 1 bounds)

-- clones of all items, with level 0 split off, are clones of the levels
pub cloned : {A : Type 0} (cmp : A → A → Ordering) (items copy : List A) (bounds : List ℕ) (low upper : List A) → IsFlat items bounds → 1 < length bounds → SameItems cmp items copy →
    low ≡ drop (get_or bounds 1 0) copy → upper ≡ take (get_or bounds 1 0) copy → IsCloned cmp items bounds low upper
unfolding levels_in
cloned {A} cmp items copy (b0 ∷ b ∷ bs) low upper f h s el eu =
    let us : List (List A) = cut_at (take b copy) bs in
    let t : SameLevels cmp (levels_in items (b0 ∷ b ∷ bs)) (drop b copy ∷ us) = same_cut cmp items copy (b ∷ bs) s in
    let m = same_marks cmp (levels_in items (b0 ∷ b ∷ bs)) (drop b copy ∷ us) t in
    let marks_are : marks us ≡ b ∷ bs = ap (drop 1) (sym m.0 ∙ f.bounds_are) in
    let nu : retained_in us ≡ b = ap (λ (x : List ℕ). get_or x 0 0) (sym (marks_head us) ∙ marks_are) in
    let n : length (flat (drop b copy ∷ us)) ≡ length copy =
    length-flat (drop b copy ∷ us) ∙ (sym m.1 ∙ (sym (length-flat (levels_in items (b0 ∷ b ∷ bs))) ∙ (ap length f.items_are ∙ length-same cmp items copy s))) in
    let whole : flat us ++ drop b copy ≡ copy = flat-cut copy (b ∷ bs) n in
    let top : take b copy ≡ flat us = ap (take b) (sym whole) ∙ take_at (flat us) (drop b copy) b (length-flat us ∙ nu) in
    rw (el, eu) (record { same = t; fits = is_flat (take b copy) (b ∷ bs) us top (sym marks_are) })
cloned cmp items copy bounds low upper f h s el eu = absurd (omega arith)

-- clones of levels and the bounds of those levels, as a merge takes them
pub record ClonedRuns {A : Type 0} (cmp : A → A → Ordering) (ls : List (List A)) (incoming : Incoming A) (runs : List ℕ) : Type 0 where
  pub same : SameLevels cmp ls (incoming.low.items ∷ levels_in incoming.upper.items (drop 1 runs))
  pub flat : IsFlat incoming.upper.items (drop 1 runs)
  pub sorted : AllSorted cmp (levels_in incoming.upper.items (drop 1 runs))
  pub some : 2 ≤ length runs
  pub few : length runs ≤ 62
  pub upper_are : length (levels_in incoming.upper.items (drop 1 runs)) + 2 ≡ length runs
  pub weighs : length incoming.low.items + 2 * weight_in (levels_in incoming.upper.items (drop 1 runs)) ≡ weight_in ls

-- what a merge is given holds such clones
pub cloned_runs : {A : Type 0} {cmp : A → A → Ordering} → IsTotalOrder cmp → {k total : ℕ} {items : List A} {bounds runs : List ℕ} {ls : List (List A)} {incoming : Incoming A} →
    AreStored cmp k items bounds total → levels_in items bounds ≡ ls → runs ≡ bounds → AreClones cmp ls incoming → ClonedRuns cmp ls incoming runs
cloned_runs {A} {cmp} o {k} {total} {items} {bounds} {runs} {ls} {incoming} stored own are clones =
    let marks_are : marks ls ≡ runs = sym (ap marks own) ∙ (stored.flat.bounds_are ∙ sym are) in
    let flat = rw marks_are at clones.flat in
    let same = rw marks_are at clones.same in
    let upper : List (List A) = levels_in incoming.upper.items (drop 1 runs) in
    let bounds_len = length-bounds items bounds stored.flat in
    let runs_len = ap length are in
    let sizes = alike_size cmp ls (incoming.low.items ∷ upper) same in
    record {
      same = same;
      flat = flat;
      sorted = UpperSorted-same cmp o ls (incoming.low.items ∷ upper) same (rw own at stored.sorted);
      some = omega (arith, bounds_len, runs_len, stored.some);
      few = omega (arith, bounds_len, runs_len, stored.few);
      upper_are = omega (arith, length-bounds incoming.upper.items (drop 1 runs) flat, length-drop 1 runs, bounds_len, runs_len, stored.some);
      weighs = omega (arith, sizes.weighs);
    }
