use Rattle.std.proofs.Common.{arith, suc, le_antisymm, le-leb, subst₂, le_refl, Ordering, ◌≡◌, ℕ, ◌+◌, ◌-◌, ◌/◌, ◌<◌, ◌≤◌, ◌==◌, Bool, true, if◌then◌else◌, eq-eqb, length-append, List, [], ◌∷◌, ◌++◌, get_or, length, length-set, set, refl, sym, ap, ap₂, ◌∙◌, subst, lt_of_le_of_lt, vec_capacity}
use Rattle.std.proofs.lemmas.Bool.{lt-leb}
use Rattle.std.proofs.lemmas.List.{nil_from_length}
use Rattle.sketch_req.specs.Arriving.{CanArrive, HasRoom}
use Rattle.sketch_req.specs.Level.{Level, fresh}
use Rattle.sketch_req.specs.Schedule.{are_full, layouts_of, layout_at, steps_actions, steps_layouts}
use Rattle.sketch_req.specs.Held.{IsHeld, held_of}
use Rattle.sketch_req.specs.Walk.{AreWalked, AreWalkedIfFull, accuracy_of, k_of, taken_if_full}
use Rattle.sketch_req.specs.declared.RankAccuracy.{RankAccuracy}
use Rattle.sketch_req.proofs.merges.Levels.{places-above, taken-there}
use Rattle.sketch_req.proofs.sketches.Copies.{few-levels, held-sums, own-levels}
use Rattle.sketch_req.proofs.layouts.Layouts.{length-layouts}
use Rattle.sketch_req.proofs.sketches.Updated.{acted-spare, acted-walk}
use Rattle.sketch_req.proofs.walks.Steps.{own-there, raised}
use Rattle.sketch_req.proofs.walks.Turns.{IsReady, is-ready, next-pending, pending-above, pending-start, ready-up}
use Rattle.sketch_req.proofs.sketch.levels.walk.walk.Goals.{After-sums-num_retained, Else-num_retained-capacity, After-index_mut-in-loop-level, After-len-count, After-parameters-k, After-add_level}
use Rattle.sketch_req.proofs.sketch.levels.walk.walk.Goals as goal
use Rattle.sketch_req.proofs.sketch.levels.walk.walk.Goals.at as past

-- whether the levels are full together
summed : (g : _) (c : After-sums-num_retained g) → let ls = c.args.levels.now.items in
    IsHeld g.T.Ord.cmp c.sums-num_retained.result.0 c.sums-num_retained.result.1 (held_of (k_of ls) (accuracy_of ls) ls)
summed g c =
    held-sums g.T.Ord.cmp _ _ _ _ _ _ c.requires.levels.some c.requires.levels.placed c.as_slice.ensures.value c.sums-num_retained.ensures.retained
    c.sums-num_retained.ensures.capacity

pub sums-num_retained-requires : goal.sums-num_retained-requires
sums-num_retained-requires g c = record { few = few-levels g.T.Ord.cmp _ _ _ _ c.requires.levels.placed c.as_slice.ensures.value }

pub returns-then-num_retained-capacity : goal.returns-then-num_retained-capacity
returns-then-num_retained-capacity g c =
    let h = summed g (past.returns-then-num_retained-capacity g c).After-sums-num_retained in
    record {
      acted = acted-spare g.met.T.Ord.total _ _ _ _ _ _ c.requires.levels.placed
          (lt-leb _ _ (subst₂ (λ (n m : ℕ). n < m) h.retained_is h.capacity_is c.if-num_retained-capacity.true));
    }

full : (g : _) (c : Else-num_retained-capacity g) → let ls = c.args.levels.now.items in
    IsHeld g.T.Ord.cmp c.sums-num_retained.result.0 c.sums-num_retained.result.1 (held_of (k_of ls) (accuracy_of ls) ls) → are_full (k_of ls) (layouts_of ls) ≡ true
full g c h = le-leb _ _ (subst₂ (λ (n m : ℕ). n ≤ m) h.capacity_is h.retained_is c.if-num_retained-capacity.false)

-- The loop keeps what is pending after the steps so far.
-- how many levels there are
count_is : (g : _) (c : After-len-count g) → c.len-count.result ≡ length c.args.levels.now.items
count_is g c = c.len-count.ensures ∙ c.args.levels.now.ok.0

pub loop-level-init : goal.loop-level-init
loop-level-init g c = record {
  pending = pending-start g.met.T.Ord.total _ _ _ _ _ _ _ _ c.new-items.ensures.items c.requires.levels.placed;
  len = sym c.len-count.ensures;
  spare = subst (λ (n : ℕ). n < vec_capacity c.args.levels.now) (sym c.len-count.ensures) c.requires.spare;
  enough = omega (arith, c.requires.fit.enough, length-layouts c.args.levels.now.items, count_is g (past.loop-level-init g c).After-len-count);
  ups = λ j none _. refl;
}

-- a step
module _ (g : _) (c : After-index_mut-in-loop-level g) where
  within : c.loop-level.level < length c.loop-level.levels.items
  within = subst (λ (n : ℕ). c.loop-level.level < n) (sym c.loop-level.invariant.len ∙ c.loop-level.levels.ok.0) c.loop-level-test.true

  ready : IsReady g.met.T.Ord.total g.B.RandomBits.bit g.B.RandomBits.next c.args.coins.now (k_of c.args.levels.now.items) (accuracy_of c.args.levels.now.items) c.args.levels.now.items
      c.loop-level.level c.loop-level.coins c.loop-level.levels.items c.index_mut-in-loop-level.result.now c.loop-level.coming.items.items c.loop-level.coming.room
  ready = is-ready g.met.T.Ord.total _ _ _ _ _ _ _ _ _ _ _ _ c.requires.few_items c.loop-level.invariant.pending within c.index_mut-in-loop-level.ensures.value

  inside : c.loop-level.level < length (layouts_of c.args.levels.now.items)
  inside =
      let levels = c.args.levels.now in
      subst (λ (n : ℕ). c.loop-level.level < n) (c.len-count.ensures ∙ (levels.ok.0 ∙ sym (length-layouts levels.items))) c.loop-level-test.true

  -- the room for what the level gives up
  fits : let now = steps_layouts (k_of c.args.levels.now.items) c.loop-level.level 0 (layouts_of c.args.levels.now.items) in
      CanArrive (layout_at now (suc c.loop-level.level)).count (taken_if_full (k_of c.args.levels.now.items) (layout_at now c.loop-level.level) / 2) c.take-up.result
  fits =
      let h = c.loop-level.level in
      let there = taken-there c.loop-level.ups.items c.args.ups.items h _ c.take-up.result c.take-up.ensures c.index_mut.ensures.value
      (λ none. c.loop-level.invariant.ups h none (le_refl h)) in
      rw there (c.requires.fit.each h c.take-up.result inside)

pub step-coming-requires-clause-few : goal.step-coming-requires-clause-few
step-coming-requires-clause-few g c =
    lt_of_le_of_lt (ready g (past.step-coming-requires-clause-few g c).After-index_mut-in-loop-level).few c.requires.few_items

pub step-coming-requires-clause-room : goal.step-coming-requires-clause-room
step-coming-requires-clause-room g c = (ready g (past.step-coming-requires-clause-room g c).After-index_mut-in-loop-level).own

pub step-coming-requires-clause-space : goal.step-coming-requires-clause-space
step-coming-requires-clause-space g c =
    let at = (past.step-coming-requires-clause-space g c).After-index_mut-in-loop-level in
    ready-up g.met.T.Ord.total _ _ _ _ _ _ _ _ _ _ _ _ _ (ready g at) (fits g at).space

pub loop-level-preserved : goal.loop-level-preserved
loop-level-preserved g c =
    let at = (past.loop-level-preserved g c).After-index_mut-in-loop-level in
    let legal = (own-levels g.T.Ord.cmp _ _ _ c.requires.levels.some c.requires.levels.placed).legal in
    let i = c.loop-level.invariant in
    let e = c.step-coming.ensures in
    record {
      pending = next-pending g.met.T.Ord.total g.B.RandomBits.bit g.B.RandomBits.next c.args.coins.now _ _ _ c.loop-level.level c.loop-level.coins
          c.step-coming.new.coins c.loop-level.levels.items c.index_mut-in-loop-level.result.now c.step-coming.new.self c.loop-level.coming.items.items _
          c.loop-level.coming.room c.step-coming.result.room c.requires.few_items i.pending (within g at) c.index_mut-in-loop-level.ensures.value c.requires.fits legal
          (λ some. subst (HasRoom _ _) (sym e.room) ((fits g at).room some)) e.stepped e.sound e.coins;
      len = i.len;
      spare = i.spare;
      enough = omega (arith, i.enough, length-set c.loop-level.ups.items c.loop-level.level c.take-up.new.self);
      ups = λ j none low. places-above _ c.loop-level.level _ j none low ∙ i.ups j none (omega (arith, low));
    }

-- the highest level gave up items
module _ (g : _) (c : After-parameters-k g) where
  abbrev k : ℕ
  k = k_of c.args.levels.now.items

  abbrev accuracy : RankAccuracy
  accuracy = accuracy_of c.args.levels.now.items

  some : 0 < length c.loop-level.coming.items.items
  some = grind (arith, c.if-not-is_empty.true, c.is_empty.ensures, c.loop-level.coming.items.ok.0)

  ends : c.len-count.result ≡ (c.loop-level.level - 1) + 1
  ends = le_antisymm c.loop-level-test.false c.loop-level.auto.level-end
      ∙ pending-above g.met.T.Ord.total _ _ _ _ _ _ _ _ _ _ _ c.loop-level.invariant.pending some

  own : c.parameters-k.result ≡ (k, accuracy)
  own =
      own-there g.T.Ord.cmp _ _ _ _ _ _ c.loop-level.invariant.pending.placed
      (subst (λ (n : ℕ). 0 < n) (sym c.args.levels.now.ok.0 ∙ (sym c.len-count.ensures ∙ (sym c.loop-level.invariant.len ∙ c.loop-level.levels.ok.0)))
      c.requires.levels.some) c.index.ensures
      c.parameters-k.ensures

-- a list that an item was appended to
longer-by-one : {A : Type 0} (n : ℕ) (ls ns : List A) (last : A) → n ≡ length ls → ns ≡ (if n == length ls then ls ++ last ∷ [] else ls) → length ns ≡ n + 1
longer-by-one {A} n ls ns last all e =
    ap length (e ∙ ap (λ (b : Bool). if b then ls ++ last ∷ [] else ls) (eq-eqb n (length ls) all)) ∙
    (length-append ls (last ∷ []) ∙ ap (λ (m : ℕ). m + 1) (sym all))

-- with the level that was added
module _ (g : _) (c : After-add_level g) (own : c.parameters-k.result ≡ (k_of c.args.levels.now.items, accuracy_of c.args.levels.now.items)) (ends : c.len-count.result ≡ (c.loop-level.level - 1) + 1) where
  added : c.add_level.new.levels.items ≡ raised (k_of c.args.levels.now.items) (accuracy_of c.args.levels.now.items) (c.loop-level.level - 1) c.loop-level.levels.items
  added =
      let ls = c.loop-level.levels.items in
      c.add_level.ensures.items
      ∙ (ap (λ (n : ℕ). if n == length ls then ls ++ fresh [] true n c.parameters-k.result.0 c.parameters-k.result.1 ∷ [] else ls) ends
      ∙ ap (λ (p : ℕ × RankAccuracy). raised p.0 p.1 (c.loop-level.level - 1) ls) own)

  longer : length c.add_level.new.levels.items ≡ c.len-count.result + 1
  longer = longer-by-one _ _ _ _ (sym c.loop-level.invariant.len ∙ c.loop-level.levels.ok.0) c.add_level.ensures.items

pub absorb-requires-clause-few : goal.absorb-requires-clause-few
absorb-requires-clause-few g c =
    let at = past.absorb-requires-clause-few g c in
    let before = at.After-parameters-k in
    let ends = ends g before in
    let all = added g at.After-add_level (own g before) ends in
    let upper = c.index_mut-then-not-is_empty.result.now in
    let above = pending-above g.met.T.Ord.total _ _ _ _ _ _ _ _ _ _ _ c.loop-level.invariant.pending (some g before) in
    let few = c.loop-level.invariant.pending.few (some g before) (c.loop-level.level - 1) above upper
    (c.index_mut-then-not-is_empty.ensures.value ∙ ap₂ (λ (ls : List (Level g.row.T.Denot)) (n : ℕ). get_or ls n upper) all ends) in
    lt_of_le_of_lt few c.requires.few_items

pub absorb-requires-clause-room : goal.absorb-requires-clause-room
absorb-requires-clause-room g c =
    let at = past.absorb-requires-clause-room g c in
    let before = at.After-parameters-k in
    let ends = ends g before in
    let all = added g at.After-add_level (own g before) ends in
    let upper = c.index_mut-then-not-is_empty.result.now in
    let above = pending-above g.met.T.Ord.total _ _ _ _ _ _ _ _ _ _ _ c.loop-level.invariant.pending (some g before) in
    c.loop-level.invariant.pending.own (some g before) (c.loop-level.level - 1) above upper
    (c.index_mut-then-not-is_empty.ensures.value ∙ ap₂ (λ (ls : List (Level g.row.T.Denot)) (n : ℕ). get_or ls n upper) all ends)

-- a walk over all levels
walked-whole : {A S : Type 0} (cmp : A → A → Ordering) (bit : S → Bool) (next : S → S) (source after : S) (k n : ℕ) (accuracy : RankAccuracy)
    (ls xs ys : List (Level A)) → are_full k (layouts_of ls) ≡ true → n ≡ length (layouts_of ls) → xs ≡ ys →
    AreWalked cmp bit next source after k accuracy (steps_actions k accuracy n 0 (layouts_of ls)) (steps_layouts k n 0 (layouts_of ls)) ls xs →
    AreWalkedIfFull cmp bit next source after k accuracy ls ys
walked-whole cmp bit next source after k n accuracy ls xs ys full e same walked =
    acted-walk bit next source after k accuracy ls ys full
    (subst (λ (i : ℕ). AreWalked cmp bit next source after k accuracy (steps_actions k accuracy i 0 (layouts_of ls)) (steps_layouts k i 0 (layouts_of ls)) ls ys)
    e
    (subst (AreWalked cmp bit next source after k accuracy (steps_actions k accuracy n 0 (layouts_of ls)) (steps_layouts k n 0 (layouts_of ls)) ls) same walked))

pub returns-then-not-is_empty : goal.returns-then-not-is_empty
returns-then-not-is_empty g c =
    let at = past.returns-then-not-is_empty g c in
    let before = at.After-parameters-k in
    let i = c.loop-level.invariant in
    let ends = ends g before in
    let all = added g at.After-add_level (own g before) ends in
    let upper = c.index_mut-then-not-is_empty.result.now in
    let new = c.absorb.new.self in
    let ls : List (Level g.row.T.Denot) = c.args.levels.now.items in
    let above = pending-above g.met.T.Ord.total _ _ _ _ _ _ _ _ _ _ _ i.pending (some g before) in
    let walked = i.pending.some (some g before) (c.loop-level.level - 1) above upper new
    (c.index_mut-then-not-is_empty.ensures.value ∙ ap₂ (λ (l : List (Level g.row.T.Denot)) (n : ℕ). get_or l n upper) all ends) c.absorb.ensures.taken_in c.absorb.ensures.sound in
    let count : c.loop-level.level ≡ length (layouts_of ls) =
    le_antisymm c.loop-level.auto.level-end c.loop-level-test.false ∙ (count_is g (past.returns-then-not-is_empty g c).After-len-count ∙ sym
    (length-layouts ls)) in
    record {
      acted = walked-whole g.T.Ord.cmp g.B.RandomBits.bit g.B.RandomBits.next c.args.coins.now c.loop-level.coins (k_of ls) c.loop-level.level
          (accuracy_of ls) ls _ _ (full g at.Else-num_retained-capacity (summed g at.After-sums-num_retained)) count
          (ap₂ (λ (l : List (Level g.row.T.Denot)) (n : ℕ). set l n new) (sym all) (sym ends)) walked;
    }

pub returns : goal.returns
returns g c =
    let at = past.returns g c in
    let ls : List (Level g.row.T.Denot) = c.args.levels.now.items in
    let count : c.loop-level.level ≡ length (layouts_of ls) =
    le_antisymm c.loop-level.auto.level-end c.loop-level-test.false ∙ (count_is g (past.returns g c).After-len-count ∙ sym
    (length-layouts ls)) in
    let none : c.loop-level.coming.items.items ≡ [] =
    nil_from_length c.loop-level.coming.items.items (grind (arith, c.if-not-is_empty.false, c.is_empty.ensures, c.loop-level.coming.items.ok.0)) in
    record {
      acted = walked-whole g.T.Ord.cmp g.B.RandomBits.bit g.B.RandomBits.next c.args.coins.now c.loop-level.coins (k_of ls) c.loop-level.level
          (accuracy_of ls) ls _ _ (full g at.Else-num_retained-capacity (summed g at.After-sums-num_retained)) count refl
          (c.loop-level.invariant.pending.none none);
    }
