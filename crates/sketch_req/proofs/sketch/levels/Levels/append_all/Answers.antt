use Rattle.std.proofs.Common.{arith, ℕ, ◌+◌, ◌<◌, Bool, Equal, List, Ordering, refl, subst, sym, ◌≡◌, ◌∙◌, ap, drop, length, length-take, take, take-add}
use Rattle.std.proofs.lemmas.List.Elements.{length_all_zip}
use Rattle.std.specs.Cmp.{IsTotalOrder}
use Rattle.std.specs.List.{AllZip}
use Rattle.sketch_base.specs.Trace.{draws_of}
use Rattle.sketch_req.specs.Held.{held_of, Held}
use Rattle.sketch_req.specs.Updates.{AreTakenInTurn, IsDrawnFrom}
use Rattle.sketch_req.specs.Level.{Level}
use Rattle.sketch_req.specs.Imaged.{IsSameLevel}
use Rattle.sketch_req.specs.Schedule.{Layout, layouts_of, retained_of, weight_of}
use Rattle.sketch_req.specs.ScheduleLaws.{updates_actions}
use Rattle.sketch_req.specs.Walk.{AreLevels}
use Rattle.sketch_req.proofs.sketches.Copies.{layouts-copied, placed-copied, with-levels}
use Rattle.sketch_req.proofs.calls.Calls.{all_failed, part_drawn}
use Rattle.sketch_req.proofs.sketches.Updated.{are-kept, next-item, taken-append, taken-one}
use Rattle.sketch_req.proofs.sketch.levels.Levels.append_all.Given.{Over}
use Rattle.sketch_req.proofs.sketch.levels.Levels.append_all.Goals.{After-new-copy, In_ok-copy_levels}
use Rattle.sketch_req.proofs.sketch.levels.Levels.append_all.Goals as goal
use Rattle.sketch_req.proofs.sketch.levels.Levels.append_all.Goals.at as past

-- copies of the levels
are_copies : (g : Over) (c : In_ok-copy_levels g) → AllZip (IsSameLevel g.T.Ord.cmp) c.self.inside.compactors.items c.in_ok-copy_levels.field-0.items
are_copies g c = c.in_ok-copy_levels.ensures

pub new-copy-requires-clause-levels : goal.new-copy-requires-clause-levels
new-copy-requires-clause-levels g c =
    placed-copied g.met.T.Ord.total _ _ 0 c.self.inside.compactors.items c.in_ok-copy_levels.field-0.items (are_copies g c) c.self.invariant.placed

-- so are their layouts, the draws of updates of them, and what stays of a sketch
copied-layouts : {A : Type 0} (own s copy : Held A) (copies : List (Level A)) → own ≡ s → copy ≡ record own { levels = copies } →
    layouts_of copies ≡ layouts_of own.levels → layouts_of copy.levels ≡ layouts_of s.levels
copied-layouts {A} own s copy copies o c same = ap (λ (h : Held A). layouts_of h.levels) c ∙ (same ∙ ap (λ (h : Held A). layouts_of h.levels) o)

copied-draws : {A S : Type 0} (next : S → S) (source after : S) (items : List A) (own s copy : Held A) (copies : List (Level A)) → own ≡ s →
    copy ≡ record own { levels = copies } →
    layouts_of copies ≡ layouts_of own.levels → IsDrawnFrom next (draws_of (updates_actions copy.k copy.accuracy (layouts_of copy.levels) items)) source after →
    IsDrawnFrom next (draws_of (updates_actions s.k s.accuracy (layouts_of s.levels) items)) source after
copied-draws {A} next source after items own s copy copies o c same drawn =
    subst (λ (h : Held A). IsDrawnFrom next (draws_of (updates_actions h.k h.accuracy (layouts_of h.levels) items)) source after) o
    (subst (λ (os : List Layout). IsDrawnFrom next (draws_of (updates_actions own.k own.accuracy os items)) source after) same
    (subst (λ (h : Held A). IsDrawnFrom next (draws_of (updates_actions h.k h.accuracy (layouts_of h.levels) items)) source after) c drawn))

-- the layouts of the copy
copied : (g : Over) (c : After-new-copy g) → AllZip (IsSameLevel g.T.Ord.cmp) c.self.inside.compactors.items c.in_ok-copy_levels.field-0.items →
    layouts_of c.new-copy.result.levels ≡ layouts_of c.args.self.now.levels
copied g c are =
    copied-layouts (held_of c.self.inside.k c.self.inside.rank_accuracy c.self.inside.compactors.items) c.args.self.now c.new-copy.result
    c.in_ok-copy_levels.field-0.items c.self.view_is c.new-copy.ensures
    (layouts-copied g.met.T.Ord.total c.self.inside.compactors.items c.in_ok-copy_levels.field-0.items are)

-- what is known of the copy
ready : (g : Over) (c : After-new-copy g) → AllZip (IsSameLevel g.T.Ord.cmp) c.self.inside.compactors.items c.in_ok-copy_levels.field-0.items →
    let s = c.new-copy.result in (0 < length s.levels) × (AreLevels g.T.Ord.cmp s.k s.accuracy 0 s.levels × (retained_of (layouts_of s.levels) < 4294967295))
ready g c are = (
  rw c.new-copy.ensures (rw (sym (length_all_zip (IsSameLevel g.T.Ord.cmp) _ _ are)) c.self.invariant.some),
  (rw c.new-copy.ensures (placed-copied g.met.T.Ord.total _ _ 0 _ _ are c.self.invariant.placed), omega (arith, c.requires.few, ap retained_of (copied g c are))),
)

-- the coins that were drawn until an error
drawn : (g : Over) (c : After-new-copy g) → AllZip (IsSameLevel g.T.Ord.cmp) c.self.inside.compactors.items c.in_ok-copy_levels.field-0.items → (n : ℕ) (coins after : _) (copy : Held g.row.T.Denot) →
    let s = c.new-copy.result in AreTakenInTurn g.T.Ord.cmp g.B.RandomBits.bit g.B.RandomBits.next c.args.coins.now coins s.k s.accuracy s.levels (take n c.args.items.now) copy.levels → after ≡ coins →
    let own = c.args.self.now in IsDrawnFrom g.B.RandomBits.next (draws_of (updates_actions own.k own.accuracy (layouts_of own.levels) c.args.items.now)) c.args.coins.now after
drawn g c are n coins after copy so_far still =
    let ready = ready g c are in
    let kept = are-kept g.met.T.Ord.total _ _ _ _ _ _ _ _ _ ready.0 ready.1.0 ready.1.1 so_far in
    copied-draws g.B.RandomBits.next c.args.coins.now after c.args.items.now _ _ _ _ c.self.view_is c.new-copy.ensures (layouts-copied g.met.T.Ord.total _ _ are)
    (part_drawn g.B.RandomBits.next c.new-copy.result c.args.items.now c.args.coins.now after copy coins n kept.left still)

pub returns-in_err-clone : goal.returns-in_err-clone
returns-in_err-clone g c =
    let at = past.returns-in_err-clone g c in
    all_failed g.T.Ord.cmp g.B.RandomBits.bit g.B.RandomBits.next c.args.self.now c.args.self.now c.args.items.now c.args.coins.now c.loop-item.coins
    c.from_residual-in_err-clone.result c.from_residual-in_err-clone.ensures refl refl refl
    (drawn g at.After-new-copy (are_copies g at.In_ok-copy_levels) c.loop-item.item-index c.loop-item.coins _ c.loop-item.copy c.loop-item.invariant.so_far refl)

pub append-requires-clause-fits : goal.append-requires-clause-fits
append-requires-clause-fits g c =
    let at = past.append-requires-clause-fits g c in
    let are = are_copies g at.In_ok-copy_levels in
    let ready = ready g at.After-new-copy are in
    let kept = are-kept g.met.T.Ord.total _ _ _ _ _ _ _ _ _ ready.0 ready.1.0 ready.1.1 c.loop-item.invariant.so_far in
    omega (arith, kept.left.weigh, c.requires.fits, ap weight_of (copied g at.After-new-copy are), length-take c.loop-item.item-index c.args.items.now, c.loop-item-test.true)

pub append-requires-clause-few : goal.append-requires-clause-few
append-requires-clause-few g c =
    let at = past.append-requires-clause-few g c in
    let ready = ready g at.After-new-copy (are_copies g at.In_ok-copy_levels) in
    (are-kept g.met.T.Ord.total _ _ _ _ _ _ _ _ _ ready.0 ready.1.0 ready.1.1 c.loop-item.invariant.so_far).left.few

pub returns-in_err-append : goal.returns-in_err-append
returns-in_err-append g c =
    let at = past.returns-in_err-append g c in
    all_failed g.T.Ord.cmp g.B.RandomBits.bit g.B.RandomBits.next c.args.self.now c.args.self.now c.args.items.now c.args.coins.now c.append.new.coins
    c.from_residual-in_err-append.result c.from_residual-in_err-append.ensures c.in_err-append.ensures.memory refl refl
    (drawn g at.After-new-copy (are_copies g at.In_ok-copy_levels) c.loop-item.item-index c.loop-item.coins _ c.loop-item.copy c.loop-item.invariant.so_far c.in_err-append.ensures.err.1)

-- some items, and then a part of the rest
module _ {A S : Type 0} {cmp : A → A → Ordering} (order : IsTotalOrder cmp) (bit : S → Bool) (next : S → S) (source middle after : S) (s own : Held A) (n m : ℕ)
    (items rest : List A) (ns : List (Level A)) where
  taken-more : own ≡ record s { levels = own.levels } → rest ≡ drop n items →
      AreTakenInTurn cmp bit next source middle s.k s.accuracy s.levels (take n items) own.levels →
      AreTakenInTurn cmp bit next middle after own.k own.accuracy own.levels (take m rest) ns →
      AreTakenInTurn cmp bit next source after s.k s.accuracy s.levels (take (n + m) items) ns
  taken-more kept same so_far taken =
      let more = subst (λ (xs : List A). AreTakenInTurn cmp bit next middle after s.k s.accuracy own.levels (take m xs) ns) same
      (subst (λ (h : Held A). AreTakenInTurn cmp bit next middle after h.k h.accuracy h.levels (take m rest) ns) kept taken) in
      subst (λ (xs : List A). AreTakenInTurn cmp bit next source after s.k s.accuracy s.levels xs ns) (sym (take-add n m items))
      (taken-append order bit next s.k s.accuracy _ _ _ s.levels own.levels ns (take n items) (take m (drop n items)) so_far more)

pub loop-item-preserved : goal.loop-item-preserved
loop-item-preserved g c =
    let s = c.loop-item.copy in
    let i = c.loop-item.invariant in
    let items = c.args.items.now in
    let n = c.loop-item.item-index in
    let x = c.item-item.result in
    let same : g.T.Ord.cmp x c.in_ok-clone.field-0 ≡ Equal = c.requires.clones _ _ c.in_ok-clone.ensures.cases in
    let one = subst (λ (xs : List g.row.T.Denot). AreTakenInTurn g.T.Ord.cmp g.B.RandomBits.bit g.B.RandomBits.next c.loop-item.coins c.append.new.coins s.k s.accuracy
    s.levels xs c.append.new.self.levels) (sym (next-item items n x c.loop-item-test.true c.item-item.is))
    (taken-one g.met.T.Ord.total g.B.RandomBits.bit g.B.RandomBits.next s.k s.accuracy _ _ s.levels _ x c.in_ok-clone.field-0 same
    c.in_ok-append.ensures.acted) in
    record {
      kept = c.in_ok-append.ensures.kept ∙ with-levels _ _ c.append.new.self.levels i.kept;
      so_far = taken-more g.met.T.Ord.total g.B.RandomBits.bit g.B.RandomBits.next _ c.loop-item.coins c.append.new.coins
          _ s n 1 items (drop n items) c.append.new.self.levels i.kept refl i.so_far one;
    }
