use Rattle.std.proofs.Common.{set, ◌<◌, ◌+◌, subst₂, ℕ, subst, sym, ◌≡◌, ◌∙◌, false, ap}
use Rattle.std.proofs.lemmas.Bool.{lt-leb}
use Rattle.sketch_req.specs.Walk.{AreWalkedIfFull, appended_first}
use Rattle.sketch_req.specs.Held.{IsHeld, Held}
use Rattle.sketch_req.specs.Schedule.{layouts_of, are_full, retained_of}
use Rattle.sketch_req.proofs.sketches.Updated.{first-appended, acted-spare, nominal-appended, placed-appended, retained-appended}
use Rattle.sketch_req.proofs.sketches.Copies.{with-levels}
use Rattle.sketch_req.proofs.sketch.levels.Levels.append.Given.{Over}
use Rattle.sketch_req.proofs.sketch.levels.Levels.append.Goals.{In_ok-append}
use Rattle.sketch_req.proofs.sketch.levels.Levels.append.Goals as goal
use Rattle.sketch_req.proofs.sketch.levels.Levels.append.Goals.at as past

-- the levels with the item, if they are not full after it
put : (g : Over) (c : In_ok-append g) → let s = c.self.inside in set s.compactors.items 0 c.append.new.self ≡ appended_first s.compactors.items c.args.item
put g c = first-appended c.self.inside.compactors.items c.index_mut.result.now _ _ c.self.invariant.some c.index_mut.ensures.value c.in_ok-append.ensures.ok

pub returns : goal.returns
returns g c =
    let s = c.self.inside in
    let same = put g (past.returns g c).In_ok-append in
    let held = subst (IsHeld g.T.Ord.cmp s.num_retained s.capacity) c.self.view_is c.self.invariant in
    let more = retained-appended s.compactors.items c.args.item c.self.invariant.some in
    let nominals = nominal-appended s.k s.compactors.items c.args.item in
    let spare : are_full s.k (layouts_of (appended_first s.compactors.items c.args.item)) ≡ false = lt-leb _ _
    (subst₂ (λ (n m : ℕ). n < m) (ap (λ (n : ℕ). n + 1) c.self.invariant.retained_is ∙ sym more) (c.self.invariant.capacity_is ∙ sym nominals) c.if-self.false) in
    record {
      kept = with-levels _ _ (set s.compactors.items 0 c.append.new.self) c.self.view_is;
      acted = subst (λ (h : Held g.row.T.Denot). AreWalkedIfFull g.T.Ord.cmp g.B.RandomBits.bit g.B.RandomBits.next c.args.coins.now c.args.coins.now
          h.k h.accuracy (appended_first h.levels c.args.item) (set s.compactors.items 0 c.append.new.self)) c.self.view_is
          (subst (AreWalkedIfFull g.T.Ord.cmp g.B.RandomBits.bit g.B.RandomBits.next c.args.coins.now c.args.coins.now s.k s.rank_accuracy
          (appended_first s.compactors.items c.args.item)) (sym same)
          (acted-spare g.met.T.Ord.total g.B.RandomBits.bit g.B.RandomBits.next c.args.coins.now s.k s.rank_accuracy (appended_first s.compactors.items c.args.item)
          (placed-appended g.T.Ord.cmp s.k s.rank_accuracy s.compactors.items c.args.item c.self.invariant.placed
          (subst (λ (h : Held g.row.T.Denot). retained_of (layouts_of h.levels) < 4294967295) (sym c.self.view_is) c.requires.few)) spare));
      err = tt;
      memory = tt;
    }
