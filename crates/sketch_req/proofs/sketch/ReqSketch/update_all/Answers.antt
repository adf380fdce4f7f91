use Rattle.std.proofs.Common.{◌++◌, Ok, ◌≡◌, ◌+◌, ◌<◌, ◌^◌, false, ap, length, subst}
use Rattle.std.specs.List.{AllZip}
use Rattle.std.specs.Option.{option_to_list}
use Rattle.sketch_base.specs.Extremes.{IsGreatestOf, IsLeastOf}
use Rattle.sketch_req.specs.Imaged.{IsSameLevel}
use Rattle.sketch_req.specs.Sketch.{Req, IsSound, newer_or, sketch_of}
use Rattle.sketch_req.specs.Updates.{AreTakenInTurn}
use Rattle.sketch_req.proofs.calls.Calls.{updates_make, AreDone, UpdatesEnd, updates_done, updates_of_none, items_fit, light_still, weight_fits}
use Rattle.sketch_req.proofs.sketches.Updated.{not-full}
use Rattle.sketch_req.proofs.sketch.ReqSketch.update_all.Given.{Over}
use Rattle.sketch_req.proofs.sketch.ReqSketch.update_all.Goals.{After-set_if_some-2, After-clone_passing_extremes}
use Rattle.sketch_req.proofs.sketch.ReqSketch.update_all.Goals as goal
use Rattle.sketch_req.proofs.sketch.ReqSketch.update_all.Goals.at as past

pub returns-then-count-eq0-clause-ok : goal.returns-then-count-eq0-clause-ok
returns-then-count-eq0-clause-ok g c =
    (updates_of_none g.T.Ord.cmp g.B.RandomBits.bit g.B.RandomBits.next c.args.self.now c.args.coins.now (tt {0}) g.met.T.Ord.total c.args.items.now
    c.if-count-eq0.true (subst (IsSound g.T.Ord.cmp) c.self.view_is c.self.invariant)
    (light_still (ap (λ (s : Req g.row.T.Denot). s.n) c.self.view_is) c.self.invariant.n_fits c.if-count-eq0.true)).ok

-- The goals at the return are what updates by all items make of the fields.
-- the sketch isn't full, and the items leave its weight below 2^64
allowed : (g : Over) (c : After-clone_passing_extremes g) → (c.is_full.result ≡ false) × (c.self.inside.n + length c.args.items.now < 2 ^ 64)
allowed g c = (c.if-is_full.false, weight_fits _ c.if-count-left.false c.self.invariant.n_fits)

-- the extremes, and the levels but for what they hold
module _ (g : Over) (c : After-set_if_some-2 g) where
  abbrev old : Req g.row.T.Denot
  old = let s = c.self.inside in sketch_of s.levels.k s.levels.accuracy s.n s.levels.levels s.min_item s.max_item

  seen : old ≡ c.args.self.now
  seen = c.self.view_is

  sound : IsSound g.T.Ord.cmp old
  sound = c.self.invariant

  copies_told : AllZip (IsSameLevel g.T.Ord.cmp) old.levels c.in_ok-append_all.ensures.taken.copies
  copies_told = c.in_ok-append_all.ensures.taken.are_copies

  taken : AreTakenInTurn g.T.Ord.cmp g.B.RandomBits.bit g.B.RandomBits.next c.args.coins.now c.append_all.new.coins old.k old.accuracy
      c.in_ok-append_all.ensures.taken.copies c.args.items.now c.append_all.new.self.levels
  taken = c.in_ok-append_all.ensures.taken.taken

  least_told : IsLeastOf g.T.Ord.cmp (option_to_list old.least ++ c.args.items.now) (newer_or c.in_ok-least.least old.least)
  least_told = c.in_ok-least.ensures.least

  greatest_told : IsGreatestOf g.T.Ord.cmp (option_to_list old.greatest ++ c.args.items.now) (newer_or c.in_ok-least.greatest old.greatest)
  greatest_told = c.in_ok-least.ensures.greatest

  least_is : c.set_if_some.new.place ≡ newer_or c.in_ok-least.least c.self.inside.min_item
  least_is = c.set_if_some.ensures

  greatest_is : c.set_if_some-2.new.place ≡ newer_or c.in_ok-least.greatest c.self.inside.max_item
  greatest_is = c.set_if_some-2.ensures

  kept : let held = c.append_all.new.self in held ≡ record { k = c.self.inside.levels.k; accuracy = c.self.inside.levels.accuracy; levels = held.levels }
  kept = c.append_all.ensures.kept

-- all items are taken in
made : (g : Over) (c : After-set_if_some-2 g) → (c.is_full.result ≡ false) × (c.self.inside.n + length c.args.items.now < 2 ^ 64) →
    let i = c.self.inside in let held = c.append_all.new.self in
    AreDone g.T.Ord.cmp g.B.RandomBits.bit g.B.RandomBits.next c.args.self.now
    (sketch_of held.k held.accuracy (i.n + length c.args.items.now) held.levels c.set_if_some.new.place c.set_if_some-2.new.place)
    c.args.coins.now c.append_all.new.coins c.args.items.now
made g c known =
    let few = not-full _ _ _ (seen g c) (sound g c) c.is_full.ensures.value known.0 in
    updates_make g.met.T.Ord.total g.B.RandomBits.bit g.B.RandomBits.next (seen g c) (sound g c) _ _ _ known.1 few.1
    (kept g c) (copies_told g c) (taken g c) (least_told g c) (least_is g c) (greatest_told g c) (greatest_is g c)

done : (g : Over) (c : After-set_if_some-2 g) → (c.is_full.result ≡ false) × (c.self.inside.n + length c.args.items.now < 2 ^ 64) →
    let i = c.self.inside in let held = c.append_all.new.self in
    UpdatesEnd g.T.Ord.cmp g.B.RandomBits.bit g.B.RandomBits.next c.args.self.now
    (sketch_of held.k held.accuracy (i.n + length c.args.items.now) held.levels c.set_if_some.new.place c.set_if_some-2.new.place)
    c.args.coins.now c.append_all.new.coins (Ok (tt {0})) c.args.items.now
done g c known =
    updates_done g.T.Ord.cmp g.B.RandomBits.bit g.B.RandomBits.next c.args.self.now _ c.args.coins.now c.append_all.new.coins (tt {0}) c.args.items.now
    (made g c known) c.if-count-eq0.false
    (items_fit (ap (λ (s : Req g.row.T.Denot). s.n) c.self.view_is) known.1 c.is_full.ensures.value known.0)

pub returns : goal.returns
returns g c = done g (past.returns g c).After-set_if_some-2 (allowed g (past.returns g c).After-clone_passing_extremes)

pub invariant_of-self-2 : goal.invariant_of-self-2
invariant_of-self-2 g c = (returns g c).sound
