use Rattle.std.proofs.Common.{◌∷◌, List, Bool, IsTrue, drop, ap, subst, arith, ◌∙◌}
use Rattle.sketch_kll.specs.Flat.{levels_in}
use Rattle.sketch_kll.specs.Join.{joined}
use Rattle.sketch_kll.specs.Stored.{Stored}
use Rattle.sketch_kll.proofs.layout.Alike.{first-same, ClonedRuns, cloned_runs}
use Rattle.sketch_kll.proofs.merges.Merged.{merged_by_calls, merged_only, joined_size, joined-first, merged_same}
use Rattle.sketch_kll.proofs.levels.Levels.merge.Goals as goal
use Rattle.sketch_kll.proofs.levels.Levels.merge.Goals.at as past
use Rattle.sketch_kll.proofs.levels.Levels.merge.Goals.{After-as_slice-other_bounds}

-- the clones that were made ready
cloned : (g : _) (c : After-as_slice-other_bounds g) → ClonedRuns g.T.Ord.cmp c.args.others.now.levels c.args.parts c.as_slice-other_bounds.result.now
cloned g c =
    let own = ap (λ (y : Stored g.row.T.Denot). y.levels) c.others.view_is in
    cloned_runs g.met.T.Ord.total c.others.invariant own c.as_slice-other_bounds.ensures.value c.requires.clones

pub compress-requires-clause-light : goal.compress-requires-clause-light
compress-requires-clause-light g c =
    let clones = cloned g (past.compress-requires-clause-light g c).After-as_slice-other_bounds in
    let taken = c.update_all.ensures.taken in
    let upper : List (List g.row.T.Denot) = levels_in c.args.parts.upper.items (drop 1 c.as_slice-other_bounds.result.now) in
    let sizes = joined_size g.T.Ord.cmp c.update_all.new.self.levels upper c.merge_higher_levels-old.new.self.levels taken.kept.some taken.kept.few
    (omega (arith, clones.upper_are, clones.few))
    c.merge_higher_levels-old.ensures.levels in
    omega (arith, sizes.weighs, taken.weighs, clones.weighs, c.requires.light)

pub returns : goal.returns
returns g c =
    let clones = cloned g (past.returns g c).After-as_slice-other_bounds in
    let made = c.compress.ensures in
    let upper : List (List g.row.T.Denot) = levels_in c.args.parts.upper.items (drop 1 c.as_slice-other_bounds.result.now) in
    let seen = c.self.view_is in
    let levels_are = ap (λ (xs : List g.row.T.Denot). levels_in xs c.self.inside.bounds.items) c.move_if_loose.ensures.items
    ∙ ap (λ (y : Stored g.row.T.Denot). y.levels) seen in
    record {
      k = c.shrink-2.ensures.kept.k_is ∙ (ap (λ (y : Stored g.row.T.Denot). y.k) seen ∙ (made.kept.k_is ∙ (c.merge_higher_levels-old.ensures.k ∙ c.update_all.ensures.k)));
      merged = rw (c.shrink-2.ensures.kept.flag_is, ap (λ (y : Stored g.row.T.Denot). y.is_sorted) seen, c.shrink-2.ensures.kept.levels_are, levels_are)
          (merged_same g.met.T.Ord.total g.B.RandomBits.bit g.B.RandomBits.next _ _ _ _ _ _ _ (c.args.parts.low.items ∷ upper) _ c.requires.kept.some clones.same
          (merged_by_calls g.T.Ord.cmp g.met.T.Ord.total g.B.RandomBits.bit g.B.RandomBits.next _ c.update_all.new.coins _ _ c.merge_higher_levels-old.new.self.k _
          c.update_all.new.self.is_sorted c.merge_higher_levels-old.new.self.is_sorted _ _ c.args.parts.low.items upper
          c.update_all.new.self.levels c.merge_higher_levels-old.new.self.levels c.compress.new.self.levels
          (c.merge_higher_levels-old.ensures.k ∙ c.update_all.ensures.k) c.merge_higher_levels-old.ensures.flag made.kept.flag_is
          c.update_all.ensures.taken c.merge_higher_levels-old.ensures.levels c.requires.kept.some
          (omega (arith, clones.upper_are, c.if-other_bounds-le2.false))
          made.levels made.bag made.coins made.few made.below made.sorted));
    }

pub returns-then-other_bounds-le2 : goal.returns-then-other_bounds-le2
returns-then-other_bounds-le2 g c =
    let clones = cloned g (past.returns-then-other_bounds-le2 g c).After-as_slice-other_bounds in
    let upper : List (List g.row.T.Denot) = levels_in c.args.parts.upper.items (drop 1 c.as_slice-other_bounds.result.now) in
    record {
      k = c.shrink.ensures.kept.k_is ∙ c.update_all.ensures.k;
      merged = rw (c.shrink.ensures.kept.flag_is, c.shrink.ensures.kept.levels_are)
          (merged_same g.met.T.Ord.total g.B.RandomBits.bit g.B.RandomBits.next _ _ _ _ _ _ _ (c.args.parts.low.items ∷ upper) _ c.requires.kept.some clones.same
          (merged_only g.T.Ord.cmp g.met.T.Ord.total g.B.RandomBits.bit g.B.RandomBits.next _ _ _ _ _ _ c.args.parts.low.items upper _
          c.update_all.ensures.taken (omega (arith, clones.upper_are, clones.some, c.if-other_bounds-le2.true))));
    }

pub merge_higher_levels-old-requires-clause-upper_sorted : goal.merge_higher_levels-old-requires-clause-upper_sorted
merge_higher_levels-old-requires-clause-upper_sorted g c =
    (cloned g (past.merge_higher_levels-old-requires-clause-upper_sorted g c).After-as_slice-other_bounds).sorted

pub merge_higher_levels-old-requires-clause-few : goal.merge_higher_levels-old-requires-clause-few
merge_higher_levels-old-requires-clause-few g c = (cloned g (past.merge_higher_levels-old-requires-clause-few g c).After-as_slice-other_bounds).few

pub compress-requires-clause-flag : goal.compress-requires-clause-flag
compress-requires-clause-flag g c =
    let higher = c.merge_higher_levels-old.ensures in
    let levels = c.update_all.new.self.levels in
    let upper : List (List g.row.T.Denot) = levels_in c.args.parts.upper.items (drop 1 c.as_slice-other_bounds.result.now) in
    λ h. first-same g.T.Ord.cmp g.met.T.Ord.total (joined g.T.Ord.cmp levels upper) c.merge_higher_levels-old.new.self.levels higher.levels
    (joined-first g.T.Ord.cmp g.met.T.Ord.total levels upper (c.update_all.ensures.taken.kept.flag_holds (subst (λ (f : Bool). IsTrue f) higher.flag h)))
