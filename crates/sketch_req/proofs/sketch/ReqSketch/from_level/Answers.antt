use Rattle.std.proofs.Common.{◌≡◌, length, refl, sym, ap, subst, List, None}
use Rattle.sketch_base.specs.Extremes.{IsGreatestOf, IsLeastOf, newer_or}
use Rattle.sketch_req.specs.Sketch.{Req, IsSound, sketch_of}
use Rattle.sketch_req.specs.Image.{accuracy_in, IsTold}
use Rattle.sketch_req.specs.Held.{held_of}
use Rattle.sketch_req.specs.declared.RankAccuracy.{RankAccuracy}
use Rattle.sketch_req.proofs.calls.Calls.{pushed_alone, same_sketch}
use Rattle.sketch_req.proofs.sketches.Sound.{IsRebuilt, rebuilt}
use Rattle.sketch_req.proofs.sketch.ReqSketch.from_level.Given.{Over}
use Rattle.sketch_req.proofs.sketch.ReqSketch.from_level.Goals.{After-new-levels}
use Rattle.sketch_req.proofs.sketch.ReqSketch.from_level.Goals as goal
use Rattle.sketch_req.proofs.sketch.ReqSketch.from_level.Goals.at as past

-- the sketch of the level
module _ (g : Over) (c : After-new-levels g) where
  abbrev sketch : Req g.row.T.Denot
  sketch =
      let h = c.args.header.now in
      sketch_of h.k (accuracy_in h.flags) (length c.items_slice-items.result.now) c.push_reserved.new.self.items c.in_ok-ends.ends.0 c.in_ok-ends.ends.1

  made : IsRebuilt g.T.Ord.cmp sketch
  made =
      let cmp = g.T.Ord.cmp in
      let ends = c.in_ok-ends.ends in
      let low = subst (λ (l : List g.row.T.Denot). IsLeastOf cmp l (newer_or ends.0 None)) c.items_slice-items.ensures.value c.in_ok-ends.ensures.least in
      let high = subst (λ (l : List g.row.T.Denot). IsGreatestOf cmp l (newer_or ends.1 None)) c.items_slice-items.ensures.value c.in_ok-ends.ensures.greatest in
      rebuilt g.met.T.Ord.total sketch c.args.level (pushed_alone c.push_reserved.ensures.items c.in_ok-levels.ensures.items)
      c.requires.legal c.requires.placed (ap length c.items_slice-items.ensures.value) c.requires.some c.requires.fresh low high

  held_is : c.new-levels.result ≡ held_of c.args.header.now.k (accuracy_in c.args.header.now.flags) c.push_reserved.new.self.items
  held_is = subst (λ (a : RankAccuracy). c.new-levels.result ≡ held_of c.args.header.now.k a c.push_reserved.new.self.items) c.rank_accuracy.ensures
      c.new-levels.ensures

  same : sketch_of c.new-levels.result.k c.new-levels.result.accuracy (length c.items_slice-items.result.now) c.new-levels.result.levels
      c.in_ok-ends.ends.0 c.in_ok-ends.ends.1 ≡ sketch
  same = same_sketch (length c.items_slice-items.result.now) c.in_ok-ends.ends.0 c.in_ok-ends.ends.1 held_is

  told : IsTold g.T.Ord.cmp c.args.header.now sketch
  told = record { k_is = refl; accuracy_is = refl; n_is = made.n_is; least_is = made.least_is; greatest_is = made.greatest_is }

pub from_levels-requires : goal.from_levels-requires
from_levels-requires g c =
    let before = (past.from_levels-requires g c).After-new-levels in
    subst (IsSound g.T.Ord.cmp) (sym (same g before)) (made g before).sound
