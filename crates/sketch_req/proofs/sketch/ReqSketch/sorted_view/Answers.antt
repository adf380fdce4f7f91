use Rattle.std.proofs.Common.{arith, ◌≡◌, ◌≢◌, ◌<◌, ◌^◌, ◌∙◌, IfOk, List, length, subst, sym, ap}
use Rattle.std.specs.Prelude.{Option}
use Rattle.std.proofs.lemmas.Result.{IfErr-weaker}
use Rattle.sketch_base.specs.Pairs.{SamePairs}
use Rattle.sketch_base.specs.Queries.{SameAnswer}
use Rattle.sketch_base.specs.Views.{IsViewOf}
use Rattle.sketch_req.specs.Held.{Held}
use Rattle.sketch_req.specs.Level.{Level}
use Rattle.sketch_req.specs.Pairs.{pairs_of}
use Rattle.sketch_req.specs.Sketch.{Req, sketch_of}
use Rattle.sketch_req.specs.Views.{queried}
use Rattle.sketch_req.proofs.views.Views.{length-pairs, AreWeighed, are-weighed, entries-view, none-weighed}
use Rattle.sketch_req.proofs.sketch.ReqSketch.sorted_view.Given.{Over}
use Rattle.sketch_req.proofs.sketch.ReqSketch.sorted_view.Goals.{In_ok-weighted}
use Rattle.sketch_req.proofs.sketch.ReqSketch.sorted_view.Goals as goal
use Rattle.sketch_req.proofs.sketch.ReqSketch.sorted_view.Goals.at as past

pub weigh_levels-requires-clause-count : goal.weigh_levels-requires-clause-count
weigh_levels-requires-clause-count g c =
    let ls = c.levels.inside.compactors.items in
    c.levels.invariant.retained_is ∙ (sym (length-pairs ls) ∙ ap (λ (l : List (Level g.row.T.Denot)). length (pairs_of l)) (sym c.as_slice.ensures.value))

-- the weighted items, and what they are items of
module _ (g : Over) (c : In_ok-weighted g) where
  abbrev sketch : Req g.row.T.Denot
  sketch = let s = c.self.inside in sketch_of s.levels.k s.levels.accuracy s.n s.levels.levels s.min_item s.max_item

  same_levels : c.as_slice.result.now ≡ c.self.inside.levels.levels
  same_levels = c.as_slice.ensures.value ∙ ap (λ (h : Held g.row.T.Denot). h.levels) c.levels.view_is

  weighed : AreWeighed g.T.Ord.cmp sketch c.in_ok-weighted.weighted.items
  weighed =
      are-weighed g.met.T.Ord.total sketch c.self.invariant c.in_ok-weighted.weighted.items
      (subst (λ (ls : List (Level g.row.T.Denot)). SamePairs g.T.Ord.cmp (pairs_of ls) c.in_ok-weighted.weighted.items) same_levels c.in_ok-weighted.ensures.same)

  least : SameAnswer g.T.Ord.cmp sketch.least c.in_ok-least.least
  least = subst (λ (x : Option g.row.T.Denot). SameAnswer g.T.Ord.cmp x c.in_ok-least.least) c.as_ref.ensures.value c.in_ok-least.ensures.same

  greatest : SameAnswer g.T.Ord.cmp sketch.greatest c.in_ok-greatest.greatest
  greatest = subst (λ (x : Option g.row.T.Denot). SameAnswer g.T.Ord.cmp x c.in_ok-greatest.greatest) c.as_ref-2.ensures.value c.in_ok-greatest.ensures.same

pub new-requires-clause-weights : goal.new-requires-clause-weights
new-requires-clause-weights g c = (weighed g (past.new-requires-clause-weights g c).In_ok-weighted).some

pub new-requires-clause-fits : goal.new-requires-clause-fits
new-requires-clause-fits g c =
    let small : c.self.inside.n < 2 ^ 64 = c.self.invariant.n_fits in
    omega (arith, small, (weighed g (past.new-requires-clause-fits g c).In_ok-weighted).sum)

pub returns : goal.returns
returns g c =
    let before = (past.returns g c).In_ok-weighted in
    let told = c.new.ensures in
    let w = weighed g before in
    record {
      view = subst (λ (s : Req g.row.T.Denot). IfOk c.new.result (IsViewOf (queried g.T.Ord.cmp s))) c.self.view_is
          (entries-view g.met.T.Ord.total (sketch g before) c.self.invariant _ _ _ _ w (least g before) (greatest g before) told.entries told.least told.greatest);
      joined = told.joined;
      memory = told.memory;
      some = IfErr-weaker c.new.result (λ e. 0 < length c.in_ok-weighted.weighted.items) (λ e. c.args.self.now.n ≢ 0)
          (λ e some none. none-weighed (sketch g before) c.self.invariant w.long some (ap (λ (s : Req g.row.T.Denot). s.n) c.self.view_is ∙ none)) told.none;
    }
