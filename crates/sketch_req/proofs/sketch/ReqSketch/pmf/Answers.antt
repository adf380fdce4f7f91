use Rattle.std.proofs.Common.{◌≡◌, length, refl, sym, ◌∙◌, ap, is_some}
use Rattle.sketch_base.specs.Bag.{expanded}
use Rattle.sketch_base.specs.Queries.{cdf_of}
use Rattle.sketch_base.proofs.calls.Calls.{answer-too, told-fit}
use Rattle.sketch_base.proofs.views.Entries.{differences-left, increasing-told, ranks-sum, length-expanded}
use Rattle.sketch_req.specs.Actions.{bag_of}
use Rattle.sketch_req.proofs.sketch.ReqSketch.pmf.Goals as goal

pub returns : goal.returns
returns g c =
    let s = c.args.self.now in
    let entries = expanded g.T.Ord.cmp (bag_of s.levels) in
    let whole : length entries ≡ s.n = length-expanded g.T.Ord.cmp (bag_of s.levels) ∙ (sym c.n-n.ensures.weight ∙ c.n-n.ensures.value) in
    let cdf = cdf_of g.T.Ord.cmp c.args.criteria entries c.args.points.now in
    let told = c.in_ok-ranks.ensures.ranks in
    let ranks = rw c.in-Some.is at told.found in
    let found = differences-left s.n c.in-Some.ranks.len cdf c.in-Some.ranks.items c.as_mut_slice.result.now c.take_differences.new.ranks ranks
    c.as_mut_slice.ensures.value c.take_differences.ensures.weights c.take_differences.ensures.totals c.in-Some.ranks.ok.0 in
    let some = told.there.0 (ap (λ o. is_some o) c.in-Some.is) in
    record {
      weights = answer-too _ told (λ t. some, λ t. refl) found;
      sums = ranks-sum g.met.T.Ord.total c.args.criteria entries c.args.points.now s.n _
          (increasing-told g.T.Ord.cmp c.args.points.now (told-fit told)) found ∙ whole;
    }
