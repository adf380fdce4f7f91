use Rattle.std.proofs.Common.{is_some, ap, length, refl}
use Rattle.sketch_base.specs.Queries.{cdf_of}
use Rattle.sketch_base.proofs.calls.Calls.{answer-too, told-fit}
use Rattle.sketch_base.proofs.views.Entries.{differences-left, increasing-told, ranks-sum}
use Rattle.sketch_base.proofs.sorted_view.SortedView.pmf.Goals as goal

pub returns : goal.returns
returns g c =
    let entries = c.args.self.now.entries in
    let told = c.in_ok-ranks.ensures.ranks in
    let ranks = rw c.in-Some.is at told.found in
    let found = differences-left (length entries) c.in-Some.ranks.len (cdf_of g.T.Ord.cmp c.args.criteria entries c.args.points.now) c.in-Some.ranks.items
    c.as_mut_slice.result.now c.take_differences.new.ranks ranks c.as_mut_slice.ensures.value c.take_differences.ensures.weights c.take_differences.ensures.totals c.in-Some.ranks.ok.0 in
    record {
      weights = answer-too _ told (λ t. (told.there.0 (ap (λ o. is_some o) c.in-Some.is)), λ t. refl) found;
      sums = ranks-sum g.met.T.Ord.total c.args.criteria entries c.args.points.now (length entries) _ (increasing-told g.T.Ord.cmp c.args.points.now (told-fit told)) found;
    }
