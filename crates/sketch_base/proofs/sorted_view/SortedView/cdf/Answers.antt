use Rattle.std.proofs.Common.{arith, ◌≡◌, ◌+◌, ◌<◌, ℕ, List, [], ◌∷◌, ◌++◌, length, ap, refl, sym, ◌∙◌}
use Rattle.std.specs.Prelude.{Some, slice_get}
use Rattle.sketch_base.specs.declared.common.Rank.{Rank}
use Rattle.sketch_base.specs.Query.{counted, true_rank}
use Rattle.sketch_base.specs.Queries.{cdf_of, ranks_of, spread_out}
use Rattle.sketch_base.proofs.calls.Calls.{answer}
use Rattle.sketch_base.proofs.views.Entries.{count-spread_out, ranks-end, ranks-more, ranks-last, ranks-rise}
use Rattle.sketch_base.proofs.views.Built.{at-entries, entries-there}
use Rattle.sketch_base.proofs.sorted_view.SortedView.cdf.Given.{Over}
use Rattle.sketch_base.proofs.sorted_view.SortedView.cdf.Goals.{After-push_reserved-2}
use Rattle.sketch_base.proofs.sorted_view.SortedView.cdf.Goals as goal
use Rattle.sketch_base.proofs.sorted_view.SortedView.cdf.Goals.at as past

one-further : (i n : ℕ) → i < n → i < n + 1
one-further i n l = omega arith

pub loop-point-preserved : goal.loop-point-preserved
loop-point-preserved g c =
    let entries = spread_out c.as_slice-items.result.now c.as_slice-cumulated.result.now in
    let i = c.loop-point.invariant in
    let split = c.count_near-count.ensures in
    let counts = count-spread_out (counted g.T.Ord.cmp c.point-item.result c.args.criteria) c.as_slice-items.result.now c.as_slice-cumulated.result.now c.count_near-count.result split.within i.cumulates split.parts in
    record {
      ranks = ranks-more (λ (y : g.row.T.Denot). true_rank g.T.Ord.cmp y c.args.criteria entries) (length entries) c.args.points.now c.loop-point.point-index c.entries_before-weight.result
          c.point-item.result c.loop-point.ranks.items c.push_reserved.new.self.items c.loop-point-test.true i.ranks c.point-item.is (c.entries_before-weight.ensures.value ∙ sym counts)
          (c.push_reserved.ensures.items ∙ ap (λ (n : ℕ). let rank : Rank = record { weight = c.entries_before-weight.result; total = n } in c.loop-point.ranks.items ++ rank ∷ []) c.entries_of-total.ensures.value);
      cumulates = i.cumulates;
      sorted = i.sorted;
      near = split.within;
      room = omega (arith, one-further _ _ c.loop-point-test.true, c.push_reserved.ensures.len, c.push_reserved.ensures.capacity, i.room);
    }

-- what the vector holds in the end
ranks : (g : Over) (c : After-push_reserved-2 g) → let entries = spread_out c.as_slice-items.result.now c.as_slice-cumulated.result.now in
    c.push_reserved-2.new.self.items ≡ ranks_of (length entries) (cdf_of g.T.Ord.cmp c.args.criteria entries c.args.points.now)
ranks g c =
    let entries = spread_out c.as_slice-items.result.now c.as_slice-cumulated.result.now in
    ranks-last (λ (y : g.row.T.Denot). true_rank g.T.Ord.cmp y c.args.criteria entries) (length entries) c.args.points.now c.loop-point.point-index
    c.loop-point.ranks.items
    c.push_reserved-2.new.self.items c.loop-point-test.false c.loop-point.invariant.ranks
    (c.push_reserved-2.ensures.items ∙ ap (λ (n : ℕ). let rank : Rank = record { weight = n; total = n } in c.loop-point.ranks.items ++ rank ∷ []) c.entries_of-total.ensures.value)

pub returns : goal.returns
returns g c =
    let some = entries-there _ _ _ _ _ (sym c.self.view_is) c.is_empty.result _ c.is_empty.ensures c.self.inside.items.ok.0 c.if-is_empty.false
    c.self.invariant.no_more_items in
    let is = ranks g (past.returns g c).After-push_reserved-2 in
    record {
      ranks = answer _ c.in_ok-check_points.ensures.good (λ t. some, λ t. refl)
          (at-entries (λ (es : List g.row.T.Denot). c.push_reserved-2.new.self.items ≡ ranks_of (length es) (cdf_of g.T.Ord.cmp c.args.criteria es c.args.points.now)) _ _ _
          _ _ _ _ (sym c.self.view_is) c.as_slice-items.ensures.value c.as_slice-cumulated.ensures.value is);
      ends = at-entries (λ (es : List g.row.T.Denot). slice_get c.push_reserved-2.new.self.items (length c.args.points.now) ≡ Some (record { weight = length es; total = length es })) _ _ _
          _ _ _ _ (sym c.self.view_is) c.as_slice-items.ensures.value c.as_slice-cumulated.ensures.value (ranks-end _ _ c.args.points.now _ is);
      rises = ranks-rise g.met.T.Ord.total c.args.criteria (spread_out c.as_slice-items.result.now c.as_slice-cumulated.result.now) c.args.points.now _ c.push_reserved-2.new.self.items
          c.in_ok-check_points.ensures.good is;
    }
