use Rattle.std.proofs.Common.{arith, ℕ, ◌+◌, ◌<◌, ◌≤◌, ◌≡◌, ◌++◌, [], ◌∷◌, refl, length, map, ap, subst, sym, ◌∙◌}
use Rattle.sketch_base.specs.Bag.{expanded}
use Rattle.sketch_base.specs.Query.{true_rank}
use Rattle.sketch_base.specs.Queries.{ranks_of}
use Rattle.sketch_base.proofs.views.Entries.{ranks-end, ranks-more, ranks-last, ranks-rise, cdf-result, length-expanded}
use Rattle.sketch_req.specs.Actions.{bag_of}
use Rattle.sketch_req.proofs.level.Changes.{same_number}
use Rattle.sketch_base.proofs.calls.Calls.{answer, some_now}
use Rattle.sketch_req.proofs.sketch.ReqSketch.cdf.Given.{Over}
use Rattle.sketch_req.proofs.sketch.ReqSketch.cdf.Goals.{After-allocator-alloc, After-push_reserved-2}
use Rattle.sketch_req.proofs.sketch.ReqSketch.cdf.Goals as goal
use Rattle.sketch_req.proofs.sketch.ReqSketch.cdf.Goals.at as past

-- the ranks
ranks : (g : Over) (c : After-push_reserved-2 g) →
    c.push_reserved-2.new.self.items
    ≡ ranks_of c.args.self.now.n (map (λ y. true_rank g.T.Ord.cmp y c.args.criteria (expanded g.T.Ord.cmp (bag_of c.args.self.now.levels))) c.args.points.now ++ c.args.self.now.n ∷ [])
ranks g c =
    let s = c.args.self.now in
    ranks-last _ s.n c.args.points.now c.loop-point.point-index _ c.push_reserved-2.new.self.items c.loop-point-test.false c.loop-point.invariant.told
    (c.push_reserved-2.ensures.items ∙ ap (λ (t : ℕ). c.loop-point.ranks.items ++ record { weight = t; total = t } ∷ []) c.n-total.ensures.value)

pub returns-then-total-eq0-clause-ranks : goal.returns-then-total-eq0-clause-ranks
returns-then-total-eq0-clause-ranks g c =
    let told = c.cdf-then-total-eq0.ensures in
    let view = c.in_ok-sorted_view.ensures.view in
    cdf-result g.met.T.Ord.total view c.args.criteria c.args.points.now c.cdf-then-total-eq0.result told.ranks

one_more : {i n : ℕ} → i < n → i + 1 ≤ n
one_more less = omega (arith, less)

pub loop-point-preserved : goal.loop-point-preserved
loop-point-preserved g c =
    let s = c.args.self.now in
    let rank : g.row.T.Denot → ℕ = λ y. true_rank g.T.Ord.cmp y c.args.criteria (expanded g.T.Ord.cmp (bag_of s.levels)) in
    let i = c.loop-point.invariant in
    let pushed = c.push_reserved.ensures in
    record {
      told = ranks-more rank s.n _ c.loop-point.point-index _ c.point-item.result _ _ c.loop-point-test.true i.told c.point-item.is
          c.rank_weight-weight.ensures
          (pushed.items ∙ ap (λ (t : ℕ). c.loop-point.ranks.items ++ record { weight = c.rank_weight-weight.result; total = t } ∷ []) c.n-total.ensures.value);
      len = same_number pushed.len (ap (λ (n : ℕ). n + 1) i.len);
      within = one_more c.loop-point-test.true;
      room = subst (λ (n : ℕ). length c.args.points.now < n) (sym pushed.capacity) i.room;
    }

-- the sketch has items
some : (g : Over) (c : After-allocator-alloc g) → 0 < c.args.self.now.n
some g c = some_now c.n-total.ensures.value c.if-total-eq0.false

pub returns : goal.returns
returns g c =
    let good = c.in_ok-check_points.ensures.good in
    let s = c.args.self.now in
    let entries = expanded g.T.Ord.cmp (bag_of s.levels) in
    let ranks = ranks g (past.returns g c).After-push_reserved-2 in
    let whole : length entries ≡ s.n = length-expanded g.T.Ord.cmp (bag_of s.levels) ∙ (sym c.n-total.ensures.weight ∙ c.n-total.ensures.value) in
    let found = ranks ∙ ap (λ (m : ℕ). ranks_of s.n (map (λ y. true_rank g.T.Ord.cmp y c.args.criteria entries) c.args.points.now ++ m ∷ [])) (sym whole) in
    let some = some g (past.returns g c).After-allocator-alloc in
    record {
      ranks = answer _ good (λ t. some, λ t. refl) found;
      ends = ranks-end _ s.n c.args.points.now _ ranks;
      rises = ranks-rise g.met.T.Ord.total c.args.criteria entries c.args.points.now _ _ good found;
    }
