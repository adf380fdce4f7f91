use Rattle.std.proofs.Common.{arith, rules, ◌≡◌, ◌∙◌, ℕ, List, ap, subst, subst₂, map, reverse, sym, IsSorted, IsPermutation, is_lt, of_calls}
use Rattle.std.proofs.lemmas.Fn.{always_returns_same}
use Rattle.std.proofs.lemmas.List.{reverse-reverse}
use Rattle.std.proofs.lemmas.List.Sorted.{ranks_by, sum_by-IsPermutation}
use Rattle.sketch_base.specs.Views.{IsView}
use Rattle.sketch_base.proofs.views.Built.{built-joined, joined-view, sorted-items}
use Rattle.sketch_base.proofs.moving.Moving.{some-unless_zero}
use Rattle.sketch_base.proofs.sorted_view.SortedView.build.Given.{Over}
use Rattle.sketch_base.proofs.sorted_view.SortedView.build.Goals.{After-reverse}
use Rattle.sketch_base.proofs.sorted_view.SortedView.build.Goals as goal
use Rattle.sketch_base.proofs.sorted_view.SortedView.build.Goals.at as past

-- the weighted items as they are joined, from the last to the first
module _ (g : Over) (c : After-reverse g) where
  turned : reverse c.reverse.new.self.items ≡ c.sort_unstable_by.new.self.items
  turned = ap reverse c.reverse.ensures.items ∙ reverse-reverse c.sort_unstable_by.new.self.items

  moved : IsPermutation c.args.weighted.items (reverse c.reverse.new.self.items)
  moved = subst (λ (pairs : List (g.row.T.Denot × ℕ)). IsPermutation c.args.weighted.items pairs) (sym turned) c.sort_unstable_by.ensures.permutation

  sorted : IsSorted g.T.Ord.cmp (map (λ (pair : g.row.T.Denot × ℕ). pair.0) (reverse c.reverse.new.self.items))
  sorted =
      subst (λ (pairs : List (g.row.T.Denot × ℕ)). IsSorted g.T.Ord.cmp (map (λ (pair : g.row.T.Denot × ℕ). pair.0) pairs)) (sym turned) (sorted-items g.T.Ord.cmp c.sort_unstable_by.new.self.items
      (c.sort_unstable_by.ensures.sorted (λ (a b : g.row.T.Denot × ℕ). is_lt (g.T.Ord.cmp a.0 b.0)) (ranks_by g.met.T.Ord.total (λ (p : g.row.T.Denot × ℕ). p.0))
      (always_returns_same _ _ _ (λ a r f k. search (rules, of_calls)))))

pub cumulate-requires-clause-fits : goal.cumulate-requires-clause-fits
cumulate-requires-clause-fits g c =
    omega (arith, sum_by-IsPermutation (λ (pair : g.row.T.Denot × ℕ). pair.1) c.args.weighted.items _ (moved g (past.cumulate-requires-clause-fits g c).After-reverse), c.requires.fits)

pub from_cumulated-requires-2 : goal.from_cumulated-requires-2
from_cumulated-requires-2 g c =
    let after = (past.from_cumulated-requires-2 g c).After-reverse in
    let some = some-unless_zero _ _ _ c.if-count-eq0.false c.len-count.ensures c.args.weighted.ok.0 in
    subst₂ (λ (xs : List g.row.T.Denot) (ns : List ℕ). IsView g.T.Ord.cmp xs ns c.args.min_item c.args.max_item) (sym c.cumulate.ensures.items) (sym c.cumulate.ensures.weights)
    (joined-view g.met.T.Ord.total c.args.joins _ _ (moved g after) (sorted g after) c.requires.weights c.args.min_item c.args.max_item some (c.requires.least some) (c.requires.greatest some))

pub returns : goal.returns
returns g c =
    let after = (past.returns g c).After-reverse in
    let b = built-joined g.met.T.Ord.total c.args.joins _ _ (moved g after) (sorted g after) c.requires.weights c.args.min_item c.args.max_item _ _ _
    c.from_cumulated-2.ensures
    c.cumulate.ensures.items c.cumulate.ensures.weights (some-unless_zero _ _ _ c.if-count-eq0.false c.len-count.ensures c.args.weighted.ok.0) in
    record { entries = b.entries; held = b.held_is; least = b.least_is; greatest = b.greatest_is; memory = tt; none = tt }
