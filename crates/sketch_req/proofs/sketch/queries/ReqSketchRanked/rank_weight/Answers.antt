use Rattle.std.proofs.Common.{◌≡◌, ℕ, List, Bool, ap, sym, ◌∙◌, Ordering}
use Rattle.sketch_base.specs.Bag.{weighted_rank}
use Rattle.sketch_req.specs.Actions.{bag_of}
use Rattle.sketch_req.specs.Level.{Level}
use Rattle.sketch_req.specs.Rank.{counted_weight}
use Rattle.sketch_req.specs.declared.sketch.ReqSketch.TheInside.{Inside}
use Rattle.sketch_req.proofs.views.Views.{rank_is}
use Rattle.sketch_req.proofs.sketch.queries.ReqSketchRanked.rank_weight.Goals as goal

-- the rank, as callers see the levels
ranked : {A : Type 0} (cmp : A → A → Ordering) (test : A → Bool) {ls levels : List (Level A)} {result : ℕ} → ls ≡ levels →
    result ≡ counted_weight test ls → result ≡ weighted_rank cmp test (bag_of levels)
ranked cmp test {levels = levels} same counts = counts ∙ (ap (counted_weight test) same ∙ sym (rank_is cmp test levels))

pub returns-in-Inclusive : goal.returns-in-Inclusive
returns-in-Inclusive g c =
    let levels = c.as_slice-levels.ensures.value ∙ ap (λ (s : Inside g.row.T.Denot). s.levels.levels) c.self-inside.view_is in
    rw (c.in-Inclusive.is, ← c.self.view_is) (ranked g.T.Ord.cmp _ levels c.weight_counted.ensures)

pub returns-in-Exclusive : goal.returns-in-Exclusive
returns-in-Exclusive g c =
    let levels = c.as_slice-levels.ensures.value ∙ ap (λ (s : Inside g.row.T.Denot). s.levels.levels) c.self-inside.view_is in
    rw (c.in-Exclusive.is, ← c.self.view_is) (ranked g.T.Ord.cmp _ levels c.weight_counted-in-Exclusive.ensures)
