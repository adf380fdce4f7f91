use Rattle.std.proofs.Common.{arith, ◌≡◌, ◌∷◌, [], true, ap, length, sym, subst}
use Rattle.std.proofs.lemmas.Grind.{common_steps}
use Rattle.sketch_req.specs.Level.{fresh}
use Rattle.sketch_req.specs.Walk.{AreLevels}
use Rattle.sketch_req.proofs.sketches.Copies.{first-levels, held-sums, own-levels}
use Rattle.sketch_req.proofs.sketch.levels.Levels.clear.Goals as goal

pub add_level-requires-clause-legal : goal.add_level-requires-clause-legal
add_level-requires-clause-legal g c = (own-levels g.T.Ord.cmp _ _ _ c.self.invariant.some c.self.invariant.placed).legal

pub invariant_of-self : goal.invariant_of-self
invariant_of-self g c =
    let x = c.self.inside in
    let first : c.add_level.new.levels.items ≡ fresh [] true 0 x.k x.rank_accuracy ∷ [] = grind (arith, common_steps) in
    let legal = (own-levels g.T.Ord.cmp _ _ _ c.self.invariant.some c.self.invariant.placed).legal in
    held-sums g.T.Ord.cmp _ _ _ _ _ _ (omega (arith, ap length first)) (subst (AreLevels g.T.Ord.cmp x.k x.rank_accuracy 0) (sym first) (first-levels g.T.Ord.cmp _ _ legal))
    c.as_slice.ensures.value c.sums.ensures.retained c.sums.ensures.capacity
