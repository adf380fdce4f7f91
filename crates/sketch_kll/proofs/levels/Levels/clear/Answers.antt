use Rattle.std.proofs.lemmas.Grind.{common_steps}
use Rattle.std.proofs.Common.{arith, refl, ap}
use Rattle.sketch_kll.proofs.layout.Flats.{length-bounds}
use Rattle.sketch_kll.proofs.sketches.Stored.{empty_stored, new_levels}
use Rattle.sketch_kll.specs.Stored.{Stored}
use Rattle.sketch_kll.proofs.levels.Levels.clear.Goals as goal
use Rattle.sketch_kll.proofs.levels.Levels.clear.Goals.{After-fill}

pub invariant_of-self : goal.invariant_of-self
invariant_of-self g c =
    empty_stored g.T.Ord.cmp c.self.inside.k _ _ _ c.self.invariant.k_above c.clear.ensures.items (grind (arith, common_steps, length-bounds))
    c.total_capacity-self-inside.ensures.value

pub returns : goal.returns
returns g c =
    record {
      k = ap (λ (y : Stored g.row.T.Denot). y.k) c.self.view_is;
      flag = refl;
      levels = (new_levels c.clear.new.self.items _ c.clear.ensures.items (grind (arith, common_steps, length-bounds))).1;
    }
