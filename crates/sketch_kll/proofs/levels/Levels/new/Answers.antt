use Rattle.sketch_kll.proofs.sketches.Stored.{empty_stored, new_levels}
use Rattle.std.proofs.Common.{refl}
use Rattle.sketch_kll.proofs.levels.Levels.new.Goals as goal

pub invariant_of-result : goal.invariant_of-result
invariant_of-result g c = empty_stored g.T.Ord.cmp c.args.k _ _ _ c.requires.k c.new.ensures.items c.in_ok-bounds.ensures.items c.total_capacity.ensures.value

pub returns : goal.returns
returns g c =
    record { k = refl; flag = refl; levels = (new_levels c.new.result.items c.in_ok-bounds.bounds.items c.new.ensures.items c.in_ok-bounds.ensures.items).1 }
