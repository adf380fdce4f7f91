use Rattle.std.proofs.Common.{◌≡◌, ◌+◌, ◌∙◌, length, get_or, inl, inr, arith, length-set}
use Rattle.std.proofs.lemmas.Bool.{cases_lt}
use Rattle.std.proofs.lemmas.List.{get_or_past}
use Rattle.sketch_kll.proofs.merges.Joined.{joined_bounds_is}
use Rattle.sketch_kll.proofs.levels.merging.add_bounds.Goals as goal

pub returns : goal.returns
returns c =
    let i = c.loop-level.invariant in
    let n : length c.loop-level.bounds ≡ length c.args.bounds.now = c.loop-level.auto.bounds ∙ length-set c.args.bounds.now 0 _ in
    joined_bounds_is c.args.bounds.now c.args.other_bounds.now c.loop-level.bounds c.requires.some c.requires.fewer n i.zero
    (λ j b.
    let each : get_or c.loop-level.bounds j 0 ≡ get_or c.args.bounds.now j 0 + get_or c.args.other_bounds.now j 0 = elim (cases_lt j c.loop-level.level) [
      | inl p ↦ i.done j b p
      | inr p ↦ omega (arith, i.rest j p, get_or_past c.args.other_bounds.now j 0 (omega (arith, p)))
    ] in
    each)
