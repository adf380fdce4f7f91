use Rattle.std.proofs.lemmas.Grind.{common_steps}
use Rattle.std.proofs.Common.{arith, length, ap, refl}
use Rattle.sketch_base.proofs.calls.Calls.{refused_if}
use Rattle.sketch_base.proofs.images.Spelled.{same_32}
use Rattle.sketch_kll.proofs.images.Places.{all_counted, bounds_found, no_more_bounds, one_bound}
use Rattle.sketch_kll.proofs.image.reading.read_bounds.Goals as goal

pub returns-in_err-offset-clause-refused : goal.returns-in_err-offset-clause-refused
returns-in_err-offset-clause-refused c =
    let r = c.from_residual-in_err-offset.result in
    let e = c.from_residual-in_err-offset.ensures in
    refused_if r e.1 (λ _. no_more_bounds c.loop.invariant.so_far c.ranges.limit.fits c.loop-test.true
    (λ x _ _ begins _ _. (omega (arith, begins, ap length begins, c.in_err-offset.ensures.short))))

pub returns-then-offset-low-clause-refused : goal.returns-then-offset-low-clause-refused
returns-then-offset-low-clause-refused c =
    λ _. no_more_bounds c.loop.invariant.so_far c.ranges.limit.fits c.loop-test.true (λ x more fits begins above below.
    grind (arith, common_steps, same_32))

pub loop-preserved : goal.loop-preserved
loop-preserved c = grind (arith, common_steps, one_bound)

pub returns-clause-found : goal.returns-clause-found
returns-clause-found c = bounds_found c.loop.invariant.so_far (all_counted refl c.loop-test.false c.loop.auto.counter-end) c.push_reserved-2.ensures.items
