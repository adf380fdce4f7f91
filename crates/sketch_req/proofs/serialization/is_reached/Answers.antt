use Rattle.std.proofs.Common.{◌-◌, ◌≤◌, arith, leb-true, le-leb}
use Rattle.sketch_req.proofs.sections.Sections.{threshold_rises}
use Rattle.sketch_req.proofs.serialization.is_reached.Goals as goal

pub returns-else-doublings-eq0 : goal.returns-else-doublings-eq0
returns-else-doublings-eq0 c =
    let e = c.growth_threshold_of.ensures in (
      λ t fewer lt.
          let a : c.growth_threshold_of.result ≤ c.args.state = leb-true _ _ t in
          let b = threshold_rises fewer (c.args.doublings - 1) (omega (arith, lt)) in
          omega (arith, e, a, b),
      λ r.
          let b = r (c.args.doublings - 1) (omega (arith, c.if-doublings-eq0.false)) in
          le-leb _ _ (omega (arith, e, b)),
    )
