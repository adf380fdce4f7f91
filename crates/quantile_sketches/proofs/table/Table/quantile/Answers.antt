use Rattle.std.proofs.Common.{refl}
use Rattle.sketch_base.specs.Queried.{IsQuantile}
use Rattle.quantile_sketches.specs.declared.answer.Answer.TheVariants.{Item}
use Rattle.quantile_sketches.specs.declared.answer.Refusal.TheVariants.{Sketch}
use Rattle.quantile_sketches.specs.LineSteps.{Replies}
use Rattle.quantile_sketches.proofs.slots.Slots.{asks-held, error_is}
use Rattle.quantile_sketches.proofs.table.Table.quantile.Goals as goal

pub returns : goal.returns
returns g c = asks-held (λ s. Replies Item (IsQuantile (g.S.Family.behaviour.queried s) c.args.fraction c.args.criteria)) c.args.slot.now c.in-Some.sketch _ c.in-Some.is
    (c.in_ok-quantile_of.field-0, c.in_ok-quantile_of.ensures, refl)

pub returns-in_err-quantile_of : goal.returns-in_err-quantile_of
returns-in_err-quantile_of g c =
    asks-held (λ s. Replies Item (IsQuantile (g.S.Family.behaviour.queried s) c.args.fraction c.args.criteria)) c.args.slot.now c.in-Some.sketch c.from_residual.result c.in-Some.is
    (rw (error_is c.from_residual.result (Sketch c.in_err-quantile_of.field-0.0) c.from_residual.ensures.1) c.in_err-quantile_of.ensures)
