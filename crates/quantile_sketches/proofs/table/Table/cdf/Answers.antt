use Rattle.std.proofs.Common.{◌∙◌}
use Rattle.sketch_base.specs.Queried.{IsCdf}
use Rattle.quantile_sketches.specs.declared.answer.Refusal.TheVariants.{Sketch}
use Rattle.quantile_sketches.specs.LineSteps.{AnswersMasses}
use Rattle.quantile_sketches.specs.LineWords.{items_in_line}
use Rattle.quantile_sketches.proofs.slots.Slots.{asks-held, masses-refused, masses-error, masses-given, error_is}
use Rattle.quantile_sketches.proofs.table.Table.cdf.Goals as goal

pub returns : goal.returns
returns g c =
    asks-held (λ s. AnswersMasses g.S.Family.behaviour (items_in_line c.args.points) (IsCdf (g.S.Family.behaviour.queried s) (items_in_line c.args.points) c.args.criteria)) c.args.slot.now c.in-Some.sketch _ c.in-Some.is
    (masses-given g.S.Family.behaviour (items_in_line c.args.points) (λ points. IsCdf (g.S.Family.behaviour.queried c.in-Some.sketch) points c.args.criteria)
    c.as_slice.result.now (c.as_slice.ensures.value ∙ c.in_ok-points.ensures.items) c.in_ok-points.ensures.rise _ c.in_ok-cdf_of.ensures)

pub returns-in_err-cdf_of : goal.returns-in_err-cdf_of
returns-in_err-cdf_of g c =
    let r = c.from_residual-in_err-cdf_of in
    asks-held (λ s. AnswersMasses g.S.Family.behaviour (items_in_line c.args.points) (IsCdf (g.S.Family.behaviour.queried s) (items_in_line c.args.points) c.args.criteria)) c.args.slot.now c.in-Some.sketch r.result c.in-Some.is
    (masses-error g.S.Family.behaviour (items_in_line c.args.points) (λ points. IsCdf (g.S.Family.behaviour.queried c.in-Some.sketch) points c.args.criteria)
    c.as_slice.result.now (c.as_slice.ensures.value ∙ c.in_ok-points.ensures.items) c.in_ok-points.ensures.rise r.result c.in_err-cdf_of.field-0.0
    (error_is r.result (Sketch c.in_err-cdf_of.field-0.0) r.ensures.1) c.in_err-cdf_of.ensures)

pub returns-in_err-points : goal.returns-in_err-points
returns-in_err-points g c =
    let r = c.from_residual in
    asks-held (λ s. AnswersMasses g.S.Family.behaviour (items_in_line c.args.points) (IsCdf (g.S.Family.behaviour.queried s) (items_in_line c.args.points) c.args.criteria)) c.args.slot.now c.in-Some.sketch r.result c.in-Some.is
    (masses-refused g.S.Family.behaviour (items_in_line c.args.points) (IsCdf (g.S.Family.behaviour.queried c.in-Some.sketch) (items_in_line c.args.points) c.args.criteria) r.result c.in_err-points.field-0.0
    (error_is r.result (Sketch c.in_err-points.field-0.0) r.ensures.1) c.in_err-points.ensures.refused)
