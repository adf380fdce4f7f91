use Rattle.std.proofs.Common.{Err, inl, inr, ap, ◌∙◌, refl}
use Rattle.hex.specs.Hex.{encode_lower}
use Rattle.quantile_sketches.specs.LineSteps.{Shows}
use Rattle.quantile_sketches.specs.declared.answer.Refusal.TheVariants.{Sketch}
use Rattle.quantile_sketches.proofs.slots.Slots.{asks-held, error_is}
use Rattle.quantile_sketches.proofs.table.Table.show.Goals as goal

pub returns : goal.returns
returns g c = asks-held (Shows g.S.Family.behaviour) c.args.slot.now c.in-Some.sketch _ c.in-Some.is
    (inl (c.in_ok-image.field-0, c.in_ok-image_text.field-0, c.in_ok-image.ensures, c.in_ok-image_text.ensures.text ∙ ap encode_lower c.deref.ensures.value, refl))

pub returns-in_err-image_text : goal.returns-in_err-image_text
returns-in_err-image_text g c =
    let r = c.from_residual-in_err-image_text in
    asks-held (Shows g.S.Family.behaviour) c.args.slot.now c.in-Some.sketch r.result c.in-Some.is
    (inr (inr (error_is r.result (Sketch c.in_err-image_text.field-0.0) r.ensures.1 ∙ ap (λ e. Err (Sketch e)) c.in_err-image_text.ensures.memory)))

pub returns-in_err-image : goal.returns-in_err-image
returns-in_err-image g c = asks-held (Shows g.S.Family.behaviour) c.args.slot.now c.in-Some.sketch c.from_residual.result c.in-Some.is
    (inr (inl (c.in_err-image.field-0.0, c.in_err-image.ensures, error_is c.from_residual.result (Sketch c.in_err-image.field-0.0) c.from_residual.ensures.1)))
