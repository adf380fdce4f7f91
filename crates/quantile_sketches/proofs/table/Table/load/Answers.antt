use Rattle.std.proofs.Common.{ℕ, List, Ok, Err, inl, inr, ap, ◌∙◌, subst, refl}
use Rattle.quantile_sketches.specs.declared.answer.Refusal.TheVariants.{Sketch}
use Rattle.quantile_sketches.specs.LineSteps.{ReadsImage}
use Rattle.quantile_sketches.specs.LineWords.{image_in}
use Rattle.quantile_sketches.proofs.slots.Slots.{slot_made, error_is}
use Rattle.quantile_sketches.proofs.table.Table.load.Goals as goal

pub returns-in_err-decoded : goal.returns-in_err-decoded
returns-in_err-decoded g c =
    let e = c.in_err-decoded.field-0.0 in
    λ coins. (Err (Sketch e), error_is c.from_residual.result (Sketch e) c.from_residual.ensures.1, (inr (ap (λ e. Err e) c.in_err-decoded.ensures.memory), refl), refl)

pub returns-in_err-load : goal.returns-in_err-load
returns-in_err-load g c =
    let bytes = c.deref.ensures.value ∙ c.in_ok-decoded.ensures.bytes in
    let unread = subst (λ (bytes : List ℕ). g.S.Family.behaviour.loaded bytes (Err c.in_err-load.field-0.0)) bytes c.in_err-load.ensures in
    λ coins. (Err (Sketch c.in_err-load.field-0.0), error_is c.from_residual-in_err-load.result (Sketch c.in_err-load.field-0.0) c.from_residual-in_err-load.ensures.1, (inl unread, refl), refl)

pub returns : goal.returns
returns g c =
    let bytes = c.deref.ensures.value ∙ c.in_ok-decoded.ensures.bytes in
    let read = subst (λ (bytes : List ℕ). g.S.Family.behaviour.loaded bytes (Ok c.in_ok-load.field-0)) bytes c.in_ok-load.ensures in
    let made = slot_made (ReadsImage g.S.Family.behaviour (image_in c.args.image)) c.self.inside.slots c.args.self.now c.args.slot
    c.index_mut.result.now c.in_ok-load.field-0 c.self.invariant c.self.view_is c.ranges.slot.fits c.index_mut.ensures.value (inl read) in
    λ coins. (Ok tt, refl, made, refl)
