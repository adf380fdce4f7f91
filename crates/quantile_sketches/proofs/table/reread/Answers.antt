use Rattle.std.proofs.Common.{ℕ, List, Ok, Err, subst}
use Rattle.quantile_sketches.specs.declared.answer.Refusal.TheVariants.{Sketch}
use Rattle.quantile_sketches.proofs.slots.Slots.{error_is, reads_back, stays_unread}
use Rattle.quantile_sketches.proofs.table.reread.Goals as goal

pub returns-in_err-sketch : goal.returns-in_err-sketch
returns-in_err-sketch g c coins =
    let r = c.from_residual-in_err-sketch in
    let unread = subst (λ (bytes : List ℕ). g.S.Family.behaviour.loaded bytes (Err c.in_err-sketch.field-0.0)) c.deref.ensures.value c.in_err-sketch.ensures in
    stays_unread g.S.Family.behaviour c.args.slot.now c.in-Some.sketch c.in_ok-image.field-0 c.in_err-sketch.field-0.0 r.result coins
    c.in-Some.is c.in_ok-image.ensures unread (error_is r.result (Sketch c.in_err-sketch.field-0.0) r.ensures.1)

pub returns : goal.returns
returns g c coins =
    let read = subst (λ (bytes : List ℕ). g.S.Family.behaviour.loaded bytes (Ok c.in_ok-sketch.field-0)) c.deref.ensures.value c.in_ok-sketch.ensures in
    reads_back g.S.Family.behaviour c.args.slot.now c.in-Some.sketch c.in_ok-sketch.field-0 c.in_ok-image.field-0 coins c.in-Some.is c.in_ok-image.ensures read
