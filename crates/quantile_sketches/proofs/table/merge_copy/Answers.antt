use Rattle.quantile_sketches.specs.declared.answer.Refusal.TheVariants.{Sketch}
use Rattle.quantile_sketches.specs.LineSteps.{JoinsCopy}
use Rattle.quantile_sketches.proofs.slots.Slots.{turns-told, copy_refused, error_is, copy_tried, copy_fails}
use Rattle.quantile_sketches.proofs.table.merge_copy.Goals as goal

pub returns : goal.returns
returns g c = turns-told (JoinsCopy g.S.Family.behaviour g.B.RandomBits.bit g.B.RandomBits.next c.args.redraws) c.args.slot.now c.in-Some.sketch c.merge-outcome.new.self
    c.args.coins.now c.merge-outcome.new.coins c.merge-outcome.result c.map_err.result c.in-Some.is c.map_err.ensures.cases
    (copy_tried g.S.Family.behaviour g.B.RandomBits.bit g.B.RandomBits.next c.args.redraws c.refuses.result c.args.slot.now c.in-Some.sketch
    c.args.coins.now
    c.in-Some.is c.refuses.ensures
    c.if-refuses.false
    c.in_ok-copy.field-0 c.merge-outcome.new.self c.merge-outcome.new.coins c.merge-outcome.result c.in_ok-copy.ensures c.merge-outcome.ensures)

pub returns-in_err-copy : goal.returns-in_err-copy
returns-in_err-copy g c = copy_fails g.S.Family.behaviour g.B.RandomBits.bit g.B.RandomBits.next c.args.redraws c.refuses.result c.args.slot.now c.in-Some.sketch c.args.coins.now
    c.in-Some.is c.refuses.ensures
    c.if-refuses.false
    c.in_err-copy.field-0.0 c.from_residual.result c.in_err-copy.ensures (error_is c.from_residual.result (Sketch c.in_err-copy.field-0.0) c.from_residual.ensures.1)

pub returns-then-refuses : goal.returns-then-refuses
returns-then-refuses g c = copy_refused g.S.Family.behaviour g.B.RandomBits.bit g.B.RandomBits.next c.args.redraws c.refuses.result c.args.slot.now c.in-Some.sketch c.args.coins.now
    c.in-Some.is c.refuses.ensures c.if-refuses.true
