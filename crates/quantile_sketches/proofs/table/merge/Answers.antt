use Rattle.quantile_sketches.proofs.slots.Slots.{turns-absent, turns-told, joins-absent, joins-other}
use Rattle.quantile_sketches.proofs.table.merge.Goals as goal

pub returns : goal.returns
returns g c = joins-other (λ p. g.S.Family.behaviour.joined c.args.redraws p g.row.B.Denot g.B.RandomBits.bit g.B.RandomBits.next) c.args.source.now c.args.slot.now
    c.in-Some.other c.args.coins.now
    c.merge-outcome.new.coins _ _ c.in-Some.is (turns-told (g.S.Family.behaviour.joined c.args.redraws c.in-Some.other g.row.B.Denot g.B.RandomBits.bit g.B.RandomBits.next) c.args.slot.now
    c.in-Some-slot.sketch c.merge-outcome.new.self
    c.args.coins.now c.merge-outcome.new.coins c.merge-outcome.result c.map_err.result c.in-Some-slot.is c.map_err.ensures.cases c.merge-outcome.ensures)

pub returns-in_default : goal.returns-in_default
returns-in_default g c = joins-absent (λ p. g.S.Family.behaviour.joined c.args.redraws p g.row.B.Denot g.B.RandomBits.bit g.B.RandomBits.next) c.args.source.now c.args.slot.now
    c.args.coins.now c.in_default.is

pub returns-in_default-slot : goal.returns-in_default-slot
returns-in_default-slot g c = joins-other (λ p. g.S.Family.behaviour.joined c.args.redraws p g.row.B.Denot g.B.RandomBits.bit g.B.RandomBits.next) c.args.source.now c.args.slot.now
    c.in-Some.other c.args.coins.now
    c.args.coins.now _ _ c.in-Some.is (turns-absent (g.S.Family.behaviour.joined c.args.redraws c.in-Some.other g.row.B.Denot g.B.RandomBits.bit g.B.RandomBits.next) c.args.slot.now
    c.args.coins.now c.in_default-slot.is)
