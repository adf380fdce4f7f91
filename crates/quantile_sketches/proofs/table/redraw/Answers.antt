use Rattle.quantile_sketches.proofs.slots.Slots.{turns-told}
use Rattle.quantile_sketches.proofs.table.redraw.Goals as goal

pub returns : goal.returns
returns g c = turns-told (g.S.Family.behaviour.redrawn g.row.B.Denot g.B.RandomBits.bit g.B.RandomBits.next) c.args.slot.now c.in-Some.sketch c.redraw.new.self
    c.args.coins.now c.redraw.new.coins c.redraw.result c.map_err.result c.in-Some.is c.map_err.ensures.cases c.redraw.ensures
