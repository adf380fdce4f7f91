use Rattle.quantile_sketches.proofs.slots.Slots.{slot_made}
use Rattle.quantile_sketches.proofs.table.Table.create.Goals as goal

pub returns : goal.returns
returns g c = slot_made (g.S.Family.behaviour.made c.args.config) c.self.inside.slots c.args.self.now c.args.slot c.index_mut.result.now c.in_ok-create.field-0
    c.self.invariant c.self.view_is c.ranges.slot.fits c.index_mut.ensures.value c.in_ok-create.ensures
