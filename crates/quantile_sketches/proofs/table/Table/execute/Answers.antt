use Rattle.std.proofs.Common.{arith}
use Rattle.quantile_sketches.specs.LineSteps.{Turns, Cloned, Empties, RoundTrips}
use Rattle.quantile_sketches.proofs.slots.Slots.{changed-slot}
use Rattle.quantile_sketches.proofs.table.Table.execute.Goals as goal

pub returns-in-Update : goal.returns-in-Update
returns-in-Update g c = rw c.in-Update.is
    (changed-slot (Turns (Cloned (g.S.Item.Clone.is_clone c.in-Update.item) (λ x. g.S.Family.behaviour.taken x g.row.B.Denot g.B.RandomBits.bit g.B.RandomBits.next)))
    c.self.inside.slots c.args.self.now c.in-Update.slot c.index_mut.result.now c.update.new.slot c.args.coins.now c.update.new.coins c.update.result
    c.self.invariant c.self.view_is (omega arith) c.index_mut.ensures.value c.update.ensures)

pub returns-in-UpdateWeighted : goal.returns-in-UpdateWeighted
returns-in-UpdateWeighted g c = rw c.in-UpdateWeighted.is (changed-slot (Turns (Cloned (g.S.Item.Clone.is_clone c.in-UpdateWeighted.item)
    (λ x. g.S.Family.behaviour.taken_weighted x c.in-UpdateWeighted.weight g.row.B.Denot g.B.RandomBits.bit g.B.RandomBits.next)))
    c.self-in-UpdateWeighted.inside.slots c.args.self.now c.in-UpdateWeighted.slot c.index_mut-in-UpdateWeighted.result.now c.update_weighted.new.slot c.args.coins.now c.update_weighted.new.coins
    c.update_weighted.result
    c.self-in-UpdateWeighted.invariant c.self-in-UpdateWeighted.view_is (omega arith) c.index_mut-in-UpdateWeighted.ensures.value c.update_weighted.ensures)

pub returns-in-Reset : goal.returns-in-Reset
returns-in-Reset g c = rw c.in-Reset.is (changed-slot (Turns (Empties g.S.Family.behaviour))
    c.self-in-Reset.inside.slots c.args.self.now c.in-Reset.slot c.index_mut-in-Reset.result.now c.reset.new.slot c.args.coins.now c.args.coins.now c.reset.result
    c.self-in-Reset.invariant c.self-in-Reset.view_is (omega arith) c.index_mut-in-Reset.ensures.value (c.reset.ensures c.args.coins.now))

pub returns-in-RoundTrip : goal.returns-in-RoundTrip
returns-in-RoundTrip g c = rw c.in-RoundTrip.is (changed-slot (Turns (RoundTrips g.S.Family.behaviour))
    c.self-in-RoundTrip.inside.slots c.args.self.now c.in-RoundTrip.slot c.index_mut-in-RoundTrip.result.now c.reread.new.slot c.args.coins.now c.args.coins.now c.reread.result
    c.self-in-RoundTrip.invariant c.self-in-RoundTrip.view_is (omega arith) c.index_mut-in-RoundTrip.ensures.value (c.reread.ensures c.args.coins.now))

pub returns-in-Redraw : goal.returns-in-Redraw
returns-in-Redraw g c = rw c.in-Redraw.is (changed-slot (Turns (g.S.Family.behaviour.redrawn g.row.B.Denot g.B.RandomBits.bit g.B.RandomBits.next))
    c.self-in-Redraw.inside.slots c.args.self.now c.in-Redraw.slot c.index_mut-in-Redraw.result.now c.redraw.new.slot c.args.coins.now c.redraw.new.coins c.redraw.result
    c.self-in-Redraw.invariant c.self-in-Redraw.view_is (omega arith) c.index_mut-in-Redraw.ensures.value c.redraw.ensures)
