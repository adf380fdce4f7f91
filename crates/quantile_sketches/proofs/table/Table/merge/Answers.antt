use Rattle.std.proofs.lemmas.Bool.{eq-eqb, ne_eqb}
use Rattle.quantile_sketches.specs.LineSteps.{Turns, JoinsCopy}
use Rattle.quantile_sketches.proofs.slots.Slots.{emptied_for_a_while, changed-slot}
use Rattle.quantile_sketches.proofs.table.Table.merge.Goals as goal

pub returns-then-into-source : goal.returns-then-into-source
returns-then-into-source g c = rw (eq-eqb c.args.into c.args.source c.if-into-source.true)
    (changed-slot (Turns (JoinsCopy g.S.Family.behaviour g.B.RandomBits.bit g.B.RandomBits.next c.args.redraws)) c.self.inside.slots c.args.self.now
    c.args.into c.index_mut-slot.result.now
    c.merge_copy.new.slot c.args.coins.now c.merge_copy.new.coins c.merge_copy.result c.self.invariant c.self.view_is c.ranges.into.fits
    c.index_mut-slot.ensures.value c.merge_copy.ensures)

pub returns : goal.returns
returns g c =
    let t = emptied_for_a_while c.self.inside.slots c.args.self.now c.args.into c.args.source c.index_mut.result.now c.take-sketch.result c.take-sketch.new.self
    c.merge-outcome.new.slot c.index-source.result.now c.self.invariant c.self.view_is c.ranges.into.fits c.ranges.source.fits c.if-into-source.false
    c.index_mut.ensures.value c.take-sketch.ensures.value c.index-source.ensures in
    rw (ne_eqb c.args.into c.args.source c.if-into-source.false) (c.index-source.result.now, t.0, (c.take-sketch.result, c.merge-outcome.new.slot, t.1, c.merge-outcome.ensures, t.2))
