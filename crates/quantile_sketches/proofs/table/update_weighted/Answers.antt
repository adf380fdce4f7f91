use Rattle.std.proofs.Common.{if◌then◌else◌, refl, inl, ap}
use Rattle.sketch_base.specs.declared.error.ErrorKind.TheVariants.{InvalidArgument, OutOfMemory}
use Rattle.quantile_sketches.specs.declared.answer.Refusal.TheVariants.{Sketch}
use Rattle.quantile_sketches.specs.LineSteps.{Cloned}
use Rattle.quantile_sketches.proofs.slots.Slots.{turns-told, refused_early, error_is}
use Rattle.quantile_sketches.proofs.table.update_weighted.Goals as goal

pub returns-then-refuses_weight : goal.returns-then-refuses_weight
returns-then-refuses_weight g c =
    refused_early g.S.Family.behaviour (g.S.Item.Clone.is_clone c.args.item.now) (λ x. g.S.Family.behaviour.taken_weighted x c.args.weight g.row.B.Denot g.B.RandomBits.bit g.B.RandomBits.next)
    c.args.slot.now c.in-Some.sketch c.refuses_weight.result _ c.args.coins.now
    c.in-Some.is
    c.refuses_weight.ensures InvalidArgument (ap (λ b. if b then InvalidArgument else OutOfMemory) c.if-refuses_weight.true) refl

pub returns-in_err-clone : goal.returns-in_err-clone
returns-in_err-clone g c =
    refused_early g.S.Family.behaviour (g.S.Item.Clone.is_clone c.args.item.now) (λ x. g.S.Family.behaviour.taken_weighted x c.args.weight g.row.B.Denot g.B.RandomBits.bit g.B.RandomBits.next)
    c.args.slot.now c.in-Some.sketch c.refuses_weight.result c.from_residual.result c.args.coins.now
    c.in-Some.is
    c.refuses_weight.ensures OutOfMemory (ap (λ b. if b then InvalidArgument else OutOfMemory) c.if-refuses_weight.false) (error_is c.from_residual.result (Sketch OutOfMemory) c.from_residual.ensures.1)

pub returns : goal.returns
returns g c = turns-told (Cloned (g.S.Item.Clone.is_clone c.args.item.now) (λ x. g.S.Family.behaviour.taken_weighted x c.args.weight g.row.B.Denot g.B.RandomBits.bit g.B.RandomBits.next))
    c.args.slot.now c.in-Some.sketch c.update_weighted-outcome.new.self c.args.coins.now c.update_weighted-outcome.new.coins c.update_weighted-outcome.result c.map_err.result
    c.in-Some.is c.map_err.ensures.cases (inl (c.in_ok-clone.field-0, c.in_ok-clone.ensures.cases, c.update_weighted-outcome.ensures))
