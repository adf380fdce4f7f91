use Rattle.std.proofs.Common.{◌∙◌}
use Rattle.sketch_base.specs.Random.{next_state}
use Rattle.quantile_sketches.specs.Behaviour.{coin_of_state}
use Rattle.quantile_sketches.proofs.slots.Slots.{item_of_clone, done_is}
use Rattle.quantile_sketches.proofs.table.Table.reply.Goals as goal

pub returns-in-Run : goal.returns-in-Run
returns-in-Run g c =
    let done = item_of_clone g.S.Family.behaviour coin_of_state next_state _ (λ x y e. e) c.in-Run.command c.args.self.now c.args.coins.now c.execute.result
    c.execute.new.self c.execute.new.coins c.execute.ensures in
    rw c.in-Run.is (c.execute.result, c.and.ensures ∙ done_is c.execute.result, done)
