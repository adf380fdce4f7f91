use Rattle.quantile_sketches.proofs.writing.Answers.{ok-so}
use Rattle.quantile_sketches.proofs.family.req.ReqSketchFamily.merge.Goals as goal

pub returns-then-redraws : goal.returns-then-redraws
returns-then-redraws g c =
    let is = c.merge_redrawn.ensures in
    rw c.if-redraws.true (is.refused, is.memory, is.empty, is.ok, is.coins, ok-so c.merge_redrawn.result is.sound, is.err)

pub returns-else-redraws : goal.returns-else-redraws
returns-else-redraws g c =
    let is = c.merge.ensures in
    rw c.if-redraws.false (is.refused, is.memory, is.empty, is.ok, is.coins, ok-so c.merge.result is.sound, is.err)
