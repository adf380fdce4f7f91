use Rattle.quantile_sketches.proofs.writing.Answers.{ok-so}
use Rattle.quantile_sketches.proofs.family.kll.KllSketchFamily.update_weighted.Goals as goal

pub returns : goal.returns
returns g c =
    let is = c.update_weighted.ensures in
    (is.refused, is.memory, is.ok, is.coins, ok-so c.update_weighted.result is.sound, is.err)
