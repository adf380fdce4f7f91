use Rattle.std.proofs.lemmas.Grind.{common_steps}
use Rattle.std.proofs.Common.{◌∙◌, arith, sym}
use Rattle.sketch_kll.proofs.layout.Full.{full_holds, seeks_end, seeks_on, seeks_start, full_level_low}
use Rattle.sketch_kll.proofs.levels.Levels.level_to_compact.Goals as goal

pub loop-level-init : goal.loop-level-init
loop-level-init g c = record { within = c.requires.some; seeks = seeks_start _ _ (full_holds _ _ c.requires.full) }

pub loop-level-preserved : goal.loop-level-preserved
loop-level-preserved g c =
    let next = seeks_on c.requires.full c.loop-level.invariant.within c.loop-level.invariant.seeks (sym c.level_passes.ensures ∙ c.loop-level-test.true) in
    record { within = next.0; seeks = next.1 }

pub returns-clause-level : goal.returns-clause-level
returns-clause-level g c = seeks_end c.requires.full c.loop-level.invariant.within c.loop-level.invariant.seeks (sym c.level_passes.ensures ∙ c.loop-level-test.false)

pub returns-clause-few : goal.returns-clause-few
returns-clause-few g c = grind (arith, common_steps, full_level_low, full_holds, seeks_end)
