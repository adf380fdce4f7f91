use Rattle.std.proofs.lemmas.Grind.{common_steps}
use Rattle.std.proofs.Common.{arith}
use Rattle.std.proofs.lemmas.Result.{IfOk-weaker}
use Rattle.sketch_base.proofs.bags.Alike.{SameItems-clones}
use Rattle.sketch_kll.proofs.layout.Flats.{length-items}
use Rattle.sketch_kll.proofs.levels.Levels.clone_with_room.Goals as goal

pub returns-clause-clones : goal.returns-clause-clones
returns-clause-clones g c = grind (arith, common_steps, IfOk-weaker, SameItems-clones)

pub returns-clause-room : goal.returns-clause-room
returns-clause-room g c = grind (arith, common_steps, length-items, IfOk-weaker)
