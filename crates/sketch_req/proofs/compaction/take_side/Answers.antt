use Rattle.std.proofs.Common.{◌%◌, ◌≡◌, ◌-◌, length, drop, arith, length-drop}
use Rattle.std.proofs.lemmas.Grind.{common_steps}
use Rattle.std.proofs.lemmas.List.{reverse-reverse}
use Rattle.sketch_req.proofs.level.Changes.{half-reverse, turned-parts}
use Rattle.sketch_req.proofs.compaction.take_side.Goals as goal

pub returns-in-HighRank : goal.returns-in-HighRank
returns-in-HighRank g c =
    let parts = turned-parts c.args.count c.args.items.now.items c.requires.within in
    grind (arith, common_steps, parts, reverse-reverse)

pub returns-in-LowRank : goal.returns-in-LowRank
returns-in-LowRank g c =
    let xs = c.args.items.now.items in
    let taken = drop (length xs - c.args.count) xs in
    let even : length taken % 2 ≡ 0 = omega (arith, length-drop (length xs - c.args.count) xs, c.requires.within, c.requires.even) in
    let halves = half-reverse c.args.odd taken even in
    grind (arith, common_steps, halves)
