use Rattle.std.proofs.Common.{arith, ◌∙◌, ◌++◌, ◌-◌, ◌/◌, drop, reverse, refl, ap, length-drop}
use Rattle.std.proofs.lemmas.List.{length-reverse}
use Rattle.sketch_base.specs.Bag.{half}
use Rattle.sketch_base.proofs.plays.Plays.{length-half}
use Rattle.sketch_req.proofs.compaction.take_last.Goals as goal

pub loop-items-init : goal.loop-items-init
loop-items-init g c =
    let xs = c.args.items.now.items in
    let len = c.len.ensures ∙ c.args.items.now.ok.0 in
    let taken = drop (c.len.result - c.args.count) xs in
    let half_is = length-half c.args.skips (c.args.count / 2) (reverse taken)
    (omega (arith, length-reverse taken, length-drop (c.len.result - c.args.count) xs, len, c.requires.within, c.requires.even)) in
    record {
      within = omega (arith, len);
      before = refl;
      halves = ap (λ ys. ys ++ half c.args.skips (reverse taken)) c.requires.empty;
      room = omega (arith, half_is, c.requires.room);
    }
