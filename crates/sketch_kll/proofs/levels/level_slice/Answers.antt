use Rattle.std.proofs.Common.{ℕ, arith, ap, ◌∙◌, get_or}
use Rattle.std.specs.List.{between}
use Rattle.sketch_kll.proofs.layout.Flats.{level_between}
use Rattle.sketch_kll.proofs.levels.level_slice.Goals as goal

pub returns : goal.returns
returns g c =
    ap (λ (i : ℕ). between (get_or c.args.bounds.now i 0) (get_or c.args.bounds.now c.args.level 0) c.args.items.now) (omega arith)
    ∙ level_between c.args.items.now c.args.bounds.now c.requires.flat c.args.level
