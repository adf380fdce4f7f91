use Rattle.std.proofs.Common.{◌∙◌, sym}
use Rattle.sketch_kll.proofs.layout.Flats.{SameLevels-refl}
use Rattle.sketch_kll.proofs.layout.Full.{with_room_spare}
use Rattle.sketch_kll.proofs.levels.Levels.compact_if_full.Goals as goal

pub returns-else-is_full-clause-levels : goal.returns-else-is_full-clause-levels
returns-else-is_full-clause-levels g c =
    rw (with_room_spare g.T.Ord.cmp c.args.self.now.k c.args.self.now.is_sorted (g.B.RandomBits.bit c.args.coins.now) c.args.self.now.levels
    (sym c.if-is_full.false ∙ c.is_full.ensures.value)) (SameLevels-refl g.T.Ord.cmp g.met.T.Ord.total c.args.self.now.levels)
