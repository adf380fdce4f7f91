use Rattle.std.proofs.Common.{ℤ, ◌≡◌, Ok, refl, subst, arith}
use Rattle.std.specs.Int.{w64}
use Rattle.std.proofs.lemmas.Int.{to_z-of_z}
use Rattle.sketch_base.specs.Queried.{IsRank}
use Rattle.quantile_sketches.specs.declared.answer.Answer.TheVariants.{Rank}
use Rattle.quantile_sketches.proofs.slots.Slots.{asks-held}
use Rattle.quantile_sketches.proofs.table.Table.rank.Goals as goal

pub returns : goal.returns
returns g c =
    let told = subst (λ (x : ℤ). IsRank (g.S.Family.behaviour.queried c.in-Some.sketch) x c.args.criteria c.rank_of.result)
    (to_z-of_z w64 c.args.item (grind arith)) c.rank_of.ensures.exact in
    asks-held (λ s r. (w : _) × IsRank (g.S.Family.behaviour.queried s) c.args.item c.args.criteria w × (r ≡ Ok (Rank w))) c.args.slot.now c.in-Some.sketch _ c.in-Some.is
    (c.rank_of.result, told, refl)
