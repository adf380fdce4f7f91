use Rattle.std.proofs.Common.{List, [], ◌∷◌, ℕ, ◌++◌, subst, arith}
use Rattle.std.specs.Int.{w64}
use Rattle.std.proofs.lemmas.Int.{to_z-of_z}
use Rattle.quantile_sketches.specs.Output.{Writes}
use Rattle.quantile_sketches.proofs.writing.Answers.{with_minus, without_minus}
use Rattle.quantile_sketches.proofs.answer.write_item.Goals as goal
use Rattle.quantile_sketches.proofs.answer.write_item.Goals.{then-item-lt0, else-item-lt0}

pub returns : goal.returns
returns g c =
    let told = c.put_digits-start.ensures in
    subst (λ (line : List ℕ). Writes c.add.result (g.W.Write.contents c.args.output.now) (g.W.Write.contents c.add.new.output) (c.args.waiting.now.items ++ line)
    c.add.new.waiting.items) (elim c.if-item-lt0.branch [
      | then-item-lt0 w ↦
          with_minus c.args.item _ c.put_digits-start.result c.put_digits-start.new.room (10 ∷ []) (to_z-of_z w64 c.args.item c.ranges.item) c.unsigned_abs.ensures.value
          told.digits c.put_digits-start.array_long
          w.if-item-lt0.true (omega (arith, told.few)) (omega (arith, told.within)) w.room-is w.start-is
      | else-item-lt0 w ↦
          without_minus c.args.item _ c.put_digits-start.result c.put_digits-start.new.room (10 ∷ []) (to_z-of_z w64 c.args.item c.ranges.item) c.unsigned_abs.ensures.value
          told.digits c.put_digits-start.array_long
          w.if-item-lt0.false w.room-is w.start-is
    ]) c.add.ensures
