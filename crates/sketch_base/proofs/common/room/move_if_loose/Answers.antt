use Rattle.std.proofs.Common.{refl, ap, ◌∙◌}
use Rattle.sketch_base.proofs.common.room.move_if_loose.Goals.{else-capacity-len-via-then-capacity-len+else-is_ok, else-capacity-len-via-else-capacity-len}
use Rattle.sketch_base.proofs.common.room.move_if_loose.Goals as goal

pub returns-else-capacity-len : goal.returns-else-capacity-len
returns-else-capacity-len g c = elim c.else-capacity-len.branch [
  | else-capacity-len-via-then-capacity-len+else-is_ok w ↦
      record { items = refl; other = ap (λ v. v.items) w.other-is ∙ (w.reserve_exact.ensures.items ∙ c.clear.ensures.items) }
  | else-capacity-len-via-else-capacity-len w ↦ record { items = refl; other = ap (λ v. v.items) w.other-is ∙ c.clear.ensures.items }
]
