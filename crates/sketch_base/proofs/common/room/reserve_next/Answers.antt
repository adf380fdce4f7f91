use Rattle.std.proofs.Common.{◌<◌, subst₂, le_refl}
use Rattle.sketch_base.proofs.common.room.reserve_next.Goals as goal

pub returns-then-len-capacity-clause-ok : goal.returns-then-len-capacity-clause-ok
returns-then-len-capacity-clause-ok g c = subst₂ (λ m n. m < n) c.len.ensures c.capacity.ensures c.if-len-capacity.true

pub returns-then-len-capacity-clause-capacity : goal.returns-then-len-capacity-clause-capacity
returns-then-len-capacity-clause-capacity g c = le_refl _
