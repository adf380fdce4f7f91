use Rattle.std.proofs.Common.{◌≤◌, ℕ, sym, subst}
use Rattle.quantile_sketches.specs.declared.table.TheConstants.{SLOTS}
use Rattle.quantile_sketches.proofs.slots.Slots.{one-more-empty}
use Rattle.quantile_sketches.proofs.table.Table.new.Goals as goal

pub loop-i-preserved : goal.loop-i-preserved
loop-i-preserved g c =
    let more = one-more-empty c.push_reserved.ensures.len c.loop-i.invariant.len c.push_reserved.ensures.items c.loop-i.invariant.empty in
    record { len = more.0; empty = more.1; room = subst (λ (n : ℕ). SLOTS ≤ n) (sym c.push_reserved.ensures.capacity) c.loop-i.invariant.room }
