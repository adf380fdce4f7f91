use Rattle.std.proofs.Common.{arith}
use Rattle.std.proofs.Common.{◌+◌, ◌-◌, ◌/◌, ◌≤◌, ◌∙◌, ap, max, subst, vec_len, vec_capacity}
use Rattle.std.proofs.lemmas.Result.{on_ok_weaker}
use Rattle.sketch_base.proofs.moving.Moving.{quarter-some}
use Rattle.sketch_base.proofs.common.room.grow.Goals as goal

pub returns : goal.returns
returns g c =
    let got = c.reserve_exact.ensures in
    record {
      items = got.items;
      len = got.len;
      ok = on_ok_weaker c.reserve_exact.result (λ h. (omega (arith, c.min.ensures, c.max-left.ensures, quarter-some c.len-len.result))) got.ok;
      capacity = got.capacity;
      lean = on_ok_weaker c.reserve_exact.result (λ h. subst (λ n. vec_capacity c.reserve_exact.new.self ≤ max (vec_capacity c.args.items.now) (vec_len c.args.items.now + (n / 4 + 4)))
          c.len-len.ensures (omega (arith, c.min.ensures))) got.capacity_exact;
      most = on_ok_weaker c.reserve_exact.result (λ h. (omega (arith, c.min.ensures, c.max-left.ensures, c.saturating_sub.ensures ∙ ap (λ n. c.args.most - n) c.len-len.ensures))) got.capacity_exact;
    }
