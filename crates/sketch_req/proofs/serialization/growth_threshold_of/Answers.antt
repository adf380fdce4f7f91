use Rattle.std.proofs.Common.{arith, ap, ◌∙◌, ◌^◌, ◌-◌, ◌<◌, ℕ}
use Rattle.std.proofs.lemmas.Nat.{one_shl}
use Rattle.sketch_req.proofs.sections.Sections.{sections_below}
use Rattle.sketch_req.proofs.serialization.growth_threshold_of.Goals as goal

pub overflow_shl-result : goal.overflow_shl-result
overflow_shl-result c =
    let s = sections_below c.args.doublings c.requires in
    omega (arith, s, c.sections_after.ensures.value)

pub returns : goal.returns
returns c =
    let s = sections_below c.args.doublings c.requires in
    let e = c.sections_after.ensures.value in
    let few : c.sections_after.result - 1 < 64 = omega (arith, s, e) in
    one_shl (c.sections_after.result - 1) 64 few ∙ ap (λ (n : ℕ). let m : ℕ = 2 ^ (n - 1) in m) e
