use Rattle.std.proofs.Common.{◌≡◌, ◌-◌, length, sym, subst, true, ap, ◌∙◌, arith, nat_le, not, ap₂, get_or, ◌+◌, List, ℕ}
use Rattle.sketch_kll.specs.Capacity.{capacity_at}
use Rattle.sketch_kll.specs.Flat.{levels_in}
use Rattle.sketch_kll.specs.Steps.{is_full}
use Rattle.sketch_kll.specs.Stored.{Stored}
use Rattle.sketch_kll.proofs.layout.Flats.{bound_falls_to, length-bounds}
use Rattle.sketch_kll.proofs.layout.Full.{passes_is}
use Rattle.sketch_kll.specs.Compress.{passes}
use Rattle.sketch_kll.proofs.levels.Levels.level_passes.Goals as goal

depth_of : (l level : ℕ) {len n : ℕ} → len ≡ n → n ≡ l + 1 → len - 1 - 1 - level ≡ l - 1 - level
depth_of l level len n = omega (arith, len, n)

gap_is : (n b : ℕ) {a : ℕ} → a ≡ n + b → a - b ≡ n
gap_is n b a = omega (arith, a)

pub returns : goal.returns
returns g c =
    let x = c.self.inside in
    let value = c.as_slice-bounds.ensures.value in
    let count = ap (λ (bs : List ℕ). get_or bs c.args.level 0 - get_or bs (c.args.level + 1) 0) value
    ∙ gap_is _ _ (bound_falls_to x.items.items x.bounds.items c.self.invariant.flat c.args.level (c.args.level + 1) (omega arith)) in
    let depth = depth_of _ c.args.level (ap length value) (length-bounds x.items.items x.bounds.items c.self.invariant.flat) in
    let p = passes_is x.k c.args.level (levels_in x.items.items x.bounds.items) (subst (λ (y : Stored g.row.T.Denot). is_full y.k y.levels ≡ true) (sym c.self.view_is) c.requires.full) in
    ap not c.is_at_capacity.ensures
    ∙ (ap₂ (λ (most n : ℕ). not (nat_le most n)) (ap (capacity_at x.k 8) depth) count
    ∙ (sym p ∙ ap (λ (y : Stored g.row.T.Denot). passes y.k y.levels c.args.level) c.self.view_is))
