use Rattle.std.proofs.Common.{arith}
use Rattle.std.proofs.lemmas.Grind.{common_steps}
use Rattle.std.proofs.Common.{◌≡◌, ◌∙◌, ◌&&◌, Bool, true, false, ap, eq-eqb, refl, sym}
use Rattle.std.specs.Prelude.{nat_eq}
use Rattle.std.specs.Bool.{beq}
use Rattle.std.specs.Option.{option_eq}
use Rattle.std.specs.Cmp.Lexicographic.{pointwise}
use Rattle.sketch_kll.specs.Copy.{same_sketch}
use Rattle.sketch_kll.proofs.layout.Alike.{levels-equal}
use Rattle.sketch_kll.proofs.sketch.copies.KllSketchPartialEq.eq.Goals as goal
use Rattle.sketch_kll.proofs.sketch.copies.KllSketchPartialEq.eq.Goals.at as past
use Rattle.sketch_kll.proofs.sketch.copies.KllSketchPartialEq.eq.Goals.{then-own-others, else-own-others, then-self-other, else-self-other, then-self-other-2, else-self-other-2, then-own-others-2, else-own-others-2, then-eq, else-eq, then-eq-2, else-eq-2, Joined-eq-2}

-- a test, and another one if the first holds
then_both : {t u v : Bool} → t ≡ true → v ≡ u → v ≡ (t && u)
then_both {u = u} holds is = is ∙ ap (λ (t : Bool). t && u) (sym holds)

else_both : {t v : Bool} (u : Bool) → t ≡ false → v ≡ t → v ≡ (t && u)
else_both u fails is = is ∙ fails ∙ ap (λ (t : Bool). t && u) (sym fails)

both_more : (x y z : Bool) → ((x && y) && z) ≡ (x && (y && z))
both_more true y z = refl
both_more false y z = refl

k_tests : (g : _) (c : Joined-eq-2 g) → c.if-own-others.value ≡ (nat_eq c.own.inside.k c.others.inside.k && nat_eq c.self.inside.min_k c.other.inside.min_k)
k_tests g c = grind (arith, common_steps, then_both, eq-eqb, else_both)

n_test : (g : _) (c : Joined-eq-2 g) → c.if-self-other.value ≡ (c.if-own-others.value && nat_eq c.self.inside.n c.other.inside.n)
n_test g c = grind (arith, common_steps, then_both, else_both)

flag_test : (g : _) (c : Joined-eq-2 g) → c.if-self-other-2.value ≡ (c.if-self-other.value && beq c.own.inside.is_level_zero_sorted c.others.inside.is_level_zero_sorted)
flag_test g c = grind (arith, common_steps, then_both, else_both)

bounds_test : (g : _) (c : Joined-eq-2 g) → c.if-own-others-2.value ≡ (c.if-self-other-2.value && pointwise nat_eq c.own.inside.bounds.items c.others.inside.bounds.items)
bounds_test g c = grind (arith, common_steps, then_both, else_both)

least_test : (g : _) (c : Joined-eq-2 g) → c.if-eq-2.value ≡ (c.if-eq.value && option_eq g.T.PartialEq.eq c.self.inside.min_item c.other.inside.min_item)
least_test g c = grind (arith, common_steps, then_both, else_both)

-- all of them together
tests_joined : (k min_k n flag bounds items least greatest : Bool) {levels v w x y z u r : Bool} → v ≡ (k && min_k) → w ≡ (v && n) → x ≡ (w && flag) → y ≡ (x && bounds) → z ≡ (y && items) →
    (bounds && items) ≡ levels → u ≡ (z && least) → r ≡ (u && greatest) → r ≡ (k && min_k && n && flag && levels && least && greatest)
tests_joined k min_k n flag bounds items least greatest {x = x} e f h i j same l m = grind (arith, common_steps, both_more)

whole : (g : _) (c : Joined-eq-2 g) (result : Bool) → result ≡ (c.if-eq-2.value && option_eq g.T.PartialEq.eq c.self.inside.max_item c.other.inside.max_item) →
    result ≡ same_sketch g.T.PartialEq.eq c.args.self.now c.args.other.now
whole g c result last =
    let x = c.own.inside in
    let y = c.others.inside in
    let levels = levels-equal g.T.PartialEq.eq x.items.items y.items.items x.bounds.items y.bounds.items c.own.invariant.flat c.others.invariant.flat in
    rw (← c.self.view_is, ← c.other.view_is, ← c.own.view_is, ← c.others.view_is)
    (tests_joined (nat_eq x.k y.k) (nat_eq c.self.inside.min_k c.other.inside.min_k) _ _ _ _ _ _ (k_tests g c) (n_test g c) (flag_test g c) (bounds_test g c) (grind (arith, common_steps, then_both, else_both)) levels (least_test g c) last)

pub returns-else-eq-3 : goal.returns-else-eq-3
returns-else-eq-3 g c = whole g (past.returns-else-eq-3 g c).Joined-eq-2 _ (else_both _ c.if-eq-3.false refl)

pub returns-then-eq-3 : goal.returns-then-eq-3
returns-then-eq-3 g c = whole g (past.returns-then-eq-3 g c).Joined-eq-2 _ (then_both c.if-eq-3.true c.eq-then-eq-3.ensures)
