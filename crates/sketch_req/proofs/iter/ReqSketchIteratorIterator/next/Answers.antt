use Rattle.std.proofs.lemmas.List.{nil_from_length}
use Rattle.sketch_req.specs.Level.{Level}
use Rattle.sketch_req.specs.Pairs.{weighed, pairs_of}
use Rattle.std.proofs.Common.{arith, ◌≡◌, ◌-◌, ◌<◌, ◌≤◌, ℕ, List, ◌∷◌, ◌++◌, ◌∙◌, sym, ap, ap₂, length}
use Rattle.sketch_req.proofs.views.Views.{next-level}
use Rattle.sketch_req.proofs.iter.ReqSketchIteratorIterator.next.Goals as goal

one_less : {A : Type 0} {x : A} {xs ys : List A} → xs ≡ x ∷ ys → length ys < length xs
one_less e = omega (arith, ap length e)

pub loop-item-preserved : goal.loop-item-preserved
loop-item-preserved g c =
    let i = c.loop-item.self-inside in
    let none : length i.items.now ≡ 0 = c.in_default.ensures.cases in
    let there : i.levels.now ≡ c.in-Some-split_first.level.now ∷ c.in-Some-split_first.above.now = c.in-Some-split_first.ensures.cases.0 in
    let same = next-level i.levels.now c.in-Some-split_first.above.now c.in-Some-split_first.level.now i.items.now c.items_slice-self-inside.result.now i.weight c.weight-self-inside.result none
    there c.items_slice-self-inside.ensures.value c.weight-self-inside.ensures.value in
    record { same = same ∙ c.loop-item.invariant.same; left = c.loop-item.invariant.left ∙ ap length (sym same) }

pub loop-item-smaller : goal.loop-item-smaller
loop-item-smaller g c = one_less c.in-Some-split_first.ensures.cases.0

some_left : {A : Type 0} {left : ℕ} {x : A} {xs ys : List A} → left ≡ length xs → xs ≡ x ∷ ys → 1 ≤ left
some_left e more = omega (arith, e, ap length more)

others_left : {A : Type 0} {left : ℕ} {x : A} {xs ys : List A} → left ≡ length xs → xs ≡ x ∷ ys → left - 1 ≡ length ys
others_left e more = omega (arith, e, ap length more)

pub overflow_sub-self : goal.overflow_sub-self
overflow_sub-self g c =
    let i = c.loop-item.self-inside in
    some_left c.loop-item.invariant.left (ap (λ (xs : List g.row.T.Denot). weighed i.weight xs ++ pairs_of i.levels.now) c.in-Some.ensures.cases.0)

pub invariant_of-self : goal.invariant_of-self
invariant_of-self g c =
    let i = c.loop-item.self-inside in
    others_left c.loop-item.invariant.left (ap (λ (xs : List g.row.T.Denot). weighed i.weight xs ++ pairs_of i.levels.now) c.in-Some.ensures.cases.0)

pub returns-in-Some : goal.returns-in-Some
returns-in-Some g c =
    let i = c.loop-item.self-inside in
    let steps = sym c.loop-item.invariant.same ∙ ap (λ (xs : List g.row.T.Denot). weighed i.weight xs ++ pairs_of i.levels.now) c.in-Some.ensures.cases.0 in
    record {
      steps = steps;
      goes = record { on = λ _. (tt, tt, one_less steps); keeps = tt; rests = λ _. tt };
    }

pub returns-in_default-split_first : goal.returns-in_default-split_first
returns-in_default-split_first g c =
    let i = c.loop-item.self-inside in
    let no_items = nil_from_length i.items.now c.in_default.ensures.cases in
    let no_levels = nil_from_length i.levels.now c.in_default-split_first.ensures.cases in
    let none = ap₂ (λ (xs : List g.row.T.Denot) (ls : List (Level g.row.T.Denot)). weighed i.weight xs ++ pairs_of ls) no_items no_levels in
    record {
      steps = (sym c.loop-item.invariant.same ∙ none, none);
      goes = record { on = λ _. tt; keeps = tt; rests = λ _. tt };
    }

pub invariant_of-self-in_default-split_first : goal.invariant_of-self-in_default-split_first
invariant_of-self-in_default-split_first g c = c.loop-item.invariant.left
