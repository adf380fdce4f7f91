use Rattle.std.proofs.Common.{arith}
use Rattle.std.proofs.Common.{◌≡◌, ◌-◌, Bool, true, false, not, length, subst, sym, ap, ◌∙◌, is_gt}
use Rattle.std.proofs.ByRecursion.{All-get_or}
use Rattle.std.proofs.lemmas.Bool.{false≢true}
use Rattle.sketch_base.specs.Extremes.{IsBetween}
use Rattle.sketch_base.proofs.order.Extremes.{between-ends}
use Rattle.sketch_base.proofs.common.extremes.are_between_if.Goals.{then-not-is_gt, else-not-is_gt}
use Rattle.sketch_base.proofs.common.extremes.are_between_if.Goals as goal

truth-not : (b c : Bool) → not b ≡ c → b ≡ not c
truth-not true c e = ap not e
truth-not false c e = ap not e

pub returns-then-count-gt0 : goal.returns-then-count-gt0
returns-then-count-gt0 g c =
    let items = c.args.items.now in
    let least = c.args.least.now in
    let greatest = c.args.greatest.now in
    elim c.if-not-is_gt.branch [
      | then-not-is_gt w ↦
          record {
            yes = λ yes. between-ends g.met.T.Ord.total least greatest items c.index-items-0.result w.index-items-count.result c.if-count-gt0.true (c.requires.sorted c.if-is_sorted.true)
                (subst (λ x. is_gt (g.T.Ord.cmp least x) ≡ false) c.index-items-0.is (ap is_gt (sym c.cmp.ensures) ∙ (sym c.is_gt.ensures ∙ w.if-not-is_gt.true)))
                (subst (λ x. is_gt (g.T.Ord.cmp x greatest) ≡ false) w.index-items-count.is
                (ap is_gt (sym w.cmp-then-not-is_gt.ensures) ∙ (sym w.is_gt-then-not-is_gt.ensures ∙ truth-not _ _ (sym w.result-is ∙ yes))));
            no = λ all. w.result-is ∙ ap not (w.is_gt-then-not-is_gt.ensures ∙ (ap is_gt w.cmp-then-not-is_gt.ensures ∙ (ap (λ x. is_gt (g.T.Ord.cmp x greatest)) w.index-items-count.is
                ∙ (All-get_or (IsBetween g.T.Ord.cmp least greatest) items (length items - 1) w.index-items-count.result (omega (arith, c.if-count-gt0.true)) all).1)));
          }
      | else-not-is_gt w ↦
          record {
            yes = λ yes. absurd (false≢true (sym (truth-not _ _ (sym w.result-is ∙ yes)) ∙ w.if-not-is_gt.false));
            no = λ all. absurd (false≢true (sym (ap (λ x. is_gt (g.T.Ord.cmp least x)) c.index-items-0.is
                ∙ (All-get_or (IsBetween g.T.Ord.cmp least greatest) items 0 c.index-items-0.result c.if-count-gt0.true all).0) ∙ (ap is_gt (sym c.cmp.ensures) ∙ (sym c.is_gt.ensures ∙ w.if-not-is_gt.false))));
          }
    ]
