use Rattle.std.proofs.Common.{arith, ap, sym}
use Rattle.std.proofs.lemmas.Grind.{common_steps}
use Rattle.quantile_sketches.specs.LineWords.{are_items, items_in_line, rise}
use Rattle.quantile_sketches.proofs.reading.Words.{rise-step}
use Rattle.quantile_sketches.proofs.words.Words.points.Goals as goal

pub loop-words-init : goal.loop-words-init
loop-words-init c = record {
  kept = ap are_items c.copy-words.ensures;
  rising = ap (λ ws. rise (items_in_line ws)) (sym c.copy-words.ensures);
  taken = grind (arith, common_steps, c.copy-words.ensures);
}

pub loop-words-preserved : goal.loop-words-preserved
loop-words-preserved c =
    let i = c.loop-words.invariant in
    let step = rise-step c.loop-words.words c.item.new.self c.in_ok-item.item c.in_ok-item.ensures.value c.in_ok-item.ensures.rest c.loop-words.last _ c.is_above-are_rising.ensures in
    record {
      kept = grind (arith, common_steps);
      rising = grind (arith, step);
      taken = grind (arith, common_steps, i.taken, c.with_item-items.ensures.before, c.with_item-items.ensures.more);
    }

pub invariant_of-result : goal.invariant_of-result
invariant_of-result c = grind (arith, common_steps, c.loop-words.invariant.rising, c.loop-words.invariant.taken)
