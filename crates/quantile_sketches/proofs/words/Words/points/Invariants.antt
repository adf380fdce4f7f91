use Rattle.std.proofs.Common.{◌≡◌, length, ◌&&◌, ◌++◌, IfOk}
use Rattle.quantile_sketches.specs.LineWords.{are_items, items_in_line, rise}
use Rattle.quantile_sketches.proofs.reading.Words.{rise_after}
use Rattle.quantile_sketches.proofs.words.Words.points.Given as goal

abbrev pub invariant-loop-words : goal.invariant-loop-words
invariant-loop-words l = record {
  kept : are_items l.words ≡ are_items l.self;
  rising : rise (items_in_line l.self) ≡ (l.are_rising && rise_after l.last (items_in_line l.words));
  taken : IfOk l.items (λ v. items_in_line l.self ≡ v.items ++ items_in_line l.words);
}

abbrev pub decreases-loop-words : goal.decreases-loop-words
decreases-loop-words l = length l.words
