use Rattle.quantile_sketches.proofs.reading.Words.{Tested}
use Rattle.quantile_sketches.proofs.text.is_hex.Given as goal

abbrev pub invariant-loop-i : goal.invariant-loop-i
invariant-loop-i l = Tested l.text l.i l.all
