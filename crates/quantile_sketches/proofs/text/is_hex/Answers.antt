use Rattle.quantile_sketches.proofs.reading.Words.{tested_more, tested_whole}
use Rattle.quantile_sketches.proofs.text.is_hex.Goals as goal

pub loop-i-preserved : goal.loop-i-preserved
loop-i-preserved c = tested_more c.args.text.now c.loop-i.i c.loop-i.all c.is_ascii_hexdigit-all.result c.loop-i-test.true c.loop-i.invariant c.is_ascii_hexdigit-all.ensures.value

pub returns-then-all : goal.returns-then-all
returns-then-all c = record { value = rw c.if-all.true at (tested_whole c.args.text.now c.loop-i.i c.loop-i.all c.loop-i-test.false c.loop-i.invariant) }
