use Rattle.std.specs.Io.Buffered.{reader_remaining}
use Rattle.log_groups.proofs.NextLines.{Running}
use Rattle.log_groups.proofs.lines.take_lines.Given as goal

abbrev pub invariant-loop-count : goal.invariant-loop-count
invariant-loop-count g l = Running g.T.TakeLine.takes (reader_remaining g.R.Read.remaining l.fn.input) (reader_remaining g.R.Read.remaining l.input) l.fn.taker l.count l.taker
