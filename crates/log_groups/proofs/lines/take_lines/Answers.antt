use Rattle.std.specs.Io.Buffered.{reader_remaining}
use Rattle.log_groups.proofs.NextLines.{running-next, running-broken, err-so}
use Rattle.log_groups.proofs.lines.take_lines.Goals as goal

pub returns-in_err-more-clause-first : goal.returns-in_err-more-clause-first
returns-in_err-more-clause-first g c =
    err-so c.from_residual.result (running-broken g.T.TakeLine.takes g.T.TakeLine.leaves _ (reader_remaining g.R.Read.remaining c.loop-count.input)
    c.args.taker.now c.loop-count.taker c.take_next.new.taker c.loop-count.count c.loop-count.invariant c.in_err-more.ensures.left)

pub loop-count-preserved : goal.loop-count-preserved
loop-count-preserved g c =
    running-next g.T.TakeLine.takes _ (reader_remaining g.R.Read.remaining c.loop-count.input) (reader_remaining g.R.Read.remaining c.take_next.new.input)
    c.args.taker.now c.loop-count.taker c.take_next.new.taker c.loop-count.count c.loop-count.invariant (c.in_ok-more.ensures.next c.if-not-more.false)
