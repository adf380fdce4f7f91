use Rattle.std.specs.Io.Buffered.{reader_remaining}
use Rattle.sketch_base.proofs.lines.FirstLine.{takes_read}
use Rattle.log_groups.proofs.lines.next_line.Goals as goal

pub returns-in-Ok-clause-line : goal.returns-in-Ok-clause-line
returns-in-Ok-clause-line g c = λ yes. takes_read (reader_remaining g.R.Read.remaining c.args.input.now) (reader_remaining g.R.Read.remaining c.read_until.new.self) _ _
    c.strip_feed.new.line.items c.read_until.new.buf.ok.0 c.in-Ok.ensures.ok c.clear.ensures.len c.in-Ok.field-0-test.1 c.in-Ok.ensures.bytes c.clear.ensures.items c.in-Ok.ensures.rest
    c.strip_feed.ensures
