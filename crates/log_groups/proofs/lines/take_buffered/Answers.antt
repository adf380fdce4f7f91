use Rattle.std.proofs.Common.{ap, arith, length, take}
use Rattle.std.specs.Io.Buffered.{reader_buffer, reader_remaining}
use Rattle.sketch_base.proofs.lines.FirstLine.{takes_buffered}
use Rattle.log_groups.proofs.lines.take_buffered.Goals as goal

pub returns-clause-next : goal.returns-clause-next
returns-clause-next g c = λ yes. (
  take c.len_before-len.result (reader_buffer c.args.input.now),
  takes_buffered _ (reader_buffer c.args.input.now) _ (reader_remaining g.R.Read.remaining c.consume.new.self) c.len_before-len.result (rw c.buffer.ensures at c.len_before-len.ensures.value)
      (omega (arith, c.len_before-len.ensures.within, c.if-len-buffer.false, ap length c.buffer.ensures, ap length c.buffer-2.ensures)) c.consume.ensures.bytes,
  rw c.buffer-3.ensures at c.in_ok-take_line.ensures.taken,
)
