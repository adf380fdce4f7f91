use Rattle.std.proofs.Common.{arith, take}
use Rattle.std.proofs.lemmas.Grind.{common_steps}
use Rattle.std.specs.Io.Buffered.{reader_buffer, reader_remaining}
use Rattle.sketch_base.proofs.lines.FirstLine.{takes_buffered, takes_read}
use Rattle.quantile_sketches.proofs.lines.Server.answer_line.Goals as goal

pub returns-clause-answered : goal.returns-clause-answered
returns-clause-answered g c = (
  c.unwrap_or-bare.result.now,
  takes_read (reader_remaining g.R.Read.remaining c.args.input.now) (reader_remaining g.R.Read.remaining c.read_until.new.self) _ _ c.unwrap_or-bare.result.now c.read_until.new.buf.ok.0
      c.in_ok-read_until.ensures.ok c.clear.ensures.len c.if-branch-eq0.false c.in_ok-read_until.ensures.bytes c.clear.ensures.items c.in_ok-read_until.ensures.rest (grind (arith, common_steps)),
  c.answer.ensures,
)

pub returns-then-len-ahead-clause-answered : goal.returns-then-len-ahead-clause-answered
returns-then-len-ahead-clause-answered g c =
    let same = c.buffer-ahead.ensures in (
      take c.len_before-len.result (reader_buffer c.args.input.now),
      takes_buffered _ (reader_buffer c.args.input.now) _ (reader_remaining g.R.Read.remaining c.consume.new.self) c.len_before-len.result (rw same at c.len_before-len.ensures.value)
          (rw same at c.if-len-ahead.true) c.consume.ensures.bytes,
      rw same at c.answer-answer.ensures,
    )
