use Rattle.std.proofs.Common.{◌++◌, refl}
use Rattle.quantile_sketches.proofs.writing.Answers.{writes-early, writes-on}
use Rattle.quantile_sketches.proofs.output.write_through.Goals as goal

pub returns-in_err-write_out : goal.returns-in_err-write_out
returns-in_err-write_out g c = writes-early _ c.args.bytes.now c.write_out.new.waiting.items c.from_residual.result refl c.from_residual.ensures.0 c.in_err-write_out.ensures.written

pub returns : goal.returns
returns g c =
    rw c.in_ok-write_out.ensures.nothing_waits (writes-on (c.args.waiting.now.items ++ c.args.bytes.now) c.args.bytes.now refl c.in_ok-write_out.ensures.written refl refl c.write_bytes.ensures)
