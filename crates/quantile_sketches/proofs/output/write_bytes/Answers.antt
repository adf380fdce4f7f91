use Rattle.std.proofs.Common.{[], Err, refl}
use Rattle.quantile_sketches.proofs.writing.Answers.{keeps_same, writes-some, writes-stop}
use Rattle.quantile_sketches.proofs.output.write_bytes.Goals as goal

pub returns : goal.returns
returns g c = writes-stop _ _ _ [] (Err c.from.result) c.loop.written c.args.bytes.now refl c.loop.invariant.out (keeps_same _)

pub loop-preserved : goal.loop-preserved
loop-preserved g c =
    let more = writes-some _ _ _ c.args.bytes.now c.loop.written c.in_ok-written.field-0 c.loop.invariant.within c.loop.invariant.out c.in_ok-written.ensures.within
    c.in_ok-written.ensures.out in record { within = more.0; out = more.1 }

pub returns-in_err-written : goal.returns-in_err-written
returns-in_err-written g c = writes-stop _ _ _ [] c.from_residual.result c.loop.written c.args.bytes.now c.from_residual.ensures.0 c.loop.invariant.out c.in_err-written.ensures.err
