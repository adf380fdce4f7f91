use Rattle.quantile_sketches.proofs.writing.Answers.{keeps-appends, write-keeps}
use Rattle.quantile_sketches.proofs.output.write_some.Goals as goal

pub returns-in-Ok-eq0-clause-err : goal.returns-in-Ok-eq0-clause-err
returns-in-Ok-eq0-clause-err g c = write-keeps _ _ c.args.bytes.now c.write.ensures.bytes c.in-Ok-eq0.is c.in-Ok-eq0.field-0-test

pub returns-in-Err-clause-out : goal.returns-in-Err-clause-out
returns-in-Err-clause-out g c = keeps-appends _ _ c.in-Err.ensures.bytes
