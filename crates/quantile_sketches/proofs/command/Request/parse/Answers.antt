use Rattle.quantile_sketches.proofs.reading.Words.{asked-by}
use Rattle.quantile_sketches.proofs.command.Request.parse.Goals as goal

pub returns : goal.returns
returns g c = asked-by g.C.Config.grammar c.args.words.now c.word.new.self c.in_ok-word.field-0.now c.parse_asked.ensures c.in_ok-word.ensures.word c.in_ok-word.ensures.rest
    c.in_ok-slot.ensures.value c.in_ok-slot.ensures.rest
