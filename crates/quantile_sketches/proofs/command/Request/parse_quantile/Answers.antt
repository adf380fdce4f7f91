use Rattle.quantile_sketches.specs.Reader.{parse_criteria, parse_number}
use Rattle.quantile_sketches.proofs.reading.Words.{then-none, then-read}
use Rattle.quantile_sketches.proofs.command.Request.parse_quantile.Goals as goal

pub returns-in_err-total : goal.returns-in_err-total
returns-in_err-total g c = then-read parse_number _ c.args.words.now c.number.new.self c.in_ok-weight.weight c.in_ok-weight.ensures.value c.in_ok-weight.ensures.rest
    (then-none parse_number _ c.number.new.self c.from_residual-in_err-total.ensures c.in_err-total.ensures.value)

pub returns-in_err-criteria : goal.returns-in_err-criteria
returns-in_err-criteria g c = then-read parse_number _ c.args.words.now c.number.new.self c.in_ok-weight.weight c.in_ok-weight.ensures.value c.in_ok-weight.ensures.rest
    (then-read parse_number _ c.number.new.self c.number-2.new.self c.in_ok-total.total c.in_ok-total.ensures.value c.in_ok-total.ensures.rest
    (then-none parse_criteria _ c.number-2.new.self c.from_residual-in_err-criteria.ensures c.in_err-criteria.ensures.value))

pub returns : goal.returns
returns g c = then-read parse_number _ c.args.words.now c.number.new.self c.in_ok-weight.weight c.in_ok-weight.ensures.value c.in_ok-weight.ensures.rest
    (then-read parse_number _ c.number.new.self c.number-2.new.self c.in_ok-total.total c.in_ok-total.ensures.value c.in_ok-total.ensures.rest
    (then-read parse_criteria _ c.number-2.new.self c.parse_criteria.new.words c.in_ok-criteria.criteria c.in_ok-criteria.ensures.value
    c.in_ok-criteria.ensures.rest
    c.at_end.ensures))
