use Rattle.quantile_sketches.proofs.reading.Words.{parses_unsigned, parses_item}
use Rattle.quantile_sketches.proofs.lines.numbers_are_parsed.Goals as goal

pub returns-clause-unsigned : goal.returns-clause-unsigned
returns-clause-unsigned c = parses_unsigned

pub returns-clause-items : goal.returns-clause-items
returns-clause-items c = parses_item
