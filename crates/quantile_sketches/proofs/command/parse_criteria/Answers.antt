use Rattle.sketch_base.specs.declared.common.SearchCriteria.TheVariants.{Inclusive, Exclusive}
use Rattle.quantile_sketches.specs.Reader.{parse_criteria}
use Rattle.quantile_sketches.proofs.reading.Words.{first-name, no-name, second-name, word-read}
use Rattle.quantile_sketches.proofs.command.parse_criteria.Goals as goal

pub returns-in-Some-clause-value : goal.returns-in-Some-clause-value
returns-in-Some-clause-value c = word-read parse_criteria c.args.words.now c.in-Some.ensures.word (first-name Inclusive Exclusive _ c.is.ensures c.if-is.true)

pub returns-in-Some-2-clause-value : goal.returns-in-Some-2-clause-value
returns-in-Some-2-clause-value c = word-read parse_criteria c.args.words.now c.in-Some.ensures.word
    (second-name Inclusive Exclusive _ c.is.ensures c.if-is.false c.is-in-Some-1.ensures c.if-is-2.true)

pub returns-in_default-clause-value : goal.returns-in_default-clause-value
returns-in_default-clause-value c = word-read parse_criteria c.args.words.now c.in-Some.ensures.word
    (no-name Inclusive Exclusive _ c.is.ensures c.if-is.false c.is-in-Some-1.ensures c.if-is-2.false)
