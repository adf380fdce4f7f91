use Rattle.sketch_req.specs.declared.RankAccuracy.TheVariants.{HighRank, LowRank}
use Rattle.quantile_sketches.specs.Reader.{parse_accuracy}
use Rattle.quantile_sketches.proofs.reading.Words.{first-name, no-name, second-name, word-read}
use Rattle.quantile_sketches.proofs.command.parse_accuracy.Goals as goal

pub returns-in-Some-clause-value : goal.returns-in-Some-clause-value
returns-in-Some-clause-value c = word-read parse_accuracy c.args.words.now c.in-Some.ensures.word (first-name HighRank LowRank _ c.is.ensures c.if-is.true)

pub returns-in-Some-2-clause-value : goal.returns-in-Some-2-clause-value
returns-in-Some-2-clause-value c = word-read parse_accuracy c.args.words.now c.in-Some.ensures.word
    (second-name HighRank LowRank _ c.is.ensures c.if-is.false c.is-in-Some-1.ensures c.if-is-2.true)

pub returns-in_default-clause-value : goal.returns-in_default-clause-value
returns-in_default-clause-value c = word-read parse_accuracy c.args.words.now c.in-Some.ensures.word
    (no-name HighRank LowRank _ c.is.ensures c.if-is.false c.is-in-Some-1.ensures c.if-is-2.false)
