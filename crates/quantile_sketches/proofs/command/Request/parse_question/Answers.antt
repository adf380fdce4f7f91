use Rattle.std.proofs.Common.{refl, sym, ◌∙◌}
use Rattle.quantile_sketches.proofs.reading.Words.{asks-cdf, asks-image, asks-load, asks-nothing, asks-pmf, asks-quantile, asks-rank}
use Rattle.quantile_sketches.proofs.command.Request.parse_question.Goals as goal

pub returns-then-is : goal.returns-then-is
returns-then-is g c = asks-rank c.args.verb.now c.args.slot c.args.words.now c.is.ensures c.if-is.true c.parse_rank.ensures

pub returns-then-is-2 : goal.returns-then-is-2
returns-then-is-2 g c = asks-quantile c.args.verb.now c.args.slot c.args.words.now c.is-2.ensures c.if-is-2.true c.parse_quantile.ensures

pub returns-then-is-3 : goal.returns-then-is-3
returns-then-is-3 g c = asks-cdf c.args.verb.now c.args.slot c.args.words.now c.is-3.ensures c.if-is-3.true c.parse_cdf.ensures

pub returns-then-is-4 : goal.returns-then-is-4
returns-then-is-4 g c = asks-pmf c.args.verb.now c.args.slot c.args.words.now c.is-4.ensures c.if-is-4.true c.parse_pmf.ensures

pub returns-then-is-5 : goal.returns-then-is-5
returns-then-is-5 g c = asks-image c.args.verb.now c.args.slot c.args.words.now c.is-5.ensures c.if-is-5.true c.at_end.ensures

pub returns-then-is-6 : goal.returns-then-is-6
returns-then-is-6 g c = asks-load c.args.verb.now c.args.slot c.args.words.now c.is-6.ensures c.if-is-6.true c.parse_load.ensures

pub returns-else-is-6 : goal.returns-else-is-6
returns-else-is-6 g c = asks-nothing c.args.verb.now c.args.slot c.args.words.now
    (sym c.is.ensures ∙ c.if-is.false) (sym c.is-2.ensures ∙ c.if-is-2.false) (sym c.is-3.ensures ∙ c.if-is-3.false)
    (sym c.is-4.ensures ∙ c.if-is-4.false) (sym c.is-5.ensures ∙ c.if-is-5.false) (sym c.is-6.ensures ∙ c.if-is-6.false)
    refl
