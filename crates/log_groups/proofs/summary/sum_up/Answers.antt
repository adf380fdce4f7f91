use Rattle.sketch_base.specs.TextLines.{lines}
use Rattle.log_groups.proofs.Summaries.{if-all, lines-add-up, from-none}
use Rattle.log_groups.proofs.summary.sum_up.Goals as goal

pub returns-clause-all : goal.returns-clause-all
returns-clause-all g c = if-all c.take_lines.result _ _ _ (λ text h. lines-add-up g.T.ReadLine.reads c.args.summary.now c.take_lines.new.taker (lines text) h) c.take_lines.ensures.all

pub returns-clause-whole : goal.returns-clause-whole
returns-clause-whole g c = λ none. if-all c.take_lines.result _ _ _ (λ text h. from-none g.T.ReadLine.reads c.args.summary.now c.take_lines.new.taker text none
    (lines-add-up g.T.ReadLine.reads c.args.summary.now c.take_lines.new.taker (lines text) h)) c.take_lines.ensures.all
