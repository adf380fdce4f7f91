use Rattle.std.proofs.Common.{ℤ, ap, ◌∙◌}
use Rattle.quantile_sketches.specs.LineWords.{at_end, item_of}
use Rattle.quantile_sketches.specs.Reader.{parse_criteria}
use Rattle.quantile_sketches.specs.declared.command.Request.{Request}
use Rattle.quantile_sketches.specs.declared.command.Request.TheVariants.{Rank}
use Rattle.quantile_sketches.proofs.reading.Words.{read-back, then-none, then-read}
use Rattle.quantile_sketches.proofs.command.Request.parse_rank.Goals as goal

pub returns-in_err-criteria : goal.returns-in_err-criteria
returns-in_err-criteria g c = then-read item_of _ c.args.words.now c.item.new.self c.in_ok-item.item c.in_ok-item.ensures.value c.in_ok-item.ensures.rest
    (then-none parse_criteria _ c.item.new.self c.from_residual-in_err-criteria.ensures c.in_err-criteria.ensures.value)

pub returns : goal.returns
returns g c = then-read item_of _ c.args.words.now c.item.new.self c.in_ok-item.item c.in_ok-item.ensures.value c.in_ok-item.ensures.rest
    (then-read parse_criteria _ c.item.new.self c.parse_criteria.new.words c.in_ok-criteria.criteria c.in_ok-criteria.ensures.value
    c.in_ok-criteria.ensures.rest (c.at_end.ensures ∙ ap (λ (z : ℤ). at_end {A = Request g.row.C.Denot} (Rank c.args.slot z c.in_ok-criteria.criteria) c.parse_criteria.new.words)
    (read-back c.args.words.now c.item.new.self c.in_ok-item.item c.in_ok-item.ensures.value c.in_ok-item.ensures.rest)))
