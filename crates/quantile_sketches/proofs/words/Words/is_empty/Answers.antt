use Rattle.std.proofs.Common.{◌∙◌, sym}
use Rattle.quantile_sketches.proofs.reading.Lines.{nothing_left}
use Rattle.quantile_sketches.proofs.words.Words.is_empty.Goals as goal

pub returns : goal.returns
returns c =
    let none = nothing_left c.self.inside.rest.now c.without_spaces.result.now c.args.self.now c.self.view_is c.without_spaces.ensures in
    (λ t. none.0 (sym c.is_empty.ensures ∙ t), λ e. c.is_empty.ensures ∙ none.1 e)
