use Rattle.std.proofs.Common.{List, ℕ, inl, subst}
use Rattle.quantile_sketches.proofs.words.parse.Goals as goal

pub returns-in-Ok : goal.returns-in-Ok
returns-in-Ok g c = inl (c.parse.result, subst (λ (w : List ℕ). g.T.FromStr.from_str_gives w c.parse.result) c.in-Ok.ensures.cases.0 c.parse.ensures.value, c.ok.ensures.value)
