-- How a run of the program ends, given the words after its name.
use Rattle.std.specs.Prelude.{ℕ, List, Bool, Option, Some, None, Result, ⊤, codes}
use Rattle.std.specs.declared.io.Error.{Error}
use Rattle.quantile_sketches.specs.declared.lines.Ending.{Ending}
use Rattle.quantile_sketches.specs.declared.lines.Ending.TheVariants.{Served, Misused}

-- the text that says how the program is called
abbrev pub usage_text : List ℕ
usage_text = codes "usage: sketches kll|req SEED\n"

-- if the words ask for a run, of REQ or not and from a seed, that run is served, and `So` holds for how it ends
abbrev pub IfAsked : Option (Bool × ℕ) → Ending → (Bool → ℕ → Result Unit Error → Type 0) → Type 0
IfAsked None ending So = ⊤
IfAsked (Some (is_req, seed)) (Served ended) So = So is_req seed ended
IfAsked (Some asked) (Misused said) So = ⊥

-- if they ask for none, none is served, and `So` holds for how the writing of the usage text ends
abbrev pub IfMisused : Option (Bool × ℕ) → Ending → (Result Unit Error → Type 0) → Type 0
IfMisused None (Misused said) So = So said
IfMisused None (Served ended) So = ⊥
IfMisused (Some asked) ending So = ⊤
