use Rattle.std.proofs.Common.{◌≡◌, ℕ, List, OnOk, if◌then◌else◌, ap, ◌++◌, ◌∷◌, [], is_ok, sym, subst, arith}
use Rattle.quantile_sketches.proofs.kll.Obeys.{push_told}
use Rattle.quantile_sketches.proofs.audit.runs.note_refused.Goals as goal

pub returns-in-Err : goal.returns-in-Err
returns-in-Err c =
    let xs = c.args.refused.now.items in
    let told = push_told c.push.new.self.items (xs ++ c.args.number ∷ []) xs c.push.result c.map_err.result c.map_err.ensures.cases c.push.ensures.items in
    let numbers = subst (λ (l : List ℕ). OnOk c.map_err.result (c.push.new.self.items ≡ l))
    (ap (λ outcome. if is_ok outcome then xs else xs ++ c.args.number ∷ []) (sym c.in-Err.is)) told.0 in
    record { numbers = numbers; memory = grind arith; err = told.1 }
