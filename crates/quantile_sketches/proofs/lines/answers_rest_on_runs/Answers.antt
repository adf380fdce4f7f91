use Rattle.std.proofs.Common.{ℕ, Bool, true, false, List}
use Rattle.std.proofs.lemmas.Cmp.{int_cmp_total}
use Rattle.std.specs.Ordering.{int_cmp}
use Rattle.sketch_base.specs.Spelling.{i64_spelling}
use Rattle.sketch_base.specs.Random.{next_state}
use Rattle.sketch_base.specs.SpellingLaws.{i64_prefix_free, i64_ties}
use Rattle.quantile_sketches.specs.Behaviour.{coin_of_state}
use Rattle.quantile_sketches.specs.KllBehaviour.{kll}
use Rattle.sketch_base.specs.TextLines.{lines}
use Rattle.quantile_sketches.specs.Reader.{kll_grammar, req_grammar}
use Rattle.quantile_sketches.specs.ReqBehaviour.{req}
use Rattle.quantile_sketches.specs.Served.{ServesFamily, ServesRun, KllPromise, ReqPromise}
use Rattle.quantile_sketches.proofs.runs.Kll.{sound-small}
use Rattle.quantile_sketches.proofs.runs.Req.{alike-exact}
use Rattle.quantile_sketches.proofs.runs.Runs.{standing-is, standing-shape, standing-weight, standing-extremes, given}
use Rattle.quantile_sketches.proofs.serving.Lines.{answers-rest}
use Rattle.quantile_sketches.proofs.kll.Rules.{kll_kind_lawful}
use Rattle.quantile_sketches.proofs.kll.Obeys.{kll-obeys}
use Rattle.quantile_sketches.proofs.req.Obeys.{req-obeys}
use Rattle.quantile_sketches.proofs.req.Rules.{req_kind_lawful}
use Rattle.quantile_sketches.proofs.lines.answers_rest_on_runs.Goals as goal

-- for REQ and for KLL
rest : (is_req : Bool) (seed : ℕ) (text out : List ℕ) → ServesFamily is_req seed text out → ServesRun is_req seed text out
rest true seed text out =
    let lawful = req_kind_lawful int_cmp_total i64_spelling in
    let obeys = req-obeys int_cmp_total i64_spelling coin_of_state next_state i64_prefix_free i64_ties in
    answers-rest req_grammar lawful (req int_cmp i64_spelling) obeys seed ReqPromise (λ commands slots coins st slot s held. (
      standing-weight lawful coin_of_state next_state seed commands slots coins st slot s held,
      standing-extremes lawful coin_of_state next_state seed commands slots coins st slot s held,
      alike-exact int_cmp_total commands (given lawful coin_of_state next_state seed commands slots coins st slot s held) slot s
          (standing-shape lawful coin_of_state next_state seed commands slots coins st slot s held)
          (standing-is lawful coin_of_state next_state seed commands slots coins st slot s held).alike,
    )) (lines text) out
rest false seed text out =
    let lawful = kll_kind_lawful int_cmp_total i64_spelling in
    let obeys = kll-obeys int_cmp_total i64_spelling coin_of_state next_state i64_prefix_free i64_ties in
    answers-rest kll_grammar lawful (kll int_cmp i64_spelling) obeys seed KllPromise (λ commands slots coins st slot s held. (
      standing-weight lawful coin_of_state next_state seed commands slots coins st slot s held,
      standing-extremes lawful coin_of_state next_state seed commands slots coins st slot s held,
      sound-small s (standing-is lawful coin_of_state next_state seed commands slots coins st slot s held).sound,
    )) (lines text) out

pub returns : goal.returns
returns c = record { run = rest }
