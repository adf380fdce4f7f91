-- What is written for a text of commands on KLL or on REQ sketches, from empty slots on.
use Rattle.std.specs.Prelude.{ℕ, ℤ, Bool, true, false, List, [], None, Some, replicate}
use Rattle.std.specs.Ordering.{int_cmp}
use Rattle.sketch_base.specs.Spelling.{i64_spelling}
use Rattle.sketch_kll.specs.Sketch.{Kll}
use Rattle.sketch_req.specs.Sketch.{Req}
use Rattle.sketch_req.specs.declared.RankAccuracy.{RankAccuracy}
use Rattle.quantile_sketches.specs.Behaviour.{Behaviour}
use Rattle.quantile_sketches.specs.RunsBehindLines.{AreOfRunKeeping, AnswersWhere}
use Rattle.quantile_sketches.specs.declared.commands.Command.{Command}
use Rattle.quantile_sketches.specs.declared.table.TheConstants.{SLOTS}
use Rattle.quantile_sketches.specs.KllBehaviour.{kll}
use Rattle.quantile_sketches.specs.KllRules.{kll_look, kll_kind}
use Rattle.quantile_sketches.specs.KllRun.{IsWithinCapacity}
use Rattle.sketch_base.specs.TextLines.{lines}
use Rattle.quantile_sketches.specs.Lines.{Serves, BeginsServing}
use Rattle.quantile_sketches.specs.Outcome.{WeighsStream, HasExtremes}
use Rattle.quantile_sketches.specs.Reader.{kll_grammar, req_grammar}
use Rattle.quantile_sketches.specs.ReqBehaviour.{req}
use Rattle.quantile_sketches.specs.ReqKind.{req_look, req_kind}
use Rattle.quantile_sketches.specs.ReqOutcome.{IsExact}
use Rattle.quantile_sketches.specs.ReqPlan.{ReqCommand}

-- how sketches of 64-bit integers behave
abbrev pub kll_of_i64 : Behaviour (Kll ℤ) ℤ ℕ
kll_of_i64 = kll int_cmp i64_spelling

abbrev pub req_of_i64 : Behaviour (Req ℤ) ℤ (ℕ × RankAccuracy)
req_of_i64 = req int_cmp i64_spelling

-- the answers to all lines of a text
abbrev pub ServesFamily : (is_req : Bool) → ℕ → List ℕ → List ℕ → Type 0
ServesFamily true seed text out = Serves req_grammar req_of_i64 (replicate SLOTS None) seed (lines text) out
ServesFamily false seed text out = Serves kll_grammar kll_of_i64 (replicate SLOTS None) seed (lines text) out

-- a beginning of the answers to a prefix of the lines
abbrev pub BeginsFamily : (is_req : Bool) → ℕ → List ℕ → List ℕ → Type 0
BeginsFamily true seed text sent = BeginsServing req_grammar req_of_i64 (replicate SLOTS None) seed (lines text) sent
BeginsFamily false seed text sent = BeginsServing kll_grammar kll_of_i64 (replicate SLOTS None) seed (lines text) sent

-- what is promised of a slot's sketch after these commands: it has the weight and the extremes of the slot's stream; a KLL sketch
-- is small, and a REQ sketch is exact on its protected tail
abbrev pub KllPromise : List (Command ℤ ℕ) → ℕ → Kll ℤ → Type 0
KllPromise commands slot s =
    WeighsStream (kll_look int_cmp) commands slot s × HasExtremes (kll_look int_cmp) commands slot s × IsWithinCapacity s

abbrev pub ReqPromise : List (ReqCommand ℤ) → ℕ → Req ℤ → Type 0
ReqPromise commands slot s =
    WeighsStream (req_look int_cmp) commands slot s × HasExtremes (req_look int_cmp) commands slot s
    × IsExact int_cmp commands slot s

-- the answers to all lines of a text; until a `load` is accepted, each is given by the sketches of a run of the commands that
-- were accepted before it, and these keep this promise
abbrev pub ServesRun : (is_req : Bool) → ℕ → List ℕ → List ℕ → Type 0
ServesRun true seed text out =
    AnswersWhere req_grammar req_of_i64 (AreOfRunKeeping (req_kind int_cmp i64_spelling) ReqPromise seed) (Some []) (replicate SLOTS None) seed (lines text) out
ServesRun false seed text out =
    AnswersWhere kll_grammar kll_of_i64 (AreOfRunKeeping (kll_kind int_cmp i64_spelling) KllPromise seed) (Some []) (replicate SLOTS None) seed (lines text) out
