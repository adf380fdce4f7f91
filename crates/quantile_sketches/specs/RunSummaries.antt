-- The sketches of a REQ run as summaries of their slots' streams.
use Rattle.std.specs.Prelude.{List}
use Rattle.std.specs.declared.cmp.Ordering.{Ordering}
use Rattle.sketch_req.specs.Sketch.{Req}
use Rattle.quantile_sketches.specs.Outcome.{SlotMap, EachSketch}
use Rattle.quantile_sketches.specs.ReqPlan.{ReqCommand, tails_of}
use Rattle.quantile_sketches.specs.ReqRules.{req_rules}
use Rattle.quantile_sketches.specs.Run.{stream_of}
use Rattle.sketch_req.specs.Summaries.{Summarizes}

-- each sketch summarizes its slot's stream, with the slot's tail number as its tail
abbrev pub AreSummaries : {A : Type 0} → (A → A → Ordering) → List (ReqCommand A) → SlotMap (Req A) → Type 0
AreSummaries cmp commands = EachSketch (λ slot s. Summarizes cmp s (stream_of req_rules commands slot) (tails_of commands slot))
