use Rattle.std.proofs.Common.{ℕ, ap}
use Rattle.sketch_base.specs.Random.{next_state, output_of}
use Rattle.sketch_base.proofs.common.random.SplitMix64.next_u64.Goals as goal

pub returns : goal.returns
returns c = record { value = ap (λ (s : ℕ). output_of (next_state s)) c.self.view_is; after = ap next_state c.self.view_is }
