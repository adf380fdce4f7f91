use Rattle.std.proofs.Common.{ℕ, List, length, IfOk}
use Rattle.quantile_sketches.specs.Refused.{accepted_of}
use Rattle.quantile_sketches.specs.ReqFair.{is_fair_slot}
use Rattle.quantile_sketches.specs.ReqPlan.{ReqCommand}
use Rattle.quantile_sketches.specs.ReqReady.{stays_fair}
use Rattle.quantile_sketches.specs.ReqRules.{req_rules}
use Rattle.quantile_sketches.specs.ReqUpdated.{was_only_updated, AreRelative, AreRelativeToCounts}
use Rattle.quantile_sketches.specs.Run.{AreUnbiasedWhere, WithEnoughBits}
use Rattle.quantile_sketches.proofs.slots.Slots.{given, both, five}
use Rattle.quantile_sketches.proofs.runs.Runs.{close-by, ranks-by}
use Rattle.quantile_sketches.proofs.req.Fair.{run-unbiased_where_fair, run-unbiased_where_redrawn}
use Rattle.quantile_sketches.proofs.req.Rules.{req_kind_lawful}
use Rattle.quantile_sketches.proofs.runs.Req.{req-load, run-ordered, run-levels, run-small, run-tails-own, run-images, unbiased-updated, by-law}
use Rattle.quantile_sketches.proofs.req.Updated.{run-are_relative, run-are_relative_to_counts}
use Rattle.quantile_sketches.proofs.req.Tails.{run-summaries, summaries-tails}
use Rattle.quantile_sketches.proofs.audit.req_runs.run_req.Goals as goal

pub run_family-requires-clause-lawful : goal.run_family-requires-clause-lawful
run_family-requires-clause-lawful g c = req_kind_lawful g.met.T.Ord.total g.T.ReqValue.spelling

pub returns : goal.returns
returns g c =
    let accepted : (P : List (ReqCommand g.row.T.Denot) → ℕ → Type 0) → WithEnoughBits req_rules P →
    IfOk c.run_family.result (λ run. P (accepted_of run.refused.items c.args.commands.now) (length c.args.word.now)) = λ P law.
    both c.run_family.result (λ run refused. by-law g.met.T.Ord.total g.T.ReqValue.spelling c.args.commands.now run.slots c.args.word.now run.refused.items refused P law)
    c.run_family.ensures.refused c.run_family.ensures.enough in
    let summaries = five c.run_family.result (λ run refused planned played weight extremes.
    run-summaries g.met.T.Ord.total g.T.ReqValue.spelling c.args.commands.now run.slots c.args.word.now run.refused.items refused planned played weight extremes)
    c.run_family.ensures.refused c.run_family.ensures.planned c.run_family.ensures.played c.run_family.ensures.weight c.run_family.ensures.extremes in
    record {
      enough = c.run_family.ensures.enough;
      errors = c.run_family.ensures.errors;
      refused = c.run_family.ensures.refused;
      executed = c.run_family.ensures.executed;
      coins = c.run_family.ensures.coins;
      planned = c.run_family.ensures.planned;
      played = c.run_family.ensures.played;
      ranks = given c.run_family.result
          (λ run. ranks-by (req_kind_lawful g.met.T.Ord.total g.T.ReqValue.spelling) (accepted_of run.refused.items c.args.commands.now) c.args.word.now run.slots)
          c.run_family.ensures.played;
      weight = c.run_family.ensures.weight;
      extremes = c.run_family.ensures.extremes;
      ordered = given c.run_family.result (λ run. run-ordered g.met.T.Ord.total g.T.ReqValue.spelling c.args.commands.now run.slots) c.run_family.ensures.sound;
      levels = given c.run_family.result (λ run. run-levels g.met.T.Ord.total g.T.ReqValue.spelling c.args.commands.now run.slots) c.run_family.ensures.planned;
      small = given c.run_family.result (λ run. run-small g.met.T.Ord.total g.T.ReqValue.spelling c.args.commands.now run.slots) c.run_family.ensures.planned;
      close = both c.run_family.result (λ run refused played.
          close-by (req_kind_lawful g.met.T.Ord.total g.T.ReqValue.spelling) 4 (req-load g.met.T.Ord.total) c.args.word.now c.args.commands.now
          run.refused.items refused run.slots played)
          c.run_family.ensures.refused c.run_family.ensures.played;
      tail = both c.run_family.result (λ run. summaries-tails g.met.T.Ord.total g.T.ReqValue.spelling c.args.commands.now run.slots) c.run_family.ensures.sound summaries;
      summaries = summaries;
      own = given c.run_family.result (λ run. run-tails-own g.met.T.Ord.total g.T.ReqValue.spelling c.args.commands.now run.slots) c.run_family.ensures.planned;
      fair = accepted (AreUnbiasedWhere req_rules g.T.Ord.cmp is_fair_slot) (run-unbiased_where_fair g.T.Ord.cmp);
      redrawn = accepted (AreUnbiasedWhere req_rules g.T.Ord.cmp stays_fair) (run-unbiased_where_redrawn g.T.Ord.cmp);
      images = given c.run_family.result (λ run. run-images g.met.T.Ord.total g.T.ReqValue.spelling c.args.commands.now run.slots g.met.T.ReqValue.is_prefix_free c.requires.codec)
          c.run_family.ensures.sound;
      unbiased = accepted (AreUnbiasedWhere req_rules g.T.Ord.cmp was_only_updated) (unbiased-updated g.T.Ord.cmp);
      relative = accepted (AreRelative g.T.Ord.cmp) (run-are_relative g.met.T.Ord.total);
      counts = accepted (AreRelativeToCounts g.T.Ord.cmp) (run-are_relative_to_counts g.met.T.Ord.total);
    }
