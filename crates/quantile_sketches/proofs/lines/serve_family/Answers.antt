use Rattle.std.proofs.Common.{None, Ok, Err, Result, OnErr, replicate, ◌≡◌, arith}
use Rattle.std.proofs.lemmas.Grind.{common_steps}
use Rattle.quantile_sketches.specs.declared.table.TheConstants.{SLOTS}
use Rattle.std.specs.Io.Buffered.{reader_remaining}
use Rattle.quantile_sketches.proofs.serving.Lines.{begins-after, serves-after}
use denote.MutBor.{MutBor}
use Rattle.quantile_sketches.proofs.lines.serve_family.Goals as goal

OnErr-from : {T E P : Type 0} (r : Result T E) → P → OnErr r P
OnErr-from (Ok x) p = tt
OnErr-from (Err e) p = p

pub returns : goal.returns
returns g c =
    let known : reader_remaining (λ (r : MutBor g.row.R.Denot). g.R.Read.remaining r.now) c.in_ok-input.input ≡ g.R.Read.remaining c.args.input.now =
    grind (arith, common_steps, c.in_ok-input.ensures.inner, c.in_ok-input.ensures.empty, c.in_ok-input.ensures.capacity) in
    record {
      served = serves-after g.S.Config.Config.grammar g.S.Family.behaviour (replicate SLOTS None) c.args.seed _ _ (g.W.Write.contents c.args.output.now)
          (g.W.Write.contents c.answer_lines.new.output) c.answer_lines.result known c.answer_lines.ensures;
      broken_off = OnErr-from c.answer_lines.result (begins-after g.S.Config.Config.grammar g.S.Family.behaviour (replicate SLOTS None) c.args.seed _ _ (g.W.Write.contents c.args.output.now)
          (g.W.Write.contents c.answer_lines.new.output) c.answer_lines.result known c.answer_lines.ensures);
    }
