use Rattle.std.proofs.Common.{◌==◌, ◌+◌, ap, sym, ◌∙◌, arith}
use Rattle.std.specs.Prelude.{count_by}
use Rattle.std.proofs.lemmas.List.{take_all}
use Rattle.std.proofs.lemmas.List.Splits.{length-slice_split}
use Rattle.log_groups.proofs.fields.count_parts.Goals as goal

pub returns : goal.returns
returns c = record {
  value = c.loop-i.invariant ∙ (ap (λ xs. count_by (λ b. b == c.args.separator) xs + 1) (take_all c.loop-i.i c.args.line.now (let l = c.loop-i-test.false in omega (arith, l)))
      ∙ sym (length-slice_split (λ b. b == c.args.separator) c.args.line.now));
}
