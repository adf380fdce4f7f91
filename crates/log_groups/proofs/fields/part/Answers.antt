use Rattle.std.proofs.Common.{◌≡◌, ◌==◌, ◌-◌, ◌+◌, [], get_or, length, sym, ap, ◌∙◌, take, arith}
use Rattle.std.specs.List.{slice_split}
use Rattle.log_groups.proofs.FirstFields.{part-step, part-none, part-last}
use Rattle.log_groups.proofs.fields.part.Goals as goal

pub returns-then-is_empty : goal.returns-then-is_empty
returns-then-is_empty c =
    let none : length c.loop-passed.rest.now ≡ 0 = grind arith in
    record { value = part-none (λ b. b == c.args.separator) c.loop-passed.rest.now (c.args.number - c.loop-passed.passed) none ∙ sym c.loop-passed.invariant }

pub loop-passed-preserved : goal.loop-passed-preserved
loop-passed-preserved c =
    c.loop-passed.invariant ∙ (part-step (λ b. b == c.args.separator) c.loop-passed.rest.now c.args.number c.loop-passed.passed c.loop-passed-test.true
    ∙ ap (λ r. get_or (slice_split (λ b. b == c.args.separator) r) (c.args.number - (c.loop-passed.passed + 1)) []) (sym c.behind_part-rest.ensures.value))

pub returns : goal.returns
returns c = record {
  value = ap (λ n. take n c.loop-passed.rest.now) c.len_before.ensures.value
      ∙ (part-last (λ b. b == c.args.separator) c.loop-passed.rest.now c.args.number c.loop-passed.passed c.loop-passed-test.false ∙ sym c.loop-passed.invariant);
}
