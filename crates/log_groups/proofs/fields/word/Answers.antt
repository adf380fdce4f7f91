use Rattle.std.proofs.Common.{◌≡◌, ◌-◌, length, sym, ap, ◌∙◌, take, arith}
use Rattle.log_groups.proofs.FirstFields.{word-start, bare-start, word-step, word-none, word-last}
use Rattle.log_groups.proofs.fields.word.Goals as goal

pub loop-passed-init : goal.loop-passed-init
loop-passed-init c = record {
  word = word-start c.args.line.now c.without_blanks-rest.result.now (c.args.number - 1) c.without_blanks-rest.ensures.value;
  bare = bare-start c.args.line.now c.without_blanks-rest.result.now c.without_blanks-rest.ensures.value;
}

pub returns-then-is_empty : goal.returns-then-is_empty
returns-then-is_empty c =
    let none : length c.loop-passed.rest.now ≡ 0 = grind arith in
    record { value = word-none c.loop-passed.rest.now (c.args.number - c.loop-passed.passed) none ∙ sym c.loop-passed.invariant.word }

pub loop-passed-preserved : goal.loop-passed-preserved
loop-passed-preserved c = record {
  word = c.loop-passed.invariant.word ∙ word-step c.loop-passed.rest.now c.behind_word.result.now c.without_blanks-rest-in-loop-passed.result.now c.args.number c.loop-passed.passed
      c.loop-passed-test.true c.loop-passed.invariant.bare c.behind_word.ensures.value c.without_blanks-rest-in-loop-passed.ensures.value;
  bare = bare-start c.behind_word.result.now c.without_blanks-rest-in-loop-passed.result.now c.without_blanks-rest-in-loop-passed.ensures.value;
}

pub returns : goal.returns
returns c = record {
  value = ap (λ n. take n c.loop-passed.rest.now) c.word_len.ensures.value
      ∙ (word-last c.loop-passed.rest.now c.args.number c.loop-passed.passed c.loop-passed-test.false c.loop-passed.invariant.bare ∙ sym c.loop-passed.invariant.word);
}
