use Rattle.std.proofs.Common.{◌≡◌, ◌<◌, length, length-drop, sym, ap, ◌∙◌, arith}
use Rattle.std.specs.List.{position_or_len}
use Rattle.log_groups.specs.Fields.{is_no_blank, words_of}
use Rattle.log_groups.proofs.FirstFields.{words-skip, bare-start, count-step, shorter}
use Rattle.log_groups.proofs.fields.count_words.Goals as goal

pub loop-rest-init : goal.loop-rest-init
loop-rest-init c =
    let e : length (words_of c.args.line.now) ≡ length (words_of c.without_blanks-rest.result.now) = ap length (words-skip c.args.line.now ∙ ap words_of (sym c.without_blanks-rest.ensures.value)) in
    let n = ap length c.without_blanks-rest.ensures.value ∙ length-drop (position_or_len is_no_blank c.args.line.now) c.args.line.now in
    record {
      count = omega (arith, e);
      bare = bare-start c.args.line.now c.without_blanks-rest.result.now c.without_blanks-rest.ensures.value;
      few = omega (arith, n);
    }

pub overflow_add-count : goal.overflow_add-count
overflow_add-count c =
    let some : 0 < length c.loop-rest.rest.now = grind arith in
    let few = c.loop-rest.invariant.few in
    grind (arith, some, few)

pub loop-rest-preserved : goal.loop-rest-preserved
loop-rest-preserved c =
    let some : 0 < length c.loop-rest.rest.now = grind arith in
    let one = count-step c.loop-rest.rest.now c.behind_word.result.now c.without_blanks-rest-in-loop-rest.result.now c.loop-rest.invariant.bare some c.behind_word.ensures.value c.without_blanks-rest-in-loop-rest.ensures.value in
    let less = shorter c.loop-rest.rest.now c.behind_word.result.now c.without_blanks-rest-in-loop-rest.result.now c.loop-rest.invariant.bare some c.behind_word.ensures.value c.without_blanks-rest-in-loop-rest.ensures.value in
    let count = c.loop-rest.invariant.count in
    let few = c.loop-rest.invariant.few in
    record {
      count = omega (arith, one, count);
      bare = bare-start c.behind_word.result.now c.without_blanks-rest-in-loop-rest.result.now c.without_blanks-rest-in-loop-rest.ensures.value;
      few = omega (arith, less, few);
    }

pub loop-rest-smaller : goal.loop-rest-smaller
loop-rest-smaller c =
    let some : 0 < length c.loop-rest.rest.now = grind arith in
    let less = shorter c.loop-rest.rest.now c.behind_word.result.now c.without_blanks-rest-in-loop-rest.result.now c.loop-rest.invariant.bare some c.behind_word.ensures.value c.without_blanks-rest-in-loop-rest.ensures.value in
    omega (arith, less)
