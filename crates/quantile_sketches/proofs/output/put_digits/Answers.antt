use Rattle.std.proofs.Common.{◌≡◌, ◌+◌, ◌-◌, ◌++◌, ℕ, List, sym, arith, drop}
use Rattle.std.specs.Fmt.{decimal}
use Rattle.quantile_sketches.proofs.writing.Answers.{put_more, put_last, tenth}
use Rattle.quantile_sketches.proofs.output.put_digits.Goals as goal

pub loop-rest-preserved : goal.loop-rest-preserved
loop-rest-preserved c =
    let l = c.loop-rest in
    let text : List ℕ = decimal c.args.number ++ drop c.args.end c.args.room.now in
    let t = tenth l.rest (l.start + 20 - c.args.end) (omega arith) (omega (arith, l.invariant.below)) in
    let less : (l.start + 20 - c.args.end) - 1 + 1 ≡ l.start - 1 + 20 - c.args.end + 1 = omega (arith, t.0, l.invariant.within, l.invariant.above, c.requires.some) in
    let before : l.start - 1 + 1 ≡ l.start = omega (arith, t.0, l.invariant.within, l.invariant.above, c.requires.some) in
    record {
      within = omega arith;
      above = omega (arith, t.0, l.invariant.within, l.invariant.above, c.requires.some);
      below = rw less at t.1;
      digits = rw before (put_more text l.rest l.start l.room (omega arith) (omega arith) (omega arith) l.invariant.digits);
    }

pub returns-clause-digits : goal.returns-clause-digits
returns-clause-digits c = sym (put_last (decimal c.args.number ++ drop c.args.end c.args.room.now) c.loop-rest.rest c.loop-rest.start c.loop-rest.room (omega arith) (omega arith)
    c.loop-rest.invariant.digits)
