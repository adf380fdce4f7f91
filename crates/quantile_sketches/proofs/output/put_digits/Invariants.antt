use Rattle.std.proofs.Common.{◌≡◌, ◌≤◌, ◌<◌, ◌^◌, ◌+◌, ◌-◌, ◌++◌, drop}
use Rattle.std.specs.Fmt.{decimal}
use Rattle.quantile_sketches.proofs.output.put_digits.Given as goal

abbrev pub invariant-loop-rest : goal.invariant-loop-rest
invariant-loop-rest l = record {
  within : l.start < l.end;
  above : l.end ≤ l.start + 20;
  below : l.rest < 10 ^ (l.start + 20 - l.end + 1);
  digits : decimal l.number ++ drop l.end l.fn.room ≡ decimal l.rest ++ drop (l.start + 1) l.room;
}

abbrev pub decreases-loop-rest : goal.decreases-loop-rest
decreases-loop-rest l = l.rest
