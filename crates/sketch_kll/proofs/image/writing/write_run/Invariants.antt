use Rattle.std.proofs.Common.{◌≡◌, ◌++◌, take, cond}
use Rattle.std.specs.Prelude.{IsSome, reverse}
use Rattle.std.specs.List.{AllByRecursion}
use Rattle.sketch_base.specs.Spelling.{items_text}
use Rattle.sketch_kll.proofs.image.writing.write_run.Given as goal

abbrev pub invariant-loop-i : goal.invariant-loop-i
invariant-loop-i g l = record {
  written : l.bytes ≡ l.fn.bytes ++ items_text g.T.KllValue.spelling (take l.i (cond l.is_turned (reverse l.run) l.run));
  spelled : AllByRecursion (λ x. IsSome (g.T.KllValue.spelling x)) (take l.i (cond l.is_turned (reverse l.run) l.run));
}
