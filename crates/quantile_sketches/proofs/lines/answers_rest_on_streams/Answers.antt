use Rattle.std.proofs.lemmas.Cmp.{int_cmp_total}
use Rattle.sketch_base.specs.Spelling.{i64_spelling}
use Rattle.sketch_base.specs.SpellingLaws.{i64_prefix_free, i64_ties}
use Rattle.sketch_req.proofs.images.Texts.{one_sketch}
use Rattle.sketch_base.specs.TextLines.{lines}
use Rattle.quantile_sketches.specs.Reader.{req_grammar}
use Rattle.quantile_sketches.proofs.serving.Summaries.{answers-told-first, shown-true}
use Rattle.quantile_sketches.proofs.lines.answers_rest_on_streams.Goals as goal

pub returns : goal.returns
returns c = record {
  told = λ origins seed text out are.
      answers-told-first int_cmp_total i64_spelling (one_sketch int_cmp_total i64_spelling i64_prefix_free i64_ties) origins are req_grammar seed (lines text) out;
  shown = shown-true;
}
