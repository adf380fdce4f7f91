use Rattle.std.proofs.Common.{◌++◌, [], ◌∷◌, refl, arith}
use Rattle.std.proofs.lemmas.Grind.{common_steps}
use Rattle.quantile_sketches.specs.Answer.{answer_text}
use Rattle.quantile_sketches.proofs.writing.Answers.{writes-then, writes-fail}
use Rattle.quantile_sketches.proofs.answer.write_answer.Goals as goal

pub returns-in_err-add-in-Ok-Image : goal.returns-in_err-add-in-Ok-Image
returns-in_err-add-in-Ok-Image g c = writes-fail c.args.waiting.now.items c.as_bytes.result.now (10 ∷ []) (answer_text c.args.said ++ (10 ∷ [])) _ c.from_residual.result
    (grind (arith, common_steps)) c.from_residual.ensures.0 c.in_err-add-in-Ok-Image.ensures

pub returns-in_ok-add-in-Ok-Image : goal.returns-in_ok-add-in-Ok-Image
returns-in_ok-add-in-Ok-Image g c = writes-then c.args.waiting.now.items c.as_bytes.result.now (10 ∷ []) (answer_text c.args.said ++ (10 ∷ []))
    (grind (arith, common_steps)) c.in_ok-add-in-Ok-Image.ensures refl c.add-in-Ok-Image-2.ensures
