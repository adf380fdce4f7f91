use Rattle.std.proofs.Common.{arith}
use Rattle.std.proofs.lemmas.Grind.{common_steps}
use Rattle.std.proofs.Common.{ap, ◌∙◌}
use Rattle.quantile_sketches.specs.HexText.{hex_of}
use Rattle.quantile_sketches.proofs.reading.Words.{found-or, hex_found, no_hex}
use Rattle.quantile_sketches.proofs.table.decoded.Goals as goal

pub returns-in_ok-image_bytes-in-Ok-clause-bytes : goal.returns-in_ok-image_bytes-in-Ok-clause-bytes
returns-in_ok-image_bytes-in-Ok-clause-bytes c =
    let told = c.in_ok-image_bytes-in-Ok in
    ap (λ v. v.items) c.unwrap_or.ensures ∙ (found-or (λ v. v.items) told.field-0 c.new-in-Ok.result c.new-in-Ok.ensures.items
    ∙ (grind (arith, common_steps, c.in-Some.ensures.word, hex_found (λ v. v.items) c.in-Ok.text.now told.field-0 told.ensures.bytes told.ensures.found ∙ ap hex_of c.in-Ok.ensures.cases.0)))

pub returns-in-Err-clause-bytes : goal.returns-in-Err-clause-bytes
returns-in-Err-clause-bytes c = c.new-in-Err.ensures.items ∙ (grind (arith, common_steps, c.in-Some.ensures.word, no_hex c.in-Some.word.now c.in-Err.ensures.cases.0))
