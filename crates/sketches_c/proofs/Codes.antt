-- What the codes of errors are not.
use Rattle.std.proofs.Common.{◌≡◌, refl, rules}
use Rattle.sketch_base.specs.declared.error.ErrorKind.{ErrorKind}
use Rattle.sketch_base.specs.declared.error.ErrorKind.TheVariants.{InvalidArgument, InvalidData, OutOfMemory}
use Rattle.sketches_c.specs.Codes.{ok, empty, code_of, wrong_size}

-- no error counts as an answer
pub refused : (e : ErrorKind) → (code_of e ≡ ok → ⊥) × (code_of e ≡ empty → ⊥) × (code_of e ≡ wrong_size → ⊥)
refused InvalidArgument = (search rules, search rules, search rules)
refused InvalidData = (search rules, search rules, search rules)
refused OutOfMemory = (search rules, search rules, search rules)

-- an error has one code
pub told_apart : (e : ErrorKind) → code_of e ≡ code_of InvalidArgument → e ≡ InvalidArgument
told_apart InvalidArgument is = refl
told_apart InvalidData is = search rules
told_apart OutOfMemory is = search rules
