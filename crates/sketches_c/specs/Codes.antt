-- The numbers that calls answer.
use Rattle.std.specs.Prelude.{ℤ, pos, negsuc}
use Rattle.sketch_base.specs.declared.error.ErrorKind.{ErrorKind}
use Rattle.sketch_base.specs.declared.error.ErrorKind.TheVariants.{InvalidArgument, InvalidData, OutOfMemory}

abbrev pub ok : ℤ
ok = pos 0

-- the sketch is empty, so there is no answer
abbrev pub empty : ℤ
empty = pos 1

abbrev pub code_of : ErrorKind → ℤ
code_of InvalidArgument = negsuc 0
code_of InvalidData = negsuc 1
code_of OutOfMemory = negsuc 2

-- the handle holds no sketch
abbrev pub no_sketch : ℤ
no_sketch = negsuc 3

-- the sketch holds items of the other kind
abbrev pub other_kind : ℤ
other_kind = negsuc 4

-- a buffer has a wrong size
abbrev pub wrong_size : ℤ
wrong_size = negsuc 5

abbrev pub not_a_number : ℤ
not_a_number = negsuc 6
