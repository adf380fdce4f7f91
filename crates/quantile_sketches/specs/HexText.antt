-- What a text of hex digits writes.
use Rattle.std.specs.Prelude.{ℕ, List, Option}
use Rattle.std.specs.Result.{result_ok}
use Rattle.hex.specs.Hex.{decode_of}

-- the bytes that a word of hex digits writes, two digits a byte
abbrev pub hex_of : List ℕ → Option (List ℕ)
hex_of w = result_ok (decode_of w)
