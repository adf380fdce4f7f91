-- The header of an image as bytes. Numbers are unsigned and little-endian.
use Rattle.std.specs.Prelude.{ℕ, ◌==◌, bit_and, Bool, not, List, [], ◌∷◌, ◌++◌}
use Rattle.std.specs.Int.{w16, to_le_bytes}
use Rattle.sketch_base.specs.declared.codec.Header.{Header}

abbrev pub header_text : Header → List ℕ
header_text h = h.preamble ∷ h.version ∷ h.family ∷ h.flags ∷ (to_le_bytes w16 h.k ++ (h.first ∷ h.second ∷ []))

abbrev pub has_flag : ℕ → ℕ → Bool
has_flag flags flag = not (bit_and flags flag == 0)
