-- The lines of a text.
use Rattle.std.specs.Prelude.{◌≡◌, ℕ, ◌<◌, List, [], ◌∷◌, length, ◌==◌, if◌then◌else◌, Option, Some, IfSome}
use Rattle.std.specs.Io.BufRead.{first_piece, drop_through}
use Rattle.std.specs.List.{onto_first}

-- a line ends with a line feed or at the end of the text
abbrev pub lines : List ℕ → List (List ℕ)
lines [] = []
lines (c ∷ cs) = if c == 10 then [] ∷ lines cs else onto_first c (lines cs)

-- the first line is taken from what is left to read, if that is known, and its line feed with it
abbrev pub TakesLine : Option (List ℕ) → List ℕ → Option (List ℕ) → Type 0
TakesLine left line left' = IfSome left (λ text. (0 < length text) × (line ≡ first_piece 10 text) × (left' ≡ Some (drop_through 10 text)))
