-- How the program reads a line.
use Rattle.std.specs.Prelude.{◌≡◌, ◌≢◌, ℕ, ℤ, false, List, ◌∷◌, Option, IfSome}
use Rattle.std.specs.Io.BufRead.{strip_last}
use Rattle.log_groups.specs.Fields.{IsPlain, key_of}
use Rattle.log_groups.specs.declared.fields.Separator.{Separator}
use Rattle.percentiles.specs.declared.options.Form.TheVariants.{Separated}
use Rattle.percentiles.specs.declared.reader.Reader.{Reader}

-- a line that doesn't begin with a byte order mark
abbrev pub IsUnmarked : List ℕ → Type 0
IsUnmarked line = (rest : List ℕ) → line ≢ 239 ∷ 187 ∷ 191 ∷ rest

-- a line that is read as a key and a number has the key that its own fields make, where fields are separated, quotes mean nothing, and no file's name comes first
abbrev pub reads : Reader → List ℕ → Option (List ℕ × ℤ) → Type 0
reads reader line found = IfSome found (λ p. (separator : Separator) → reader.reading.now.form ≡ Separated separator → reader.reading.now.by_file ≡ false → IsUnmarked line →
    IsPlain reader.columns.separator (strip_last 13 line) → p.0 ≡ key_of reader.columns.separator reader.columns.groups.items (strip_last 13 line))
