-- The fields of a line.
use Rattle.std.specs.Prelude.{◌≡◌, ◌≢◌, ⊤, ◌⊎◌, ℕ, ◌-◌, ◌==◌, ◌||◌, not, Bool, true, false, List, [], ◌∷◌, drop, filter, flat_map, get_or, length, reverse}
use Rattle.std.specs.List.{position_or_len, slice_split}
use Rattle.log_groups.specs.declared.fields.Place.{Place}
use Rattle.log_groups.specs.declared.fields.Place.TheVariants.{Front, Back}
use Rattle.log_groups.specs.declared.fields.Separator.{Separator}
use Rattle.log_groups.specs.declared.fields.Separator.TheVariants.{Blanks, Byte}

-- a space or a tab
abbrev pub is_blank : ℕ → Bool
is_blank c = c == 32 || c == 9

abbrev pub is_no_blank : ℕ → Bool
is_no_blank c = not (is_blank c)

abbrev pub is_some_text : List ℕ → Bool
is_some_text [] = false
is_some_text (c ∷ cs) = true

-- the words of a line: what stands between its blanks and isn't empty
abbrev pub words_of : List ℕ → List (List ℕ)
words_of line = filter is_some_text (slice_split is_blank line)

-- the fields of a line: its words, or all that stands between its separators
abbrev pub fields_of : Separator → List ℕ → List (List ℕ)
fields_of Blanks line = words_of line
fields_of (Byte b) line = slice_split (λ c. c == b) line

-- the field of this number, counted from 1, or an empty one
abbrev pub nth_field : ℕ → List (List ℕ) → List ℕ
nth_field n fields = get_or fields (n - 1) []

-- the field at a place, counted from either end, or an empty one
abbrev pub field_at : Place → List (List ℕ) → List ℕ
field_at (Front n) fields = nth_field n fields
field_at (Back n) fields = nth_field n (reverse fields)

-- what joins the fields of a key: the separator, or a space
abbrev pub joint_of : Separator → ℕ
joint_of Blanks = 32
joint_of (Byte b) = b

-- the fields at these places, each with the joint in front
abbrev pub joined : Separator → List Place → List ℕ → List ℕ
joined separator places line = flat_map (λ p. joint_of separator ∷ field_at p (fields_of separator line)) places

-- the key of a line: its fields at these places, with the joint between them
abbrev pub key_of : Separator → List Place → List ℕ → List ℕ
key_of separator places line = drop 1 (joined separator places line)

-- quotes mean nothing in the line: no comma or semicolon separates its fields, or it has none
abbrev pub IsPlain : Separator → List ℕ → Type 0
IsPlain Blanks line = ⊤
IsPlain (Byte b) line = ((b ≢ 44) × (b ≢ 59)) ⊎ (position_or_len (λ c. c == 34) line ≡ length line)
