-- Floats by their bits, read as a signed number: its sign is the float's, and the other bits are a magnitude, in the order of the
-- absolute values. NaNs have the greatest magnitudes.
use Rattle.std.specs.Prelude.{◌-◌, ◌^◌, ◌==◌, ℕ, ℤ, pos, negsuc, Bool, true, false, List, [], ◌∷◌, ◌||◌, nat_lt, if◌then◌else◌, map}

-- the bits without the sign
abbrev pub magnitude : ℤ → ℕ
magnitude (pos bits) = bits
magnitude (negsuc rest) = 2 ^ 63 - 1 - rest

-- the number that stands for a float; each number stands for one
abbrev pub number : ℤ → ℤ
number (pos bits) = pos bits
number (negsuc rest) = negsuc (2 ^ 63 - 1 - rest)

-- the number that stands for a float that is taken in: -0.0 counts as 0.0
unfoldable pub number_in : ℤ → ℤ
number_in (pos bits) = pos bits
number_in (negsuc rest) = if rest == 2 ^ 63 - 1 then pos 0 else negsuc (2 ^ 63 - 1 - rest)

-- whether the magnitude is above infinity's
abbrev pub is_nan : ℤ → Bool
is_nan bits = nat_lt 0x7FF0000000000000 (magnitude bits)

abbrev pub any_nan : List ℤ → Bool
any_nan [] = false
any_nan (bits ∷ more) = is_nan bits || any_nan more

-- an item as it is taken in, by its kind: itself, or the number that stands for the float
abbrev pub key : Bool → ℤ → ℤ
key false item = item
key true bits = number_in bits

abbrev pub keys : Bool → List ℤ → List ℤ
keys false items = items
keys true floats = map number_in floats

-- the item that is answered for a number, by its kind
abbrev pub shown : Bool → ℤ → ℤ
shown false item = item
shown true bits = number bits
