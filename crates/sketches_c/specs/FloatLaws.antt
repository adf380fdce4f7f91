-- The order of the numbers that stand for floats.
use Rattle.std.specs.Prelude.{◌≡◌, ◌-◌, ◌^◌, ◌<◌, ℤ, pos, negsuc, false, int_lt}
use Rattle.std.specs.Float.{Float, binary64}
use lib.Ieee.{of_bits, lt}
use Rattle.sketches_c.specs.Floats.{is_nan, number_in}

-- the float of these bits
abbrev pub float_of : ℤ → Float
float_of (pos bits) = of_bits binary64 bits
float_of (negsuc rest) = of_bits binary64 (2 ^ 64 - 1 - rest)

abbrev pub IsOf64Bits : ℤ → Type 0
IsOf64Bits (pos bits) = bits < 2 ^ 63
IsOf64Bits (negsuc rest) = rest < 2 ^ 63

-- one float is below another, neither of which is a NaN, exactly if its number is below the other's
abbrev pub NumbersAreInOrder : Type 0
NumbersAreInOrder = (a b : ℤ) → IsOf64Bits a → IsOf64Bits b → is_nan a ≡ false → is_nan b ≡ false →
    lt (float_of a) (float_of b) ≡ int_lt (number_in a) (number_in b)
