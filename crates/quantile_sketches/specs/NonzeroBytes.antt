-- The codec of the tests: a byte is its own spelling, and 0 has none.
use Rattle.std.proofs.Common.{◌≡◌, ℕ, ◌≤◌, ◌==◌, not, if◌then◌else◌, List, [], ◌∷◌, length, Option, Some, None, unwrap_or, arith}
use Rattle.std.specs.Prelude.{IsSome}
use Rattle.sketch_base.specs.SizedSpellings.{sized_prefix_free, if_length}
use Rattle.sketch_base.specs.Spelling.{Begins}

abbrev pub spelling_of : ℕ → Option (List ℕ)
spelling_of byte = if not (byte == 0) then Some (byte ∷ []) else None

one-byte : (byte : ℕ) → IsSome (spelling_of byte) → length (unwrap_or (spelling_of byte) []) ≡ 1
one-byte byte = if_length (not (byte == 0)) (byte ∷ [])

pub is_prefix_free_by : {A : Type 0} (byte : A → ℕ) (x y : A) (text rest others : List ℕ) → Begins (λ a. spelling_of (byte a)) text x rest →
    Begins (λ a. spelling_of (byte a)) text y others → spelling_of (byte x) ≡ spelling_of (byte y)
is_prefix_free_by byte = sized_prefix_free (λ a. spelling_of (byte a)) 1 (λ a. one-byte (byte a))

pub is_long : (byte : ℕ) → IsSome (spelling_of byte) → 1 ≤ length (unwrap_or (spelling_of byte) [])
is_long byte p = let h = one-byte byte p in omega (arith, h)
