-- The eight bytes before an image, which say what it is of.
use Rattle.std.specs.Prelude.{◌≡◌, ℕ, Bool, false, if◌then◌else◌, List, [], ◌∷◌, ◌++◌, ◌⊎◌}

-- 'MZQS', the version 1, the family (1 for KLL, 2 for REQ), the kind of the items (1 for floats), 0
abbrev pub frame : Bool → Bool → List ℕ
frame req floats = 77 ∷ 90 ∷ 81 ∷ 83 ∷ 1 ∷ (if req then 2 else 1) ∷ (if floats then 1 else 0) ∷ 0 ∷ []

-- the bytes that are written for an image
abbrev pub text_of : Bool → Bool → Bool → List ℕ → List ℕ
text_of plain req floats image = if plain then image else frame req floats ++ image

-- the bytes begin as a frame does
abbrev pub IsMarked : List ℕ → Type 0
IsMarked text = (rest : List ℕ) × (text ≡ 77 ∷ 90 ∷ 81 ∷ 83 ∷ rest)

-- the bytes hold the image, in a frame or plain; plain items are whole numbers
abbrev pub Holds : Bool → List ℕ → List ℕ → Bool → Type 0
Holds req text image floats = (text ≡ frame req floats ++ image) ⊎ ((text ≡ image) × (floats ≡ false))
