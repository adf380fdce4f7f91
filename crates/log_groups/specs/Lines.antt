-- What is taken line by line.
use Rattle.std.specs.Prelude.{◌≡◌, ℕ, ◌⊎◌, List, [], ◌∷◌, ◌++◌, Option}
use Rattle.sketch_base.specs.TextLines.{TakesLine}

-- lines were taken one after another
abbrev pub AllTaken : {S : Type 0} → (S → List ℕ → S → Type 0) → S → List (List ℕ) → S → Type 0
AllTaken takes s [] t = t ≡ s
AllTaken {S} takes s (l ∷ ls) t = (next : S) × takes s l next × AllTaken takes next ls t

-- some first lines were taken, and then maybe one that failed
abbrev pub FirstTaken : {S : Type 0} → (S → List ℕ → S → Type 0) → (S → S → Type 0) → S → List (List ℕ) → S → Type 0
FirstTaken {S} takes leaves s ls t = (front behind : List (List ℕ)) × (last : S) × (ls ≡ front ++ behind) × AllTaken takes s front last × ((t ≡ last) ⊎ leaves last t)

-- the next line was taken from what is left to read
abbrev pub NextTaken : {S : Type 0} → (S → List ℕ → S → Type 0) → Option (List ℕ) → Option (List ℕ) → S → S → Type 0
NextTaken takes left left' old new = (line : List ℕ) × TakesLine left line left' × takes old line new
