-- Items that compare equal have one spelling.
use Rattle.std.specs.Prelude.{◌≡◌, ℕ, List, Option}
use Rattle.std.specs.declared.cmp.Ordering.{Ordering}
use Rattle.std.specs.declared.cmp.Ordering.TheVariants.{Equal}

-- as texts and whole numbers have; the converse is `SpellingsTie`
abbrev pub TiesSpellOne : {A : Type 0} → (A → A → Ordering) → (A → Option (List ℕ)) → Type 0
TiesSpellOne {A} cmp spelling = (x y : A) → cmp x y ≡ Equal → spelling x ≡ spelling y
