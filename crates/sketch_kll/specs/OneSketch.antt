-- Under one word a call turns a sketch into only one sketch, up to items that compare equal.
use Rattle.std.specs.Prelude.{◌≡◌, ℕ, Bool, List, Option}
use Rattle.std.specs.declared.cmp.Ordering.{Ordering}
use Rattle.sketch_base.specs.Tied.{TiesSpellOne}
use Rattle.sketch_kll.specs.Copy.{IsCopy}
use Rattle.sketch_kll.specs.Merged.{IsMerged}
use Rattle.sketch_kll.specs.Sketch.{Kll, IsSound, IsUpdated}
use Rattle.sketch_kll.specs.Updates.{AreUpdated}
use Rattle.sketch_kll.specs.Weighted.{IsWeighted}
use Rattle.sketch_kll.specs.Written.{image_text}

-- an update
abbrev pub UpdatesMakeOne : {A : Type 0} → (A → A → Ordering) → Type 0
UpdatesMakeOne {A} cmp = (s : Kll A) (x : A) (word : List Bool) (t u : Kll A) → IsSound cmp t → IsSound cmp u →
    IsUpdated cmp s x word t → IsUpdated cmp s x word u → IsCopy cmp t u

-- updates by all items of a list
abbrev pub ListsMakeOne : {A : Type 0} → (A → A → Ordering) → Type 0
ListsMakeOne {A} cmp = (s : Kll A) (items : List A) (word : List Bool) (t u : Kll A) → IsSound cmp t → IsSound cmp u →
    AreUpdated cmp s items word t → AreUpdated cmp s items word u → IsCopy cmp t u

-- an update with a weight
abbrev pub WeightsMakeOne : {A : Type 0} → (A → A → Ordering) → Type 0
WeightsMakeOne {A} cmp = (s : Kll A) (x : A) (weight : ℕ) (word : List Bool) (t u : Kll A) → IsSound cmp t → IsSound cmp u →
    IsWeighted cmp s x weight word t → IsWeighted cmp s x weight word u → IsCopy cmp t u

-- a merge
abbrev pub MergesMakeOne : {A : Type 0} → (A → A → Ordering) → Type 0
MergesMakeOne {A} cmp = (s other : Kll A) (word : List Bool) (t u : Kll A) → IsSound cmp t → IsSound cmp u →
    IsMerged cmp s other word t → IsMerged cmp s other word u → IsCopy cmp t u

-- such sketches have the same image, byte for byte, if items that compare equal have one spelling
abbrev pub CopiesHaveOneImage : {A : Type 0} → (A → A → Ordering) → (A → Option (List ℕ)) → Type 0
CopiesHaveOneImage {A} cmp spelling = TiesSpellOne cmp spelling → (s t : Kll A) → IsCopy cmp s t → image_text spelling s ≡ image_text spelling t
