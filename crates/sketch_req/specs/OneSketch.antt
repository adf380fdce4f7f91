-- Under one word a call makes only one sketch of a sketch, up to items that compare equal.
use Rattle.std.specs.Prelude.{◌≡◌, ℕ, Bool, List, Option}
use Rattle.std.specs.declared.cmp.Ordering.{Ordering}
use Rattle.sketch_base.specs.Tied.{TiesSpellOne}
use Rattle.sketch_req.specs.Imaged.{IsSameSketch}
use Rattle.sketch_req.specs.Merged.{IsMergedBy}
use Rattle.sketch_req.specs.Sketch.{Req, IsSound, IsUpdated}
use Rattle.sketch_req.specs.Updates.{AreUpdated}
use Rattle.sketch_req.specs.Written.{image_text}

-- an update
abbrev pub UpdatesMakeOne : {A : Type 0} → (A → A → Ordering) → Type 0
UpdatesMakeOne {A} cmp = (s : Req A) (x : A) (word : List Bool) (t u : Req A) → IsSound cmp t → IsSound cmp u →
    IsUpdated cmp s x word t → IsUpdated cmp s x word u → IsSameSketch cmp t u

-- updates by all items of a list
abbrev pub ListsMakeOne : {A : Type 0} → (A → A → Ordering) → Type 0
ListsMakeOne {A} cmp = (s : Req A) (items : List A) (word : List Bool) (t u : Req A) → AreUpdated cmp s items word t → AreUpdated cmp s items word u → IsSameSketch cmp t u

-- a merge of either kind
abbrev pub MergesMakeOne : {A : Type 0} → (A → A → Ordering) → Type 0
MergesMakeOne {A} cmp = (redraws : Bool) (s other : Req A) (word : List Bool) (t u : Req A) → IsSound cmp t → IsSound cmp u →
    IsMergedBy cmp redraws s other word t → IsMergedBy cmp redraws s other word u → IsSameSketch cmp t u

-- such sketches have the same image, byte for byte, if items that compare equal have one spelling
abbrev pub SameSketchesHaveOneImage : {A : Type 0} → (A → A → Ordering) → (A → Option (List ℕ)) → Type 0
SameSketchesHaveOneImage {A} cmp spelling = TiesSpellOne cmp spelling → (s t : Req A) → IsSameSketch cmp s t → image_text spelling s ≡ image_text spelling t
