-- Items with weights, and the list that they stand for.
use Rattle.std.specs.Prelude.{◌≡◌, ℕ, ◌+◌, Bool, true, false, not, ◌||◌, if◌then◌else◌, List, [], ◌∷◌, replicate, flat_map, Option, None}
use Rattle.std.specs.List.{AllZip}
use Rattle.std.specs.Ordering.{is_eq, is_lt}
use Rattle.std.specs.declared.cmp.Ordering.{Ordering}
use Rattle.std.specs.declared.cmp.Ordering.TheVariants.{Equal}

-- each item repeated by its weight
abbrev pub copies : {A : Type 0} → List (A × ℕ) → List A
copies pairs = flat_map (λ pair. replicate pair.1 pair.0) pairs

-- whether a list begins with an item that compares equal to x
abbrev pub begins_equal : {A : Type 0} → (A → A → Ordering) → A → List A → Bool
begins_equal cmp x [] = false
begins_equal cmp x (y ∷ ys) = is_eq (cmp x y)

-- the number of distinct items of a sorted list: those that differ from the one after them
abbrev pub distinct : {A : Type 0} → (A → A → Ordering) → List A → ℕ
distinct cmp [] = 0
distinct cmp (x ∷ xs) = (if begins_equal cmp x xs then 0 else 1) + distinct cmp xs

-- the stream's extreme if there are items, else None
abbrev pub extreme_among : {A B : Type 0} → List B → Option A → Option A
extreme_among [] extreme = None
extreme_among (x ∷ xs) extreme = extreme

-- whether x is kept before these sorted weighted items: where equal items are joined, the first of them must be above it
abbrev pub is_kept : {A : Type 0} → (A → A → Ordering) → (joins : Bool) → A → List (A × ℕ) → Bool
is_kept cmp joins x [] = true
is_kept cmp joins x (pair ∷ pairs) = not joins || is_lt (cmp x pair.0)

-- sorted weighted items without their weights, all or the last of each group whose items compare equal
abbrev pub kept_items : {A : Type 0} → (A → A → Ordering) → (joins : Bool) → List (A × ℕ) → List A
kept_items cmp joins [] = []
kept_items cmp joins (pair ∷ pairs) = if is_kept cmp joins pair.0 pairs then pair.0 ∷ kept_items cmp joins pairs else kept_items cmp joins pairs

-- the weight up to each of them, plus the weight before the list
abbrev pub kept_weights : {A : Type 0} → (A → A → Ordering) → (joins : Bool) → ℕ → List (A × ℕ) → List ℕ
kept_weights cmp joins before [] = []
kept_weights cmp joins before (pair ∷ pairs) =
    if is_kept cmp joins pair.0 pairs then (before + pair.1) ∷ kept_weights cmp joins (before + pair.1) pairs
    else kept_weights cmp joins (before + pair.1) pairs

-- pairs of equal weight whose items compare equal, place by place
abbrev pub SamePairs : {A : Type 0} → (A → A → Ordering) → List (A × ℕ) → List (A × ℕ) → Type 0
SamePairs cmp = AllZip (λ p q. (cmp p.0 q.0 ≡ Equal) × (q.1 ≡ p.1))
