-- The model of a sketch's levels, and how they are stored.
use Rattle.std.specs.Prelude.{◌≡◌, ℕ, ◌<◌, ◌≤◌, ◌+◌, Bool, List, [], ◌∷◌, length, drop, vec_len, vec_capacity}
use Rattle.std.specs.declared.cmp.Ordering.{Ordering}
use Rattle.sketch_kll.specs.declared.levels.merging.Incoming.{Incoming}
use Rattle.sketch_kll.specs.Capacity.{total_of}
use Rattle.sketch_kll.specs.Flat.{marks, levels_in, IsFlat}
use Rattle.sketch_kll.specs.Levels.{retained_in, SameLevels, UpperSorted}

-- k, whether level 0 counts as sorted, the levels, and how many items and bounds there is room for
pub record Stored (A : Type 0) : Type 0 where
  pub k : ℕ
  pub is_sorted : Bool
  pub levels : List (List A)
  pub items_room : ℕ
  pub bounds_room : ℕ

-- the model of these fields
abbrev pub stored_of : {A : Type 0} → ℕ → Bool → List A → List ℕ → ℕ → ℕ → Stored A
stored_of k is_sorted items bounds items_room bounds_room =
    record { k = k; is_sorted = is_sorted; levels = levels_in items bounds; items_room = items_room; bounds_room = bounds_room }

-- the invariant of the fields, however full the levels are
pub record AreStored {A : Type 0} (cmp : A → A → Ordering) (k : ℕ) (items : List A) (bounds : List ℕ) (total_capacity : ℕ) : Type 0 where
  pub k_above : 8 ≤ k
  pub flat : IsFlat items bounds
  pub total_is : total_capacity ≡ total_of k 8 (length (levels_in items bounds))
  pub some : 0 < length (levels_in items bounds)
  pub few : length (levels_in items bounds) ≤ 61
  pub sorted : UpperSorted cmp (levels_in items bounds)

-- the same k, flag and levels, whatever room there is
pub record KeepsLevels {A : Type 0} (x y : Stored A) : Type 0 where
  pub k_is : y.k ≡ x.k
  pub flag_is : y.is_sorted ≡ x.is_sorted
  pub levels_are : y.levels ≡ x.levels

-- the same k and flag, and no less room
pub record KeepsRoom {A : Type 0} (x y : Stored A) : Type 0 where
  pub k_is : y.k ≡ x.k
  pub flag_is : y.is_sorted ≡ x.is_sorted
  pub items_room : x.items_room ≤ y.items_room
  pub bounds_room : x.bounds_room ≤ y.bounds_room

-- there is room for all bounds and for the incoming items of level 0, and `merged` is empty with room for all items together
pub record IsReady {A : Type 0} (x : Stored A) (y : Incoming A) : Type 0 where
  pub items_room : retained_in x.levels + vec_len y.low ≤ x.items_room
  pub bounds_room : 63 ≤ x.bounds_room
  pub merged_room : retained_in x.levels + vec_len y.low + vec_len y.upper ≤ vec_capacity y.merged
  pub merged_empty : y.merged.items ≡ []

-- clones of these levels: `low` holds those of level 0, and `upper` those of the levels above it, between the same bounds
pub record AreClones {A : Type 0} (cmp : A → A → Ordering) (ls : List (List A)) (y : Incoming A) : Type 0 where
  pub same : SameLevels cmp ls (y.low.items ∷ levels_in y.upper.items (drop 1 (marks ls)))
  pub flat : IsFlat y.upper.items (drop 1 (marks ls))
