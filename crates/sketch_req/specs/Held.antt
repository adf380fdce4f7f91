-- The model of a sketch's levels, and what is stored beside them.
use Rattle.std.specs.Prelude.{◌≡◌, ℕ, ◌<◌, List, length}
use Rattle.std.specs.declared.cmp.Ordering.{Ordering}
use Rattle.sketch_req.specs.Level.{Level}
use Rattle.sketch_req.specs.Schedule.{layouts_of, retained_of, nominal_sum}
use Rattle.sketch_req.specs.Walk.{AreLevels}
use Rattle.sketch_req.specs.declared.RankAccuracy.{RankAccuracy}

pub record Held (A : Type 0) : Type 0 where
  pub k : ℕ
  pub accuracy : RankAccuracy
  pub levels : List (Level A)

-- the fields as this model
abbrev pub held_of : {A : Type 0} → ℕ → RankAccuracy → List (Level A) → Held A
held_of k accuracy levels = record { k = k; accuracy = accuracy; levels = levels }

-- one or more levels, each at its place, and the sums over them
pub record IsHeld {A : Type 0} (cmp : A → A → Ordering) (num_retained capacity : ℕ) (held : Held A) : Type 0 where
  pub some : 0 < length held.levels
  pub placed : AreLevels cmp held.k held.accuracy 0 held.levels
  pub retained_is : num_retained ≡ retained_of (layouts_of held.levels)
  pub capacity_is : capacity ≡ nominal_sum held.k (layouts_of held.levels)
