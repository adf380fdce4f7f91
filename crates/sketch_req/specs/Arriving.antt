-- What comes into a level, and the room that it needs.
use Rattle.std.specs.Prelude.{◌≡◌, ℕ, ◌+◌, ◌<◌, ◌≤◌, List, [], length, Vec, vec_capacity}
use Rattle.std.specs.declared.cmp.Ordering.{Ordering}
use Rattle.sketch_base.specs.Bag.{SameItems}
use Rattle.sketch_req.specs.declared.compactor.Arrivals.{Arrivals}

-- an empty vector with space for a level's own items and for some more
pub record HasRoom {A Z : Type 0} (own more : ℕ) (room : Vec A Z) : Type 0 where
  pub empty : room.items ≡ []
  pub space : own + more ≤ vec_capacity room

-- clones of items, which come into a level with `own` items
pub record AreClones {A : Type 0} (cmp : A → A → Ordering) (own : ℕ) (items : List A) (arrivals : Arrivals A) : Type 0 where
  pub same : SameItems cmp items arrivals.items.items
  pub count : length arrivals.items.items ≡ length items
  pub room : HasRoom own (length arrivals.items.items) arrivals.room

-- room for `up` items that come into a level with `own` items
pub record CanArrive {A : Type 0} (own up : ℕ) (arrivals : Arrivals A) : Type 0 where
  pub empty : arrivals.items.items ≡ []
  pub space : up ≤ vec_capacity arrivals.items
  pub room : 0 < up → HasRoom own up arrivals.room
