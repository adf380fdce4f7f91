-- A sketch after updates by some items in turn.
use Rattle.std.specs.Prelude.{◌≡◌, ◌↔◌, ℕ, ◌+◌, ◌<◌, ◌==◌, ◌&&◌, Bool, List, [], ◌∷◌, ◌++◌, drop, length}
use Rattle.std.specs.Option.{option_to_list}
use Rattle.std.specs.declared.cmp.Ordering.{Ordering}
use Rattle.sketch_base.specs.Bag.{AlikeKll}
use Rattle.sketch_base.specs.Extremes.{IsLeastOf, IsGreatestOf}
use Rattle.sketch_base.specs.Lengths.{bag_lengths}
use Rattle.sketch_base.specs.Trace.{Action, bag_after, draws_of}
use Rattle.sketch_kll.specs.Schedule.{updates_actions}
use Rattle.sketch_kll.specs.Sketch.{Kll, IsUpdated, bag_of}

-- the actions of updates of a sketch by some items in turn
abbrev pub updates_by : {A : Type 0} → Kll A → List A → List (Action A)
updates_by s items = updates_actions s.k (bag_lengths (bag_of s)) items

-- how many coins they take
abbrev pub coins_of_updates : {A : Type 0} → Kll A → List A → ℕ
coins_of_updates s items = draws_of (updates_by s items)

-- a sketch after accepted updates by all items in turn under a word of coins
pub record AreUpdated {A : Type 0} (cmp : A → A → Ordering) (s : Kll A) (items : List A) (word : List Bool) (t : Kll A) : Type 0 where
  pub k : t.k ≡ s.k
  pub min_k : t.min_k ≡ s.min_k
  pub n : t.n ≡ s.n + length items
  pub is_sorted : t.is_sorted ≡ (s.is_sorted && length items == 0)
  pub bag : AlikeKll cmp (bag_after cmp (updates_by s items) word (bag_of s)) (bag_of t)
  pub least : IsLeastOf cmp (option_to_list s.least ++ items) t.least
  pub greatest : IsGreatestOf cmp (option_to_list s.greatest ++ items) t.greatest

-- updates by a list of one item are that item's update
abbrev pub OneUpdates : {A : Type 0} → (A → A → Ordering) → Type 0
OneUpdates {A} cmp = (s : Kll A) (x : A) (word : List Bool) (t : Kll A) → AreUpdated cmp s (x ∷ []) word t ↔ IsUpdated cmp s x word t

-- updates by some items, and then by more under the coins that are left, are updates by all of them
abbrev pub UpdatesGoOn : {A : Type 0} → (A → A → Ordering) → Type 0
UpdatesGoOn {A} cmp = (s t u : Kll A) (items more : List A) (word : List Bool) → 0 < length s.levels → AreUpdated cmp s items word t →
    AreUpdated cmp t more (drop (coins_of_updates s items) word) u → AreUpdated cmp s (items ++ more) word u
