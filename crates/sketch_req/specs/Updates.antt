-- A sketch after updates by some items in turn.
use Rattle.std.specs.Prelude.{◌≡◌, ℕ, ◌+◌, ◌<◌, ◌≤◌, Bool, List, [], ◌∷◌, ◌++◌, drop, length}
use Rattle.std.specs.List.{AllZip}
use Rattle.std.specs.Option.{option_to_list}
use Rattle.std.specs.declared.cmp.Ordering.{Ordering}
use Rattle.std.specs.declared.cmp.Ordering.TheVariants.{Equal}
use Rattle.sketch_base.specs.Bag.{AlikeReq}
use Rattle.sketch_base.specs.Extremes.{IsLeastOf, IsGreatestOf}
use Rattle.sketch_base.specs.Random.{after_draws}
use Rattle.sketch_base.specs.Trace.{Action, bag_after, draws_of}
use Rattle.sketch_req.specs.Actions.{bag_of}
use Rattle.sketch_req.specs.Imaged.{IsSameLevel, IsSameSketch}
use Rattle.sketch_req.specs.Level.{Level}
use Rattle.sketch_req.specs.Schedule.{layouts_of, retained_of, weight_of}
use Rattle.sketch_req.specs.ScheduleLaws.{updates_actions, updates_layouts}
use Rattle.sketch_req.specs.Sketch.{Req, IsSound, IsUpdated, coins_of_update}
use Rattle.sketch_req.specs.Walk.{AreWalkedIfFull, appended_first}
use Rattle.sketch_req.specs.declared.RankAccuracy.{RankAccuracy}

-- the actions of updates of a sketch by some items in turn
abbrev pub updates_by : {A : Type 0} → Req A → List A → List (Action A)
updates_by s items = updates_actions s.k s.accuracy (layouts_of s.levels) items

-- how many coins they take
abbrev pub coins_of_updates : {A : Type 0} → Req A → List A → ℕ
coins_of_updates s items = draws_of (updates_by s items)

-- a copy of the sketch took in a clone of the item by an accepted update, and `Rest` holds for the resulting sketch
pub record IsUpdatedFirst {A : Type 0} (cmp : A → A → Ordering) (s : Req A) (x : A) (word : List Bool) (Rest : Req A → Type 0) : Type 0 where
  pub copy : Req A
  pub clone : A
  pub is_copy : IsSameSketch cmp s copy
  pub is_clone : cmp x clone ≡ Equal
  pub after : Req A
  pub updated : IsUpdated cmp copy clone word after
  pub sound : IsSound cmp after
  pub rest : Rest after

-- a sketch after one update after another, up to copies of the sketches and clones of the items;
-- so this gives its levels in list order too
abbrev pub AreUpdatedInTurn : {A : Type 0} → (A → A → Ordering) → Req A → List A → List Bool → Req A → Type 0
AreUpdatedInTurn cmp s [] word t = IsSameSketch cmp s t
AreUpdatedInTurn cmp s (x ∷ xs) word t = IsUpdatedFirst cmp s x word (λ after. AreUpdatedInTurn cmp after xs (drop (coins_of_update s x) word) t)

-- a sketch after accepted updates by all items in turn under a word of coins
pub record AreUpdated {A : Type 0} (cmp : A → A → Ordering) (s : Req A) (items : List A) (word : List Bool) (t : Req A) : Type 0 where
  pub k : t.k ≡ s.k
  pub accuracy : t.accuracy ≡ s.accuracy
  pub n : t.n ≡ s.n + length items
  pub bag : AlikeReq cmp (bag_after cmp (updates_by s items) word (bag_of s.levels)) (bag_of t.levels)
  pub layouts : layouts_of t.levels ≡ updates_layouts s.k (layouts_of s.levels) items
  pub in_turn : AreUpdatedInTurn cmp s items word t
  pub least : IsLeastOf cmp (option_to_list s.least ++ items) t.least
  pub greatest : IsGreatestOf cmp (option_to_list s.greatest ++ items) t.greatest

-- an update is updates by its one item
abbrev pub OneUpdates : {A : Type 0} → (A → A → Ordering) → Type 0
OneUpdates {A} cmp = (s : Req A) (x : A) (word : List Bool) (t : Req A) → IsSound cmp t → IsUpdated cmp s x word t → AreUpdated cmp s (x ∷ []) word t

-- updates by some items, and then by more under the coins that are left, are updates by all of them
abbrev pub UpdatesGoOn : {A : Type 0} → (A → A → Ordering) → Type 0
UpdatesGoOn {A} cmp = (s t u : Req A) (items more : List A) (word : List Bool) → AreUpdated cmp s items word t →
    AreUpdated cmp t more (drop (coins_of_updates s items) word) u → AreUpdated cmp s (items ++ more) word u

-- a source of coins after a number of draws, which is at most `most`
pub record IsDrawnFrom {S : Type 0} (next : S → S) (most : ℕ) (source after : S) : Type 0 where
  pub count : ℕ
  pub few : count ≤ most
  pub after_is : after ≡ after_draws next source count

-- ---- what happens to the levels

-- after items came in: the weight is greater by their number, the layouts and the coins are as updates by them leave them,
-- and fewer items are retained than a level may hold
pub record AreLeft {A S : Type 0} (next : S → S) (source after : S) (k : ℕ) (accuracy : RankAccuracy) (ls : List (Level A)) (items : List A) (ns : List (Level A)) : Type 0 where
  pub weigh : weight_of (layouts_of ns) ≡ weight_of (layouts_of ls) + length items
  pub few : retained_of (layouts_of ns) < 4294967295
  pub layouts : layouts_of ns ≡ updates_layouts k (layouts_of ls) items
  pub source_is : after ≡ after_draws next source (draws_of (updates_actions k accuracy (layouts_of ls) items))

module _ {A S : Type 0} (cmp : A → A → Ordering) (bit : S → Bool) (next : S → S) where
  -- a clone of an item came into the levels, with a walk if they were then full, and `Rest` holds for the result
  pub record IsTakenFirst (source : S) (k : ℕ) (accuracy : RankAccuracy) (ls : List (Level A)) (x : A) (Rest : S → List (Level A) → Type 0) : Type 0 where
    pub clone : A
    pub is_clone : cmp x clone ≡ Equal
    pub after : S
    pub levels : List (Level A)
    pub walked : AreWalkedIfFull cmp bit next source after k accuracy (appended_first ls clone) levels
    pub rest : Rest after levels

  -- levels into which clones of all items came in turn
  abbrev pub AreTakenInTurn : (source after : S) → ℕ → RankAccuracy → List (Level A) → List A → List (Level A) → Type 0
  AreTakenInTurn source after k accuracy ls [] ns = (ns ≡ ls) × (after ≡ source)
  AreTakenInTurn source after k accuracy ls (x ∷ xs) ns = IsTakenFirst source k accuracy ls x (λ middle levels. AreTakenInTurn middle after k accuracy levels xs ns)

  -- copies of levels into which these clones came
  pub record AreAllTaken (source after : S) (k : ℕ) (accuracy : RankAccuracy) (ls : List (Level A)) (items : List A) (ns : List (Level A)) : Type 0 where
    pub copies : List (Level A)
    pub are_copies : AllZip (IsSameLevel cmp) ls copies
    pub taken : AreTakenInTurn source after k accuracy copies items ns
