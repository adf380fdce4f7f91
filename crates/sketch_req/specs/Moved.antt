-- Which levels a call's compactions move. The others stay as they are, in list order.
use Rattle.std.specs.Prelude.{◌≡◌, ℕ, suc, ◌<◌, ◌≤◌, ◌==◌, ◌||◌, max, Bool, true, false, List, [], ◌∷◌, length, slice_index_or}
use Rattle.std.specs.declared.cmp.Ordering.{Ordering}
use Rattle.sketch_base.specs.Trace.{Action, Put, Pull, Join, Compact, Forget, Redraw, Clear}
use Rattle.sketch_req.specs.Level.{Level, fresh, IsLevelMerged}
use Rattle.sketch_req.specs.declared.RankAccuracy.{RankAccuracy}

-- whether an action compacts level h, or the one below into it
abbrev pub moves : {A : Type 0} → ℕ → Action A → Bool
moves h (Compact i coin part) = (h == i) || (h == suc i)
moves h (Put i x) = false
moves h Pull = false
moves h (Join i) = false
moves h Forget = false
moves h (Redraw i) = false
moves h Clear = false

abbrev pub is_moved : {A : Type 0} → List (Action A) → ℕ → Bool
is_moved [] h = false
is_moved (action ∷ rest) h = moves h action || is_moved rest h

-- levels after some compactions: a level that none of them moves is unchanged, and each other level counts as sorted
pub record AreMoved {A : Type 0} (actions : List (Action A)) (ls ns : List (Level A)) : Type 0 where
  pub stays : (h : ℕ) (none : Level A) → is_moved actions h ≡ false → slice_index_or ns h none ≡ slice_index_or ls h none
  pub sorted : (h : ℕ) (none : Level A) → is_moved actions h ≡ true → (slice_index_or ns h none).is_sorted ≡ true

-- level h, or a fresh one if there is none
abbrev pub level_or_fresh : {A : Type 0} → ℕ → RankAccuracy → List (Level A) → ℕ → Level A
level_or_fresh k accuracy levels h = slice_index_or levels h (fresh [] true h k accuracy)

-- level h after the other sketch's level at the same place was merged in, if there is one
pub record IsMergedIn {A : Type 0} (cmp : A → A → Ordering) (k : ℕ) (accuracy : RankAccuracy) (h : ℕ) (ls others : List (Level A)) (m : Level A) : Type 0 where
  pub merged : (none : Level A) → h < length others → IsLevelMerged cmp (level_or_fresh k accuracy ls h) (slice_index_or others h none) m
  pub kept : length others ≤ h → m ≡ level_or_fresh k accuracy ls h

-- each level is merged in; the number of levels is the greater of the two sketches' numbers
pub record AreMergedIn {A : Type 0} (cmp : A → A → Ordering) (k : ℕ) (accuracy : RankAccuracy) (ls others ms : List (Level A)) : Type 0 where
  pub count : length ms ≡ max (length ls) (length others)
  pub each : (h : ℕ) (none : Level A) → h < length ms → IsMergedIn cmp k accuracy h ls others (slice_index_or ms h none)
