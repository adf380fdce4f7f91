-- The sketches of both families behind one type, and what calls make of them.
use Rattle.std.specs.Prelude.{◌≡◌, ◌≢◌, ◌↔◌, ◌⊎◌, ◌<◌, ◌≤◌, ◌+◌, ◌-◌, ◌^◌, ℕ, ℤ, Bool, true, false, List, length}
use Rattle.std.specs.Ordering.{int_cmp}
use Rattle.sketch_base.specs.declared.error.ErrorKind.TheVariants.{InvalidArgument, OutOfMemory}
use Rattle.sketch_base.specs.Bag.{Bag, retained}
use Rattle.sketch_base.specs.Queried.{Queried}
use Rattle.sketch_base.specs.Random.{after_draws, bits_from, next_state, output_of, is_odd}
use Rattle.sketch_base.specs.Spelling.{i64_spelling}
use Rattle.sketch_kll.specs.Copy as kll_copy
use Rattle.sketch_kll.specs.Image.{IsImage}
use Rattle.sketch_kll.specs.ImageLaws as kll_laws
use Rattle.sketch_kll.specs.Merged as kll_merged
use Rattle.sketch_kll.specs.Sketch as kll
use Rattle.sketch_kll.specs.Updates as kll_updates
use Rattle.sketch_kll.specs.Weighted.{IsWeighted, coins_of_weighted}
use Rattle.sketch_kll.specs.Written as kll_written
use Rattle.sketch_req.specs.Actions as req_levels
use Rattle.sketch_req.specs.Image.{BeginsImage}
use Rattle.sketch_req.specs.Imaged.{IsSameSketch}
use Rattle.sketch_req.specs.Merged.{IsMergedRedrawn, coins_of_merge_redrawn}
use Rattle.sketch_req.specs.Redrawn.{coins_of_redraw, redrawn_sketch}
use Rattle.sketch_req.specs.Sketch as req
use Rattle.sketch_req.specs.Updates as req_updates
use Rattle.sketch_req.specs.Views as req_views
use Rattle.sketch_req.specs.Written as req_written
use Rattle.sketch_req.specs.declared.RankAccuracy.{RankAccuracy}
use Rattle.sketch_req.specs.declared.RankAccuracy.TheVariants.{HighRank, LowRank}
use Rattle.sketches_c.specs.Codes.{ok, code_of, other_kind}
use Rattle.sketches_c.specs.declared.sketch.Sketch.{Sketch}
use Rattle.sketches_c.specs.declared.sketch.Sketch.TheVariants.{Kll, Req}

abbrev pub n_of : Sketch → ℕ
n_of (Kll s) = s.n
n_of (Req s) = s.n

abbrev pub k_of : Sketch → ℕ
k_of (Kll s) = s.k
k_of (Req s) = s.k

abbrev pub bag_of : Sketch → Bag ℤ
bag_of (Kll s) = kll.bag_of s
bag_of (Req s) = req_levels.bag_of s.levels

-- what queries see of it
abbrev pub queried : Sketch → Queried ℤ
queried (Kll s) = kll.queried int_cmp s
queried (Req s) = req_views.queried int_cmp s

abbrev pub image_of : Sketch → List ℕ
image_of (Kll s) = kll_written.image_text i64_spelling s
image_of (Req s) = req_written.image_text i64_spelling s

-- the image is not too long
abbrev pub HasImage : Sketch → Type 0
HasImage (Kll s) = kll_laws.HasImage i64_spelling s
HasImage (Req s) = length (req_written.image_text i64_spelling s) < 2 ^ 64

abbrev pub is_req : Sketch → Bool
is_req (Kll s) = false
is_req (Req s) = true

abbrev keeps_high : RankAccuracy → Bool
keeps_high HighRank = true
keeps_high LowRank = false

-- whether high ranks are exact
abbrev pub is_high : Sketch → Bool
is_high (Kll s) = false
is_high (Req s) = keeps_high s.accuracy

abbrev pub accuracy_of : Bool → RankAccuracy
accuracy_of true = HighRank
accuracy_of false = LowRank

-- the sketch of this k and accuracy that took nothing
abbrev pub emptied : Sketch → Sketch
emptied (Kll s) = Kll (kll.empty_sketch s.k false)
emptied (Req s) = Req (req.empty_sketch s.k s.accuracy)

-- the same numbers, and items that compare equal
abbrev pub IsCopy : Sketch → Sketch → Type 0
IsCopy (Kll s) (Kll t) = kll_copy.IsCopy int_cmp s t
IsCopy (Req s) (Req t) = IsSameSketch int_cmp s t
IsCopy (Kll s) (Req t) = ⊥
IsCopy (Req s) (Kll t) = ⊥

-- the next coin of a source
abbrev pub coin : ℕ → Bool
coin s = is_odd (output_of (next_state s))

-- a call that draws a number of coins: what it makes of a sketch under them, and when it is refused; an error leaves the sketch and
-- the source of coins as they were
pub record IsChange {K : Type 0} (old new : K) (source after : ℕ) (answer : ℤ) (IsDone : List Bool → Type 0) (coins : ℕ) (IsUnfit IsFit : Type 0) : Type 0 where
  pub done : answer ≡ ok → IsDone (bits_from coin next_state source coins)
  pub drawn : answer ≡ ok → after ≡ after_draws next_state source coins
  pub unfit : answer ≡ code_of InvalidArgument ↔ IsUnfit
  pub memory : answer ≢ ok → IsFit → answer ≡ code_of OutOfMemory
  pub sketch_kept : answer ≢ ok → new ≡ old
  pub coins_kept : answer ≢ ok → after ≡ source

-- the same for a call that takes in another sketch of n items: of none it takes in nothing
pub record IsJoin {K : Type 0} (old new : K) (source after : ℕ) (answer : ℤ) (n : ℕ) (IsDone : List Bool → Type 0) (coins : ℕ) (IsUnfit IsFit : Type 0) : Type 0 where
  pub done : answer ≡ ok → 0 < n → IsDone (bits_from coin next_state source coins)
  pub drawn : answer ≡ ok → 0 < n → after ≡ after_draws next_state source coins
  pub unfit : answer ≡ code_of InvalidArgument ↔ IsUnfit
  pub memory : answer ≢ ok → IsFit → answer ≡ code_of OutOfMemory
  pub none : IsFit → n ≡ 0 → answer ≡ ok
  pub sketch_kept : (answer ≢ ok) ⊎ (n ≡ 0) → new ≡ old
  pub coins_kept : (answer ≢ ok) ⊎ (n ≡ 0) → after ≡ source

-- a sketch takes in x
abbrev pub IsUpdate : ℤ → ℤ → Sketch → ℕ → Sketch → ℕ → Type 0
IsUpdate x answer (Kll s) source (Kll t) after =
    IsChange s t source after answer (λ word. kll.IsUpdated int_cmp s x word t) (kll.coins_of_update s x)
    (s.n ≡ 2 ^ 64 - 1) (s.n < 2 ^ 64 - 1)
IsUpdate x answer (Req s) source (Req t) after =
    IsChange s t source after answer (λ word. req.IsUpdated int_cmp s x word t) (req.coins_of_update s x)
    ((s.n ≡ 2 ^ 64 - 1) ⊎ (retained (req_levels.bag_of s.levels) ≡ 4294967295)) ((s.n < 2 ^ 64 - 1) × (retained (req_levels.bag_of s.levels) < 4294967295))
IsUpdate x answer (Kll s) source (Req t) after = ⊥
IsUpdate x answer (Req s) source (Kll t) after = ⊥

-- a sketch takes no further items, this many
abbrev pub IsFullFor : ℕ → Sketch → Type 0
IsFullFor count (Kll s) = 2 ^ 64 ≤ s.n + count
IsFullFor count (Req s) = (2 ^ 64 ≤ s.n + count) ⊎ ((0 < count) × (retained (req_levels.bag_of s.levels) ≡ 4294967295))

-- a sketch takes in xs; where memory runs out, REQ may have drawn some of the coins
pub record AreReqUpdates (xs : List ℤ) (answer : ℤ) (old : req.Req ℤ) (source : ℕ) (new : req.Req ℤ) (after : ℕ) : Type 0 where
  pub done : answer ≡ ok → req_updates.AreUpdated int_cmp old xs (bits_from coin next_state source (req_updates.coins_of_updates old xs)) new
  pub drawn : answer ≡ ok → after ≡ after_draws next_state source (req_updates.coins_of_updates old xs)
  pub unfit : answer ≡ code_of InvalidArgument ↔ ((2 ^ 64 ≤ old.n + length xs) ⊎ ((0 < length xs) × (retained (req_levels.bag_of old.levels) ≡ 4294967295)))
  pub memory : answer ≢ ok → old.n + length xs < 2 ^ 64 → retained (req_levels.bag_of old.levels) < 4294967295 → answer ≡ code_of OutOfMemory
  pub sketch_kept : answer ≢ ok → new ≡ old
  pub coins_kept : answer ≡ code_of InvalidArgument → after ≡ source
  pub few_drawn : answer ≢ ok → req_updates.IsDrawnFrom next_state (req_updates.coins_of_updates old xs) source after

abbrev pub AreUpdates : List ℤ → ℤ → Sketch → ℕ → Sketch → ℕ → Type 0
AreUpdates xs answer (Kll s) source (Kll t) after =
    IsChange s t source after answer (λ word. kll_updates.AreUpdated int_cmp s xs word t) (kll_updates.coins_of_updates s xs)
    (2 ^ 64 ≤ s.n + length xs) (s.n + length xs < 2 ^ 64)
AreUpdates xs answer (Req s) source (Req t) after = AreReqUpdates xs answer s source t after
AreUpdates xs answer (Kll s) source (Req t) after = ⊥
AreUpdates xs answer (Req s) source (Kll t) after = ⊥

-- a KLL sketch takes in x with a weight; a REQ sketch takes no weights
abbrev pub IsWeightedUpdate : ℤ → ℕ → ℤ → Sketch → ℕ → Sketch → ℕ → Type 0
IsWeightedUpdate x weight answer (Kll s) source (Kll t) after =
    IsChange s t source after answer (λ word. IsWeighted int_cmp s x weight word t) (coins_of_weighted s x weight)
    ((weight ≡ 0) ⊎ (2 ^ 61 ≤ weight) ⊎ (2 ^ 64 ≤ s.n + weight)) ((0 < weight) × ((weight < 2 ^ 61) × (s.n + weight < 2 ^ 64)))
IsWeightedUpdate x weight answer (Req s) source t after = (answer ≡ other_kind) × ((t ≡ Req s) × (after ≡ source))
IsWeightedUpdate x weight answer (Kll s) source (Req t) after = ⊥

-- a sketch takes in what another of its family holds; REQ draws coins anew, so that ranks stay unbiased
abbrev pub IsMerge : Sketch → ℤ → Sketch → ℕ → Sketch → ℕ → Type 0
IsMerge (Kll o) answer (Kll s) source (Kll t) after =
    IsJoin s t source after answer o.n (λ word. kll_merged.IsMerged int_cmp s o word t) (kll_merged.coins_of_merge s o)
    (2 ^ 64 ≤ s.n + o.n) (s.n + o.n < 2 ^ 64)
IsMerge (Req o) answer (Req s) source (Req t) after =
    IsJoin s t source after answer o.n (λ word. IsMergedRedrawn int_cmp s o word t) (coins_of_merge_redrawn s o)
    ((s.accuracy ≢ o.accuracy) ⊎ ((2 ^ 64 ≤ s.n + o.n) ⊎ (2 ^ 32 ≤ retained (req_levels.bag_of s.levels) + retained (req_levels.bag_of o.levels))))
    ((s.accuracy ≡ o.accuracy) × ((s.n + o.n < 2 ^ 64) × (retained (req_levels.bag_of s.levels) + retained (req_levels.bag_of o.levels) < 2 ^ 32)))
IsMerge (Kll o) answer (Req s) source t after = (answer ≡ other_kind) × ((t ≡ Req s) × (after ≡ source))
IsMerge (Req o) answer (Kll s) source t after = (answer ≡ other_kind) × ((t ≡ Kll s) × (after ≡ source))
IsMerge (Kll o) answer (Kll s) source (Req t) after = ⊥
IsMerge (Req o) answer (Req s) source (Kll t) after = ⊥

-- bytes are the image of a REQ sketch, as long as its image would be written; its coins are drawn anew
pub record IsRedrawnOf (image : List ℕ) (seed : ℕ) (new : req.Req ℤ) (after : ℕ) : Type 0 where
  pub read : req.Req ℤ
  pub rest : List ℕ
  pub begins : BeginsImage int_cmp i64_spelling image read rest
  pub whole : length image ≡ length (req_written.image_text i64_spelling read)
  pub redrawn : new ≡ redrawn_sketch (bits_from coin next_state seed (coins_of_redraw read)) read
  pub drawn : after ≡ after_draws next_state seed (coins_of_redraw read)

-- the sketch and its source of coins that are made of an image and a seed
abbrev pub IsOfImage : List ℕ → ℕ → Sketch → ℕ → Type 0
IsOfImage image seed (Kll s) after = (IsImage int_cmp i64_spelling image s) × (after ≡ seed)
IsOfImage image seed (Req s) after = IsRedrawnOf image seed s after

-- the bytes are the image of no sketch of this family
unfoldable pub IsOfNoImage : Bool → List ℕ → ℕ → Type 0
IsOfNoImage req image seed = (s : Sketch) (after : ℕ) → is_req s ≡ req → ¬ (IsOfImage image seed s after)
