-- Groups after another group was merged into that of its key.
use Rattle.std.specs.Prelude.{◌≡◌, ℕ, ◌+◌, ◌<◌, ◌==◌, Bool, false, List, MatchOption, Some, if◌then◌else◌, take}
use Rattle.std.specs.List.{position_or_len}
use Rattle.std.specs.Ordering.{int_cmp}
use Rattle.sketch_kll.specs.Merged as kll_merges
use Rattle.sketch_req.specs.Merged as req_merges
use Rattle.sketch_req.specs.Redrawn.{redrawn_sketch}
use Rattle.log_groups.specs.Fed.{n_of}
use Rattle.log_groups.specs.Found.{same_key, group_of, total_of}
use Rattle.log_groups.specs.declared.groups.Group.{Group}
use Rattle.log_groups.specs.declared.groups.Groups.{Groups}
use Rattle.log_groups.specs.declared.groups.Joined.{Joined}
use Rattle.log_groups.specs.declared.groups.Joined.TheVariants.{Taken, OtherAccuracy, Refused}
use Rattle.log_groups.specs.declared.sketch.Sketch.{Sketch}
use Rattle.log_groups.specs.declared.sketch.Sketch.TheVariants.{Req, Kll}

-- a sketch after another one was merged into it, under some word of coins; one without numbers changes nothing
abbrev pub Merges : Sketch → Sketch → Sketch → Type 0
Merges (Req s) (Req o) (Req t) = (o.n ≡ 0 → t ≡ s) × (0 < o.n → (word : List Bool) × req_merges.IsMergedRedrawn int_cmp s o word t)
Merges (Kll s) (Kll o) (Kll t) = (o.n ≡ 0 → t ≡ s) × (0 < o.n → (word : List Bool) × kll_merges.IsMerged int_cmp s o word t)
Merges (Req s) (Req o) (Kll t) = ⊥
Merges (Kll s) (Kll o) (Req t) = ⊥
Merges (Req s) (Kll o) t = ⊥
Merges (Kll s) (Req o) t = ⊥

-- a sketch after the coins that an image doesn't hold were drawn
abbrev pub Redraws : Sketch → Sketch → Type 0
Redraws (Req s) (Req t) = (word : List Bool) × (t ≡ redrawn_sketch word s)
Redraws (Kll s) (Kll t) = t ≡ s
Redraws (Req s) (Kll t) = ⊥
Redraws (Kll s) (Req t) = ⊥

-- a group was merged into that of the key, or stands there as a new one; all others are as before
pub record IsJoined (old : Groups) (key : List ℕ) (coming : Group) (new : Groups) : Type 0 where
  pub group : Group
  pub joined : MatchOption (group_of old key) (Redraws coming.sketch group.sketch) (λ g. Merges g.sketch coming.sketch group.sketch)
  pub groups : (q : List ℕ) → group_of new q ≡ (if same_key key q then Some group else group_of old q)
  pub total : total_of new ≡ total_of old + n_of coming.sketch

-- what holds if a group was taken, and what if it was refused
abbrev pub IfTaken : Type 0 → Type 0 → Joined → Type 0
IfTaken P Q Taken = P
IfTaken P Q OtherAccuracy = P
IfTaken P Q (Refused why) = Q

-- the image of a line was merged into the group of its key, which without escapes is what stands before the first tab
abbrev pub IsLineJoined : Bool → Groups → List ℕ → Groups → Type 0
IsLineJoined escapes old line new = (key : List ℕ) × (coming : Group) × (escapes ≡ false → key ≡ take (position_or_len (λ c. c == 9) line) line) × IsJoined old key coming new
