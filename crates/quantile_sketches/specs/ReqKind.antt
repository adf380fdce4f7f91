-- What is looked at in a REQ sketch.
use Rattle.std.specs.Prelude.{◌≡◌, ℕ, ◌^◌, ◌<◌, ◌≤◌, List, length, Option}
use Rattle.std.specs.declared.cmp.Ordering.{Ordering}
use Rattle.sketch_base.specs.Bag.{AlikeReq}
use Rattle.sketch_base.specs.Lengths.{LeavesTail}
use Rattle.sketch_base.specs.Spelling.{AllSpelled}
use Rattle.sketch_base.specs.Trace.{Event, World}
use Rattle.sketch_req.specs.Actions.{bag_of}
use Rattle.sketch_req.specs.Schedule.{counts_of, layouts_of, retained_of, weight_of}
use Rattle.sketch_req.specs.ScheduleLaws.{AreLayouts, UpperHoldTwo}
use Rattle.sketch_req.specs.Sections.{IsLegalK}
use Rattle.sketch_req.specs.Sketch.{Req, IsSound}
use Rattle.sketch_req.specs.Written.{image_text, written_items}
use Rattle.sketch_req.specs.declared.RankAccuracy.{RankAccuracy}
use Rattle.quantile_sketches.specs.ReqRules.{ReqShape, req_rules}
use Rattle.quantile_sketches.specs.Rules.{Look, Kind}

abbrev pub req_shape : {A : Type 0} → Req A → ReqShape
req_shape s = record { k = s.k; accuracy = s.accuracy; n = s.n; layouts = layouts_of s.levels }

-- the invariant of a sketch's shape, and its level lengths
pub record FitsReq (s : ReqShape) (lengths : List ℕ) : Type 0 where
  pub lengths_are : lengths ≡ counts_of s.layouts
  pub legal : IsLegalK s.k
  pub are : AreLayouts s.k s.layouts
  pub two : UpperHoldTwo s.layouts
  pub weighs : weight_of s.layouts ≡ s.n
  pub fits : s.n < 2 ^ 64
  pub few : length s.layouts ≤ 64
  pub retained : retained_of s.layouts ≤ 4294967295

-- a compaction takes an even number of at least 4 items of its level
abbrev pub MeetsReq : {A : Type 0} → Event A → World (List ℕ) → Type 0
MeetsReq = LeavesTail (λ slot. 0)

-- the items that are written have spellings, and the image is short enough to be written
abbrev pub HasImage : {A : Type 0} → (A → Option (List ℕ)) → Req A → Type 0
HasImage spelling s = AllSpelled spelling (written_items s) × (length (image_text spelling s) < 2 ^ 64)

-- a REQ sketch under an order and a codec of its items
abbrev pub req_look : {A : Type 0} → (A → A → Ordering) → Look A (ℕ × RankAccuracy) ReqShape (Req A)
req_look cmp = record {
  rules = req_rules;
  cmp = cmp;
  shape = req_shape;
  bag = λ s. bag_of s.levels;
  least = λ s. s.least;
  greatest = λ s. s.greatest;
  IsAlike = AlikeReq cmp;
}

-- the same under a codec of the items
abbrev pub req_kind : {A : Type 0} → (A → A → Ordering) → (A → Option (List ℕ)) → Kind A (ℕ × RankAccuracy) ReqShape (Req A)
req_kind cmp spelling = record {
  look = req_look cmp;
  IsSound = IsSound cmp;
  HasImage = HasImage spelling;
  Meets = MeetsReq;
  Fits = FitsReq;
}
