-- A sketch as queries see it, and seen as a view.
use Rattle.std.specs.declared.cmp.Ordering.{Ordering}
use Rattle.sketch_base.specs.Bag.{expanded, retained}
use Rattle.sketch_base.specs.Queried.{Queried}
use Rattle.sketch_base.specs.Views.{View}
use Rattle.sketch_req.specs.Actions.{bag_of}
use Rattle.sketch_req.specs.Sketch.{Req}

-- what queries see of it
abbrev pub queried : {A : Type 0} → (A → A → Ordering) → Req A → Queried A
queried cmp s = record { cmp = cmp; n = s.n; entries = expanded cmp (bag_of s.levels); least = s.least; greatest = s.greatest }

-- the view whose entries are the expanded list itself
abbrev pub view_of : {A : Type 0} → (A → A → Ordering) → Req A → View A
view_of cmp s = record { entries = expanded cmp (bag_of s.levels); held = retained (bag_of s.levels); least = s.least; greatest = s.greatest }
