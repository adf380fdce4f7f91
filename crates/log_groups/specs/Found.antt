-- The group of a key, and the groups after one more number.
use Rattle.std.specs.Prelude.{◌≡◌, ℕ, ℤ, ◌+◌, Bool, nat_eq, List, Option, Some, if◌then◌else◌, sum_by}
use Rattle.std.specs.Cmp.Lexicographic.{pointwise}
use Rattle.std.specs.HashMap.{get_by, values}
use Rattle.std.specs.Option.{option_map_or}
use Rattle.log_groups.specs.Fed.{Takes, empty_of, n_of}
use Rattle.std.specs.declared.alloc.Global.{Global}
use Rattle.std.specs.declared.vec.Vec.{Vec}
use Rattle.indexmap.specs.IndexMap.{insert_entry}
use Rattle.log_groups.specs.declared.groups.Group.{Group}
use Rattle.log_groups.specs.declared.groups.Groups.{Groups}
use Rattle.log_groups.specs.declared.sketch.Kind.{Kind}
use Rattle.log_groups.specs.declared.sketch.Sketch.{Sketch}

-- two keys are the same bytes
abbrev pub same_key : List ℕ → List ℕ → Bool
same_key xs ys = pointwise nat_eq xs ys

-- the group of a key
abbrev pub group_of : Groups → List ℕ → Option Group
group_of groups key = get_by (λ k. same_key key k.items) groups.groups

-- the sketch of a key; without a group that is an empty sketch of the kind
abbrev pub sketch_of : Kind → Option Group → Sketch
sketch_of kind group = option_map_or (λ g. g.sketch) group (empty_of kind)

-- how many numbers all groups took
abbrev pub total_of : Groups → ℕ
total_of groups = sum_by (λ g. n_of g.sketch) (values groups.groups)

-- the group of the key took one more number, or is a new one of this kind that took it; all others are as before
pub record IsAdded (kind : Kind) (old : Groups) (key : List ℕ) (item : ℤ) (new : Groups) : Type 0 where
  pub group : Group
  pub took : Takes (sketch_of kind (group_of old key)) item group.sketch
  pub groups : (q : List ℕ) → group_of new q ≡ (if same_key key q then Some group else group_of old q)
  pub total : total_of new ≡ total_of old + 1

-- a group stands behind the others, under a new key
abbrev pub IsBegun : Groups → List ℕ → Group → Groups → Type 0
IsBegun old key group new = (name : Vec ℕ Global) × (name.items ≡ key) × (new.groups.entries ≡ insert_entry (λ j k. same_key j.items k.items) old.groups.entries name group)

-- each group is as before
pub record AreKept (old : Groups) (new : Groups) : Type 0 where
  pub groups : (q : List ℕ) → group_of new q ≡ group_of old q
  pub total : total_of new ≡ total_of old
