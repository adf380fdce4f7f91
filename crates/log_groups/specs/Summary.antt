-- The groups after the numbers of lines were added.
use Rattle.std.specs.Prelude.{◌≡◌, ⊤, ◌≢◌, ℕ, ℤ, ◌+◌, List, [], ◌∷◌, ◌++◌, length, map, filter, Option, MatchOption, IfSome}
use Rattle.std.specs.List.{filter_map}
use Rattle.std.specs.Ordering.{int_cmp}
use Rattle.sketch_base.specs.Extremes.{IsLeastOf, IsGreatestOf}
use Rattle.log_groups.specs.Fed.{IsFed, n_of, least_of, greatest_of}
use Rattle.log_groups.specs.Found.{same_key, group_of, total_of, IsAdded, AreKept}
use Rattle.sketch_base.specs.TextLines.{lines}
use Rattle.log_groups.specs.Lines.{AllTaken}
use Rattle.log_groups.specs.declared.groups.Group.{Group}
use Rattle.log_groups.specs.declared.groups.Groups.{Groups}
use Rattle.log_groups.specs.declared.sketch.Kind.{Kind}
use Rattle.log_groups.specs.declared.summary.Summary.{Summary}

-- how a reader may read a line: its key and its number, or nothing
abbrev pub Reads : Type 0 → Type 1
Reads T = T → List ℕ → Option (List ℕ × ℤ) → Type 0

-- another reader of the same way to read
abbrev pub IsAlike : {T : Type 0} → Reads T → T → T → Type 0
IsAlike reads s t = (line : List ℕ) (found : Option (List ℕ × ℤ)) → reads t line found → reads s line found

-- the numbers of a key, in their order
abbrev pub numbers_of : List ℕ → List (List ℕ × ℤ) → List ℤ
numbers_of key pairs = map (λ p. p.1) (filter (λ p. same_key p.0 key) pairs)

-- a key has a group exactly if a number came with it, and its sketch was fed exactly these numbers, in their order
abbrev pub IsSummary : Kind → List (List ℕ × ℤ) → Groups → Type 0
IsSummary kind pairs groups = (key : List ℕ) → MatchOption (group_of groups key) (numbers_of key pairs ≡ [])
    (λ g. (numbers_of key pairs ≢ []) × IsFed kind (numbers_of key pairs) g.sketch)

-- a group's count, least and greatest are those of these numbers
pub record IsExactRow (xs : List ℤ) (g : Group) : Type 0 where
  pub n : n_of g.sketch ≡ length xs
  pub least : IsLeastOf int_cmp xs (least_of g.sketch)
  pub greatest : IsGreatestOf int_cmp xs (greatest_of g.sketch)

-- in a summary each group is such a row
abbrev pub RowsAreExact : Type 0
RowsAreExact = (kind : Kind) (pairs : List (List ℕ × ℤ)) (groups : Groups) → IsSummary kind pairs groups →
    (key : List ℕ) → IfSome (group_of groups key) (IsExactRow (numbers_of key pairs))

-- ---- lines

-- a summary after a line: its number was added to the group of its key, or it was left out
pub record Took {T : Type 0} (reads : Reads T) (old : Summary T) (line : List ℕ) (new : Summary T) : Type 0 where
  pub found : Option (List ℕ × ℤ)
  pub read : reads old.reader line found
  pub added : MatchOption found ((new.groups ≡ old.groups) × (new.left_out ≡ old.left_out + 1))
      (λ p. IsAdded old.form.kind old.groups p.0 p.1 new.groups × (new.left_out ≡ old.left_out))
  pub form : new.form ≡ old.form
  pub alike : IsAlike reads old.reader new.reader

-- each line was read as one of these
abbrev pub AreRead : (List ℕ → Option (List ℕ × ℤ) → Type 0) → List (List ℕ) → List (Option (List ℕ × ℤ)) → Type 0
AreRead reads [] [] = ⊤
AreRead reads (l ∷ ls) (o ∷ found) = reads l o × AreRead reads ls found
AreRead reads [] (o ∷ found) = ⊥
AreRead reads (l ∷ ls) [] = ⊥

-- the keys and the numbers of those that have one
abbrev pub taken_of : List (Option (List ℕ × ℤ)) → List (List ℕ × ℤ)
taken_of found = filter_map (λ o. o) found

-- what was a summary is one with the numbers of these lines behind the others; and each line adds 1 to the count of the numbers or of the lines left out
pub record AddsUp {T : Type 0} (reads : Reads T) (old : Summary T) (ls : List (List ℕ)) (new : Summary T) : Type 0 where
  pub found : List (Option (List ℕ × ℤ))
  pub read : AreRead (reads old.reader) ls found
  pub adds : (before : List (List ℕ × ℤ)) → IsSummary old.form.kind before old.groups → IsSummary old.form.kind (before ++ taken_of found) new.groups
  pub total : total_of new.groups + new.left_out ≡ total_of old.groups + old.left_out + length ls
  pub form : new.form ≡ old.form
  pub alike : IsAlike reads old.reader new.reader

-- the groups are those of the lines of a text, as they were read
abbrev pub IsSummaryOf : Kind → (List ℕ → Option (List ℕ × ℤ) → Type 0) → List ℕ → Groups → Type 0
IsSummaryOf kind reads text groups = (found : List (Option (List ℕ × ℤ))) × AreRead reads (lines text) found × IsSummary kind (taken_of found) groups

-- lines that are taken one after another add up
abbrev pub LinesAddUp : {T : Type 0} → Reads T → Type 0
LinesAddUp {T} reads = (old new : Summary T) (ls : List (List ℕ)) → AllTaken (Took reads) old ls new → AddsUp reads old ls new

-- a summary after a line that failed
pub record Left {T : Type 0} (reads : Reads T) (old new : Summary T) : Type 0 where
  pub groups : AreKept old.groups new.groups
  pub left_out : new.left_out ≡ old.left_out
  pub form : new.form ≡ old.form
  pub alike : IsAlike reads old.reader new.reader
