-- Summaries with one more number, and their rows.
use Rattle.std.proofs.Common.{◌≡◌, ◌≢◌, ℕ, ℤ, ◌+◌, true, false, List, [], ◌∷◌, ◌++◌, map, Option, Some, None, MatchOption, IfSome, Result, Ok, Err, IfOk, refl, sym, ap, subst, ◌∙◌, inl, inr, arith}
use Rattle.std.proofs.lemmas.Bool.{cases_Bool, cond-true, cond-false}
use Rattle.std.proofs.lemmas.List.{append_assoc, append-nil, map-append}
use Rattle.std.proofs.lemmas.List.Elements.{filter-append}
use Rattle.log_groups.specs.Fed.{IsFed, IsFedFrom, Takes, empty_of}
use Rattle.log_groups.specs.Found.{same_key, group_of, sketch_of, total_of, IsAdded}
use Rattle.sketch_base.specs.TextLines.{lines}
use Rattle.log_groups.specs.Summary.{Reads, IsAlike, AreRead, numbers_of, IsSummary, Took, taken_of, AddsUp, IsSummaryOf, IsExactRow, RowsAreExact, LinesAddUp}
use Rattle.log_groups.specs.declared.groups.Group.{Group}
use Rattle.log_groups.specs.declared.groups.Groups.{Groups}
use Rattle.log_groups.specs.declared.sketch.Kind.{Kind}
use Rattle.log_groups.specs.declared.summary.Summary.{Summary}
use Rattle.log_groups.proofs.Feeding.{fed-more, n-fed, n-empty, least-fed, least-empty, greatest-fed, greatest-empty}
use Rattle.log_groups.proofs.Lookups.{key-same}

-- the group of a key in a summary, or that there is none
abbrev Is : Kind → List ℤ → Option Group → Type 0
Is kind xs o = MatchOption o (xs ≡ []) (λ g. (xs ≢ []) × IsFed kind xs g.sketch)

-- its sketch was fed these numbers, also where that is the empty one
fed-of : (kind : Kind) (xs : List ℤ) (o : Option Group) → Is kind xs o → IsFed kind xs (sketch_of kind o)
fed-of kind xs None h = subst (λ ys. IsFedFrom (empty_of kind) ys (empty_of kind)) (sym h) refl
fed-of kind xs (Some g) h = h.1

not-empty : (xs : List ℤ) (x : ℤ) → xs ++ x ∷ [] ≢ []
not-empty [] x e = cc
not-empty (y ∷ ys) x e = cc

numbers-parts : (key : List ℕ) (ps qs : List (List ℕ × ℤ)) → numbers_of key (ps ++ qs) ≡ numbers_of key ps ++ numbers_of key qs
numbers-parts key ps qs = ap (map (λ (p : List ℕ × ℤ). p.1)) (filter-append (λ p. same_key p.0 key) ps qs) ∙ map-append (λ (p : List ℕ × ℤ). p.1) _ _

numbers-same : (key q : List ℕ) (x : ℤ) → same_key key q ≡ true → numbers_of q ((key, x) ∷ []) ≡ x ∷ []
numbers-same key q x y = rw y refl

numbers-apart : (key q : List ℕ) (x : ℤ) → same_key key q ≡ false → numbers_of q ((key, x) ∷ []) ≡ []
numbers-apart key q x n = rw n refl

-- one more number
pub summary-more : (kind : Kind) (pairs : List (List ℕ × ℤ)) (old new : Groups) (key : List ℕ) (x : ℤ) → IsSummary kind pairs old → IsAdded kind old key x new →
    IsSummary kind (pairs ++ (key, x) ∷ []) new
summary-more kind pairs old new key x so added q = elim (cases_Bool (same_key key q)) [
  | inl y ↦
      let numbers : numbers_of q (pairs ++ (key, x) ∷ []) ≡ numbers_of q pairs ++ x ∷ [] = numbers-parts q pairs ((key, x) ∷ []) ∙ ap (λ zs. numbers_of q pairs ++ zs) (numbers-same key q x y) in
      let group : group_of new q ≡ Some added.group = added.groups q ∙ cond-true _ _ _ y in
      let took : Takes (sketch_of kind (group_of old q)) x added.group.sketch = subst (λ k. Takes (sketch_of kind (group_of old k)) x added.group.sketch) (key-same key q y) added.took in
      let fed : IsFed kind (numbers_of q pairs ++ x ∷ []) added.group.sketch = fed-more (numbers_of q pairs) x (empty_of kind) _ _ (fed-of kind _ _ (so q)) took in
      let is : Is kind (numbers_of q pairs ++ x ∷ []) (Some added.group) = (not-empty (numbers_of q pairs) x, fed) in
      subst (λ zs. Is kind zs (group_of new q)) (sym numbers) (subst (Is kind (numbers_of q pairs ++ x ∷ [])) (sym group) is)
  | inr n ↦
      let numbers : numbers_of q (pairs ++ (key, x) ∷ []) ≡ numbers_of q pairs = numbers-parts q pairs ((key, x) ∷ []) ∙ (ap (λ zs. numbers_of q pairs ++ zs) (numbers-apart key q x n) ∙ append-nil _) in
      let group : group_of new q ≡ group_of old q = added.groups q ∙ cond-false _ _ _ n in
      subst (λ zs. Is kind zs (group_of new q)) (sym numbers) (subst (Is kind (numbers_of q pairs)) (sym group) (so q))
]

-- a row of a summary
exact : (kind : Kind) (xs : List ℤ) (g : Group) → IsFed kind xs g.sketch → IsExactRow xs g
exact kind xs g fed = record {
  n = (let n = n-fed xs (empty_of kind) g.sketch fed in let zero = n-empty kind in omega (arith, n, zero));
  least = least-fed [] xs (empty_of kind) g.sketch (least-empty kind) fed;
  greatest = greatest-fed [] xs (empty_of kind) g.sketch (greatest-empty kind) fed;
}

row-of : (kind : Kind) (xs : List ℤ) (o : Option Group) → Is kind xs o → IfSome o (IsExactRow xs)
row-of kind xs None h = tt
row-of kind xs (Some g) h = exact kind xs g h.1

pub rows-exact : RowsAreExact
rows-exact kind pairs groups so key = row-of kind (numbers_of key pairs) (group_of groups key) (so key)

-- ---- lines

-- the groups after what a line was read as
abbrev Follows : Kind → Groups → ℕ → Option (List ℕ × ℤ) → Groups → ℕ → Type 0
Follows kind old left o new left' = MatchOption o ((new ≡ old) × (left' ≡ left + 1)) (λ p. IsAdded kind old p.0 p.1 new × (left' ≡ left))

adds-one : (kind : Kind) (old new : Groups) (left left' : ℕ) (o : Option (List ℕ × ℤ)) (before : List (List ℕ × ℤ)) → Follows kind old left o new left' →
    IsSummary kind before old → IsSummary kind (before ++ taken_of (o ∷ [])) new
adds-one kind old new left left' None before (same, n) so = subst (λ g. IsSummary kind (before ++ []) g) (sym same) (subst (λ ps. IsSummary kind ps old) (sym (append-nil before)) so)
adds-one kind old new left left' (Some p) before (added, n) so = summary-more kind before old new p.0 p.1 so added

counts-one : (kind : Kind) (old new : Groups) (left left' : ℕ) (o : Option (List ℕ × ℤ)) → Follows kind old left o new left' → total_of new + left' ≡ total_of old + left + 1
counts-one kind old new left left' None (same, n) = let e = ap total_of same in omega (arith, e, n)
counts-one kind old new left left' (Some p) (added, n) = let e = added.total in omega (arith, e, n)

taken-cons : (o : Option (List ℕ × ℤ)) (found : List (Option (List ℕ × ℤ))) → taken_of (o ∷ found) ≡ taken_of (o ∷ []) ++ taken_of found
taken-cons None found = refl
taken-cons (Some p) found = refl

-- another reader of the same way to read
read-alike : {T : Type 0} (reads : Reads T) (s t : T) (ls : List (List ℕ)) (found : List (Option (List ℕ × ℤ))) → IsAlike reads s t → AreRead (reads t) ls found → AreRead (reads s) ls found
read-alike reads s t [] [] alike h = tt
read-alike reads s t (l ∷ ls) (o ∷ found) alike h = (alike l o h.0, read-alike reads s t ls found alike h.1)
read-alike reads s t [] (o ∷ found) alike h = h
read-alike reads s t (l ∷ ls) [] alike h = h

nothing-adds : {T : Type 0} (reads : Reads T) (s : Summary T) → AddsUp reads s [] s
nothing-adds reads s = record {
  found = [];
  read = tt;
  adds = λ before so. subst (λ ps. IsSummary s.form.kind ps s.groups) (sym (append-nil before)) so;
  total = omega arith;
  form = refl;
  alike = λ l o h. h;
}

-- a line, and then more
adds-more : {T : Type 0} (reads : Reads T) (s mid t : Summary T) (l : List ℕ) (ls : List (List ℕ)) → Took reads s l mid → AddsUp reads mid ls t → AddsUp reads s (l ∷ ls) t
adds-more reads s mid t l ls took more = record {
  found = took.found ∷ more.found;
  read = (took.read, read-alike reads s.reader mid.reader ls more.found took.alike more.read);
  adds = λ before so.
      let one = adds-one s.form.kind s.groups mid.groups s.left_out mid.left_out took.found before took.added so in
      let all = more.adds (before ++ taken_of (took.found ∷ [])) (subst (λ f. IsSummary f.kind (before ++ taken_of (took.found ∷ [])) mid.groups) (sym took.form) one) in
      let parts : (before ++ taken_of (took.found ∷ [])) ++ taken_of more.found ≡ before ++ taken_of (took.found ∷ more.found) =
      append_assoc before (taken_of (took.found ∷ [])) (taken_of more.found) ∙ ap (λ ps. before ++ ps) (sym (taken-cons took.found more.found)) in
      subst (λ ps. IsSummary s.form.kind ps t.groups) parts (subst (λ f. IsSummary f.kind ((before ++ taken_of (took.found ∷ [])) ++ taken_of more.found) t.groups) took.form all);
  total = (let one = counts-one s.form.kind s.groups mid.groups s.left_out mid.left_out took.found took.added in let all = more.total in omega (arith, one, all));
  form = more.form ∙ took.form;
  alike = λ l o h. took.alike l o (more.alike l o h);
}

pub lines-add-up : {T : Type 0} (reads : Reads T) → LinesAddUp reads
lines-add-up reads s t [] is = subst (λ u. AddsUp reads s [] u) (sym is) (nothing-adds reads s)
lines-add-up reads s t (l ∷ ls) (mid, took, rest) = adds-more reads s mid t l ls took (lines-add-up reads mid t ls rest)

-- the groups of a text, from none
pub from-none : {T : Type 0} (reads : Reads T) (s t : Summary T) (text : List ℕ) → ((key : List ℕ) → group_of s.groups key ≡ None) → AddsUp reads s (lines text) t →
    IsSummaryOf s.form.kind (reads s.reader) text t.groups
from-none reads s t text none so = (so.found, so.read, so.adds [] (λ key. subst (Is s.form.kind []) (sym (none key)) refl))

-- of what is known of an input's text after a call that went well
pub if-all : {X E : Type 0} (r : Result X E) (o : Option (List ℕ)) (P Q : List ℕ → Type 0) → ((text : List ℕ) → P text → Q text) →
    IfOk r (λ n. IfSome o P) → IfOk r (λ n. IfSome o Q)
if-all (Ok n) None P Q f h = tt
if-all (Ok n) (Some text) P Q f h = f text h
if-all (Err e) o P Q f h = tt
