-- Spellings that all have the same number of bytes.
use Rattle.std.proofs.Common.{◌≡◌, ℕ, ◌<◌, ◌≤◌, Bool, true, false, cond, List, [], ◌++◌, length, take, Option, Some, None, unwrap_or, refl, sym, ap, ◌∙◌, arith, length-append}
use Rattle.std.specs.Prelude.{IsSome}
use Rattle.std.proofs.lemmas.List.{take_at}
use Rattle.sketch_base.specs.Spelling.{bytes_of, Begins}

-- two prefixes of one text are equal if they have the same length
pub one_front : (a b rest others : List ℕ) → length a ≡ length b → a ++ rest ≡ b ++ others → a ≡ b
one_front a b rest others len e =
    sym (take_at a rest (length b) len) ∙ ap (take (length b)) e ∙ take_at b others (length b) refl

pub one_spelling : (a b : Option (List ℕ)) → IsSome a → IsSome b → unwrap_or a [] ≡ unwrap_or b [] → a ≡ b
one_spelling None b p q e = absurd cc
one_spelling (Some a) None p q e = absurd cc
one_spelling (Some a) (Some b) p q e = ap (λ (x : List ℕ). Some x) e

pub length_begins : {A : Type 0} (spelling : A → Option (List ℕ)) (text : List ℕ) (x : A) (rest : List ℕ) → Begins spelling text x rest → length (bytes_of spelling x) ≤ length text
length_begins spelling text x rest b = let h = ap length b.parts in let k = length-append (bytes_of spelling x) rest in omega (arith, h, k)

-- each spelling has `size` bytes
abbrev pub HasSize : {A : Type 0} → (A → Option (List ℕ)) → ℕ → Type 0
HasSize {A} spelling size = (x : A) → IsSome (spelling x) → length (bytes_of spelling x) ≡ size

pub sized_prefix_free : {A : Type 0} (spelling : A → Option (List ℕ)) (size : ℕ) → HasSize spelling size → (x y : A) (text rest others : List ℕ) → Begins spelling text x rest →
    Begins spelling text y others → spelling x ≡ spelling y
sized_prefix_free spelling size sized x y text rest others p q =
    one_spelling (spelling x) (spelling y) p.spelled q.spelled
    (one_front _ _ rest others (sized x p.spelled ∙ sym (sized y q.spelled)) (sym p.parts ∙ q.parts))

-- a text of fewer than `size` bytes begins with no item
pub sized_short : {A : Type 0} (spelling : A → Option (List ℕ)) (size : ℕ) → HasSize spelling size → (text : List ℕ) → length text < size → (x : A) (rest : List ℕ) → Begins spelling text x rest → ⊥
sized_short spelling size sized text short x rest b =
    let h = sized x b.spelled in
    let k = length_begins spelling text x rest b in
    absurd (omega (arith, h, k))

pub some_bytes : {A : Type 0} (spelling : A → Option (List ℕ)) (size : ℕ) → HasSize spelling size → 1 ≤ size → (x : A) → IsSome (spelling x) → 1 ≤ length (bytes_of spelling x)
some_bytes spelling size sized some x p = let h = sized x p in omega (arith, h)

-- ---- bytes that exist only if a test holds

pub if_length : (b : Bool) (bytes : List ℕ) → IsSome (cond b (Some bytes) None) → length (unwrap_or (cond b (Some bytes) None) []) ≡ length bytes
if_length true bytes p = refl
if_length false bytes p = absurd cc

pub if_true : (b : Bool) (bytes : List ℕ) → IsSome (cond b (Some bytes) None) → b ≡ true
if_true true bytes p = refl
if_true false bytes p = absurd cc

pub if_bytes : (b : Bool) (bytes : List ℕ) → b ≡ true → cond b (Some bytes) None ≡ Some bytes
if_bytes true bytes e = refl
if_bytes false bytes e = absurd cc
