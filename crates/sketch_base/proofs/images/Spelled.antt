-- A text begins with at most one number of a given length, and with at most one list of a given number of items, up to their spellings.
-- So what a reader takes is determined by the text.
use Rattle.std.proofs.Common.{arith, ◌≡◌, ℕ, ◌^◌, ◌<◌, List, ◌∷◌, ◌++◌, ◌*◌, ◌≤◌, [], length, Option, Ordering, unwrap_or, refl, sym, ap, ◌∙◌, append_assoc, length-append}
use Rattle.std.proofs.lemmas.Grind.{common_steps}
use Rattle.std.specs.Int.{w16, w32, w64, to_le_bytes}
use Rattle.std.proofs.lemmas.Nat.{from_le_bytes-to_le_bytes_2, from_le_bytes-to_le_bytes_4, from_le_bytes-to_le_bytes_8}
use Rattle.sketch_base.specs.Heads.{header_text}
use Rattle.sketch_base.specs.declared.codec.Header.{Header}
use Rattle.std.specs.Prelude.{IsSome}
use Rattle.std.specs.List.{flat_map, AllByRecursion, AllZip}
use Rattle.std.proofs.lemmas.List.{append_cancel_left}
use Rattle.sketch_base.specs.Bag.{SameItems}
use Rattle.sketch_base.specs.Spelling.{bytes_of, Begins, BeginsAll, SpellingsTie}

-- Numbers of fixed length at the beginning of a text: the text determines them and the rest.

-- two numbers of two bytes at the beginning of one text are equal, and so are the rests
pub same_16 : (n m : ℕ) (r s : List ℕ) → n < 2 ^ 16 → m < 2 ^ 16 → to_le_bytes w16 n ++ r ≡ to_le_bytes w16 m ++ s → (n ≡ m) × (r ≡ s)
same_16 n m r s p q e = grind (arith, common_steps, from_le_bytes-to_le_bytes_2)

-- two numbers of four bytes at the beginning of one text are equal, and so are the rests
pub same_32 : (n m : ℕ) (r s : List ℕ) → n < 2 ^ 32 → m < 2 ^ 32 → to_le_bytes w32 n ++ r ≡ to_le_bytes w32 m ++ s → (n ≡ m) × (r ≡ s)
same_32 n m r s p q e = grind (arith, common_steps, from_le_bytes-to_le_bytes_4)

-- two numbers of eight bytes at the beginning of one text are equal, and so are the rests
pub same_64 : (n m : ℕ) (r s : List ℕ) → n < 2 ^ 64 → m < 2 ^ 64 → to_le_bytes w64 n ++ r ≡ to_le_bytes w64 m ++ s → (n ≡ m) × (r ≡ s)
same_64 n m r s p q e = grind (arith, common_steps, from_le_bytes-to_le_bytes_8)

-- equal lists have equal first bytes and equal rests
pub same_cell : (a b : ℕ) (r s : List ℕ) → a ∷ r ≡ b ∷ s → (a ≡ b) × (r ≡ s)
same_cell a b r s e = (cc, cc)

-- two headers at the beginning of one text are equal, and so are the rests
pub same_header : (h h' : Header) (r r' : List ℕ) → h.k < 2 ^ 16 → h'.k < 2 ^ 16 → header_text h ++ r ≡ header_text h' ++ r' → (h ≡ h') × (r ≡ r')
same_header h h' r r' p q e = grind (arith, common_steps, same_cell, same_16)

-- Items in an image: a text begins with at most one list of a given number of items, up to their spellings.

-- a text begins with at most one spelling
abbrev pub IsPrefixFree : {A : Type 0} → (A → Option (List ℕ)) → Type 0
IsPrefixFree {A} spelling = (x y : A) (text rest others : List ℕ) → Begins spelling text x rest → Begins spelling text y others → spelling x ≡ spelling y

-- two items with the same spelling
pub record Twins {A : Type 0} (spelling : A → Option (List ℕ)) (x y : A) : Type 0 where
  pub spelled : IsSome (spelling x)
  pub same : spelling x ≡ spelling y

-- the rest after the same spelling is the same
pub rest_same : {A : Type 0} (spelling : A → Option (List ℕ)) (x y : A) (text r s : List ℕ) → spelling x ≡ spelling y → Begins spelling text x r → Begins spelling text y s → r ≡ s
rest_same spelling x y text r s e a b = append_cancel_left (bytes_of spelling x) r s (sym a.parts ∙ b.parts ∙ ap (λ (o : Option (List ℕ)). unwrap_or o [] ++ s) (sym e))

-- a text that begins with several items begins with the first of them
pub first_of_all : {A : Type 0} (spelling : A → Option (List ℕ)) (text : List ℕ) (x : A) (xs : List A) (rest : List ℕ) → BeginsAll spelling text (x ∷ xs) rest →
    Begins spelling text x (flat_map (bytes_of spelling) xs ++ rest)
first_of_all spelling text x xs rest b = record { spelled = b.spelled.0; parts = b.parts ∙ append_assoc (bytes_of spelling x) (flat_map (bytes_of spelling) xs) rest }

-- one more item in front
pub with_first : {A : Type 0} (spelling : A → Option (List ℕ)) (text : List ℕ) (x : A) (mid : List ℕ) (xs : List A) (rest : List ℕ) → Begins spelling text x mid →
    BeginsAll spelling mid xs rest → BeginsAll spelling text (x ∷ xs) rest
with_first spelling text x mid xs rest a b = record {
  spelled = (a.spelled, b.spelled);
  parts = grind (arith, common_steps, append_assoc);
}

-- two lists of the same length with which one text begins have the same spellings, and the same rest follows
pub same_items : {A : Type 0} (spelling : A → Option (List ℕ)) → IsPrefixFree spelling → (xs ys : List A) (text r s : List ℕ) → length xs ≡ length ys →
    BeginsAll spelling text xs r → BeginsAll spelling text ys s → AllZip (Twins spelling) xs ys × (r ≡ s)
same_items spelling free [] [] text r s l a b = (tt, sym a.parts ∙ b.parts)
same_items spelling free (x ∷ xs) (y ∷ ys) text r s l a b =
    let p = first_of_all spelling text x xs r a in
    let q = first_of_all spelling text y ys s b in
    let e = free x y text (flat_map (bytes_of spelling) xs ++ r) (flat_map (bytes_of spelling) ys ++ s) p q in
    let t = rest_same spelling x y text (flat_map (bytes_of spelling) xs ++ r) (flat_map (bytes_of spelling) ys ++ s) e p q in
    let h = same_items spelling free xs ys (flat_map (bytes_of spelling) xs ++ r) r s (omega (arith, l)) (record { spelled = a.spelled.1; parts = refl }) (record { spelled = b.spelled.1; parts = t }) in
    ((record { spelled = a.spelled.0; same = e }, h.0), h.1)
same_items spelling free _ _ text r s l a b = absurd (omega (arith, l))

-- if fewer items were read than there are, another one follows
pub goes_on : {A : Type 0} (spelling : A → Option (List ℕ)) → IsPrefixFree spelling → (read xs : List A) (text place rest : List ℕ) → length read < length xs →
    BeginsAll spelling text read place → BeginsAll spelling text xs rest → (z : A) × (after : List ℕ) × Begins spelling place z after
goes_on spelling free read [] text place rest l a b = absurd (omega (arith, l))
goes_on spelling free [] (x ∷ xs) text place rest l a b =
    let p = first_of_all spelling text x xs rest b in
    (x, flat_map (bytes_of spelling) xs ++ rest, record { spelled = p.spelled; parts = sym a.parts ∙ p.parts })
goes_on spelling free (y ∷ read) (x ∷ xs) text place rest l a b =
    let p = first_of_all spelling text y read place a in
    let q = first_of_all spelling text x xs rest b in
    let e = free y x text (flat_map (bytes_of spelling) read ++ place) (flat_map (bytes_of spelling) xs ++ rest) p q in
    let t = rest_same spelling y x text (flat_map (bytes_of spelling) read ++ place) (flat_map (bytes_of spelling) xs ++ rest) e p q in
    goes_on spelling free read xs (flat_map (bytes_of spelling) read ++ place) place rest (omega (arith, l)) (record { spelled = a.spelled.1; parts = refl }) (record { spelled = b.spelled.1; parts = t })

-- items take at least their number times the least length of one
length_items : {A : Type 0} (spelling : A → Option (List ℕ)) (least : ℕ) → ((x : A) → IsSome (spelling x) → least ≤ length (bytes_of spelling x)) → (xs : List A) →
    AllByRecursion (λ x. IsSome (spelling x)) xs → length xs * least ≤ length (flat_map (bytes_of spelling) xs)
length_items spelling least long [] h = omega arith
length_items spelling least long (x ∷ xs) h = omega (arith, long x h.0, length_items spelling least long xs h.1, length-append (bytes_of spelling x) (flat_map (bytes_of spelling) xs))

-- so a text that begins with them has at least this length
pub too_short : {A : Type 0} (spelling : A → Option (List ℕ)) (least : ℕ) → ((x : A) → IsSome (spelling x) → least ≤ length (bytes_of spelling x)) →
    (xs : List A) (text rest : List ℕ) → BeginsAll spelling text xs rest → length xs * least ≤ length text
too_short spelling least long xs text rest b = omega (arith, length_items spelling least long xs b.spelled, ap length b.parts, length-append (flat_map (bytes_of spelling) xs) rest)

-- after the first item was read the others follow
pub behind : {A : Type 0} (spelling : A → Option (List ℕ)) → IsPrefixFree spelling → (x y : A) (ys : List A) (text mid rest : List ℕ) → Begins spelling text x mid →
    BeginsAll spelling text (y ∷ ys) rest → BeginsAll spelling mid ys rest
behind spelling free x y ys text mid rest a b =
    let q = first_of_all spelling text y ys rest b in
    record { spelled = b.spelled.1; parts = rest_same spelling x y text mid (flat_map (bytes_of spelling) ys ++ rest) (free x y text mid (flat_map (bytes_of spelling) ys ++ rest) a q) a q }

-- twins compare equal if items with the same spelling do
pub same_from : {A : Type 0} (cmp : A → A → Ordering) (spelling : A → Option (List ℕ)) → SpellingsTie cmp spelling → (xs ys : List A) → AllZip (Twins spelling) xs ys → SameItems cmp xs ys
same_from cmp spelling t [] [] z = tt
same_from cmp spelling t (x ∷ xs) (y ∷ ys) z = (t x y z.0.spelled z.0.same, same_from cmp spelling t xs ys z.1)
same_from cmp spelling t _ _ z = absurd z
