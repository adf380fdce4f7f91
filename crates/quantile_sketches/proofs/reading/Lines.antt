-- How a line is split at its spaces: the index of a byte, spaces at the front, and the words one after another.
use Rattle.std.proofs.lemmas.Grind.{common_steps}
use Rattle.std.proofs.Common.{◌≡◌, ℕ, suc, ◌+◌, ◌<◌, ◌==◌, Bool, true, not, List, [], ◌∷◌, length, take, drop, refl, sym, ap, ◌∙◌, arith, inl, inr, length-drop, take_all, ◌-◌, eqb-true}
use Rattle.std.specs.List.{prefix_len, position_or_len, slice_split, onto_first, filter}
use Rattle.std.proofs.lemmas.Bool.{cases_Bool, cases_lt, cond-true, cond-false, ne_eqb, not_from_true}
use Rattle.std.proofs.lemmas.List.Folds.{length-prefix_len}
use Rattle.std.proofs.lemmas.List.Splits.{slice_split-cons_yes, slice_split-cons_no}
use Rattle.quantile_sketches.specs.LineWords.{words}
use Rattle.sketch_base.proofs.lines.FirstLine.{position-no}

abbrev is_space : ℕ → Bool
is_space b = b == 32

abbrev is_word : List ℕ → Bool
is_word w = not (length w == 0)

abbrev parts : List ℕ → List (List ℕ)
parts bs = slice_split is_space bs

one_more : (n : ℕ) → 1 + n ≡ suc n
one_more n = omega arith

-- spaces at the front don't matter
words-skip : (bs : List ℕ) → words (drop (prefix_len is_space bs) bs) ≡ words bs
words-skip [] = refl
words-skip (x ∷ xs) = elim (cases_Bool (x == 32)) [
  | inl e ↦ rw (e, one_more (prefix_len is_space xs)) (words-skip xs)
  | inr e ↦ rw (e, e) refl
]

skipped : (bs : List ℕ) → prefix_len is_space (drop (prefix_len is_space bs) bs) ≡ 0
skipped [] = refl
skipped (x ∷ xs) = elim (cases_Bool (x == 32)) [
  | inl e ↦ rw (e, one_more (prefix_len is_space xs)) (skipped xs)
  | inr e ↦ rw (e, e) refl
]

-- the first part and the others
parts-first : (bs : List ℕ) → parts bs ≡ take (position_or_len is_space bs) bs ∷ drop 1 (parts (drop (position_or_len is_space bs) bs))
parts-first [] = refl
parts-first (x ∷ xs) = elim (cases_Bool (x == 32)) [
  | inl e ↦ rw ((cond-false (not (x == 32)) (1 + position_or_len (λ b. b == 32) xs) 0 (not_from_true (x == 32) e)), slice_split-cons_yes is_space x xs e) refl
  | inr e ↦ rw (position-no is_space x xs e, slice_split-cons_no is_space x xs e) (ap (onto_first x) (parts-first xs))
]

-- what comes from the first space on begins with an empty part
words-rest : (bs : List ℕ) → filter is_word (drop 1 (parts (drop (position_or_len is_space bs) bs))) ≡ words (drop (position_or_len is_space bs) bs)
words-rest [] = refl
words-rest (x ∷ xs) = elim (cases_Bool (x == 32)) [
  | inl e ↦ rw ((cond-false (not (x == 32)) (1 + position_or_len (λ b. b == 32) xs) 0 (not_from_true (x == 32) e)), slice_split-cons_yes is_space x xs e) refl
  | inr e ↦ rw (position-no is_space x xs e) (words-rest xs)
]

-- the first word of a text that begins with one
pub words-first : (bs : List ℕ) → 0 < position_or_len is_space bs → words bs ≡ take (position_or_len is_space bs) bs ∷ words (drop (position_or_len is_space bs) bs)
words-first bs h = grind (arith, common_steps, length-prefix_len, ne_eqb, parts-first, words-rest)

empty_at_zero : (bs : List ℕ) → prefix_len is_space bs ≡ 0 → position_or_len is_space bs ≡ 0 → bs ≡ []
empty_at_zero [] p n = refl
empty_at_zero (x ∷ xs) p n = grind (arith, common_steps, cases_Bool, cond-true, position-no)

-- if the next word is empty, no word is left
pub no_word : (bs t : List ℕ) (n : ℕ) → t ≡ drop (prefix_len is_space bs) bs → n ≡ position_or_len is_space t → n ≡ 0 → (words bs ≡ []) × (words (drop n t) ≡ [])
no_word bs t n e m z =
    let y : t ≡ [] = empty_at_zero t (ap (prefix_len is_space) e ∙ skipped bs) (omega (arith, m, z)) in
    (sym (words-skip bs) ∙ ap words (sym e ∙ y), ap (λ (i : ℕ). words (drop i t)) z ∙ ap words y)

-- the next word, and what comes after it
pub next_word : (bs t : List ℕ) (n : ℕ) → t ≡ drop (prefix_len is_space bs) bs → n ≡ position_or_len is_space t → 0 < n → words bs ≡ take n t ∷ words (drop n t)
next_word bs t n e m h = sym (words-skip bs) ∙ (ap words (sym e) ∙ (words-first t (omega (arith, m, h)) ∙ sym (ap (λ (i : ℕ). take i t ∷ words (drop i t)) m)))

-- if no word is left, nothing but spaces is left
none_left : (bs t : List ℕ) → t ≡ drop (prefix_len is_space bs) bs → words bs ≡ [] → t ≡ []
none_left bs t e none = elim (cases_lt 0 (position_or_len is_space t)) [
  | inl some ↦
      let f : [] ≡ take (position_or_len is_space t) t ∷ words (drop (position_or_len is_space t) t) = sym none ∙ next_word bs t (position_or_len is_space t) e refl some in
      absurd cc
  | inr z ↦ empty_at_zero t (ap (prefix_len is_space) e ∙ skipped bs) (omega arith)
]

-- no word is left exactly if no byte is left
pub nothing_left : (bs t : List ℕ) (ws : List (List ℕ)) → words bs ≡ ws → t ≡ drop (prefix_len is_space bs) bs → ((length t == 0) ≡ true → ws ≡ []) × (ws ≡ [] → (length t == 0) ≡ true)
nothing_left bs [] ws is e = (λ _. sym is ∙ (no_word bs [] 0 e refl refl).0, λ _. refl)
nothing_left bs (x ∷ xs) ws is e = (λ h. absurd (omega (arith, eqb-true (length (x ∷ xs)) 0 h)), λ h. ap (λ (t : List ℕ). length t == 0) (none_left bs (x ∷ xs) e (is ∙ h)))

-- the rest of a list, written as a slice to its end
pub to_end : (t : List ℕ) (n : ℕ) → take (length t - n) (drop n t) ≡ drop n t
to_end t n = take_all (length t - n) (drop n t) (let l = length-drop n t in omega (arith, l))
