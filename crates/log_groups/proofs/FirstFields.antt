-- The first field of a text, and those behind it.
use Rattle.std.proofs.Common.{◌≡◌, ℕ, zero, suc, ◌+◌, ◌<◌, ◌≤◌, Bool, true, false, not, cond, List, [], ◌∷◌, length, filter, take, drop, get_or, ◌-◌, refl, sym, ap, subst, ◌∙◌, arith, inl, inr, length-drop}
use Rattle.std.proofs.Math.Nat.{eq-or-lt_of_le}
use Rattle.std.proofs.Math.Seq.{drop-cons}
use Rattle.std.specs.List.{All, slice_split, onto_first, position_or_len}
use Rattle.std.proofs.lemmas.Bool.{cases_Bool}
use Rattle.sketch_base.proofs.lines.FirstLine.{position-no}
use Rattle.std.proofs.lemmas.List.{take_all, drop_all}
use Rattle.std.proofs.lemmas.List.Splits.{slice_split_first, slice_split_none}
use Rattle.std.proofs.lemmas.List.Sums.{fails_before_first, passes_at_first, prefix_len-le-length}
use Rattle.log_groups.specs.Fields.{is_blank, is_no_blank, is_some_text, words_of}

module _ (p : ℕ → Bool) where
  -- without a separator the text is the one field
  split-one : (xs : List ℕ) → position_or_len p xs ≡ length xs → slice_split p xs ≡ xs ∷ []
  split-one xs e = slice_split_none p xs (let all : All (λ x. p x ≡ false) xs = λ k d m. fails_before_first p xs k d (omega (arith, e, m)) in all)

  pub position-within : (xs : List ℕ) → position_or_len p xs ≤ length xs
  position-within xs = prefix_len-le-length (λ x. not (p x)) xs

  -- the first field
  pub split-first : (xs : List ℕ) → get_or (slice_split p xs) 0 [] ≡ take (position_or_len p xs) xs
  split-first xs = elim (eq-or-lt_of_le (position-within xs)) [
    | inl e ↦ ap (λ fs. get_or fs 0 []) (split-one xs e) ∙ sym (take_all (position_or_len p xs) xs (omega (arith, e)))
    | inr l ↦ ap (λ fs. get_or fs 0 []) (slice_split_first p xs 0 l)
  ]

  get-behind : (f : List ℕ) (fs : List (List ℕ)) (k : ℕ) → get_or (f ∷ fs) (k + 1) [] ≡ get_or fs k []
  get-behind f fs k = let e : k + 1 ≡ suc k = omega arith in rw e refl

  -- a field behind the first
  pub split-behind : (xs : List ℕ) (k : ℕ) → position_or_len p xs < length xs → get_or (slice_split p xs) (k + 1) [] ≡ get_or (slice_split p (drop (position_or_len p xs + 1) xs)) k []
  split-behind xs k l = ap (λ fs. get_or fs (k + 1) []) (slice_split_first p xs 0 l) ∙ get-behind _ _ k

  pub split-end : (xs : List ℕ) (k : ℕ) → position_or_len p xs ≡ length xs → get_or (slice_split p xs) (k + 1) [] ≡ []
  split-end xs k e = ap (λ fs. get_or fs (k + 1) []) (split-one xs e) ∙ get-behind xs [] k

words-blank : (b : ℕ) (xs : List ℕ) → is_blank b ≡ true → words_of (b ∷ xs) ≡ words_of xs
words-blank b xs e = ap (λ c. filter is_some_text (cond c ([] ∷ slice_split is_blank xs) (onto_first b (slice_split is_blank xs)))) e

-- where the blanks in front of a text end
bare-blank : (b : ℕ) (xs : List ℕ) → is_blank b ≡ true → position_or_len is_no_blank (b ∷ xs) ≡ suc (position_or_len is_no_blank xs)
bare-blank b xs e = position-no is_no_blank b xs (ap not e)

bare-none : (b : ℕ) (xs : List ℕ) → is_blank b ≡ false → position_or_len is_no_blank (b ∷ xs) ≡ 0
bare-none b xs e = ap (λ c. cond (not (not c)) (1 + position_or_len is_no_blank xs) 0) e

-- blanks in front don't matter
pub words-skip : (xs : List ℕ) → words_of xs ≡ words_of (drop (position_or_len is_no_blank xs) xs)
words-skip [] = refl
words-skip (x ∷ xs) = elim (cases_Bool (is_blank x)) [
  | inl y ↦ words-blank x xs y ∙ (words-skip xs ∙ sym (ap (λ n. words_of (drop n (x ∷ xs))) (bare-blank x xs y)))
  | inr n ↦ sym (ap (λ m. words_of (drop m (x ∷ xs))) (bare-none x xs n))
]

-- a blank in front of the rest doesn't matter
words-behind : (xs : List ℕ) → position_or_len is_blank xs < length xs → words_of (drop (position_or_len is_blank xs) xs) ≡ words_of (drop (position_or_len is_blank xs + 1) xs)
words-behind xs l =
    let n = position_or_len is_blank xs in
    let e : suc n ≡ n + 1 = omega arith in
    ap words_of (drop-cons xs n 0 l) ∙ (words-blank (get_or xs n 0) (drop (suc n) xs) (passes_at_first is_blank xs 0 l) ∙ ap (λ m. words_of (drop m xs)) e)

kept-front : (n k : ℕ) (x : ℕ) (xs : List ℕ) (rest : List (List ℕ)) → n ≡ suc k → filter is_some_text (take n (x ∷ xs) ∷ rest) ≡ take n (x ∷ xs) ∷ filter is_some_text rest
kept-front n k x xs rest e = rw e refl

-- a text that doesn't begin with a blank begins with its first word
pub words-step : (x : ℕ) (xs : List ℕ) → is_blank x ≡ false →
    words_of (x ∷ xs) ≡ take (position_or_len is_blank (x ∷ xs)) (x ∷ xs) ∷ words_of (drop (position_or_len is_blank (x ∷ xs)) (x ∷ xs))
words-step x xs plain = elim (eq-or-lt_of_le (position-within is_blank (x ∷ xs))) [
  | inl e ↦
      let whole : take (position_or_len is_blank (x ∷ xs)) (x ∷ xs) ≡ x ∷ xs = take_all (position_or_len is_blank (x ∷ xs)) (x ∷ xs) (omega (arith, e)) in
      let none : drop (position_or_len is_blank (x ∷ xs)) (x ∷ xs) ≡ [] = drop_all (position_or_len is_blank (x ∷ xs)) (x ∷ xs) (omega (arith, e)) in
      ap (filter is_some_text) (split-one is_blank (x ∷ xs) e) ∙ sym (ap (λ w. w ∷ words_of (drop (position_or_len is_blank (x ∷ xs)) (x ∷ xs))) whole ∙ ap (λ r. (x ∷ xs) ∷ words_of r) none)
  | inr l ↦
      ap (filter is_some_text) (slice_split_first is_blank (x ∷ xs) 0 l) ∙
      (kept-front (position_or_len is_blank (x ∷ xs)) (position_or_len is_blank xs) x xs (slice_split is_blank (drop (position_or_len is_blank (x ∷ xs) + 1) (x ∷ xs))) (position-no is_blank x xs plain) ∙
      ap (λ ws. take (position_or_len is_blank (x ∷ xs)) (x ∷ xs) ∷ ws) (sym (words-behind (x ∷ xs) l)))
]

-- ---- a text from its first byte on that is no blank

-- it is empty or begins with no blank
abbrev pub IsBare : List ℕ → Type 0
IsBare xs = position_or_len is_no_blank xs ≡ 0

pub bare-drop : (xs : List ℕ) → IsBare (drop (position_or_len is_no_blank xs) xs)
bare-drop [] = refl
bare-drop (x ∷ xs) = elim (cases_Bool (is_blank x)) [
  | inl y ↦ subst (λ n. IsBare (drop n (x ∷ xs))) (sym (bare-blank x xs y)) (bare-drop xs)
  | inr n ↦ subst (λ m. IsBare (drop m (x ∷ xs))) (sym (bare-none x xs n)) (bare-none x xs n)
]

bare-head : (x : ℕ) (xs : List ℕ) → IsBare (x ∷ xs) → is_blank x ≡ false
bare-head x xs bare = elim (cases_Bool (is_blank x)) [
  | inl y ↦ absurd (let e = bare-blank x xs y in omega (arith, e, bare))
  | inr n ↦ n
]

pub words-first : (xs : List ℕ) → IsBare xs → get_or (words_of xs) 0 [] ≡ take (position_or_len is_blank xs) xs
words-first [] bare = refl
words-first (x ∷ xs) bare = ap (λ ws. get_or ws 0 []) (words-step x xs (bare-head x xs bare))

pub words-next : (xs : List ℕ) (k : ℕ) → IsBare xs → get_or (words_of xs) (k + 1) [] ≡ get_or (words_of (drop (position_or_len is_blank xs) xs)) k []
words-next [] k bare = refl
words-next (x ∷ xs) k bare = ap (λ ws. get_or ws (k + 1) []) (words-step x xs (bare-head x xs bare)) ∙ get-behind is_blank _ _ k

pub words-more : (xs : List ℕ) → IsBare xs → 0 < length xs → length (words_of xs) ≡ 1 + length (words_of (drop (position_or_len is_blank xs) xs))
words-more [] bare some = absurd (omega (arith, some))
words-more (x ∷ xs) bare some = ap length (words-step x xs (bare-head x xs bare)) ∙ (let e : (n : ℕ) → suc n ≡ 1 + n = λ n. omega arith in e _)

-- a word of a text that isn't empty is not empty
pub word-some : (xs : List ℕ) → IsBare xs → 0 < length xs → 0 < position_or_len is_blank xs
word-some [] bare some = absurd (omega (arith, some))
word-some (x ∷ xs) bare some = let e = position-no is_blank x xs (bare-head x xs bare) in omega (arith, e)

-- ---- steps

no-field : (p : ℕ → Bool) (k : ℕ) → get_or (slice_split p []) k [] ≡ []
no-field p zero = refl
no-field p (suc k) = refl

-- the next field, one step on
pub part-step : (p : ℕ → Bool) (xs : List ℕ) (n i : ℕ) → i < n → get_or (slice_split p xs) (n - i) [] ≡ get_or (slice_split p (drop (position_or_len p xs + 1) xs)) (n - (i + 1)) []
part-step p xs n i l =
    let k : n - i ≡ (n - (i + 1)) + 1 = omega (arith, l) in
    elim (eq-or-lt_of_le (position-within p xs)) [
      | inl e ↦
          let none : drop (position_or_len p xs + 1) xs ≡ [] = drop_all (position_or_len p xs + 1) xs (omega (arith, e)) in
          ap (λ m. get_or (slice_split p xs) m []) k ∙ (split-end p xs (n - (i + 1)) e ∙ sym (ap (λ r. get_or (slice_split p r) (n - (i + 1)) []) none ∙ no-field p (n - (i + 1))))
      | inr before ↦ ap (λ m. get_or (slice_split p xs) m []) k ∙ split-behind p xs (n - (i + 1)) before
    ]

-- an empty text has one empty field
pub part-none : (p : ℕ → Bool) (xs : List ℕ) (k : ℕ) → length xs ≡ 0 → xs ≡ get_or (slice_split p xs) k []
part-none p [] k e = sym (no-field p k)
part-none p (x ∷ xs) k e = absurd (omega (arith, e))

pub part-last : (p : ℕ → Bool) (xs : List ℕ) (n i : ℕ) → n ≤ i → take (position_or_len p xs) xs ≡ get_or (slice_split p xs) (n - i) []
part-last p xs n i l = let k : n - i ≡ 0 = omega (arith, l) in sym (ap (λ m. get_or (slice_split p xs) m []) k ∙ split-first p xs)

pub word-start : (xs ys : List ℕ) (k : ℕ) → ys ≡ drop (position_or_len is_no_blank xs) xs → get_or (words_of xs) k [] ≡ get_or (words_of ys) k []
word-start xs ys k e = ap (λ ws. get_or ws k []) (words-skip xs ∙ ap words_of (sym e))

pub bare-start : (xs ys : List ℕ) → ys ≡ drop (position_or_len is_no_blank xs) xs → IsBare ys
bare-start xs ys e = subst IsBare (sym e) (bare-drop xs)

pub word-step : (xs behind ys : List ℕ) (n i : ℕ) → i < n → IsBare xs → behind ≡ drop (position_or_len is_blank xs) xs → ys ≡ drop (position_or_len is_no_blank behind) behind →
    get_or (words_of xs) (n - i) [] ≡ get_or (words_of ys) (n - (i + 1)) []
word-step xs behind ys n i l bare e f =
    let k : n - i ≡ (n - (i + 1)) + 1 = omega (arith, l) in
    ap (λ m. get_or (words_of xs) m []) k ∙ (words-next xs (n - (i + 1)) bare ∙ (ap (λ r. get_or (words_of r) (n - (i + 1)) []) (sym e) ∙ word-start behind ys (n - (i + 1)) f))

pub word-none : (xs : List ℕ) (k : ℕ) → length xs ≡ 0 → xs ≡ get_or (words_of xs) k []
word-none [] k e = refl
word-none (x ∷ xs) k e = absurd (omega (arith, e))

pub word-last : (xs : List ℕ) (n i : ℕ) → n ≤ i → IsBare xs → take (position_or_len is_blank xs) xs ≡ get_or (words_of xs) (n - i) []
word-last xs n i l bare = let k : n - i ≡ 0 = omega (arith, l) in sym (ap (λ m. get_or (words_of xs) m []) k ∙ words-first xs bare)

pub count-step : (xs behind ys : List ℕ) → IsBare xs → 0 < length xs → behind ≡ drop (position_or_len is_blank xs) xs → ys ≡ drop (position_or_len is_no_blank behind) behind →
    length (words_of xs) ≡ 1 + length (words_of ys)
count-step xs behind ys bare some e f =
    words-more xs bare some ∙ ap (λ r. 1 + length r) (ap words_of (sym e) ∙ (words-skip behind ∙ ap words_of (sym f)))

pub shorter : (xs behind ys : List ℕ) → IsBare xs → 0 < length xs → behind ≡ drop (position_or_len is_blank xs) xs → ys ≡ drop (position_or_len is_no_blank behind) behind →
    length ys + 1 ≤ length xs
shorter xs behind ys bare some e f =
    let one = word-some xs bare some in
    let a : length behind ≡ length xs - position_or_len is_blank xs = ap length e ∙ length-drop (position_or_len is_blank xs) xs in
    let b : length ys ≡ length behind - position_or_len is_no_blank behind = ap length f ∙ length-drop (position_or_len is_no_blank behind) behind in
    omega (arith, one, a, b, some)
