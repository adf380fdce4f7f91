-- The first line of a text: how it is cut off, and when it lies whole in a buffer.
use Rattle.std.proofs.lemmas.Grind.{common_steps}
use Rattle.std.proofs.Common.{◌≡◌, ℕ, suc, ◌+◌, ◌<◌, ◌==◌, Bool, false, true, cond, List, [], ◌∷◌, ◌++◌, length, take, drop, refl, ap, ◌∙◌, arith, inl, inr, Option, Some, None, IfSome, length-append, add-one}
use Rattle.std.proofs.lemmas.Bool.{cases_Bool}
use Rattle.std.specs.Io.BufRead.{take_through, drop_through, first_piece, strip_last, DropsConsumable, DropsThrough}
use Rattle.std.specs.Io.KnownBytes.{prepend_known}
use Rattle.std.specs.List.{onto_first, position_or_len}
use Rattle.sketch_base.specs.TextLines.{lines, TakesLine}

-- the index of an item that comes later
pub position-no : {A : Type 0} (p : A → Bool) (x : A) (xs : List A) → p x ≡ false → position_or_len p (x ∷ xs) ≡ suc (position_or_len p xs)
position-no p x xs e = rw e (omega arith)

-- a byte that isn't a line feed goes in front of the first line
piece-cons : (x : ℕ) (xs : List ℕ) → (x == 10) ≡ false → first_piece 10 (x ∷ xs) ≡ x ∷ first_piece 10 xs
piece-cons x [] e = rw (e, e) refl
piece-cons x (y ∷ ys) e = grind (arith, common_steps)

-- a byte in front of the first line
lines-onto : (x : ℕ) (text : List ℕ) → onto_first x (lines text) ≡ (x ∷ first_piece 10 text) ∷ lines (drop_through 10 text)
lines-onto x [] = refl
lines-onto x (c ∷ cs) = grind (arith, common_steps, cases_Bool, piece-cons, lines-onto c cs)

-- the first line of a text, and the others
pub lines-first : (text : List ℕ) → 0 < length text → lines text ≡ first_piece 10 text ∷ lines (drop_through 10 text)
lines-first [] some = absurd (omega arith)
lines-first (x ∷ xs) some = grind (arith, common_steps, cases_Bool, piece-cons, lines-onto x xs)

-- the bytes before the first line feed of a prefix are the first line, and those behind it are left
cut-feed : (b rest : List ℕ) → let n = position_or_len (λ c. c == 10) b in n < length b → (take n b ≡ first_piece 10 (b ++ rest)) × (drop (suc n) (b ++ rest) ≡ drop_through 10 (b ++ rest))
cut-feed [] rest h = absurd (omega (arith, h))
cut-feed (x ∷ xs) rest h = elim (cases_Bool (x == 10)) [
  | inl e ↦ rw (e, e) (refl, refl)
  | inr e ↦
      let later = position-no (λ c. c == 10) x xs e in
      let behind = cut-feed xs rest (omega (arith, h, later)) in
      rw (later, piece-cons x (xs ++ rest) e, e) (ap (λ (t : List ℕ). x ∷ t) behind.0, behind.1)
]

-- if a line lies whole in the buffer, it is taken from what is left
pub takes_buffered : (no_room : Bool) (b : List ℕ) (inner left : Option (List ℕ)) (n : ℕ) → n ≡ position_or_len (λ c. c == 10) b → n < length b →
    DropsConsumable (cond no_room None (prepend_known b inner)) left (Some (length b)) (n + 1) → TakesLine (cond no_room None (prepend_known b inner)) (take n b) left
takes_buffered true b inner left n place within dropped = tt
takes_buffered false b None left n place within dropped = tt
takes_buffered false b (Some rest) left n place within dropped =
    let cut = cut-feed b rest (omega (arith, place, within)) in
    (omega (arith, within, length-append b rest), rw place cut.0, dropped (omega (arith, within)) ∙ ap (λ (t : List ℕ). Some t) (rw (add-one, place) cut.1))

-- what is read behind nothing up to and including a line feed is a line with its line feed
pub takes_read : (left left' : Option (List ℕ)) (line before bare : List ℕ) {m k n : ℕ} → m ≡ length line → m ≡ k + n → k ≡ 0 → (n ≡ 0 → ⊥) →
    IfSome left (λ xs. line ≡ before ++ take_through 10 xs) → before ≡ [] → DropsThrough left left' 10 → bare ≡ strip_last 10 line → TakesLine left bare left'
takes_read None left' line before bare long more none some bytes nothing rest stripped = tt
takes_read (Some []) left' line before bare long more none some bytes nothing rest stripped = absurd (grind (arith, common_steps))
takes_read (Some (x ∷ xs)) left' line before bare long more none some bytes nothing rest stripped = (omega arith, let whole = rw nothing at bytes in cc, rest)
