-- Lines that are taken from an input one after another.
use Rattle.std.proofs.Common.{◌≡◌, ◌∙◌, ℕ, ◌+◌, ◌==◌, ◌⊎◌, Bool, true, false, List, [], ◌∷◌, ◌++◌, length, sym, ap, subst, refl, arith, Option, Some, None, IfSome, Result, Ok, Err, OnErr}
use Rattle.std.proofs.lemmas.List.{append_assoc, append-nil, length-append}
use Rattle.std.specs.Io.BufRead.{drop_through}
use Rattle.std.specs.Io.KnownBytes.{IsAtEnd}
use Rattle.std.specs.List.{position_or_len}
use Rattle.std.specs.Option.{unwrap_or}
use Rattle.std.proofs.lemmas.List.Sums.{position_or_len_is}
use Rattle.memchr.specs.Find.{IsFirstByte, is_byte}
use Rattle.sketch_base.specs.TextLines.{lines, TakesLine}
use Rattle.sketch_base.proofs.lines.FirstLine.{lines-first}
use Rattle.log_groups.specs.Lines.{NextTaken, AllTaken, FirstTaken}

module _ {S : Type 0} (takes : S → List ℕ → S → Type 0) where
  all-more : (s t u : S) (ls : List (List ℕ)) (l : List ℕ) → AllTaken takes s ls t → takes t l u → AllTaken takes s (ls ++ l ∷ []) u
  all-more s t u [] l is took = (u, subst (λ r. takes r l u) is took, refl)
  all-more s t u (k ∷ ks) l (next, first, rest) took = (next, first, all-more next t u ks l rest took)

  -- a run over the lines of t: so many are taken, and the others are left to read
  abbrev pub Running : Option (List ℕ) → Option (List ℕ) → S → ℕ → S → Type 0
  Running t left old count new = IfSome t (λ text. (rest : List ℕ) × (left ≡ Some rest) × (front : List (List ℕ)) × (lines text ≡ front ++ lines rest)
      × (count ≡ length front) × AllTaken takes old front new)

  pub running-start : (t : Option (List ℕ)) (old : S) → Running t t old 0 old
  running-start None old = tt
  running-start (Some text) old = (text, refl, [], refl, refl, refl)

  pub running-next : (t left left' : Option (List ℕ)) (old mid new : S) (count : ℕ) → Running t left old count mid →
      NextTaken takes left left' mid new → Running t left' old (count + 1) new
  running-next None left left' old mid new count run next = tt
  running-next (Some text) left left' old mid new count (rest, is, front, parts, many, so) (line, cuts, took) =
      let cut : TakesLine (Some rest) line left' = subst (λ o. TakesLine o line left') is cuts in (
        drop_through 10 rest,
        cut.2,
        front ++ line ∷ [],
        cc (lines-first rest cut.0, cut.1, append_assoc front (line ∷ []) (lines (drop_through 10 rest))),
        (let n = length-append front (line ∷ []) in omega (arith, many, n)),
        all-more old mid new front line so took,
      )

  -- the end of the input
  pub running-end : (t left : Option (List ℕ)) (old mid new : S) (count : ℕ) → Running t left old count mid → IsAtEnd left → new ≡ mid →
      IfSome t (λ text. AllTaken takes old (lines text) new × (count ≡ length (lines text)))
  running-end None left old mid new count run end same = tt
  running-end (Some text) left old mid new count (rest, is, front, parts, many, so) end same =
      let nothing : rest ≡ [] = subst IsAtEnd is end in
      let all : lines text ≡ front = parts ∙ (ap (λ r. front ++ lines r) nothing ∙ append-nil front) in
      rw (all, same) (so, many)

  -- a fault
  pub running-broken : (leaves : S → S → Type 0) (t left : Option (List ℕ)) (old mid new : S) (count : ℕ) → Running t left old count mid → ((new ≡ mid) ⊎ leaves mid new) →
      IfSome t (λ text. FirstTaken takes leaves old (lines text) new)
  running-broken leaves None left old mid new count run broken = tt
  running-broken leaves (Some text) left old mid new count (rest, is, front, parts, many, so) broken = (front, lines rest, mid, parts, so, broken)

-- what holds in any case
pub err-so : {T E : Type 0} (r : Result T E) {P : Type 0} → P → OnErr r P
err-so (Ok x) p = tt
err-so (Err e) p = p

fails : (b : Bool) → (b ≡ true → ⊥) → b ≡ false
fails true h = absurd (h refl)
fails false h = refl

-- the first place of a byte, or the length
pub first-place : (byte : ℕ) (text : List ℕ) (o : Option ℕ) → IsFirstByte (is_byte byte) text o → unwrap_or o (length text) ≡ position_or_len (λ b. b == byte) text
first-place byte text None h = sym (position_or_len_is (λ b. b == byte) text (length text) 0 (omega arith) (λ k l. fails _ (h k (omega arith) l)) (λ l. absurd (omega (arith, l))))
first-place byte text (Some n) h = sym (position_or_len_is (λ b. b == byte) text n 0 (let l = h.0.high in omega (arith, l)) (λ k l. fails _ (h.0.before k (omega arith) l)) (λ l. h.1))
