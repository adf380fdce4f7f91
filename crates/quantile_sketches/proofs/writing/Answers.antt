-- Digits, ranks and texts of ranks, one after another: what is out, what waits, and what is left of what was owed.
use Rattle.std.proofs.lemmas.Grind.{common_steps}
use Rattle.std.proofs.Common.{◌≡◌, ℕ, ℤ, pos, ◌+◌, ◌-◌, ◌<◌, ◌≤◌, ◌^◌, ◌/◌, ◌%◌, true, false, List, [], ◌∷◌, ◌++◌, length, take, drop, set, arith, length-set, refl, sym, ap, ◌∙◌, Option, Result, Ok, IsOk, IsErr, OnOk, subst, zero, suc, get_or}
use Rattle.std.proofs.Math.IntN.{nat_abs}
use Rattle.std.proofs.lemmas.Fmt.{decimal_digit, decimal_step}
use Rattle.std.proofs.lemmas.Int.{ints}
use Rattle.std.proofs.lemmas.Nat.{div_below, pow-add}
use lib.Signed.{lt_z}
use Rattle.std.proofs.lemmas.List.{append_assoc, drop-set, append-nil, take-append-drop, take_rest, length-drop, take_all}
use Rattle.std.specs.Fmt.{decimal, signed_decimal}
use Rattle.std.proofs.Math.Seq.{take-add}
use Rattle.std.specs.Io.KnownBytes.{Appends, Keeps, WriteAppends}
use Rattle.std.proofs.lemmas.Result.{IfOk-from_err, MatchResult-at_ok}
use Rattle.quantile_sketches.specs.Output.{Writes}
use Rattle.sketch_base.specs.declared.common.Rank.{Rank}
use Rattle.quantile_sketches.specs.Answer.{rank_text, ranks_text}

-- Digits that are put in place from the last one to the first.

-- one more digit is put before the others
pub put_more : (text : List ℕ) (rest start : ℕ) (room : List ℕ) → 10 ≤ rest → rest < 2 ^ 64 → start < length room → text ≡ decimal rest ++ drop (start + 1) room →
    text ≡ decimal (rest / 10) ++ drop start (set room start (48 + rest % 10))
put_more text rest start room h l s e = cc (decimal_step rest h l, append_assoc (decimal (rest / 10)) ((48 + rest % 10) ∷ []) (drop (start + 1) room), drop-set room start (48 + rest % 10) s)

-- the last digit to be put is the first of the text
pub put_last : (text : List ℕ) (rest start : ℕ) (room : List ℕ) → rest < 10 → start < length room → text ≡ decimal rest ++ drop (start + 1) room →
    text ≡ drop start (set room start (48 + rest))
put_last text rest start room h s e = cc (decimal_digit rest h, drop-set room start (48 + rest) s)

-- a number's text is that of its absolute value, after a minus if it is negative
negative : (z : ℤ) (n : ℕ) → lt_z z (pos 0) ≡ true → n ≡ nat_abs z → signed_decimal z ≡ 45 ∷ decimal n
negative z n l e = grind (arith, common_steps, ints)

natural : (z : ℤ) (n : ℕ) → lt_z z (pos 0) ≡ false → n ≡ nat_abs z → signed_decimal z ≡ decimal n
natural z n l e = grind (arith, common_steps, ints)

-- a tenth of a number of at least two digits has one digit fewer
pub tenth : (n k : ℕ) → 10 ≤ n → n < 10 ^ (k + 1) → (k - 1 + 1 ≡ k) × (n / 10 < 10 ^ (k - 1 + 1))
tenth n k h l = grind (arith, common_steps, div_below, pow-add)

-- one place before another
before : (start : ℕ) → 0 < start → start - 1 + 1 ≡ start
before start some = omega (arith, some)

-- the text of a number and what follows it, from the place of its first digit or of its minus on
module _ (z z' : ℤ) {n start' size : ℕ} {room' : List ℕ} (start : ℕ) (room rest : List ℕ) (same : z' ≡ z) (abs : n ≡ nat_abs z') (digits : drop start room ≡ decimal n ++ rest)
    (long : length room ≡ size) where
  pub with_minus : lt_z z' (pos 0) ≡ true → 0 < start → start < size → room' ≡ set room (start - 1) 45 → start' ≡ start - 1 →
      take (size - start') (drop start' room') ≡ signed_decimal z ++ rest
  with_minus below some inside put moved = grind (arith, common_steps, length-set, drop-set, before, negative)

  pub without_minus : lt_z z' (pos 0) ≡ false → room' ≡ room → start' ≡ start → take (size - start') (drop start' room') ≡ signed_decimal z ++ rest
  without_minus above kept there = grind (arith, common_steps, natural)

-- Writes one after another: what is out, what waits and what is left of what was owed.

-- nothing is appended
pub appends_none : (w : Option (List ℕ)) → Appends w w []
appends_none w = grind (arith, common_steps, append-nil)

appends_on : (w0 w w' : Option (List ℕ)) (a b : List ℕ) → Appends w0 w a → Appends w w' b → Appends w0 w' (a ++ b)
appends_on w0 w w' a b h k = grind (arith, common_steps, append_assoc)

appends_kept : (w0 w w' : Option (List ℕ)) (a : List ℕ) → Appends w0 w a → Keeps w w' → Appends w0 w' a
appends_kept w0 w w' a h k = grind (arith, common_steps)

-- what doesn't change is kept
pub keeps_same : (c : Option (List ℕ)) → Keeps c c
keeps_same c = grind (arith, common_steps)

-- what holds in any case holds if a call succeeds
pub ok-so : {T E : Type 0} {P : Type 0} (r : Result T E) → P → OnOk r P
ok-so r p = grind (arith, common_steps)

-- some bytes of a text are out, and then more
pub writes-some : (c c' c'' : Option (List ℕ)) (bytes : List ℕ) (written count : ℕ) → written ≤ length bytes → Appends c c' (take written bytes) →
    count ≤ length (take (length bytes - written) (drop written bytes)) → Appends c' c'' (take count (take (length bytes - written) (drop written bytes))) →
    (written + count ≤ length bytes) × Appends c c'' (take (written + count) bytes)
writes-some c c' c'' bytes written count h a k b = grind (arith, common_steps, take_rest, length-drop, take-add, appends_on)

-- if a write fails, some first bytes are out
pub writes-stop : {T E : Type 0} (c c' c'' : Option (List ℕ)) (waiting : List ℕ) (r : Result T E) (written : ℕ) (bytes : List ℕ) →
    IsErr r → Appends c c' (take written bytes) → Keeps c' c'' → Writes r c c'' bytes waiting
writes-stop c c' c'' waiting r written bytes fails a k = record {
  sent = take written bytes;
  left = drop written bytes;
  parts = sym (take-append-drop written bytes);
  out = appends_kept c c' c'' (take written bytes) a k;
  waits = IfOk-from_err r _ fails;
}

-- nothing is out
pub writes-none : {T E : Type 0} (c : Option (List ℕ)) (r : Result T E) (owed waiting : List ℕ) → owed ≡ waiting → Writes r c c owed waiting
writes-none c r owed waiting e = record { sent = []; left = owed; parts = refl; out = appends_none c; waits = ok-so r e }

-- another call fails, with more owed after the rest
pub writes-early : {T E T' E' : Type 0} {r : Result T E} {c c' : Option (List ℕ)} {owed waiting : List ℕ} (text more waiting' : List ℕ) (r' : Result T' E') →
    text ≡ owed ++ more → IsErr r' → Writes r c c' owed waiting → Writes r' c c' text waiting'
writes-early text more waiting' r' e fails h = grind (arith, common_steps, append_assoc)

-- what holds if a call succeeds holds of one that did
pub held-ok : {T E : Type 0} {P : Type 0} (r : Result T E) → IsOk r → OnOk r P → P
held-ok r ok p = grind (arith, common_steps)

-- what waits goes out, with more after it
pub writes-on : {T E T' E' : Type 0} {r : Result T E} {r' : Result T' E'} {c c' c'' : Option (List ℕ)} {owed waiting owed' waiting' : List ℕ} (text more : List ℕ) →
    text ≡ owed ++ more → Writes r c c' owed waiting → IsOk r → owed' ≡ waiting ++ more → Writes r' c' c'' owed' waiting' → Writes r' c c'' text waiting'
writes-on {r = r} {c = c} {c' = c'} {c'' = c''} {waiting = waiting} text more e h ok f k = grind (arith, common_steps, held-ok, append_assoc, appends_on)

-- a first part of a text is written, and then the rest
pub writes-then : {T E T' E' : Type 0} {r : Result T E} {r' : Result T' E'} {c c' c'' : Option (List ℕ)} {waiting waiting' : List ℕ} (w first rest text : List ℕ) →
    text ≡ first ++ rest → Writes r c c' (w ++ first) waiting → IsOk r → Writes r' c' c'' (waiting ++ rest) waiting' → Writes r' c c'' (w ++ text) waiting'
writes-then w first rest text e h ok k = writes-on (w ++ text) rest (ap (λ (t : List ℕ). w ++ t) e ∙ sym (append_assoc w first rest)) h ok refl k

-- writing a first part fails
pub writes-fail : {T E T' E' : Type 0} {r : Result T E} {c c' : Option (List ℕ)} {waiting : List ℕ} (w first rest text waiting' : List ℕ) (r' : Result T' E') →
    text ≡ first ++ rest → IsErr r' → Writes r c c' (w ++ first) waiting → Writes r' c c' (w ++ text) waiting'
writes-fail w first rest text waiting' r' e fails h = writes-early (w ++ text) rest waiting' r' (ap (λ (t : List ℕ). w ++ t) e ∙ sym (append_assoc w first rest)) fails h

-- the same for another call that succeeds
pub writes-as : {T E T' E' : Type 0} {r : Result T E} {c c' : Option (List ℕ)} {owed waiting : List ℕ} (r' : Result T' E') → Writes r c c' owed waiting → IsOk r → Writes r' c c' owed waiting
writes-as {r = r} r' h ok = record { sent = h.sent; left = h.left; parts = h.parts; out = h.out; waits = ok-so r' (held-ok r ok h.waits) }

-- all that was owed is out if nothing waits
pub all-out : {T E : Type 0} {r : Result T E} {c c' : Option (List ℕ)} {owed waiting : List ℕ} → Writes r c c' owed waiting → IsOk r → waiting ≡ [] → Appends c c' owed
all-out {r = r} h ok nothing = rw (h.parts, held-ok r ok h.waits ∙ nothing, append-nil h.sent) h.out

-- known bytes that stay as they were have nothing behind them
pub keeps-appends : (c c' : Option (List ℕ)) → Keeps c c' → Appends c c' []
keeps-appends c c' k = appends_kept c c c' [] (appends_none c) k

appends-keeps : (c c' : Option (List ℕ)) → Appends c c' [] → Keeps c c'
appends-keeps c c' h = grind (arith, common_steps, append-nil)

-- a write that took no byte
pub write-keeps : {E : Type 0} (c c' : Option (List ℕ)) {r : Result ℕ E} {n : ℕ} (bytes : List ℕ) → WriteAppends c c' r bytes → r ≡ Ok n → n ≡ 0 → Keeps c c'
write-keeps c c' {n = n} bytes h is none = appends-keeps c c' (subst (λ (k : ℕ). Appends c c' (take k bytes)) none (MatchResult-at_ok _ _ n is h))

-- Texts of ranks, one after another.

-- a rank and a space after it
abbrev pub spaced_rank : Rank → List ℕ
spaced_rank r = rank_text r ++ 32 ∷ []

-- ranks, each with a space after it
abbrev pub spaced_ranks : List Rank → List ℕ
spaced_ranks [] = []
spaced_ranks (r ∷ rs) = spaced_rank r ++ spaced_ranks rs

-- the last rank of a line has no space after it
ranks_last : (rs : List Rank) (n : ℕ) (d : Rank) → length rs ≡ suc n → ranks_text rs ++ (10 ∷ []) ≡ spaced_ranks (take n rs) ++ (rank_text (get_or rs n d) ++ 10 ∷ [])
ranks_last (r ∷ []) zero d h = refl
ranks_last (r ∷ s ∷ rs) (suc n) d h = rw (append_assoc (rank_text r) (32 ∷ ranks_text (s ∷ rs)) (10 ∷ []), ranks_last (s ∷ rs) n d (omega (arith, h))) (simp append_assoc)
ranks_last rs n d h = absurd (omega arith)

-- the last rank comes after all others
pub ranks_end : (rs : List Rank) (n i : ℕ) (d : Rank) → length rs ≡ suc n → length (take n rs) ≤ i →
    ranks_text rs ++ (10 ∷ []) ≡ spaced_ranks (take i (take n rs)) ++ (rank_text (get_or rs n d) ++ 10 ∷ [])
ranks_end rs n i d h k = ranks_last rs n d h ∙ ap (λ (xs : List Rank). spaced_ranks xs ++ (rank_text (get_or rs n d) ++ 10 ∷ [])) (sym (take_all i (take n rs) k))

-- one of the ranks, between those before it and those after it
spaced_at : (rs : List Rank) (i : ℕ) (d : Rank) → i < length rs → spaced_ranks rs ≡ spaced_ranks (take i rs) ++ (spaced_rank (get_or rs i d) ++ spaced_ranks (drop (i + 1) rs))
spaced_at [] i d h = absurd (omega (arith, h))
spaced_at (r ∷ rs) zero d h = refl
spaced_at (r ∷ rs) (suc i) d h =
    let more : suc i + 1 ≡ suc (i + 1) = omega arith in
    rw (more, spaced_at rs i d (omega (arith, h))) (simp append_assoc)

-- one more of the ranks
pub spaced_to : (rs : List Rank) (i : ℕ) (d : Rank) → i < length rs → spaced_ranks (take (i + 1) rs) ≡ spaced_ranks (take i rs) ++ spaced_rank (get_or rs i d)
spaced_to [] i d h = absurd (omega (arith, h))
spaced_to (r ∷ rs) zero d h = append-nil (spaced_rank r)
spaced_to (r ∷ rs) (suc i) d h =
    let more : suc i + 1 ≡ suc (i + 1) = omega arith in
    rw (more, spaced_to rs i d (omega (arith, h))) (simp append_assoc)

-- the text of all ranks, around one
pub ranks_around : (rs : List Rank) (n i : ℕ) (d : Rank) → length rs ≡ suc n → i < length (take n rs) →
    ranks_text rs ++ (10 ∷ []) ≡ (spaced_ranks (take i (take n rs)) ++ spaced_rank (get_or (take n rs) i d))
    ++ (spaced_ranks (drop (i + 1) (take n rs)) ++ (rank_text (get_or rs n d) ++ 10 ∷ []))
ranks_around rs n i d h k = ranks_last rs n d h ∙ (rw (spaced_at (take n rs) i d k) (simp append_assoc))

-- Ranks that are written one after another.

-- a list that isn't empty
one-more : (n : ℕ) → 1 ≤ n → n ≡ suc (n - 1)
one-more n some = omega (arith, some)

abbrev done : Result Unit Unit
done = Ok tt

module _ {T E T' E' : Type 0} {r : Result T E} {r' : Result T' E'} {c c' c'' : Option (List ℕ)} {waiting waiting' : List ℕ} (w : List ℕ) (ranks : List Rank) (i : ℕ) (d : Rank)
    (some : 1 ≤ length ranks) (run : Writes r c c' (w ++ spaced_ranks (take i (take (length ranks - 1) ranks))) waiting) (ok : IsOk r) where
  -- one more, with a space after it
  pub rank-written : i < length (take (length ranks - 1) ranks) → Writes r' c' c'' (waiting ++ (rank_text (get_or (take (length ranks - 1) ranks) i d) ++ 32 ∷ [])) waiting' → IsOk r' →
      Writes done c c'' (w ++ spaced_ranks (take (i + 1) (take (length ranks - 1) ranks))) waiting'
  rank-written more out ok' = writes-as done (writes-then w _ _ _ (spaced_to (take (length ranks - 1) ranks) i d more) run ok out) ok'

  -- one that isn't written whole
  pub rank-unwritten : i < length (take (length ranks - 1) ranks) →
      Writes r' c' c'' (waiting ++ (rank_text (get_or (take (length ranks - 1) ranks) i d) ++ 32 ∷ [])) waiting' → {T'' E'' : Type 0} (ended : Result T'' E'') → IsErr ended →
      (left : List ℕ) → Writes ended c c'' (w ++ (ranks_text ranks ++ 10 ∷ [])) left
  rank-unwritten more out ended fails left =
      writes-fail w _ _ _ left ended (ranks_around ranks (length ranks - 1) i d (one-more (length ranks) some) more) fails (writes-then w _ _ _ refl run ok out)

  -- the last one, with the end of the line
  pub ranks-written : length (take (length ranks - 1) ranks) ≤ i → Writes r' c' c'' (waiting ++ (rank_text (get_or ranks (length ranks - 1) d) ++ 10 ∷ [])) waiting' →
      Writes r' c c'' (w ++ (ranks_text ranks ++ 10 ∷ [])) waiting'
  ranks-written all out = writes-then w _ _ _ (ranks_end ranks (length ranks - 1) i d (one-more (length ranks) some) all) run ok out

-- there is none
pub none-written : {T E : Type 0} {r : Result T E} {c c' : Option (List ℕ)} {waiting : List ℕ} (w : List ℕ) (ranks : List Rank) → length ranks < 1 →
    Writes r c c' (w ++ 10 ∷ []) waiting → Writes r c c' (w ++ (ranks_text ranks ++ 10 ∷ [])) waiting
none-written w [] none h = h
none-written w (x ∷ xs) none h = absurd (omega (arith, none))
