-- What words say: numbers as std's `parse` reads them, items one after another, hex digits, and the command that a verb asks for.
use Rattle.std.proofs.Common.{arith, ◌≡◌, ◌⊎◌, ℕ, Bool, true, false, cond, List, Option, None, bytes_eq, sym, ap, inl, inr, ◌∙◌, ℤ, pos, neg_ℤ, ◌+◌, ◌<◌, ◌≤◌, ◌^◌, ◌==◌, ◌&&◌, nat_lt, [], ◌∷◌, length, refl, Some, Result, eqb-true, option_and_then, option_map, slice_get, MatchOption, ◌%◌, ◌-◌, ◌||◌, get_or, Ok, eq-eqb, drop}
use Rattle.std.proofs.lemmas.Grind.{common_steps}
use Rattle.std.proofs.lemmas.Bool.{cond-false, false≢true, cases_Bool, cond-true, and_parts, and_from, ltb-true, lt-ltb, false_from_ne_true, both_ways, cases_lt, true≢false}
use Rattle.std.proofs.lemmas.Slice.Eq.{bytes_eq-Decides}
use Rattle.std.specs.Prelude.{codes, unwrap_or, is_some, IsSome, IfSome, ◌↔◌}
use Rattle.quantile_sketches.specs.Command.{parse_asked, parse_merge, parse_merge_redrawn, parse_new, parse_question, parse_redraw, parse_update, parse_update_weighted, parse_cdf, parse_load, parse_pmf, parse_quantile, parse_rank, request_of}
use Rattle.quantile_sketches.specs.LineWords.{at_end, all_digits, is_numeral, number_of, unsigned_of, item_of, Parses, items_in_line, rise, rise_from, then_word}
use Rattle.quantile_sketches.specs.Reader.{Grammar, parse_slot}
use Rattle.quantile_sketches.specs.declared.commands.Command.TheVariants.{Reset, RoundTrip}
use Rattle.quantile_sketches.specs.declared.command.Request.{Request}
use Rattle.quantile_sketches.specs.declared.command.Request.TheVariants.{Image, Run}
use Rattle.std.specs.Char.{digit_value, is_digit, is_ascii_hexdigit}
use Rattle.std.specs.Int.{w64, is_in_range}
use Rattle.std.specs.Str.{IsAscii, IsUtf8}
use Rattle.std.specs.Result.{result_ok}
use Rattle.std.specs.Str.Parse.{digits_value, without_leading_plus, starts_with_minus, without_leading_sign, AllDigits, IsNumeral, ParsesSigned, ParsesUnsigned}
use Rattle.std.proofs.lemmas.Option.{cond_some}
use Rattle.std.proofs.lemmas.Fmt.{IsAscii-from_digits}
use Rattle.std.proofs.lemmas.Str.{IsUtf8-from_ascii}
use mir.Val.{SFits, to_z, of_z}
use Rattle.std.specs.List.{AllPass}
use borrow.Author.Count.{below_more}
use Rattle.std.proofs.lemmas.List.{get_or_default, get_or_past}
use Rattle.hex.specs.Hex.{decode_of, is_hex_digit}
use Rattle.hex.proofs.HexLemmas.{decode_of-ok, decode_of-digits}
use Rattle.quantile_sketches.specs.HexText.{hex_of}
use Rattle.std.specs.Ordering.{int_cmp, is_lt}
use Rattle.std.proofs.lemmas.Int.{to_z-of_z}

-- Which command a verb asks for, by tests of one verb after the other.

-- what a verb asks for that is this one
named : {A : Type 0} {r : A} {t : Bool} (verb name : List ℕ) (asked : List ℕ → A) → t ≡ bytes_eq verb name → t ≡ true → r ≡ asked name → r ≡ asked verb
named verb name asked s h e = e ∙ ap asked (sym ((bytes_eq-Decides verb name).0 (sym s ∙ h)))

-- the second of two that may be meant
passed : {A : Type 0} {r y : A} {b : Bool} (x : A) → b ≡ false → r ≡ y → r ≡ cond b x y
passed {y = y} {b = b} x h e = e ∙ sym (cond-false b x y h)

-- a verb is another one, or it is this one, of which the family knows nothing
other : (b known : Bool) → (b ≡ false) ⊎ (known ≡ false) → (b ≡ false) ⊎ ((b ≡ true) × (known ≡ false))
other b known is = grind (arith, common_steps, false≢true)

module _ {C : Type 0} (grammar : Grammar C) (verb : List ℕ) (slot : ℕ) (ws : List (List ℕ)) {r : Option (Request C)} where
  pub asks-update : {t : Bool} → t ≡ bytes_eq verb (codes "update") → t ≡ true → r ≡ parse_update slot ws → r ≡ parse_asked grammar verb slot ws
  asks-update = named verb (codes "update") (λ v. parse_asked grammar v slot ws)

  pub asks-new : {t : Bool} → t ≡ bytes_eq verb (codes "new") → t ≡ true → r ≡ parse_new grammar.reader slot ws → r ≡ parse_asked grammar verb slot ws
  asks-new = named verb (codes "new") (λ v. parse_asked grammar v slot ws)

  pub asks-merge : {t : Bool} → t ≡ bytes_eq verb (codes "merge") → t ≡ true → r ≡ parse_merge slot ws → r ≡ parse_asked grammar verb slot ws
  asks-merge = named verb (codes "merge") (λ v. parse_asked grammar v slot ws)

  pub asks-reset : {t : Bool} → t ≡ bytes_eq verb (codes "reset") → t ≡ true → r ≡ at_end (Run (Reset slot)) ws → r ≡ parse_asked grammar verb slot ws
  asks-reset = named verb (codes "reset") (λ v. parse_asked grammar v slot ws)

  pub asks-roundtrip : {t : Bool} → t ≡ bytes_eq verb (codes "roundtrip") → t ≡ true → r ≡ at_end (Run (RoundTrip slot)) ws → r ≡ parse_asked grammar verb slot ws
  asks-roundtrip = named verb (codes "roundtrip") (λ v. parse_asked grammar v slot ws)

  pub asks-updatew : {t : Bool} → t ≡ bytes_eq verb (codes "updatew") → t ≡ true → r ≡ parse_update_weighted grammar.weighs slot ws → r ≡ parse_asked grammar verb slot ws
  asks-updatew = named verb (codes "updatew") (λ v. parse_asked grammar v slot ws)

  pub asks-redraw : {t : Bool} → t ≡ bytes_eq verb (codes "redraw") → t ≡ true → r ≡ parse_redraw grammar.redraws slot ws → r ≡ parse_asked grammar verb slot ws
  asks-redraw = named verb (codes "redraw") (λ v. parse_asked grammar v slot ws)

  pub asks-mergeu : {t : Bool} → t ≡ bytes_eq verb (codes "mergeu") → t ≡ true → r ≡ parse_merge_redrawn grammar.redraws slot ws → r ≡ parse_asked grammar verb slot ws
  asks-mergeu = named verb (codes "mergeu") (λ v. parse_asked grammar v slot ws)

  -- this verb, of which the family knows nothing
  unknown : (name : List ℕ) → bytes_eq verb name ≡ true → parse_question {C = C} name slot ws ≡ parse_asked grammar name slot ws →
      r ≡ parse_question verb slot ws → r ≡ parse_asked grammar verb slot ws
  unknown name is same e = grind (arith, common_steps, bytes_eq-Decides)

  questioned : bytes_eq verb (codes "update") ≡ false → bytes_eq verb (codes "new") ≡ false → bytes_eq verb (codes "merge") ≡ false →
      bytes_eq verb (codes "reset") ≡ false → bytes_eq verb (codes "roundtrip") ≡ false →
      (bytes_eq verb (codes "updatew") ≡ false) ⊎ ((bytes_eq verb (codes "updatew") ≡ true) × (grammar.weighs ≡ false)) →
      (bytes_eq verb (codes "redraw") ≡ false) ⊎ ((bytes_eq verb (codes "redraw") ≡ true) × (grammar.redraws ≡ false)) →
      (bytes_eq verb (codes "mergeu") ≡ false) ⊎ ((bytes_eq verb (codes "mergeu") ≡ true) × (grammar.redraws ≡ false)) →
      r ≡ parse_question verb slot ws → r ≡ parse_asked grammar verb slot ws
  questioned h1 h2 h3 h4 h5 (inr (is, unsaid)) k7 k8 e = unknown (codes "updatew") is (ap (λ b. parse_update_weighted b slot ws) (sym unsaid)) e
  questioned h1 h2 h3 h4 h5 (inl h6) (inr (is, unsaid)) k8 e = unknown (codes "redraw") is (ap (λ b. parse_redraw b slot ws) (sym unsaid)) e
  questioned h1 h2 h3 h4 h5 (inl h6) (inl h7) (inr (is, unsaid)) e = unknown (codes "mergeu") is (ap (λ b. parse_merge_redrawn b slot ws) (sym unsaid)) e
  questioned h1 h2 h3 h4 h5 (inl h6) (inl h7) (inl h8) e = passed _ h1 (passed _ h2 (passed _ h3 (passed _ h4 (passed _ h5 (passed _ h6 (passed _ h7 (passed _ h8 e)))))))

  pub asks-question : bytes_eq verb (codes "update") ≡ false → bytes_eq verb (codes "new") ≡ false → bytes_eq verb (codes "merge") ≡ false →
      bytes_eq verb (codes "reset") ≡ false → bytes_eq verb (codes "roundtrip") ≡ false → (bytes_eq verb (codes "updatew") ≡ false) ⊎ (grammar.weighs ≡ false) →
      (bytes_eq verb (codes "redraw") ≡ false) ⊎ (grammar.redraws ≡ false) → (bytes_eq verb (codes "mergeu") ≡ false) ⊎ (grammar.redraws ≡ false) →
      r ≡ parse_question verb slot ws → r ≡ parse_asked grammar verb slot ws
  asks-question h1 h2 h3 h4 h5 k6 k7 k8 = questioned h1 h2 h3 h4 h5 (other _ _ k6) (other _ _ k7) (other _ _ k8)

-- the same for a question or `load`
module _ {C : Type 0} (verb : List ℕ) (slot : ℕ) (ws : List (List ℕ)) {r : Option (Request C)} where
  pub asks-rank : {t : Bool} → t ≡ bytes_eq verb (codes "rank") → t ≡ true → r ≡ parse_rank slot ws → r ≡ parse_question verb slot ws
  asks-rank = named verb (codes "rank") (λ v. parse_question v slot ws)

  pub asks-quantile : {t : Bool} → t ≡ bytes_eq verb (codes "quantile") → t ≡ true → r ≡ parse_quantile slot ws → r ≡ parse_question verb slot ws
  asks-quantile = named verb (codes "quantile") (λ v. parse_question v slot ws)

  pub asks-cdf : {t : Bool} → t ≡ bytes_eq verb (codes "cdf") → t ≡ true → r ≡ parse_cdf slot ws → r ≡ parse_question verb slot ws
  asks-cdf = named verb (codes "cdf") (λ v. parse_question v slot ws)

  pub asks-pmf : {t : Bool} → t ≡ bytes_eq verb (codes "pmf") → t ≡ true → r ≡ parse_pmf slot ws → r ≡ parse_question verb slot ws
  asks-pmf = named verb (codes "pmf") (λ v. parse_question v slot ws)

  pub asks-image : {t : Bool} → t ≡ bytes_eq verb (codes "image") → t ≡ true → r ≡ at_end (Image slot) ws → r ≡ parse_question verb slot ws
  asks-image = named verb (codes "image") (λ v. parse_question v slot ws)

  pub asks-load : {t : Bool} → t ≡ bytes_eq verb (codes "load") → t ≡ true → r ≡ parse_load slot ws → r ≡ parse_question verb slot ws
  asks-load = named verb (codes "load") (λ v. parse_question v slot ws)

  pub asks-nothing : bytes_eq verb (codes "rank") ≡ false → bytes_eq verb (codes "quantile") ≡ false → bytes_eq verb (codes "cdf") ≡ false →
      bytes_eq verb (codes "pmf") ≡ false → bytes_eq verb (codes "image") ≡ false → bytes_eq verb (codes "load") ≡ false →
      r ≡ None → r ≡ parse_question verb slot ws
  asks-nothing h1 h2 h3 h4 h5 h6 e = passed _ h1 (passed _ h2 (passed _ h3 (passed _ h4 (passed _ h5 (passed _ h6 e)))))

-- Numbers as std's `parse` reads them, and words that are parsed.

-- digits that write a number below the limit
pub number_is : (limit : ℕ) (ds : List ℕ) → is_numeral ds ≡ true → digits_value 10 ds < limit → number_of limit ds ≡ Some (digits_value 10 ds)
number_is limit ds a b = cond-true (is_numeral ds && nat_lt (digits_value 10 ds) limit) (Some (digits_value 10 ds)) None
    (and_from (is_numeral ds) (nat_lt (digits_value 10 ds) limit) a (lt-ltb (digits_value 10 ds) limit b))

-- the number that digits write, negative if b says so
abbrev pub signed : Bool → List ℕ → Option ℤ
signed b ds = cond (is_numeral ds && nat_lt (digits_value 10 ds) (cond b (2 ^ 63 + 1) (2 ^ 63))) (Some (cond b (neg_ℤ (pos (digits_value 10 ds))) (pos (digits_value 10 ds)))) None

fits_below : (b : Bool) (m : ℕ) → SFits w64 (cond b (neg_ℤ (pos m)) (pos m)) → m < cond b (2 ^ 63 + 1) (2 ^ 63)
fits_below b m h = grind (arith, common_steps)

-- a number below its limit fits
pub below_fits : (b : Bool) (m : ℕ) → m < cond b (2 ^ 63 + 1) (2 ^ 63) → SFits w64 (cond b (neg_ℤ (pos m)) (pos m))
below_fits b m h = grind (arith, common_steps)

-- so an item fits
pub item_fits : (w : List ℕ) (item : ℤ) → item_of w ≡ Some item → SFits w64 item
item_fits w item e = grind (arith, common_steps, cond_some, and_parts, below_fits, ltb-true)

-- the number that a sign and digits spell
pub signed_is : (b : Bool) (ds : List ℕ) → is_numeral ds ≡ true → digits_value 10 ds < cond b (2 ^ 63 + 1) (2 ^ 63) →
    signed b ds ≡ Some (cond b (neg_ℤ (pos (digits_value 10 ds))) (pos (digits_value 10 ds)))
signed_is b ds d h = cond-true (is_numeral ds && nat_lt (digits_value 10 ds) (cond b (2 ^ 63 + 1) (2 ^ 63))) _ None
    (and_from (is_numeral ds) (nat_lt (digits_value 10 ds) (cond b (2 ^ 63 + 1) (2 ^ 63))) d (lt-ltb (digits_value 10 ds) (cond b (2 ^ 63 + 1) (2 ^ 63)) h))

signed_not : (b : Bool) (ds : List ℕ) → (is_numeral ds ≡ true → cond b (2 ^ 63 + 1) (2 ^ 63) ≤ digits_value 10 ds) → signed b ds ≡ None
signed_not b ds h = grind (arith, common_steps, cond-false, false_from_ne_true, and_parts, ltb-true)

-- digits as std defines them
all_digits-true : (ds : List ℕ) → AllDigits 10 ds → all_digits ds ≡ true
all_digits-true [] h = refl
all_digits-true (c ∷ cs) h = and_from (is_digit c 10) (all_digits cs) (lt-ltb (digit_value c) 10 h.0) (all_digits-true cs h.1)

all_digits-false : (ds : List ℕ) → all_digits ds ≡ true → AllDigits 10 ds
all_digits-false [] h = tt
all_digits-false (c ∷ cs) h =
    let p = and_parts (is_digit c 10) (all_digits cs) h in
    (ltb-true (digit_value c) 10 p.0, all_digits-false cs p.1)

is_numeral-true : (ds : List ℕ) → IsNumeral 10 ds → is_numeral ds ≡ true
is_numeral-true ds h = and_from (nat_lt 0 (length ds)) (all_digits ds) (lt-ltb 0 (length ds) h.0) (all_digits-true ds h.1)

is_numeral-false : (ds : List ℕ) → is_numeral ds ≡ true → IsNumeral 10 ds
is_numeral-false ds h = grind (arith, common_steps, and_parts, ltb-true, all_digits-false)

-- what std's parse reads is what the word writes
pub parses_unsigned : {E : Type 0} (k : ℕ) (w : List ℕ) (r : Result ℕ E) → ParsesUnsigned k 10 w r → result_ok r ≡ unsigned_of k w
parses_unsigned k w r h = grind (arith, common_steps, number_is, is_numeral-true, false_from_ne_true, and_parts, is_numeral-false, ltb-true)

-- what std parses is the item
pub parses_item : {E : Type 0} (w : List ℕ) (r : Result ℤ E) → ParsesSigned w64 10 w r → result_ok r ≡ item_of w
parses_item w r h = grind (arith, common_steps, signed_is, is_numeral-true, fits_below, signed_not, is_numeral-false, below_fits)

ascii_behind : (c : ℕ) (cs : List ℕ) → c < 128 → IsAscii cs → IsAscii (c ∷ cs)
ascii_behind c cs low h h4 = grind (arith, common_steps)

ascii_plus : (w : List ℕ) → IsAscii (without_leading_plus w) → IsAscii w
ascii_plus [] h = λ i. omega arith
ascii_plus (c ∷ cs) h = elim (cases_Bool (c == 43)) [
  | inl e ↦ ascii_behind c cs (omega (arith, eqb-true c 43 e)) (rw e at h)
  | inr e ↦ rw e at h
]

ascii_sign : (w : List ℕ) → IsAscii (without_leading_sign w) → IsAscii w
ascii_sign [] h = λ i. omega arith
ascii_sign (c ∷ cs) h = elim (cases_Bool (c == 45)) [
  | inl e ↦ ascii_behind c cs (omega (arith, eqb-true c 45 e)) (rw e at h)
  | inr e ↦ ascii_plus (c ∷ cs) (rw e at h)
]

-- digits are UTF-8
digits_utf8 : (w ds : List ℕ) → (IsAscii ds → IsAscii w) → (IsUtf8 w → ⊥) → is_numeral ds ≡ true → ⊥
digits_utf8 w ds behind bad d = bad (IsUtf8-from_ascii w (behind (IsAscii-from_digits ds (is_numeral-false ds d).1)))

-- so a word that isn't UTF-8 is no number
pub no_unsigned : (k : ℕ) (w : List ℕ) → (IsUtf8 w → ⊥) → None ≡ unsigned_of k w
no_unsigned k w bad =
    let ds = without_leading_plus w in
    sym (cond-false (is_numeral ds && nat_lt (digits_value 10 ds) (2 ^ k)) (Some (digits_value 10 ds)) None (false_from_ne_true _ (λ t. digits_utf8 w ds (ascii_plus w) bad (and_parts (is_numeral ds) (nat_lt (digits_value 10 ds) (2 ^ k)) t).0)))

pub no_item : (w : List ℕ) → (IsUtf8 w → ⊥) → None ≡ item_of w
no_item w bad = sym (signed_not (starts_with_minus w) (without_leading_sign w) (λ d. absurd (digits_utf8 w (without_leading_sign w) (ascii_sign w) bad d)))

-- the first word is parsed
pub word-parsed : {T E B : Type 0} {gives : List ℕ → Result T E → Type 0} (read : List ℕ → Option T) (bytes : B → List ℕ) →
    ((w : List ℕ) (r : Result T E) → gives w r → result_ok r ≡ read w) → ((w : List ℕ) → (IsUtf8 w → ⊥) → None ≡ read w) →
    (o : Option B) (ws : List (List ℕ)) {r : Option T} → option_map bytes o ≡ slice_get ws 0 → MatchOption o (r ≡ None) (λ b. Parses gives (bytes b) r) →
    r ≡ option_and_then read (slice_get ws 0)
word-parsed read bytes told none o ws first e = grind (arith, common_steps)

-- Hex digits: when a word of them writes bytes.

from_ok : {T E : Type 0} (r : Result T E) (x : T) → Some x ≡ result_ok r → r ≡ Ok x
from_ok r x e = grind (arith, common_steps)

-- a word writes bytes exactly if it is an even number of digits
pub hex_when : (w : List ℕ) (o : Option (List ℕ)) → o ≡ hex_of w → IsSome o ↔ ((length w % 2 ≡ 0) × AllPass is_hex_digit w)
hex_when w (Some bytes) e = let p = decode_of-ok w bytes (from_ok (decode_of w) bytes e) in (λ _. (p.0, p.1), λ _. refl)
hex_when w None e = grind (arith, common_steps, decode_of-digits)

hex_cases : (a b d : Bool) (x y z : ℕ) → ((a || b) || d) ≡ is_some (cond b (Some x) (cond d (Some y) (cond a (Some z) None)))
hex_cases a b d x y z = grind (arith, common_steps)

-- a word whose first bytes are digits
abbrev pub BeginsHex : List ℕ → ℕ → Type 0
BeginsHex w i = (k : ℕ) → k < i → is_hex_digit (get_or w k 0) ≡ true

hex_more : (w : List ℕ) (i : ℕ) → BeginsHex w i → true ≡ is_ascii_hexdigit (get_or w i 0) → BeginsHex w (i + 1)
hex_more w i h e = below_more (λ k. is_hex_digit (get_or w k 0) ≡ true) i h (sym (e ∙ (hex_cases (is_in_range 48 57 (get_or w i 0)) (is_in_range 65 70 (get_or w i 0)) (is_in_range 97 102 (get_or w i 0)) ((get_or w i 0) - 55) ((get_or w i 0) - 87) ((get_or w i 0) - 48))))

not_hex : (w : List ℕ) (i : ℕ) → i < length w → false ≡ is_ascii_hexdigit (get_or w i 0) → false ≡ is_some (hex_of w)
not_hex w i l e = sym (false_from_ne_true _ (λ some. true≢false (sym (((hex_when w (hex_of w) refl).0 some).1 i 0 l) ∙ sym (e ∙ (hex_cases (is_in_range 48 57 (get_or w i 0)) (is_in_range 65 70 (get_or w i 0)) (is_in_range 97 102 (get_or w i 0)) ((get_or w i 0) - 55) ((get_or w i 0) - 87) ((get_or w i 0) - 48))))))

all_hex : (w : List ℕ) (i : ℕ) → length w ≤ i → BeginsHex w i → AllPass is_hex_digit w
all_hex w i l h k d m = ap is_hex_digit (get_or_default w k d 0 m) ∙ h k (omega (arith, l, m))

whole_hex : (w : List ℕ) (i : ℕ) → length w ≤ i → BeginsHex w i → (length w % 2 == 0) ≡ is_some (hex_of w)
whole_hex w i l h = grind (arith, common_steps, cases_Bool, hex_when, eqb-true, all_hex, false_from_ne_true, both_ways, eq-eqb)

-- what is known of a word after its first bytes were tested, if all are digits and if not
abbrev pub Tested : List ℕ → ℕ → Bool → Type 0
Tested w i true = BeginsHex w i
Tested w i false = false ≡ is_some (hex_of w)

-- one more byte is tested
pub tested_more : (w : List ℕ) (i : ℕ) (all here : Bool) → i < length w → Tested w i all → here ≡ is_ascii_hexdigit (get_or w i 0) → Tested w (i + 1) (all && here)
tested_more w i all here l h e = grind (arith, common_steps, hex_more, not_hex)

-- all bytes were tested
pub tested_whole : (w : List ℕ) (i : ℕ) (all : Bool) → length w ≤ i → Tested w i all → (all && (length w % 2 == 0)) ≡ is_some (hex_of w)
tested_whole w i all l h = grind (arith, common_steps, whole_hex)

-- what is known of the bytes that were found says what the word writes
pub hex_found : {V : Type 0} (items : V → List ℕ) (w : List ℕ) (found : Option V) → IfSome found (λ v. decode_of w ≡ Ok (items v)) →
    (IsSome found ↔ ((length w % 2 ≡ 0) × AllPass is_hex_digit w)) → option_map items found ≡ hex_of w
hex_found items w (Some v) is when = sym (ap result_ok is)
hex_found items w None is when = none (hex_of w) refl
  where
    none : (o : Option (List ℕ)) → o ≡ hex_of w → None ≡ hex_of w
    none None e = e
    none (Some bytes) e = absurd (let f = when.1 ((hex_when w (Some bytes) e).0 refl) in cc)

-- a word that isn't UTF-8 writes no bytes
pub no_hex : (w : List ℕ) → (IsUtf8 w → ⊥) → None ≡ hex_of w
no_hex w bad = none (hex_of w) refl
  where
    ascii : (c : ℕ) → is_hex_digit c ≡ true → c < 128
    ascii c is = grind (arith, is, sym (hex_cases (is_in_range 48 57 c) (is_in_range 65 70 c) (is_in_range 97 102 c) (c - 55) (c - 87) (c - 48)))

    none : (o : Option (List ℕ)) → o ≡ hex_of w → None ≡ hex_of w
    none None e = e
    none (Some bytes) e = absurd (bad (IsUtf8-from_ascii w (λ i. elim (cases_lt i (length w)) [
      | inl within ↦ ascii _ ((((hex_when w (Some bytes) e).0 refl).1) i 0 within)
      | inr over ↦ omega (arith, get_or_past w i 0 over)
    ])))

pub found-or : {V : Type 0} (items : V → List ℕ) (found : Option V) (new : V) → items new ≡ [] → items (unwrap_or found new) ≡ unwrap_or (option_map items found) []
found-or items found new none = grind (arith, common_steps)

-- Items that are read from words one after another.

-- whether the items rise after a last one, if there is one
abbrev pub rise_after : Option ℤ → List ℤ → Bool
rise_after None xs = rise xs
rise_after (Some z) xs = rise_from z xs

after-one : (last : Option ℤ) (b : Bool) (x y : ℤ) (xs : List ℤ) → y ≡ x → MatchOption last (b ≡ true) (λ z. b ≡ is_lt (int_cmp z y)) →
    rise_after last (x ∷ xs) ≡ (b && rise_from y xs)
after-one None b x y xs e above = grind (arith, common_steps)
after-one (Some z) b x y xs e above = grind (arith, common_steps)

-- the first word is an item
module _ (ws ws' : List (List ℕ)) (x : ℤ) (is : Some x ≡ option_and_then item_of (slice_get ws 0)) (rest : ws' ≡ drop 1 ws) where
  read-first : items_in_line ws ≡ x ∷ items_in_line ws'
  read-first = grind (arith, common_steps)

  -- a signed word holds it
  pub read-back : to_z w64 (of_z w64 x) ≡ x
  read-back = grind (arith, common_steps, to_z-of_z, item_fits)

  -- whether items rise, after one more was read
  pub rise-step : (last : Option ℤ) (b : Bool) → MatchOption last (b ≡ true) (λ z. b ≡ is_lt (int_cmp z (to_z w64 (of_z w64 x)))) →
      rise_after last (items_in_line ws) ≡ (b && rise_from (to_z w64 (of_z w64 x)) (items_in_line ws'))
  rise-step last b above = ap (rise_after last) read-first ∙ after-one last b x _ _ read-back above

-- What words say, read one after another.

module _ {A B : Type 0} (read : List ℕ → Option A) (next : A → List (List ℕ) → Option B) where
  -- the first word is read
  pub then-read : (ws ws' : List (List ℕ)) (a : A) {r : Option B} → Some a ≡ option_and_then read (slice_get ws 0) → ws' ≡ drop 1 ws → r ≡ next a ws' → r ≡ then_word read next ws
  then-read [] ws' a is rest e = absurd cc
  then-read (w ∷ ws) ws' a is rest e = e ∙ (ap (next a) rest ∙ ap (option_and_then (λ a. next a ws)) is)

  -- there is none, or it can't be read
  pub then-none : (ws : List (List ℕ)) {r : Option B} → r ≡ None → None ≡ option_and_then read (slice_get ws 0) → r ≡ then_word read next ws
  then-none [] e none = e
  then-none (w ∷ ws) e none = e ∙ ap (option_and_then (λ a. next a ws)) none

-- a word that is read, and what it says
pub word-read : {A : Type 0} (read : List ℕ → Option A) (ws : List (List ℕ)) {w : List ℕ} {r : Option A} → Some w ≡ slice_get ws 0 → r ≡ read w → r ≡ option_and_then read (slice_get ws 0)
word-read read ws is e = e ∙ ap (option_and_then read) is

-- which of two names a word is
module _ {A : Type 0} (x y : A) {a t : Bool} (b : Bool) (first : t ≡ a) where
  pub first-name : t ≡ true → Some x ≡ cond a (Some x) (cond b (Some y) None)
  first-name is = sym (cond-true a _ _ (sym first ∙ is))

  pub second-name : t ≡ false → {u : Bool} → u ≡ b → u ≡ true → Some y ≡ cond a (Some x) (cond b (Some y) None)
  second-name other second is = sym (cond-false a _ _ (sym first ∙ other) ∙ cond-true b _ _ (sym second ∙ is))

  pub no-name : t ≡ false → {u : Bool} → u ≡ b → u ≡ false → None ≡ cond a (Some x) (cond b (Some y) None)
  no-name other second none = sym (cond-false a _ _ (sym first ∙ other) ∙ cond-false b _ _ (sym second ∙ none))

-- A line's command is what its verb and its slot ask for.

-- a verb and a slot are read one after the other
pub asked-by : {C : Type 0} (grammar : Grammar C) (ws ws' : List (List ℕ)) {ws'' : List (List ℕ)} (verb : List ℕ) {slot : ℕ} {r : Option (Request C)} →
    r ≡ parse_asked grammar verb slot ws'' → Some verb ≡ slice_get ws 0 → ws' ≡ drop 1 ws → Some slot ≡ option_and_then parse_slot (slice_get ws' 0) →
    ws'' ≡ drop 1 ws' →
    r ≡ request_of grammar ws
asked-by grammar [] ws' verb asks first rest second last = absurd cc
asked-by grammar (w ∷ ws) ws' {ws''} verb {slot} asks first rest second last = grind (arith, common_steps, then-read)
