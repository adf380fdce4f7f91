-- The section rule. Sections double in number when enough compactions were done, and shrink by the square root of two. They keep 3k items
-- at least, so a compaction, whose sections lie behind them, spares the 3k items next to the exact end.
use Rattle.std.proofs.lemmas.Grind.{common_steps}
use Rattle.std.proofs.Common.{Ordering, length, ◌≡◌, ℕ, zero, suc, ◌+◌, ◌-◌, ◌*◌, ◌/◌, ◌%◌, ◌^◌, ◌<◌, ◌≤◌, true, ◌&&◌, nat_le, nat_lt, ltb-true, inl, inr, refl, ap, ◌∙◌, arith, lit<, le_trans, mul-le-mul, mul-le-mul_left, mul-le-mul_right, leb-true, leb-false, ◌==◌, if◌then◌else◌, sym, ◌⊎◌, min, List, [], ◌∷◌, take, get_or, sum_by, subst}
use Rattle.std.proofs.Math.Nat.{div-mul-le_self, lt-div-mul-add, one-le-pow, pow-succ', pow-le-pow_right, mul_comm}
use Rattle.std.proofs.lemmas.Bool.{cases_Bool, cases_lt, and_parts, cases_eq}
use Rattle.std.specs.Int.{trailing_zeros, w8, trailing_ones, w64, bit_at}
use Rattle.sketch_req.specs.Level.{Level, IsLevel, nominal_of}
use Rattle.sketch_req.specs.Sections.{IsLegalK, IsLegalLayout, greatest_half, size_of, sections_of, growth_threshold, grows, grown, sections_taken, taken_of}
use Rattle.std.proofs.lemmas.Nat.Bits.{bit_at_lowest, bit_at-suc, bit_at-trailing_ones}
use Rattle.std.proofs.lemmas.List.Sums.{sum_by-cons}
use Rattle.sketch_req.specs.Schedule.{Layout, layout_of, layouts_of, nominal, nominal_sum}
use Rattle.sketch_req.specs.Walk.{AreLevels}
use Rattle.sketch_req.specs.declared.RankAccuracy.{RankAccuracy}

-- The section rule: what it says, and that it keeps 3k items.

-- a power of two is above 0
pub pow_pos : (d : ℕ) → 0 < 2 ^ d
pow_pos d = let h : 1 ≤ 2 ^ d = one-le-pow d 2 (lit< tt) in omega arith

-- what the section rule says of a size
pub record IsSize (k d e : ℕ) : Type 0 where
  pub even : e % 2 ≡ 0
  pub fits : 0 < e → (e - 1) * (e - 1) * 2 ^ d ≤ k * k
  pub greatest : k * k < (e + 1) * (e + 1) * 2 ^ d

-- a root, made even, is a size
pub is_size : (k d r : ℕ) → r * r ≤ k * k / 2 ^ d → k * k / 2 ^ d < (r + 1) * (r + 1) → IsSize k d (r + r % 2)
is_size k d r low high =
    let q : ℕ = k * k / 2 ^ d in
    let p : ℕ = 2 ^ d in
    let whole : q * p ≤ k * k = div-mul-le_self (k * k) (2 ^ d) in
    let over : k * k < q * p + p = lt-div-mul-add (pow_pos d) in
    record {
      even = omega arith;
      fits = λ h.
          let a : (r + r % 2 - 1) * (r + r % 2 - 1) ≤ r * r = mul-le-mul (omega arith) (omega arith) in
          le_trans (mul-le-mul_right p (le_trans a low)) whole;
      greatest =
          let a : (r + 1) * (r + 1) ≤ (r + r % 2 + 1) * (r + r % 2 + 1) = mul-le-mul (omega arith) (omega arith) in
          let b : (q + 1) * p ≤ (r + r % 2 + 1) * (r + r % 2 + 1) * p = mul-le-mul_right p (omega (arith, a, high)) in
          let c : (q + 1) * p ≡ q * p + p = omega arith in
          omega (arith, b, c, over);
    }

-- the square of a number above k, doubled any number of times, is above that of k
square_over : (k d m : ℕ) → k < m → k * k < m * m * 2 ^ d
square_over k d m over = grind (arith, common_steps, mul-le-mul, mul-le-mul_left, one-le-pow)

-- sizes are at most k
pub size_at_most : (k d e : ℕ) → k % 2 ≡ 0 → IsSize k d e → e ≤ k
size_at_most k d e even z =
    elim (cases_lt k e) [
      | inl over ↦ absurd (omega (arith, square_over k d (e - 1) (omega (arith, over, z.even, even)), z.fits (omega (arith, over))))
      | inr under ↦ under
    ]

square_lt : (a b : ℕ) → a * a < b * b → a < b
square_lt a b h = grind (arith, common_steps, cases_lt, mul-le-mul)

-- all sections together never fall below 3k items
pub size_keeps : (k d e : ℕ) → IsSize k d e → 4 ≤ e → 3 * k ≤ e * sections_of d
size_keeps k zero e z h =
    let g : k * k < (e + 1) * (e + 1) = omega (arith, z.greatest) in
    let l = square_lt k (e + 1) g in
    omega arith
size_keeps k (suc d) e z h =
    let p : ℕ = 2 ^ suc d in
    let two : 2 ≤ 2 ^ suc d = let q : 1 ≤ 2 ^ d = one-le-pow d 2 (lit< tt) in let r = pow-succ' 2 d in omega (arith, q, r) in
    let four : 4 * e ≤ e * e = mul-le-mul_right e h in
    let grown : (e + 1) * (e + 1) ≡ e * e + 2 * e + 1 = omega arith in
    let twice : e * e * 2 ≤ e * e * p = mul-le-mul_left (e * e) two in
    let a : (e + 1) * (e + 1) ≤ e * e * p = omega (arith, four, grown, twice) in
    let b : (e + 1) * (e + 1) * p ≤ e * e * p * p = mul-le-mul_right p a in
    let c : e * e * p * p ≡ (e * p) * (e * p) = omega arith in
    let l : k < e * p = square_lt k (e * p) (omega (arith, b, c, z.greatest)) in
    let m : e * (3 * p) ≡ 3 * (e * p) = omega arith in
    omega (arith, l, m)

-- there are at most 96 sections
pub sections_at_most : (d : ℕ) → d ≤ 5 → 3 * 2 ^ d ≤ 96
sections_at_most d h = let p : 2 ^ d ≤ 32 = pow-le-pow_right {n = 2} (lit< tt) {i = d} {j = 5} h in omega arith

sections_rise : (i j : ℕ) → i < j → sections_of i < sections_of j
sections_rise i j h =
    let p : 2 ^ suc i ≤ 2 ^ j = pow-le-pow_right {n = 2} (lit< tt) {i = suc i} {j = j} (omega arith) in
    let e = pow-succ' 2 i in
    let q = pow_pos i in
    omega (arith, p, e, q)

-- the section count determines the doublings
pub sections_apart : (i j : ℕ) → sections_of i ≡ sections_of j → i ≡ j
sections_apart i j e = grind (arith, common_steps, cases_lt, sections_rise)

half_fits : (k d b : ℕ) → 0 < greatest_half k d b → (2 * greatest_half k d b - 1) * (2 * greatest_half k d b - 1) * 2 ^ d ≤ k * k
half_fits k d zero h = absurd (omega arith)
half_fits k d (suc b) h =
    elim (cases_Bool (nat_le ((2 * b + 1) * (2 * b + 1) * 2 ^ d) (k * k))) [
      | inl fits ↦ let whole : 2 * suc b - 1 ≡ 2 * b + 1 = omega arith in rw (fits, whole) (leb-true _ _ fits)
      | inr over ↦ let some = rw over at h in rw over (half_fits k d b some)
    ]

half_greatest : (k d b t : ℕ) → greatest_half k d b ≤ t → t < b → k * k < (2 * t + 1) * (2 * t + 1) * 2 ^ d
half_greatest k d zero t h l = absurd (omega arith)
half_greatest k d (suc b) t h l =
    elim (cases_Bool (nat_le ((2 * b + 1) * (2 * b + 1) * 2 ^ d) (k * k))) [
      | inl fits ↦ let high = rw fits at h in absurd (omega (arith, high, l))
      | inr over ↦
          let low = rw over at h in
          elim (cases_lt t b) [
            | inl below ↦ half_greatest k d b t low below
            | inr above ↦ let same : b ≡ t = omega (arith, l, above) in rw same at (leb-false _ _ over)
          ]
    ]

-- `size_of` is a size
pub size_of_is : (k d : ℕ) → IsSize k d (size_of k d)
unfolding size_of
size_of_is k d =
    let s : ℕ = greatest_half k d k in
    record {
      even = omega arith;
      fits = λ h. half_fits k d k (omega arith);
      greatest =
          elim (cases_lt s k) [
            | inl l ↦ half_greatest k d k s (omega arith) l
            | inr l ↦ square_over k d (2 * s + 1) (omega arith)
          ];
    }

size_le : (k d e e' : ℕ) → IsSize k d e → IsSize k d e' → e ≤ e'
size_le k d e e' z y =
    elim (cases_lt e' e) [
      | inl over ↦
          let far : e' + 1 ≤ e - 1 = omega (arith, over, z.even, y.even) in
          let near : (e' + 1) * (e' + 1) * 2 ^ d ≤ (e - 1) * (e - 1) * 2 ^ d = mul-le-mul_right (2 ^ d) (mul-le-mul far far) in
          absurd (omega (arith, near, z.fits (omega (arith, over)), y.greatest))
      | inr under ↦ under
    ]

-- `size_of` is the only size
pub size_found : (k d e : ℕ) → IsSize k d e → e ≡ size_of k d
size_found k d e z = let named = size_of_is k d in omega (arith, size_le k d e (size_of k d) z named, size_le k d (size_of k d) e named z)

-- the first section size is k
pub first_size : (k : ℕ) → k % 2 ≡ 0 → k ≡ size_of k 0
first_size k even =
    let a : (k - 1) * (k - 1) ≤ k * k = mul-le-mul (omega arith) (omega arith) in
    let e : (k + 1) * (k + 1) ≡ k * k + 2 * k + 1 = omega arith in
    size_found k 0 k (record { even = even; fits = λ h. omega (arith, a); greatest = omega (arith, e) })

-- what holds of the sections of a level
pub record AreSections (k d : ℕ) : Type 0 where
  pub even : size_of k d % 2 ≡ 0
  pub size_at_most : size_of k d ≤ k
  pub sections_at_most : sections_of d ≤ 96
  pub product_at_most : size_of k d * sections_of d ≤ 98304
  pub tail : 3 * k ≤ size_of k d * sections_of d

-- the sections of a legal level
pub are_sections : (k d : ℕ) → IsLegalK k → d ≤ 5 → 4 ≤ size_of k d → AreSections k d
are_sections k d l h f =
    let z = size_of_is k d in
    let m : size_of k d ≤ k = size_at_most k d (size_of k d) l.even z in
    let n : sections_of d ≤ 96 = sections_at_most d h in
    let p : size_of k d * sections_of d ≤ 1024 * 96 = mul-le-mul {n₁ = size_of k d} {m₁ = sections_of d} {n₂ = 1024} {m₂ = 96} (le_trans m l.at_most) n in
    record { even = z.even; size_at_most = m; sections_at_most = n; product_at_most = omega (arith, p); tail = size_keeps k d (size_of k d) z f }

-- growth, one test after another
pub grows_few : (k state d : ℕ) → grows k state d ≡ true → d < 5
grows_few k state d h = ltb-true d 5 (and_parts (nat_lt d 5) (nat_le (growth_threshold d) state) (and_parts (nat_lt d 5 && nat_le (growth_threshold d) state) (nat_le 4 (size_of k (suc d))) h).0).0

-- growth after one doubling ends at the same doublings
pub grown_step : (k state d : ℕ) → grows k state d ≡ true → grown k state (suc d) ≡ grown k state d
grown_step k state d h =
    let b = grows_few k state d h in
    let e : 5 - d ≡ suc (5 - suc d) = omega arith in
    rw (e, h) refl

-- what a compaction takes and keeps
pub record IsPlan (k state d len : ℕ) : Type 0 where
  pub size_at_most : size_of k d ≤ 1024
  pub within : taken_of (size_of k d) state d len ≤ len
  pub even : taken_of (size_of k d) state d len % 2 ≡ 0
  pub tail : 2 ≤ taken_of (size_of k d) state d len → 3 * k + taken_of (size_of k d) state d len ≤ len
  pub full : 2 * size_of k d * sections_of d ≤ len → 4 ≤ taken_of (size_of k d) state d len

-- what a compaction of a legal level takes and keeps
pub is_plan : (k state d len : ℕ) → IsLegalK k → d ≤ 5 → 4 ≤ size_of k d → IsPlan k state d len
is_plan k state d len l h f =
    let a = are_sections k d l h f in
    let size : ℕ = size_of k d in
    let count : ℕ = sections_of d in
    let p = pow_pos d in
    let one : 1 ≤ sections_taken state d = omega (arith, p) in
    let less : (count - sections_taken state d) * size ≤ (count - 1) * size = mul-le-mul_right size (omega (arith, one)) in
    let split : (count - 1) * size + size ≡ size * count = let q : count - 1 + 1 ≡ count = omega (arith, p) in let r : (count - 1 + 1) * size ≡ size * count =
    ap (λ n. n * size) q ∙ mul_comm count size in omega (arith, r) in
    let twice : 2 * size * count ≡ size * count + size * count = omega arith in
    record {
      size_at_most = le_trans a.size_at_most l.at_most;
      within = omega arith;
      even = omega arith;
      tail = λ t. omega (arith, a.tail);
      full = λ t. omega (arith, less, split, twice, f);
    }

pub plan_of : {A : Type 0} {cmp : A → A → Ordering} (level : Level A) → IsLevel cmp level → IsPlan level.k level.state level.doublings (length level.items)
plan_of level sound = is_plan _ _ _ _ sound.legal_k sound.few_doublings sound.size_at_least

-- ---- section counts and thresholds as they are found

-- the doublings of a section count are the trailing zero bits of a third of it
pub doublings_found : (d : ℕ) → d ≤ 5 → trailing_zeros w8 (sections_of d / 3) ≡ d
unfolding lib.Count.count_trailing_zeros
doublings_found zero h = refl
doublings_found (suc zero) h = refl
doublings_found (suc (suc zero)) h = refl
doublings_found (suc (suc (suc zero))) h = refl
doublings_found (suc (suc (suc (suc zero)))) h = refl
doublings_found (suc (suc (suc (suc (suc zero))))) h = refl
doublings_found (suc (suc (suc (suc (suc (suc d)))))) h = absurd (omega (arith, h))

-- thresholds rise with the doublings
pub threshold_rises : (i j : ℕ) → i ≤ j → growth_threshold i ≤ growth_threshold j
threshold_rises i j h = grind (arith, common_steps, pow-le-pow_right)

-- before the last doubling there are at most 48 sections
pub sections_below : (d : ℕ) → d < 5 → sections_of d ≤ 48
sections_below d h = let p : 2 ^ d ≤ 2 ^ 4 = pow-le-pow_right {n = 2} (lit< tt) {i = d} {j = 4} (omega arith) in omega (arith, p)

-- a number that equals each number of doublings with the section count of a legal layout is that of the layout
pub doublings_known : (k state size num d : ℕ) → IsLegalLayout k state size num → ((j : ℕ) → j ≤ 5 → num ≡ sections_of j → d ≡ j) → (d ≤ 5) × (num ≡ sections_of d)
doublings_known k state size num d l each = grind (arith, common_steps)

-- A counter's bits: its trailing ones, and how many of its bits in a range are set.

-- how many of the n lowest bits of a number are trailing ones
abbrev pub ones : ℕ → ℕ → ℕ
ones zero x = 0
ones (suc n) x = if x % 2 == 0 then 0 else suc (ones n (x / 2))

-- how many of the bits at places low to n - 1 are set
abbrev pub marks : ℕ → ℕ → ℕ → ℕ
marks zero low x = 0
marks (suc n) zero x = x % 2 + marks n zero (x / 2)
marks (suc n) (suc low) x = marks n low (x / 2)

-- no more ones than bits
pub ones-most : (n x : ℕ) → ones n x ≤ n
ones-most zero x = omega arith
ones-most (suc n) x = grind (arith, common_steps, ones-most n (x / 2))

-- no more marks than bits above `low`
pub marks-most : (n low x : ℕ) → marks n low x ≤ n - low
marks-most zero low x = omega arith
marks-most (suc n) zero x = let r = marks-most n zero (x / 2) in omega (arith, r)
marks-most (suc n) (suc low) x = let r = marks-most n low (x / 2) in omega (arith, r)

-- a lower bound gives more marks, by at most the number of bits between
pub marks-between : (n low high x : ℕ) → low ≤ high → (marks n high x ≤ marks n low x) × (marks n low x ≤ marks n high x + (high - low))
marks-between zero low high x le = (omega arith, omega arith)
marks-between (suc n) zero zero x le = (omega arith, omega arith)
marks-between (suc n) zero (suc high) x le = let r = marks-between n zero high (x / 2) (omega arith) in (omega (arith, r.0), omega (arith, r.1))
marks-between (suc n) (suc low) zero x le = absurd (omega (arith, le))
marks-between (suc n) (suc low) (suc high) x le = let r = marks-between n low high (x / 2) (omega (arith, le)) in (r.0, omega (arith, r.1))

ones-even : (n x : ℕ) → x % 2 ≡ 0 → ones (suc n) x ≡ 0
ones-even n x e = ap (λ (m : ℕ). if m == 0 then 0 else suc (ones n (x / 2))) e

ones-odd : (n x : ℕ) → x % 2 ≡ 1 → ones (suc n) x ≡ suc (ones n (x / 2))
ones-odd n x e = ap (λ (m : ℕ). if m == 0 then 0 else suc (ones n (x / 2))) e

parity : (x : ℕ) → (x % 2 ≡ 0) ⊎ (x % 2 ≡ 1)
parity x = grind (arith, common_steps, cases_eq)

half-next-even : (x : ℕ) → x % 2 ≡ 0 → suc x / 2 ≡ x / 2
half-next-even x e = omega (arith, e)

half-next-odd : (x : ℕ) → x % 2 ≡ 1 → suc x / 2 ≡ suc (x / 2)
half-next-odd x e = omega (arith, e)

-- adding 1 sets the bit after the trailing ones
pub marks-next : (n x : ℕ) → ones n x < n → marks n (ones n x) (suc x) ≡ marks n (ones n x) x + 1
marks-next zero x lt = absurd (omega (arith, lt))
marks-next (suc n) x lt =
    elim (parity x) [
      | inl e ↦ let h = ap (marks n 0) (half-next-even x e) in rw (ones-even n x e) (omega (arith, h, e))
      | inr e ↦
          let o = ones-odd n x e in
          let h = ap (marks n (ones n (x / 2))) (half-next-odd x e) in
          rw o (h ∙ marks-next n (x / 2) (omega (arith, o, lt)))
    ]

-- and clears no bit from there on
pub marks-kept : (n low x : ℕ) → ones n x ≤ low → marks n low x ≤ marks n low (suc x)
marks-kept zero low x le = omega arith
marks-kept (suc n) zero x le = grind (arith, common_steps, parity, half-next-even, ones-odd)
marks-kept (suc n) (suc low) x le =
    elim (parity x) [
      | inl e ↦ let h = ap (marks n low) (half-next-even x e) in omega (arith, h)
      | inr e ↦
          let o = ones-odd n x e in
          let h = ap (marks n low) (half-next-odd x e) in
          omega (arith, h, marks-kept n low (x / 2) (omega (arith, o, le)))
    ]

-- if a number is below 2 ^ n and the next one is not, its n bits are ones
pub ones-full : (n x : ℕ) → x < 2 ^ n → 2 ^ n ≤ suc x → ones n x ≡ n
ones-full zero x lt le = refl
ones-full (suc n) x lt le =
    let p = pow-succ' 2 n in
    let q = pow_pos n in
    let e : x % 2 ≡ 1 = omega (arith, p, q, lt, le) in
    ones-odd n x e ∙ ap suc (ones-full n (x / 2) (omega (arith, p, lt)) (omega (arith, p, le)))

-- if the lowest n bits are ones, the number is at least 2 ^ n - 1
pub full-ones : (n x : ℕ) → ones n x ≡ n → 2 ^ n ≤ suc x
full-ones zero x e = omega arith
full-ones (suc n) x e =
    elim (parity x) [
      | inl z ↦ let o = ones-even n x z in absurd (omega (arith, o, e))
      | inr z ↦
          let o = ones-odd n x z in
          omega (arith, pow-succ' 2 n, full-ones n (x / 2) (omega (arith, o, e)), z)
    ]

-- `ones` is the number of trailing ones, but at most n
ones-bits : (n t x : ℕ) → bit_at x t ≡ 0 → ((i : ℕ) → i < t → bit_at x i ≡ 1) → ones n x ≡ min t n
ones-bits zero t x low high = omega arith
ones-bits (suc n) zero x low high = ones-even n x (sym (bit_at_lowest x) ∙ low) ∙ omega arith
ones-bits (suc n) (suc t) x low high =
    let e : x % 2 ≡ 1 = sym (bit_at_lowest x) ∙ high 0 (omega arith) in
    let r = ones-bits n t (x / 2) (sym (bit_at-suc x t) ∙ low) (λ i lt. sym (bit_at-suc x i) ∙ high (suc i) (omega (arith, lt))) in
    ones-odd n x e ∙ (ap suc r ∙ omega arith)

-- it is the number of trailing ones of the word, at most n
pub ones-trailing : (n x : ℕ) → x + 1 < 2 ^ 64 → ones n x ≡ min (trailing_ones w64 x) n
ones-trailing n x few = let b = bit_at-trailing_ones w64 x few in ones-bits n (trailing_ones w64 x) x b.1 b.2

-- The sums over the levels, one level after another.

-- the sum over one more level
pub sum-more : {A : Type 0} (f : Layout → ℕ) (ls xs : List (Level A)) (i : ℕ) (x : Level A) → xs ≡ ls → i < length xs → x ≡ get_or xs i x →
    sum_by f (layouts_of (take (i + 1) ls)) ≡ sum_by f (layouts_of (take i ls)) + f (layout_of x)
sum-more {A = A} f ls xs i x same h e = grind (arith, common_steps, sum_by-cons)

nominal-at : {A : Type 0} (cmp : A → A → Ordering) (k : ℕ) (accuracy : RankAccuracy) (h : ℕ) (ls : List (Level A)) (i : ℕ) (x : Level A) →
    AreLevels cmp k accuracy h ls → i < length ls → x ≡ get_or ls i x → (nominal_of x ≡ nominal k (layout_of x)) × (nominal_of x ≤ 196608)
nominal-at cmp k accuracy h [] i x a l e = absurd (omega arith)
nominal-at {A} cmp k accuracy h (l ∷ ls) zero x a i e =
    let s = are_sections l.k l.doublings a.0.sound.legal_k a.0.sound.few_doublings a.0.sound.size_at_least in
    let m : nominal_of l ≡ 2 * (size_of l.k l.doublings * sections_of l.doublings) = omega arith in
    let n : nominal_of l ≤ 196608 = omega (arith, s.product_at_most, m) in
    subst (λ (y : Level A). (nominal_of y ≡ nominal k (layout_of y)) × (nominal_of y ≤ 196608)) (sym e) (ap (λ (m : ℕ). 2 * size_of m l.doublings * sections_of l.doublings) a.0.k_is, n)
nominal-at cmp k accuracy h (l ∷ ls) (suc i) x a within e = nominal-at cmp k accuracy (suc h) ls i x a.1 (omega arith) e

-- the nominal capacity of a level of a sketch, and its bound
pub nominal-there : {A : Type 0} (cmp : A → A → Ordering) (k : ℕ) (accuracy : RankAccuracy) (ls xs : List (Level A)) (i : ℕ) (x : Level A) →
    AreLevels cmp k accuracy 0 ls → xs ≡ ls → i < length xs → x ≡ get_or xs i x → (nominal_of x ≡ nominal k (layout_of x)) × (nominal_of x ≤ 196608)
nominal-there cmp k accuracy ls xs i x a same h e = nominal-at cmp k accuracy 0 ls i x a (rw same at h) (rw same at e)

-- the nominal capacities add up to at most 196608 for each level
pub nominal-few : {A : Type 0} (cmp : A → A → Ordering) (k : ℕ) (acc : RankAccuracy) (h : ℕ) (ls : List (Level A)) → AreLevels cmp k acc h ls → nominal_sum k (layouts_of ls) ≤ 196608 * length ls
nominal-few cmp k acc h [] a = omega arith
nominal-few cmp k acc h (l ∷ ls) a =
    let n = nominal-at cmp k acc h (l ∷ ls) 0 l a (omega arith) refl in
    omega (arith, n.0, n.1, nominal-few cmp k acc (suc h) ls a.1, sum_by-cons (nominal k) (layout_of l) (layouts_of ls))
