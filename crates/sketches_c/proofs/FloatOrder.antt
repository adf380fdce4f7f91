-- The numbers that stand for floats are in their order.
use Rattle.std.proofs.Common.{◌≡◌, ℕ, ℤ, pos, negsuc, suc, zero, ◌+◌, ◌-◌, ◌*◌, ◌/◌, ◌%◌, ◌^◌, ◌<◌, ◌≤◌, Bool, true, false, refl, sym, ap, ◌∙◌, subst, arith}
use mathlib.Core.Bool.{not, true≢false}
use mathlib.Core.Logic.{inl, inr}
use native.Mathlib.Nat.{add-mul, eq-zero-or-pos, lt_of_mul-lt-mul_right, mul-le-mul, mul-lt-mul_of_pos_right, mul-pos, mul_assoc, mul_comm, mul_right_comm, pow-succ', zero-add, zero-mul}
use lib.Dec.{T, ltb, lt→ltb, ltb→lt}
use lib.Pow.{pow_mono, pow_pos}
use borrow.Author.Tests.{le-leb, lt-leb, lt-ltb, le-ltb, ne_eqb}
use lib.Signed.{lt_z}
use lib.Ieee.{Float, nan, inf, fin, binary64, up, down, below, lt, of_bits, of_fields}
use lib.Ieee.Exact.{HasValue, odd_sign}
use lib.Ieee.Fits.{down_pos}
use Rattle.sketches_c.specs.FloatLaws.{IsOf64Bits, NumbersAreInOrder, float_of}
use Rattle.sketches_c.specs.Floats.{magnitude, number_in}

-- ---- tests

same : (x y : Bool) → (T x → T y) → (T y → T x) → x ≡ y
same true true p q = refl
same false false p q = refl
same true false p q = absurd (p tt)
same false true p q = absurd (q tt)

same-lt : (a b c d : ℕ) → (a < b → c < d) → (c < d → a < b) → ltb a b ≡ ltb c d
same-lt a b c d p q = same (ltb a b) (ltb c d) (λ t. lt→ltb c d (p (ltb→lt a b t))) (λ t. lt→ltb a b (q (ltb→lt c d t)))

-- two numbers in other units
scaled : (x y a b c k : ℕ) → 0 < c → 0 < k → x * c ≡ a * k → y * c ≡ b * k → ltb x y ≡ ltb a b
scaled x y a b c k p q e f =
    same-lt x y a b
    (λ h. lt_of_mul-lt-mul_right k (subst (λ (n : ℕ). a * k < n) f (subst (λ (n : ℕ). n < y * c) e (mul-lt-mul_of_pos_right h p))))
    (λ h. lt_of_mul-lt-mul_right c (subst (λ (n : ℕ). x * c < n) (sym f) (subst (λ (n : ℕ). n < b * k) (sym e) (mul-lt-mul_of_pos_right h q))))

scaled-below : (s t : Bool) (x y a b c k : ℕ) → 0 < c → 0 < k → x * c ≡ a * k → y * c ≡ b * k → below s x t y ≡ below s a t b
scaled-below false false x y a b c k p q e f = scaled x y a b c k p q e f
scaled-below false true x y a b c k p q e f = refl
scaled-below true false x y a b c k p q e f =
    scaled 0 (x + y) 0 (a + b) c k p q (zero-mul c ∙ sym (zero-mul k)) (add-mul x y c ∙ (λ i. e i + f i) ∙ sym (add-mul a b k))
scaled-below true true x y a b c k p q e f = scaled y x b a c k p q f e

-- ---- values

in_units : (m d k a c : ℕ) → m * c ≡ a * d → m * k * c ≡ a * (d * k)
in_units m d k a c e = mul_right_comm m k c ∙ ap (λ n. n * k) e ∙ mul_assoc a d k

lt-values : (x y : Float) (s t : Bool) (a b c : ℕ) → 0 < c → HasValue x s a c → HasValue y t b c → lt x y ≡ below s a t b
unfolding lt
lt-values nan y s t a b c p v w = absurd v
lt-values (inf s') y s t a b c p v w = absurd v
lt-values (fin s' m e) nan s t a b c p v w = absurd w
lt-values (fin s' m e) (inf t') s t a b c p v w = absurd w
lt-values (fin s' m e) (fin t' n d) s t a b c p v w =
    scaled-below s' t' (m * up e * down d) (n * up d * down e) a b c (down e * down d) p (mul-pos (down_pos e) (down_pos d))
    (in_units (m * up e) (down e) (down d) a c v.1)
    (in_units (n * up d) (down d) (down e) b c w.1 ∙ ap (λ k. b * k) (mul_comm (down d) (down e)))
    ∙ (λ i. below (v.0 i) a (w.0 i) b)

above_finite : (x : Float) (s t : Bool) (a c : ℕ) → HasValue x t a c → (lt (inf s) x ≡ s) × (lt x (inf s) ≡ not s)
unfolding lt
above_finite nan s t a c v = absurd v
above_finite (inf t') s t a c v = absurd v
above_finite (fin t' m e) s t a c v = (refl, refl)

-- ---- magnitudes: an exponent's field and digits

-- the value, in the smallest units
abbrev value : ℕ → ℕ → ℕ
value zero digits = digits * 2 ^ 0
value (suc x) digits = (2 ^ 52 + digits) * 2 ^ x

reads : (s : Bool) (x t : ℕ) → x < 2047 → HasValue (of_fields binary64 s x t) s (value x t) (2 ^ 1074)
unfolding of_fields
reads s zero t h = odd_sign 53 s t 0 1074
reads s (suc x) t h = rw (ne_eqb (suc x) 2047 (omega (arith, h))) (odd_sign 53 s (2 ^ 52 + t) x 1074)

rises : (x y t u : ℕ) → t < 2 ^ 52 → u < 2 ^ 52 → x * 2 ^ 52 + t < y * 2 ^ 52 + u → value x t < value y u
rises zero zero t u p q h = omega (arith, h)
rises (suc x) zero t u p q h = absurd (omega (arith, h, q))
rises zero (suc y) t u p q h =
    let leading : 2 ^ 52 ≤ 2 ^ 52 + u = omega arith in
    omega (arith, mul-le-mul leading (pow_pos y), p)
rises (suc x) (suc y) t u p q h =
    elim (eq-zero-or-pos (y - x)) [
      | inl z ↦
          let e : x ≡ y = omega (arith, h, p, q, z) in
          subst (λ (k : ℕ). (2 ^ 52 + t) * 2 ^ x < (2 ^ 52 + u) * 2 ^ k) e (mul-lt-mul_of_pos_right (omega (arith, h, e)) (pow_pos x))
      | inr g ↦
          let own : (2 ^ 52 + t) * 2 ^ x < 2 ^ 53 * 2 ^ x = mul-lt-mul_of_pos_right (omega (arith, p)) (pow_pos x) in
          let more : 2 ^ suc x ≤ 2 ^ y = pow_mono (omega (arith, g)) in
          let leading : 2 ^ 52 ≤ 2 ^ 52 + u = omega arith in
          let itself : 2 ^ y ≤ 2 ^ y = omega arith in
          let others = mul-le-mul leading itself in
          omega (arith, own, more, others, pow-succ' 2 x)
    ]

-- the float of a sign and a magnitude
abbrev of_magnitude : Bool → ℕ → Float
of_magnitude s m = of_fields binary64 s (m / 2 ^ 52) (m % 2 ^ 52)

-- its value
abbrev value_of : ℕ → ℕ
value_of m = value (m / 2 ^ 52) (m % 2 ^ 52)

finite : (s : Bool) (m : ℕ) → m < 0x7FF0000000000000 → HasValue (of_magnitude s m) s (value_of m) (2 ^ 1074)
finite s m h = reads s (m / 2 ^ 52) (m % 2 ^ 52) (omega (arith, h))

infinite : (s : Bool) → of_magnitude s 0x7FF0000000000000 ≡ inf s
unfolding of_fields
infinite s = refl

values-rise : (m n : ℕ) → m < n → value_of m < value_of n
values-rise m n h = rises (m / 2 ^ 52) (n / 2 ^ 52) (m % 2 ^ 52) (n % 2 ^ 52) (omega arith) (omega arith) (omega (arith, h))

rises_back : (m n : ℕ) → value_of m < value_of n → m < n
rises_back m n h =
    elim (eq-zero-or-pos (n - m)) [
      | inr g ↦ omega (arith, g)
      | inl z ↦
          elim (eq-zero-or-pos (m - n)) [
            | inr g ↦ absurd (omega (arith, h, values-rise n m (omega (arith, g))))
            | inl z' ↦
                let e : m ≡ n = omega (arith, z, z') in
                absurd (omega (arith, subst (λ (k : ℕ). value_of m < value_of k) (sym e) h))
          ]
    ]

same-below : (s t : Bool) (m n : ℕ) → below s (value_of m) t (value_of n) ≡ below s m t n
same-below false false m n = same-lt (value_of m) (value_of n) m n (rises_back m n) (values-rise m n)
same-below false true m n = refl
same-below true true m n = same-lt (value_of n) (value_of m) n m (rises_back n m) (values-rise n m)
same-below true false m n =
    same-lt 0 (value_of m + value_of n) 0 (m + n)
    (λ h. elim (eq-zero-or-pos (m + n)) [
      | inr g ↦ g
      | inl z ↦
          let e : m ≡ 0 = omega (arith, z) in let f : n ≡ 0 = omega (arith, z) in
          absurd (omega (arith, subst (λ (k : ℕ). 0 < value_of k + value_of 0) e (subst (λ (k : ℕ). 0 < value_of m + value_of k) f h)))
    ])
    (λ h. elim (eq-zero-or-pos m) [
      | inr g ↦ omega (arith, values-rise 0 m g)
      | inl z ↦ omega (arith, values-rise 0 n (omega (arith, h, z)))
    ])

below_infinity : (s t : Bool) (n : ℕ) → n < 0x7FF0000000000000 → (below s 0x7FF0000000000000 t n ≡ s) × (below t n s 0x7FF0000000000000 ≡ not s)
below_infinity false false n h = (le-ltb 0x7FF0000000000000 n (omega (arith, h)), lt-ltb n 0x7FF0000000000000 h)
below_infinity false true n h = (refl, lt-ltb 0 (n + 0x7FF0000000000000) (omega arith))
below_infinity true false n h = (lt-ltb 0 (0x7FF0000000000000 + n) (omega arith), refl)
below_infinity true true n h = (lt-ltb n 0x7FF0000000000000 h, le-ltb 0x7FF0000000000000 n (omega (arith, h)))

infinities : (s t : Bool) → lt (inf s) (inf t) ≡ below s 0x7FF0000000000000 t 0x7FF0000000000000
unfolding lt
infinities false false = refl
infinities false true = refl
infinities true false = refl
infinities true true = refl

magnitudes : (s t : Bool) (m n : ℕ) → m ≤ 0x7FF0000000000000 → n ≤ 0x7FF0000000000000 → lt (of_magnitude s m) (of_magnitude t n) ≡ below s m t n
magnitudes s t m n p q =
    elim (eq-zero-or-pos (0x7FF0000000000000 - m)) [
      | inr g ↦
          let v = finite s m (omega (arith, g)) in
          elim (eq-zero-or-pos (0x7FF0000000000000 - n)) [
            | inr f ↦ lt-values (of_magnitude s m) (of_magnitude t n) s t (value_of m) (value_of n) (2 ^ 1074) (pow_pos 1074) v (finite t n (omega (arith, f))) ∙ same-below s t m n
            | inl z ↦
                let e : 0x7FF0000000000000 ≡ n = omega (arith, q, z) in
                subst (λ (k : ℕ). lt (of_magnitude s m) (of_magnitude t k) ≡ below s m t k) e
                (ap (lt (of_magnitude s m)) (infinite t) ∙ (above_finite (of_magnitude s m) t s (value_of m) (2 ^ 1074) v).1 ∙ sym (below_infinity t s m (omega (arith, g))).1)
          ]
      | inl y ↦
          let d : 0x7FF0000000000000 ≡ m = omega (arith, p, y) in
          subst (λ (k : ℕ). lt (of_magnitude s k) (of_magnitude t n) ≡ below s k t n) d (ap (λ (x : Float). lt x (of_magnitude t n)) (infinite s) ∙
          elim (eq-zero-or-pos (0x7FF0000000000000 - n)) [
            | inr f ↦ (above_finite (of_magnitude t n) s t (value_of n) (2 ^ 1074) (finite t n (omega (arith, f)))).0 ∙ sym (below_infinity s t n (omega (arith, f))).0
            | inl z ↦
                let e : 0x7FF0000000000000 ≡ n = omega (arith, q, z) in
                subst (λ (k : ℕ). lt (inf s) (of_magnitude t k) ≡ below s 0x7FF0000000000000 t k) e (ap (lt (inf s)) (infinite t) ∙ infinities s t)
          ])
    ]

-- ---- numbers

signed : Bool → ℕ → ℤ
signed false m = pos m
signed true zero = pos 0
signed true (suc m) = negsuc (suc m)

numbers : (s t : Bool) (m n : ℕ) → below s m t n ≡ lt_z (signed s m) (signed t n)
unfolding signed
numbers false false m n = refl
numbers false true m zero = sym (le-ltb m 0 (omega arith))
numbers false true m (suc n) = refl
numbers true false zero n = ap (ltb 0) (zero-add n)
numbers true false (suc m) n = lt-ltb 0 (suc m + n) (omega arith)
numbers true true zero zero = refl
numbers true true zero (suc n) = le-ltb (suc n) 0 (omega arith)
numbers true true (suc m) zero = lt-ltb 0 (suc m) (omega arith)
numbers true true (suc m) (suc n) = refl

below_zero : (m : ℕ) → 0 < m → signed true m ≡ negsuc m
unfolding signed
below_zero zero h = absurd (omega (arith, h))
below_zero (suc m) h = refl

not_nan : (m : ℕ) → ltb 0x7FF0000000000000 m ≡ false → m ≤ 0x7FF0000000000000
not_nan m e =
    elim (eq-zero-or-pos (m - 0x7FF0000000000000)) [
      | inl z ↦ omega (arith, z)
      | inr g ↦ absurd (true≢false (sym (lt-ltb 0x7FF0000000000000 m (omega (arith, g))) ∙ e))
    ]

sign : ℤ → Bool
sign (pos bits) = false
sign (negsuc rest) = true

float_is : (a : ℤ) → IsOf64Bits a → float_of a ≡ of_magnitude (sign a) (magnitude a)
unfolding of_bits sign
float_is (pos bits) h = (λ i. of_fields binary64 (lt-leb (2 ^ 63) bits h i) (small i / 2 ^ 52) (bits % 2 ^ 52))
  where
    small : bits % 2 ^ 63 ≡ bits
    small = omega (arith, h)
float_is (negsuc rest) h =
    let b = 2 ^ 64 - 1 - rest in
    let m = 2 ^ 63 - 1 - rest in
    let e : b % 2 ^ 63 ≡ m = omega (arith, h) in
    let f : b % 2 ^ 52 ≡ m % 2 ^ 52 = omega (arith, h) in
    (λ i. of_fields binary64 (le-leb (2 ^ 63) b (omega (arith, h)) i) (e i / 2 ^ 52) (f i))

number_is : (a : ℤ) → IsOf64Bits a → number_in a ≡ signed (sign a) (magnitude a)
unfolding number_in signed sign
number_is (pos bits) h = refl
number_is (negsuc rest) h =
    elim (eq-zero-or-pos (2 ^ 63 - 1 - rest)) [
      | inl z ↦ let e : 2 ^ 63 - 1 ≡ rest = omega (arith, h, z) in subst (λ (k : ℕ). number_in (negsuc k) ≡ signed true (2 ^ 63 - 1 - k)) e refl
      | inr g ↦ rw (ne_eqb rest (2 ^ 63 - 1) (λ e. omega (arith, e, g))) (sym (below_zero (2 ^ 63 - 1 - rest) g))
    ]

pub in_order : NumbersAreInOrder
in_order a b p q v w =
    (λ i. lt (float_is a p i) (float_is b q i)) ∙ magnitudes (sign a) (sign b) (magnitude a) (magnitude b) (not_nan (magnitude a) v) (not_nan (magnitude b) w) ∙ numbers (sign a) (sign b) (magnitude a) (magnitude b)
    ∙ sym (λ i. lt_z (number_is a p i) (number_is b q i))
