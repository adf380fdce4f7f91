-- The moments of a number plus a normal noise, and what one more coin does to them. A rank plus a normal noise has no more of any even
-- moment than the noise alone of a greater variance, so large errors are rare.
use Rattle.std.proofs.Common.{rules, ◌≡◌, ℕ, zero, suc, ◌+◌, ◌*◌, ◌^◌, ◌≤◌, Bool, true, false, not, refl, sym, ap, arith, if◌then◌else◌, mul-le-mul, mul-le-mul_left, pow-suc}
use Rattle.std.proofs.lemmas.Grind.{common_steps}
use Rattle.std.proofs.Math.Nat.{pow-zero}
use Rattle.std.proofs.lemmas.Bool.{cases_lt}
use Rattle.sketch_base.specs.Words.{distance}
use Rattle.sketch_base.specs.Moments.{odd_product}

-- the n-th moment of x plus a normal noise of mean 0 and variance v
abbrev pub moment : (n x v : ℕ) → ℕ
moment zero x v = 1
moment (suc zero) x v = x
moment (suc (suc n)) x v = x * moment (suc n) x v + suc n * (v * moment n x v)

-- twice a number, so that a recursion can take two steps at a time
abbrev pub double : ℕ → ℕ
double zero = zero
double (suc m) = suc (suc (double m))

pub double-is : (m : ℕ) → double m ≡ 2 * m
double-is zero = refl
double-is (suc m) = omega (arith, double-is m)

-- without noise it is the power
pub moment-still : (n x : ℕ) → moment n x 0 ≡ x ^ n
moment-still zero x = sym (pow-zero x)
moment-still (suc zero) x = omega (arith, pow-suc x 0, ap (λ k. k * x) (pow-zero x))
moment-still (suc (suc n)) x = omega (arith, pow-suc x (suc n), ap (λ k. x * k) (moment-still (suc n) x))

next_odd : (odds v p m k q more : ℕ) → k ≡ 2 * m → p ≡ odds * q → more ≡ q * v → suc k * (v * p) ≡ (2 * m + 1) * odds * more
next_odd odds v p m k q more e h g = rw (e, h, g) (omega arith)

-- the even moments of the noise alone
pub moment-centred : (m v : ℕ) → moment (double m) 0 v ≡ odd_product m * v ^ m
moment-centred zero v = omega (arith, pow-zero v)
moment-centred (suc m) v = omega (arith, next_odd (odd_product m) v (moment (double m) 0 v) m (double m) (v ^ m) (v ^ suc m) (double-is m) (moment-centred m v) (pow-suc v m))

-- the arithmetic of the two steps below
difference_step : (k x d v f0 s1 f1 s2 f2 : ℕ) → f2 ≡ x * f1 + d * s1 + k * (v * f0) → s1 ≤ k * (d * f0) → s2 ≤ suc k * (d * f1) → x * s2 + d * f2 + suc k * (v * s1) ≤ suc (suc k) * (d * f2)
difference_step k x d v f0 s1 f1 s2 f2 e p q = rw e (omega (arith, mul-le-mul_left x q, mul-le-mul_left (suc k * v) p))

sum_step : (k x d c v f0 s1 f1 h0 h1 : ℕ) → d ≤ c → f0 ≤ 2 * h0 → f1 ≤ 2 * h1 → s1 ≤ k * (d * f0) → x * f1 + d * s1 + k * (v * f0) ≤ 2 * (x * h1 + k * ((v + c * c) * h0))
sum_step k x d c v f0 s1 f1 h0 h1 le p q r = omega (arith, mul-le-mul_left x q, mul-le-mul_left d r, mul-le-mul_left (k * v) p, mul-le-mul_left k (mul-le-mul (mul-le-mul le le) p))

module _ (x d v : ℕ) where
  -- the sum of the moments of x + d and x - d with noise (false), and their difference (true), signs included
  abbrev both : Bool → ℕ → ℕ
  both b zero = if b then 0 else 2
  both b (suc zero) = 2 * (if b then d else x)
  both b (suc (suc n)) = x * both b (suc n) + d * both (not b) (suc n) + suc n * (v * both b n)

  difference-within : (n : ℕ) → both true (suc n) ≤ suc n * (d * both false n)
  difference-within zero = omega arith
  difference-within (suc zero) = omega arith
  difference-within (suc (suc n)) =
      difference_step (suc n) x d v (both false n) (both true (suc n)) (both false (suc n)) (both true (suc (suc n))) (both false (suc (suc n))) refl (difference-within n) (difference-within (suc n))

  sum-within : (c : ℕ) → d ≤ c → (n : ℕ) → both false n ≤ 2 * moment n x (v + c * c)
  sum-within c le zero = omega arith
  sum-within c le (suc zero) = omega arith
  sum-within c le (suc (suc n)) = grind (arith, common_steps, sum_step, difference-within, sum-within c le n, sum-within c le (suc n))

-- a sum and a difference of two numbers
record IsApart (sum difference a b : ℕ) : Type 0 where
  sums : sum ≡ a + b
  differs : a ≡ difference + b

-- two steps of the recursions of sums, differences and moments: for x - d, and for d - x, where odd moments change their signs
plain_step : (z d k v f0 s0 a0 b0 f1 s1 a1 b1 : ℕ) → IsApart f0 s0 a0 b0 → IsApart f1 s1 a1 b1 →
    IsApart ((z + d) * f1 + d * s1 + k * (v * f0)) ((z + d) * s1 + d * f1 + k * (v * s0)) ((z + d + d) * a1 + k * (v * a0)) (z * b1 + k * (v * b0))
plain_step z d k v f0 s0 a0 b0 f1 s1 a1 b1 p q = record {
  sums = rw (p.sums, q.sums, q.differs) (omega arith);
  differs = rw (p.differs, q.sums, q.differs) (omega arith);
}

turned_step : (z x k v f0 s0 a0 b0 f1 s1 a1 b1 : ℕ) → IsApart f0 s0 a0 b0 → IsApart s1 f1 a1 b1 →
    IsApart (x * f1 + (z + x) * s1 + k * (v * f0)) (x * s1 + (z + x) * f1 + k * (v * s0)) ((x + (z + x)) * a1 + k * (v * a0)) (z * b1 + k * (v * b0))
turned_step z x k v f0 s0 a0 b0 f1 s1 a1 b1 p q = record {
  sums = rw (p.sums, q.sums, q.differs) (omega arith);
  differs = rw (p.differs, q.sums, q.differs) (omega arith);
}

-- the sums and differences are apart by the moments of x - d
plain : (z d v n : ℕ) → IsApart (both (z + d) d v false n) (both (z + d) d v true n) (moment n (z + d + d) v) (moment n z v)
plain z d v zero = record { sums = refl; differs = refl }
plain z d v (suc zero) = record { sums = omega arith; differs = omega arith }
plain z d v (suc (suc n)) = plain_step z d (suc n) v _ _ _ _ _ _ _ _ (plain z d v n) (plain z d v (suc n))

-- and, where x is below d, of d - x: an even moment and the odd one after it
turned : (z x v m : ℕ) → IsApart (both x (z + x) v false (double m)) (both x (z + x) v true (double m)) (moment (double m) (x + (z + x)) v) (moment (double m) z v)
    × IsApart (both x (z + x) v true (suc (double m))) (both x (z + x) v false (suc (double m))) (moment (suc (double m)) (x + (z + x)) v) (moment (suc (double m)) z v)
turned z x v zero = (record { sums = refl; differs = refl }, record { sums = omega arith; differs = omega arith })
turned z x v (suc m) = search (rules, turned_step, turned z x v m)

both-plain : (m x d v z : ℕ) → x ≡ z + d → both x d v false (double m) ≡ moment (double m) (x + d) v + moment (double m) z v
both-plain m x d v z e = rw e (plain z d v (double m)).sums

both-turned : (m x d v z : ℕ) → d ≡ z + x → both x d v false (double m) ≡ moment (double m) (x + d) v + moment (double m) z v
both-turned m x d v z e = rw e (turned z x v m).0.sums

-- a coin that moves a number by at most c adds at most c^2 to the variance: even moments on both sides of x
pub coin-moments : (m x d c v : ℕ) → d ≤ c → moment (double m) (x + d) v + moment (double m) (distance x d) v ≤ 2 * moment (double m) x (v + c * c)
coin-moments m x d c v le =
    let sums : both x d v false (double m) ≡ moment (double m) (x + d) v + moment (double m) (distance x d) v = grind (arith, common_steps, both-turned, both-plain, cases_lt) in
    omega (arith, sums, sum-within x d v c le (double m))
