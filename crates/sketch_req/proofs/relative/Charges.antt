-- A level seldom compacts an odd number of a query's items: 3k^2 times the number of such compactions is at most a multiple of
-- the items on the accurate side, since each such compaction reached past 3k of them.
use Rattle.std.proofs.Common.{◌≡◌, ℕ, zero, suc, ◌+◌, ◌-◌, ◌*◌, ◌^◌, ◌≤◌, ap, arith, inl, inr, mul-le-mul, mul-le-mul_left, mul-le-mul_right, ◌%◌, ◌<◌, Bool, true, false, ◌⊎◌, List, [], ◌∷◌, length, refl, ◌∙◌, lit<, le_trans, leb-true, le-leb, lt-ltb}
use Rattle.std.proofs.Math.Nat.{pow-succ', le_of_mul-le-mul_left, pow-le-pow_right}
use Rattle.std.proofs.lemmas.Bool.{cases_lt, cases_Bool, and_parts, false≢true}
use Rattle.std.proofs.lemmas.Grind.{common_steps}
use Rattle.std.proofs.Math.Dec.{eqb-suc-zero}
use Rattle.sketch_req.specs.Level.{turns_coin}
use Rattle.sketch_req.specs.Sections.{IsLegalK, size_of, sections_of, growth_threshold, grows, grown_once, kept_at_least}
use Rattle.sketch_req.proofs.sections.Sections.{pow_pos, size_of_is, first_size, grows_few, size_keeps, ones, marks, ones-most, marks-most, marks-between, marks-next, marks-kept, ones-full, full-ones, ones-trailing}
use Rattle.sketch_req.proofs.relative.Moves.{Move, Gives, Compacts, total, odds, keeps, Alternates, ObeysSections}

-- The arithmetic of a level's charge.

-- four times a product is at most the square of the sum
four_times : (t x : ℕ) → 4 * (t * x) ≤ (t + x) * (t + x)
four_times t x =
    elim (cases_lt t x) [
      | inl lt ↦ go t x (x - t) (omega arith)
      | inr ge ↦ let r = go x t (t - x) (omega arith) in omega (arith, r)
    ]
  where
    go : (a b e : ℕ) → b ≡ a + e → 4 * (a * b) ≤ (a + b) * (a + b)
    go a b e h = rw h (omega arith)

suc_le_pow : (d : ℕ) → suc d ≤ 2 ^ d
suc_le_pow zero = omega arith
suc_le_pow (suc d) = let r = suc_le_pow d in let p = pow-succ' 2 d in omega (arith, r, p)

-- if k is too small for the sections to double: an odd number was taken m times, which is at most x
pub blocked_square : (k d s sections x m came : ℕ) → came ≡ s * sections + x → 4 ≤ s → sections ≡ 3 * 2 ^ d → k * k ≤ 16 * 2 ^ d → m ≤ x → 3 * k * k * m ≤ came * came
blocked_square k d s sections x m came sum size e few le =
    let a : k * k * m ≤ 16 * 2 ^ d * x = mul-le-mul few le in
    let b : 4 * (sections * x) ≤ s * (sections * x) = mul-le-mul_right (sections * x) size in
    let c : sections * x ≡ 3 * 2 ^ d * x = ap (λ n. n * x) e in
    rw sum (omega (arith, a, b, c, four_times (s * sections) x))

open_times : (v sections x m d : ℕ) → 3 * suc d ≤ sections → (v + 3) * m ≤ x + (v + 3) * suc d →
    (v + 3) * ((v + 5) * (v + 5) * sections * m) ≤ (v + 3) * (((v + 4) * sections + x) * ((v + 4) * sections + x))
open_times v sections x m d many le =
    let f1 : (v + 5) * (v + 5) * sections * ((v + 3) * m) ≤ (v + 5) * (v + 5) * sections * (x + (v + 3) * suc d) = mul-le-mul_left ((v + 5) * (v + 5) * sections) le in
    let f2 : (v + 5) * (v + 5) * (sections * x) ≤ (2 * (v + 3) * (v + 4) + 1) * (sections * x) = mul-le-mul_right (sections * x) (omega arith) in
    let f3 = four_times sections x in
    let f4 : 1 * (x * x) ≤ (v + 3) * (x * x) = mul-le-mul_right (x * x) (omega arith) in
    let f5 : (v + 5) * (v + 5) * sections * (v + 3) * (3 * suc d) ≤ (v + 5) * (v + 5) * sections * (v + 3) * sections = mul-le-mul_left ((v + 5) * (v + 5) * sections * (v + 3)) many in
    let f6 : ((v + 5) * (v + 5) * (v + 3) + 3) * (sections * sections) ≤ 3 * (v + 3) * ((v + 4) * (v + 4)) * (sections * sections) = mul-le-mul_right (sections * sections) (omega arith) in
    omega (arith, f1, f2, f3, f4, f5, f6)

-- otherwise (s - 1) * m is at most x, except for d + 1 of the m times
pub open_square : (k d s sections x m came : ℕ) → came ≡ s * sections + x → 4 ≤ s → sections ≡ 3 * 2 ^ d → k * k ≤ (s + 1) * (s + 1) * 2 ^ d → (s - 1) * m ≤ x + (s - 1) * suc d →
    3 * k * k * m ≤ came * came
open_square k d s sections x m came sum size e few le =
    let a : k * k * m ≤ (s + 1) * (s + 1) * 2 ^ d * m = mul-le-mul_right m few in
    let c : (s + 1) * (s + 1) * sections * m ≡ (s + 1) * (s + 1) * (3 * 2 ^ d) * m = ap (λ n. (s + 1) * (s + 1) * n * m) e in
    let v : ℕ = s - 4 in
    let three : s - 1 ≡ v + 3 = omega arith in
    rw sum (omega (arith, a, c, go v s (omega arith) (rw three at le) (suc_le_pow d)))
  where
    go : (v s : ℕ) → s ≡ v + 4 → (v + 3) * m ≤ x + (v + 3) * suc d → suc d ≤ 2 ^ d → (s + 1) * (s + 1) * sections * m ≤ (s * sections + x) * (s * sections + x)
    go v s q le p = rw q (omega (arith, le_of_mul-le-mul_left (open_times v sections x m d (omega (arith, e, p)) le) (omega arith)))

-- A level seldom compacts an odd number of a query's items: 3k^2 times the number of such compactions
-- is at most the square of the number of these items that came.

-- ---- sizes

square_at_most : (b k : ℕ) → k * k < (b + 1) * (b + 1) → k * k ≤ b * b
square_at_most b k lt = grind (arith, common_steps, cases_lt, mul-le-mul)

-- if the next sections would be too small, k is small
small_enough : (k d : ℕ) → d < 5 → size_of k (suc d) < 4 → k * k ≤ 16 * 2 ^ d
small_enough k d few lt =
    let z = size_of_is k (suc d) in
    let e : size_of k (suc d) ≤ 2 = omega (arith, z.even, lt) in
    let m : (size_of k (suc d) + 1) * (size_of k (suc d) + 1) ≤ 9 = mul-le-mul {n₁ = size_of k (suc d) + 1} {m₁ = size_of k (suc d) + 1} {n₂ = 3} {m₂ = 3} (omega (arith, e)) (omega (arith, e)) in
    let b : (size_of k (suc d) + 1) * (size_of k (suc d) + 1) * 2 ^ suc d ≤ 9 * 2 ^ suc d = mul-le-mul_right (2 ^ suc d) m in
    let p = pow-succ' 2 d in
    go d few (omega (arith, b, p, z.greatest))
  where
    go : (d : ℕ) → d < 5 → k * k < 18 * 2 ^ d → k * k ≤ 16 * 2 ^ d
    go zero few lt = let s = square_at_most 4 k (omega (arith, lt)) in omega (arith, s)
    go (suc zero) few lt = let s = square_at_most 5 k (omega (arith, lt)) in omega (arith, s)
    go (suc (suc zero)) few lt = let s = square_at_most 8 k (omega (arith, lt)) in omega (arith, s)
    go (suc (suc (suc zero))) few lt = let s = square_at_most 11 k (omega (arith, lt)) in omega (arith, s)
    go (suc (suc (suc (suc zero)))) few lt = let s = square_at_most 16 k (omega (arith, lt)) in omega (arith, s)
    go (suc (suc (suc (suc (suc d))))) few lt = absurd (omega (arith, few))

-- the size never rises from one doubling to the next
size_falls : (k d : ℕ) → 4 ≤ size_of k (suc d) → size_of k (suc d) ≤ size_of k d
size_falls k d some =
    let y = size_of_is k d in
    let z = size_of_is k (suc d) in
    let s : ℕ = size_of k d in
    let t : ℕ = size_of k (suc d) in
    elim (cases_lt s t) [
      | inl lt ↦
          let m : (s + 1) * (s + 1) ≤ (t - 1) * (t - 1) = mul-le-mul (omega (arith, y.even, z.even)) (omega (arith, y.even, z.even)) in
          let b : (s + 1) * (s + 1) * 2 ^ d ≤ (t - 1) * (t - 1) * 2 ^ d = mul-le-mul_right (2 ^ d) m in
          let p : 2 ^ d ≤ 2 ^ suc d = let q = pow-succ' 2 d in omega (arith, q) in
          let c : (t - 1) * (t - 1) * 2 ^ d ≤ (t - 1) * (t - 1) * 2 ^ suc d = mul-le-mul_left ((t - 1) * (t - 1)) p in
          absurd (omega (arith, b, c, y.greatest, z.fits (omega (arith, some))))
      | inr le ↦ le
    ]

-- the sections that are kept above the protected half: all but one more than the state has trailing one bits
kept_is : (k state d : ℕ) → state + 1 < 2 ^ 64 → kept_at_least (size_of k d) state d ≡ size_of k d * sections_of d + (sections_of d - 1 - ones (sections_of d - 1) state) * size_of k d
kept_is k state d few = grind (arith, common_steps, pow_pos, ones-trailing, few)

-- ---- one compaction of a level: s is the section size, n + 1 sections are above the protected half

module _ (s n protected state c came rest known keep : ℕ) (size : 4 ≤ s) (sections : s * known ≤ c - protected)
    (marked : (s - 1) * rest + c ≤ came + (s - 1) * marks n (n - known) state)
    (low : protected + (n - ones n state) * s ≤ keep) (high : keep ≤ protected + (n - ones n state) * s + 1) where
  -- an important compaction is one that takes some of the query's items:
  -- it takes at least s - 1 of them for each of the known sections that it takes
  takes_enough : (q r : ℕ) → r ≤ known → q ≤ r → n - ones n state ≡ r - q → keep < c → (s - 1) * q + keep ≤ c
  takes_enough zero r le within e more = omega (arith, more)
  takes_enough (suc q) r le within e more =
      let a : s * r ≤ s * known = mul-le-mul_left s le in
      let b : (n - ones n state) * s ≡ (r - suc q) * s = ap (λ m. m * s) e in
      let f : s * r ≡ s * (r - suc q + suc q) = ap (λ m. s * m) (omega (arith, within)) in
      let g : 1 * suc q ≤ s * suc q = mul-le-mul_right (suc q) (omega (arith, size)) in
      let h : s * suc q ≡ (s - 1 + 1) * suc q = ap (λ m. m * suc q) (omega (arith, size)) in
      let i : 4 * suc q ≤ s * suc q = mul-le-mul_right (suc q) size in
      omega (arith, a, b, f, g, h, i, sections, high, more)

  -- after an important one the charges are covered, with the sections that it keeps as the known ones
  charged-more : ones n state < n → keep < c → (odd : ℕ) → odd ≤ 1 → (s - 1) * (rest + odd) + keep ≤ came + (s - 1) * marks n (n - (n - ones n state)) (suc state)
  charged-more less more odd one =
      let o : ℕ = ones n state in
      let next : (s - 1) * marks n (n - (n - o)) (suc state) ≡ (s - 1) * (marks n o state + 1) =
      ap (λ m. (s - 1) * m) (ap (λ i. marks n i (suc state)) (omega (arith, less)) ∙ marks-next n state less) in
      let most : (s - 1) * (rest + odd) ≤ (s - 1) * suc rest = mul-le-mul_left (s - 1) (omega (arith, one)) in
      elim (cases_lt o (n - known)) [
        | inl lt ↦
            let m : (s - 1) * marks n (n - known) state ≤ (s - 1) * marks n o state = mul-le-mul_left (s - 1) (marks-between n o (n - known) state (omega (arith, lt))).0 in
            omega (arith, m, next, most, marked, more)
        | inr le ↦
            let m : (s - 1) * marks n (n - known) state ≤ (s - 1) * (marks n o state + (o - (n - known))) = mul-le-mul_left (s - 1) (marks-between n (n - known) o state le).1 in
            let t = takes_enough (o - (n - known)) (n - (n - known)) (omega arith) (omega (arith, less)) (omega (arith, le, less)) more in
            omega (arith, m, next, most, marked, t)
      ]

  -- one that is not important takes none of the known sections
  charged-none : c ≤ keep → ones n state ≤ n → ones n state ≤ n - known
  charged-none none most = grind (arith, common_steps, cases_lt, ones, known, mul-le-mul_left, sections, size)

  -- one that takes all sections leaves no charge
  charged-full : ones n state ≡ n → (s - 1) * rest + (c - (c - keep)) ≤ came
  charged-full all =
      let m = marks-most n (n - known) state in
      elim (cases_lt keep c) [
        | inl more ↦
            let t = takes_enough (n - (n - known)) (n - (n - known)) (omega arith) (omega arith) (omega (arith, all)) more in
            let b : (s - 1) * marks n (n - known) state ≤ (s - 1) * (n - (n - known)) = mul-le-mul_left (s - 1) m in
            omega (arith, b, t, marked, more)
        | inr none ↦
            let l = charged-none none (omega (arith, all)) in
            let b : (s - 1) * marks n (n - known) state ≤ (s - 1) * 0 = mul-le-mul_left (s - 1) (omega (arith, m, l, all)) in
            omega (arith, b, marked, none)
      ]

-- ---- a level along its moves

-- what a level pays for taking odd numbers: by the square of what came; by a third of what came, unless k is small;
-- and if it took any, at least 3k of what came are left over
pub record IsPaid (k came odd : ℕ) : Type 0 where
  pub bounded : 3 * k * k * odd ≤ came * came
  pub third : 24 ≤ k → 3 * odd ≤ came
  pub spared : (odd ≡ 0) ⊎ (odd + 3 * k ≤ came)

-- what was charged to a level with d doublings and c of the query's items: `came` came, and it took an odd number `odd` times,
-- `full` times all sections and `rest` times not all; `known` sections above the protected half hold only the query's items
record IsCounted (k d c came odd : ℕ) : Type 0 where
  full : ℕ
  rest : ℕ
  known : ℕ
  all : odd ≡ rest + full
  sections : size_of k d * known ≤ c - size_of k d * sections_of d
  gone : odd + c ≤ came
  paid : IsPaid k came odd

-- the charges are covered by marks of the state
abbrev AreMarked : (k state d c came rest known : ℕ) → Type 0
AreMarked k state d c came rest known =
    (size_of k d - 1) * rest + c ≤ came + (size_of k d - 1) * marks (sections_of d - 1) (sections_of d - 1 - known) state

-- unless k is small, at most `most` of the odd compactions took all sections
abbrev AreFew : (k d full most : ℕ) → Type 0
AreFew k d full most = 16 * 2 ^ d < k * k → full ≤ most

record IsCharged (k state d c came odd : ℕ) : Type 0 where
  counted : IsCounted k d c came odd
  open counted use *
  marked : AreMarked k state d c came counted.rest counted.known
  few_full : AreFew k d counted.full d
  few : d ≤ 5
  size : 4 ≤ size_of k d
  reach : 16 * 2 ^ d < k * k → state < growth_threshold d

new_charged : (k : ℕ) → IsLegalK k → IsCharged k 0 0 0 0 0
new_charged k legal = record {
  counted = record {
    full = 0;
    rest = 0;
    known = 0;
    all = refl;
    sections = omega arith;
    gone = omega arith;
    paid = record { bounded = omega arith; third = λ many. omega arith; spared = inl refl };
  };
  marked = omega arith;
  few_full = λ big. omega arith;
  few = omega arith;
  size = omega (arith, first_size k legal.even, legal.at_least);
  reach = λ big. omega arith;
}

-- items that come leave the charges as they are
come : (k state d c came odd n : ℕ) → IsCharged k state d c came odd → IsCharged k state d (c + n) (came + n) odd
come k state d c came odd n i = record {
  counted = record {
    full = i.full;
    rest = i.rest;
    known = i.known;
    all = i.all;
    sections = omega (arith, i.sections);
    gone = omega (arith, i.gone);
    paid = record {
      bounded = let m : came * came ≤ (came + n) * (came + n) = mul-le-mul (omega arith) (omega arith) in le_trans i.paid.bounded m;
      third = λ many. omega (arith, i.paid.third many);
      spared =
          elim i.paid.spared [
            | inl none ↦ inl none
            | inr some ↦ inr (omega (arith, some))
          ];
    };
  };
  marked = omega (arith, i.marked);
  few_full = i.few_full;
  few = i.few;
  size = i.size;
  reach = i.reach;
}

-- a level that still holds its protected half has paid
pays : (k d c came odd full rest known state : ℕ) → d ≤ 5 → 4 ≤ size_of k d → size_of k d * sections_of d ≤ c → odd ≡ rest + full →
    size_of k d * known ≤ c - size_of k d * sections_of d → AreMarked k state d c came rest known → odd + c ≤ came → AreFew k d full (suc d) → IsPaid k came odd
pays k d c came odd full rest known state few size above all sections marked gone few_full =
    let s : ℕ = size_of k d in
    let sum : came ≡ s * sections_of d + (came - s * sections_of d) = omega (arith, gone, above) in
    let keeps = size_keeps k d s (size_of_is k d) size in
    let spared : odd + 3 * k ≤ came = omega (arith, gone, above, keeps) in
    elim (cases_lt (16 * 2 ^ d) (k * k)) [
      | inl big ↦
          let less = few_full big in
          let m = marks-most (sections_of d - 1) (sections_of d - 1 - known) state in
          let a : (s - 1) * marks (sections_of d - 1) (sections_of d - 1 - known) state ≤ (s - 1) * known = mul-le-mul_left (s - 1) (omega (arith, m)) in
          let b : (s - 1) * known ≤ s * known = mul-le-mul_right known (omega arith) in
          let f : (s - 1) * full ≤ (s - 1) * suc d = mul-le-mul_left (s - 1) less in
          let parts : (s - 1) * odd ≡ (s - 1) * (rest + full) = ap (λ n. (s - 1) * n) all in
          let three : 3 * rest ≤ (s - 1) * rest = mul-le-mul_right rest (omega (arith, size)) in
          record {
            bounded = open_square k d s (sections_of d) _ odd came sum size refl (omega (arith, (size_of_is k d).greatest)) (omega (arith, a, b, f, parts, marked, sections, above));
            third = λ many. omega (arith, a, b, three, all, marked, sections, above, keeps, few, less, many);
            spared = inr spared;
          }
      | inr small ↦
          record {
            bounded = blocked_square k d s (sections_of d) _ odd came sum size refl small (omega (arith, gone, above));
            third = λ many.
                let p : 2 ^ d ≤ 2 ^ 5 = pow-le-pow_right {n = 2} (lit< tt) {i = d} {j = 5} few in
                let q : 24 * 24 ≤ k * k = mul-le-mul many many in
                absurd (omega (arith, p, q, small));
            spared = inr spared;
          }
    ]

-- if a level at the threshold does not grow, k is small
stays : (k state d : ℕ) → d ≤ 5 → state < 2 ^ 64 → growth_threshold d ≤ state → grows k state d ≡ false → k * k ≤ 16 * 2 ^ d
stays k state d few bound above none = grind (arith, common_steps, cases_lt, small_enough, false≢true, lt-ltb, le-leb, pow-le-pow_right)

-- what growth needs
grows_at : (k state d : ℕ) → grows k state d ≡ true → (growth_threshold d ≤ state) × (4 ≤ size_of k (suc d)) × (d < 5)
grows_at k state d g = grind (arith, common_steps, and_parts, leb-true, grows_few)

-- if k is that small, no level grows
none_grows : (k state d : ℕ) → k * k ≤ 16 * 2 ^ d → grows k state d ≡ true → ⊥
none_grows k state d small g =
    let big = (grows_at k state d g).1 in
    let less : ℕ = size_of k (suc d) - 1 in
    let m : 3 * 3 ≤ less * less = mul-le-mul {n₁ = 3} {m₁ = 3} {n₂ = less} {m₂ = less} (omega (arith, big)) (omega (arith, big)) in
    let b : 3 * 3 * 2 ^ suc d ≤ less * less * 2 ^ suc d = mul-le-mul_right (2 ^ suc d) m in
    omega (arith, b, pow-succ' 2 d, pow_pos d, small, (size_of_is k (suc d)).fits (omega (arith, big)))

threshold_next : (d : ℕ) → 2 * growth_threshold d ≤ growth_threshold (suc d)
threshold_next d =
    let p = pow-succ' 2 (sections_of d - 1) in
    let q = pow-succ' 2 d in
    let r = pow_pos d in
    let t : 2 ^ suc (sections_of d - 1) ≤ 2 ^ (sections_of (suc d) - 1) = pow-le-pow_right {n = 2} (lit< tt) {i = suc (sections_of d - 1)} {j = sections_of (suc d) - 1} (omega (arith, q, r)) in
    omega (arith, p, t)

-- a compaction that did not take all sections left a state at which none double, unless k is small;
-- one that took all sections left no charge
abbrev IsOfKind : (k state d c came full rest : ℕ) → Type 0
IsOfKind k state d c came full rest =
    (AreFew k d full d × (growth_threshold d ≤ state → k * k ≤ 16 * 2 ^ d))
    ⊎ ((growth_threshold d ≤ state) × AreFew k d full (suc d) × ((size_of k d - 1) * rest + c ≤ came))

-- a level right after a compaction, before its growth test
record IsStepped (k state d c came odd : ℕ) : Type 0 where
  counted : IsCounted k d c came odd
  open counted use *
  marked : AreMarked k state d c came counted.rest counted.known
  kind : IsOfKind k state d c came counted.full counted.rest

-- such a level, if it still holds its protected half
took : (k state d c came odd full rest known : ℕ) → d ≤ 5 → 4 ≤ size_of k d → size_of k d * sections_of d ≤ c → odd ≡ rest + full →
    size_of k d * known ≤ c - size_of k d * sections_of d → AreMarked k state d c came rest known → odd + c ≤ came → IsOfKind k state d c came full rest → IsStepped k state d c came odd
took k state d c came odd full rest known few size above all sections marked gone kind = record {
  counted = record {
    full = full;
    rest = rest;
    known = known;
    all = all;
    sections = sections;
    gone = gone;
    paid = pays k d c came odd full rest known state few size above all sections marked gone
        (elim kind [
          | inl calm ↦ λ big. omega (arith, calm.0 big)
          | inr clear ↦ clear.1
        ]);
  };
  marked = marked;
  kind = kind;
}

stepped : (k state d c came odd keep : ℕ) → IsCharged k state d c came odd →
    size_of k d * sections_of d + (sections_of d - 1 - ones (sections_of d - 1) state) * size_of k d ≤ keep →
    keep ≤ size_of k d * sections_of d + (sections_of d - 1 - ones (sections_of d - 1) state) * size_of k d + 1 →
    IsStepped k (suc state) d (c - (c - keep)) came (odd + (c - keep) % 2)
stepped k state d c came odd keep i low high =
    let s : ℕ = size_of k d in
    let n : ℕ = sections_of d - 1 in
    let o : ℕ = ones n state in
    let calm : o < n → growth_threshold d ≤ suc state → k * k ≤ 16 * 2 ^ d = λ less above.
    elim (cases_lt (16 * 2 ^ d) (k * k)) [
      | inl big ↦ absurd (omega (arith, ones-full n state (i.reach big) above, less))
      | inr small ↦ small
    ] in
    let all : n ≤ o → o ≡ n = λ most. let u = ones-most n state in omega (arith, u, most) in
    let full = charged-full s n (s * sections_of d) state c came i.rest i.known keep i.size i.sections i.marked low high in
    elim (cases_lt keep c) [
      | inl more ↦
          let b : ℕ = (c - keep) % 2 in
          let left : c - (c - keep) ≡ keep = omega (arith, more) in
          rw left
          (elim (cases_lt o n) [
            | inl less ↦
                took k (suc state) d keep came (odd + b) i.full (i.rest + b) (n - o) i.few i.size (omega (arith, low)) (omega (arith, i.all)) (omega (arith, low))
                (charged-more s n (s * sections_of d) state c came i.rest i.known keep i.size i.sections i.marked low high less more b (omega arith))
                (omega (arith, i.gone, more)) (inl (i.few_full, calm less))
            | inr most ↦
                let clear : (s - 1) * i.rest + keep ≤ came = rw left at (full (all most)) in
                took k (suc state) d keep came (odd + b) (i.full + b) i.rest 0 i.few i.size (omega (arith, low)) (omega (arith, i.all)) (omega arith) (omega (arith, clear))
                (omega (arith, i.gone, more)) (inr (full-ones n state (all most), λ big. omega (arith, i.few_full big), clear))
          ])
      | inr none ↦
          let same : c - (c - keep) ≡ c = omega (arith, none) in
          let even : odd + (c - keep) % 2 ≡ odd = omega (arith, none) in
          rw (same, even)
          (elim (cases_lt o n) [
            | inl less ↦
                let l = charged-none s n (s * sections_of d) state c came i.rest i.known keep i.size i.sections i.marked low high none (omega (arith, less)) in
                let m : (s - 1) * marks n (n - i.known) state ≤ (s - 1) * marks n (n - i.known) (suc state) = mul-le-mul_left (s - 1) (marks-kept n (n - i.known) state l) in
                record { counted = i.counted; marked = omega (arith, m, i.marked); kind = inl (i.few_full, calm less) }
            | inr most ↦
                let clear : (s - 1) * i.rest + c ≤ came = rw same at (full (all most)) in
                record {
                  counted = record i.counted { known = 0; sections = omega arith };
                  marked = omega (arith, clear);
                  kind = inr (full-ones n state (all most), λ big. omega (arith, i.few_full big), clear);
                }
          ])
    ]

-- a level after its growth test
grown_charged : (k state d c came odd : ℕ) → d ≤ 5 → 4 ≤ size_of k d → suc state < 2 ^ 64 → (16 * 2 ^ d < k * k → state < growth_threshold d) →
    IsStepped k (suc state) d c came odd → IsCharged k (suc state) (grown_once k (suc state) d) c came odd
grown_charged k state d c came odd few size bound reach i =
    elim (cases_Bool (grows k (suc state) d)) [
      | inl g ↦
          let at = grows_at k (suc state) d g in
          rw g
          (elim i.kind [
            | inl calm ↦ absurd (none_grows k (suc state) d (calm.1 at.0) g)
            | inr clear ↦
                let m : (size_of k (suc d) - 1) * i.rest ≤ (size_of k d - 1) * i.rest = let f = size_falls k d at.1 in mul-le-mul_right i.rest (omega (arith, f)) in
                record {
                  counted = record {
                    full = i.full;
                    rest = i.rest;
                    known = 0;
                    all = i.all;
                    sections = omega arith;
                    gone = i.gone;
                    paid = i.paid;
                  };
                  marked = omega (arith, m, clear.2);
                  few_full = λ big. clear.1 (omega (arith, pow-succ' 2 d, big));
                  few = omega (arith, at.2);
                  size = at.1;
                  reach = λ big. omega (arith, reach (omega (arith, pow-succ' 2 d, big)), threshold_next d, pow_pos (sections_of d - 1));
                }
          ])
      | inr g ↦
          rw g
          (record {
            counted = i.counted;
            marked = i.marked;
            few_full =
                elim i.kind [
                  | inl low ↦ low.0
                  | inr high ↦ λ big. absurd (omega (arith, big, stays k (suc state) d few bound high.0 g))
                ];
            few = few;
            size = size;
            reach = λ big.
                elim (cases_lt (suc state) (growth_threshold d)) [
                  | inl below ↦ below
                  | inr above ↦ absurd (omega (arith, big, stays k (suc state) d few bound above g))
                ];
          })
    ]

-- one compaction of a level that keeps to the section rule
compact : (k state d c came odd keep : ℕ) → suc state < 2 ^ 64 → IsCharged k state d c came odd →
    kept_at_least (size_of k d) state d ≤ keep → keep ≤ kept_at_least (size_of k d) state d + 1 →
    IsCharged k (suc state) (grown_once k (suc state) d) (c - (c - keep)) came (odd + (c - keep) % 2)
compact k state d c came odd keep bound i low high =
    let e = kept_is k state d (omega (arith, bound)) in
    grown_charged k state d (c - (c - keep)) came (odd + (c - keep) % 2) i.few i.size bound i.reach (stepped k state d c came odd keep i (omega (arith, e, low)) (omega (arith, e, high)))

-- a level that was charged so far has paid after some more moves
charged-from : (k : ℕ) (es : List Move) (state d c came odd all all_odd : ℕ) → came + total es ≡ all → odd + odds es c ≡ all_odd → IsCharged k state d c came odd →
    ObeysSections k state d (keeps 0 es) → state + length (keeps 0 es) < 2 ^ 64 → IsPaid k all all_odd
charged-from k [] state d c came odd all all_odd e f i obeys few =
    let came_is : came ≡ all = omega (arith, e) in
    let odd_is : odd ≡ all_odd = omega (arith, f) in
    rw (came_is, odd_is) at i.paid
charged-from k (Gives n ∷ es) state d c came odd all all_odd e f i obeys few =
    charged-from k es state d (c + n) (came + n) odd all all_odd (omega (arith, e)) f (come k state d c came odd n i) obeys few
charged-from k (Compacts zero keep turned ∷ es) state d c came odd all all_odd e f i obeys few =
    charged-from k es _ _ _ came _ all all_odd e (omega (arith, f)) (compact k state d c came odd keep (omega (arith, few)) i obeys.1 obeys.2) obeys.3 (omega (arith, few))
charged-from k (Compacts (suc h) keep turned ∷ es) state d c came odd all all_odd e f i obeys few =
    charged-from k es state d c came odd all all_odd e f i (rw eqb-suc-zero at obeys) (rw eqb-suc-zero at few)

-- moves that keep to the section rule pay for the odd numbers of a level
pub paid : (k : ℕ) (es : List Move) → IsLegalK k → ObeysSections k 0 0 (keeps 0 es) → length (keeps 0 es) < 2 ^ 64 → IsPaid k (total es) (odds es 0)
paid k es legal obeys few = charged-from k es 0 0 0 0 0 _ _ (omega arith) (omega arith) (new_charged k legal) obeys (omega (arith, few))

-- fresh and turned coins alternate
pub alternates : (k state d : ℕ) (ks : List (Bool × ℕ)) → ObeysSections k state d ks → Alternates (turns_coin state) ks
alternates k state d [] obeys = tt
alternates k state d (x ∷ xs) obeys = grind (arith, common_steps, alternates k (suc state) (grown_once k (suc state) d) xs obeys.3)
