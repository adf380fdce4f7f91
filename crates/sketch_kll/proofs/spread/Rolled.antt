-- The bound on the spread, by the level lengths of a sketch and of the scratch. Each level that compacts is full, so what it adds to the spread
-- is a fixed share of the weight that passes through it. Puts, pulls, joins and compactions keep the bound.
use Rattle.std.proofs.lemmas.Grind.{common_steps}
use Rattle.std.proofs.Common.{◌≡◌, ℕ, zero, suc, ◌+◌, ◌-◌, ◌*◌, ◌/◌, ◌%◌, ◌^◌, ◌<◌, ◌≤◌, max, List, [], ◌∷◌, length, slice_index, refl, sym, ap, ◌∙◌, subst, arith, inl, inr, mul-le-mul_left, mul-le-mul_right, pow_pos, false, leb, le-leb, lit≤, add-one}
use Rattle.std.proofs.lemmas.Bool.{cases_lt, lt-leb}
use Rattle.std.proofs.lemmas.Nat.{pow-add}
use Rattle.std.proofs.Math.Pow.{pow_mono}
use Rattle.std.proofs.Math.Nat.{pow-le-pow_left, pow-succ', lt-mul-div-succ, le_of_mul-le-mul_right}
use Rattle.sketch_kll.specs.Capacity.{shallow_capacity, depth_capacity, capacity_at}
use Rattle.sketch_kll.specs.Spread.{IsLittle}
use Rattle.sketch_kll.proofs.layout.Full.{three_pow_pos}
use Rattle.sketch_base.specs.Bag.{with_level}

-- ---- sums over levels

-- the sum over the levels of the length times f of the level
abbrev pub along : (ℕ → ℕ) → List ℕ → ℕ
along f [] = 0
along f (n ∷ ns) = f 0 * n + along (λ h. f (suc h)) ns

no-level : (h : ℕ) → (let none : List ℕ = [] in slice_index none h ≡ 0)
no-level zero = refl
no-level (suc h) = refl

-- the sum after one level is changed
along-with : (f : ℕ → ℕ) (h : ℕ) (change : ℕ → ℕ) (ns : List ℕ) → along f (with_level 0 h change ns) + f h * slice_index ns h ≡ along f ns + f h * change (slice_index ns h)
along-with f zero change [] = omega arith
along-with f zero change (n ∷ ns) = omega arith
along-with f (suc h) change [] =
    omega (arith, rw (no-level h) at (along-with (λ i. f (suc i)) h change []))
along-with f (suc h) change (n ∷ ns) = let r = along-with (λ i. f (suc i)) h change ns in omega (arith, r)

-- a change of a level adds levels up to it if there are fewer
pub length-with : (h : ℕ) (change : ℕ → ℕ) (ns : List ℕ) → length (with_level 0 h change ns) ≡ max (length ns) (h + 1)
length-with zero change [] = omega arith
length-with zero change (n ∷ ns) = omega arith
length-with (suc h) change [] = let r = length-with h change [] in omega (arith, r)
length-with (suc h) change (n ∷ ns) = let r = length-with h change ns in omega (arith, r)

along-times : (c : ℕ) (f g : ℕ → ℕ) (ns : List ℕ) → ((h : ℕ) → h < length ns → f h ≡ c * g h) → along f ns ≡ c * along g ns
along-times c f g [] e = omega arith
along-times c f g (n ∷ ns) e = rw (e 0 (omega arith), along-times c (λ h. f (suc h)) (λ h. g (suc h)) ns (λ h b. e (suc h) (omega (arith, b)))) (omega arith)

along-below : (c : ℕ) (f g : ℕ → ℕ) (ns : List ℕ) → ((h : ℕ) → h < length ns → f h ≤ c * g h) → along f ns ≤ c * along g ns
along-below c f g [] e = omega arith
along-below c f g (n ∷ ns) e =
    omega (arith, mul-le-mul_right n (e 0 (omega arith)), along-below c (λ h. f (suc h)) (λ h. g (suc h)) ns (λ h b. e (suc h) (omega (arith, b))))

-- one level's part is at most the whole sum
along-at : (f : ℕ → ℕ) (h : ℕ) (ns : List ℕ) → f h * slice_index ns h ≤ along f ns
along-at f zero [] = omega arith
along-at f (suc h) [] = omega arith
along-at f zero (n ∷ ns) = omega arith
along-at f (suc h) (n ∷ ns) = omega (arith, along-at (λ i. f (suc i)) h ns)

-- ---- weights of levels

-- 2^h
abbrev pub two : ℕ → ℕ
two h = 2 ^ h

-- 4^h
abbrev pub four : ℕ → ℕ
four h = 2 ^ h * 2 ^ h

-- 8^h
abbrev pub eight : ℕ → ℕ
eight h = 2 ^ h * 2 ^ h * 2 ^ h

-- 8^top at level `top`, and at each level below it 3/8 of the value one level up
abbrev pub rising_weight : ℕ → ℕ → ℕ
rising_weight top h = eight h * 3 ^ (top - h)

-- The bound on a spread, by the level lengths of a sketch and of the scratch, which stand for n items; k is at most that of each
-- sketch. No level is above `top`. A coin of level h adds 4^h to the spread, and at least 8 times that to the sum of 4^h over all
-- items. If `top` is above 0, it came from k items on the level below it, and the sum of the rising weights stays ahead of k
-- times the spread times 2^top.
pub record IsRolled (k : ℕ) (bag scratch : List ℕ) (n spread : ℕ) : Type 0 where
  pub top : ℕ
  pub bag_fits : length bag ≤ top + 1
  pub scratch_fits : length scratch ≤ top + 1
  pub weighs : along two bag + along two scratch ≡ n
  pub squares : 8 * spread + n ≤ along four bag + along four scratch
  pub high : (j : ℕ) → top ≡ suc j → k * 2 ^ j ≤ n
  pub steep : 0 < top → 8 * (k * spread * 2 ^ top) + 5 * (k * eight top) ≤ 30 * (along (rising_weight top) bag + along (rising_weight top) scratch)

-- ---- items enter, and move from the scratch

-- putting an item in keeps the bound
pub rolled-put : (k : ℕ) (bag scratch : List ℕ) (n s : ℕ) → IsRolled k bag scratch n s → IsRolled k (with_level 0 0 (λ m. m + 1) bag) scratch (n + 1) s
rolled-put k bag scratch n s i = grind (arith, common_steps, along-with, length-with)

-- the bound depends on the sums over both, and on no level being above the top
pub rolled-like : (k : ℕ) (bag scratch bag' scratch' : List ℕ) (n s : ℕ) (i : IsRolled k bag scratch n s) → length bag' ≤ i.top + 1 → length scratch' ≤ i.top + 1 →
    ((f : ℕ → ℕ) → along f bag' + along f scratch' ≡ along f bag + along f scratch) → IsRolled k bag' scratch' n s
rolled-like k bag scratch bag' scratch' n s i fits fits' same = grind (arith, common_steps)

-- some items of a level of the scratch move to the bag, and the others stay
pub rolled-move : (k h some rest : ℕ) (bag scratch : List ℕ) (n s : ℕ) → IsRolled k bag scratch n s → h < length scratch → slice_index scratch h ≡ some + rest →
    IsRolled k (with_level 0 h (λ m. m + some) bag) (with_level 0 h (λ m. rest) scratch) n s
rolled-move k h some rest bag scratch n s i b e =
    rolled-like k bag scratch (with_level 0 h (λ m. m + some) bag) (with_level 0 h (λ m. rest) scratch) n s i
    (omega (arith, length-with h (λ m. m + some) bag, i.bag_fits, i.scratch_fits, b)) (omega (arith, length-with h (λ m. rest) scratch, i.scratch_fits, b))
    (λ f. omega (arith, along-with f h (λ m. m + some) bag, rw e at (along-with f h (λ m. rest) scratch)))

-- ---- compactions

length-sent : (h rest up : ℕ) (ns : List ℕ) → length (with_level 0 (suc h) (λ m. m + up) (with_level 0 h (λ m. rest) ns)) ≡ max (length ns) (h + 2)
length-sent h rest up ns = let a = length-with (suc h) (λ m. m + up) (with_level 0 h (λ m. rest) ns) in let b = length-with h (λ m. rest) ns in omega (arith, a, b)

-- the sum after a level sends `up` items up, drops `up` others and keeps `rest`
along-sent : (f : ℕ → ℕ) (h rest up : ℕ) (ns : List ℕ) → slice_index ns h ≡ rest + 2 * up →
    along f (with_level 0 (suc h) (λ m. m + up) (with_level 0 h (λ m. rest) ns)) + f h * (2 * up) ≡ along f ns + f (suc h) * up
along-sent f h rest up ns e =
    omega (arith, rw e at (along-with f h (λ m. rest) ns), along-with f (suc h) (λ m. m + up) (with_level 0 h (λ m. rest) ns))

-- the step below the top: `far` is 2 to the power of the distance from the top
steep_below : (k s p far w t up c bag scratch after : ℕ) → t ≡ p * far → 4 * (k * far) ≤ 5 * (3 * w * (2 * up)) →
    after + p * p * p * (3 * w) * (2 * up) ≡ bag + 2 * p * (2 * p) * (2 * p) * w * up →
    8 * (k * s * t) + c ≤ 30 * (bag + scratch) → 8 * (k * (s + p * p) * t) + c ≤ 30 * (after + scratch)
steep_below k s p far w t up c bag scratch after e many sent h =
    rw e (omega (arith, rw e at h, mul-le-mul_left (2 * (p * p * p)) many, sent))

-- the step at the top
steep_top : (k s p up bag scratch after : ℕ) → 4 * k ≤ 5 * (2 * up) → p * p * p * k ≤ bag →
    after + p * p * p * 3 * (2 * up) ≡ 3 * bag + 2 * p * (2 * p) * (2 * p) * 1 * up → 8 * (k * s * p) + 5 * (k * (p * p * p)) ≤ 30 * (bag + scratch) →
    8 * (k * (s + p * p) * (2 * p)) + 5 * (k * (2 * p * (2 * p) * (2 * p))) ≤ 30 * (after + 3 * scratch)
steep_top k s p up bag scratch after many full sent h = omega (arith, h, mul-le-mul_left (4 * (p * p * p)) many, full, sent)

-- a power of two is twice the one before it
pub next-two : (h : ℕ) → 2 ^ suc h ≡ 2 * 2 ^ h
next-two h = omega arith

next-three : (d : ℕ) → 3 ^ suc d ≡ 3 * 3 ^ d
next-three d = omega arith

-- if the top is one level higher, each level's rising weight is three times what it was
rising-up : (top h : ℕ) → h < top + 1 → rising_weight (suc top) h ≡ 3 * rising_weight top h
rising-up top h b =
    let further : suc top - h ≡ suc (top - h) = omega (arith, b) in
    rw (further, next-three (top - h)) (omega arith)

-- if the top is one level higher, the sum of the rising weights is three times what it was
pub along-up : (top : ℕ) (ns : List ℕ) → length ns ≤ top + 1 → along (rising_weight (suc top)) ns ≡ 3 * along (rising_weight top) ns
along-up top ns b = along-times 3 (rising_weight (suc top)) (rising_weight top) ns (λ h l. rising-up top h (omega (arith, b, l)))

-- for level 0 alone both sums are the same
alone : (ns : List ℕ) → length ns ≤ 1 → along four ns ≡ along two ns
alone [] b = refl
alone (n ∷ []) b = omega arith
alone ns b = absurd (omega (arith, b))

-- with one level there is no spread
pub flat : (k : ℕ) (bag scratch : List ℕ) (n s : ℕ) (i : IsRolled k bag scratch n s) → i.top ≡ 0 → s ≡ 0
flat k bag scratch n s i e = omega (arith, i.weighs, i.squares, alone bag (omega (arith, i.bag_fits, e)), alone scratch (omega (arith, i.scratch_fits, e)))

-- what the bound needs of a compaction of level h by which `up` items go up and `rest` stay
pub record CompactsMany (k : ℕ) (bag : List ℕ) (top h rest up : ℕ) : Type 0 where
  pub there : h < length bag
  pub splits : slice_index bag h ≡ rest + 2 * up
  pub eight_go : 8 ≤ 2 * up
  pub many_go : 4 * (k * 2 ^ (top - h)) ≤ 5 * (3 ^ (top - h) * (2 * up))
  pub many_are : h ≡ top → k ≤ slice_index bag h

two-split : (a b c : ℕ) → c ≡ a + b → 2 ^ c ≡ 2 ^ a * 2 ^ b
two-split a b c e = rw e (pow-add 2 a b)

module _ (k h rest up : ℕ) (bag scratch : List ℕ) (n s : ℕ) (i : IsRolled k bag scratch n s) (c : CompactsMany k bag i.top h rest up) where
  abbrev pub after : List ℕ
  after = with_level 0 (suc h) (λ m. m + up) (with_level 0 h (λ m. rest) bag)

  sent-weighs : along two after + along two scratch ≡ n
  sent-weighs = let sent = rw (next-two h) at (along-sent two h rest up bag c.splits) in omega (arith, sent, i.weighs)

  sent-squares : 8 * (s + four h) + n ≤ along four after + along four scratch
  sent-squares =
      omega (arith, rw (next-two h) at (along-sent four h rest up bag c.splits), mul-le-mul_left (2 ^ h * 2 ^ h) c.eight_go, i.squares)

  compact-below : h < i.top → IsRolled k after scratch n (s + four h)
  compact-below below =
      let far : ℕ = i.top - suc h in
      let is : i.top - h ≡ suc far = omega (arith, below) in
      let many = rw (is, next-three far) at c.many_go in
      let sent = rw (next-two h, is, next-three far) at (along-sent (rising_weight i.top) h rest up bag c.splits) in
      record {
        top = i.top;
        bag_fits = omega (arith, length-sent h rest up bag, i.bag_fits, below);
        scratch_fits = i.scratch_fits;
        weighs = sent-weighs;
        squares = sent-squares;
        high = i.high;
        steep = λ l. steep_below k s (2 ^ h) (2 ^ suc far) (3 ^ far) (2 ^ i.top) up (5 * (k * eight i.top)) (along (rising_weight i.top) bag)
            (along (rising_weight i.top) scratch) (along (rising_weight i.top) after) (two-split h (suc far) i.top (omega (arith, below))) many sent (i.steep l);
      }

  compact-top : h ≡ i.top → IsRolled k after scratch n (s + four h)
  compact-top last =
      let one : suc i.top - h ≡ 1 = omega (arith, last) in
      let none : suc i.top - suc h ≡ 0 = omega (arith, last) in
      let here : i.top - h ≡ 0 = omega (arith, last) in
      let power : 2 ^ i.top ≡ 2 ^ h = ap (λ (t : ℕ). 2 ^ t) (sym last) in
      let above : 2 ^ suc i.top ≡ 2 * 2 ^ h = next-two i.top ∙ ap (λ (p : ℕ). 2 * p) power in
      let p : ℕ = 2 ^ h in
      let full : p * p * p * k ≤ along (rising_weight i.top) bag = omega (arith, rw here at (along-at (rising_weight i.top) h bag), mul-le-mul_left (p * p * p) (c.many_are last)) in
      let go = rw here at c.many_go in
      let sent = rw (next-two h, one, none, along-up i.top bag i.bag_fits) at (along-sent (rising_weight (suc i.top)) h rest up bag c.splits) in
      let before : 8 * (k * s * p) + 5 * (k * (p * p * p)) ≤ 30 * (along (rising_weight i.top) bag + along (rising_weight i.top) scratch) =
      elim (cases_lt 0 i.top) [
        | inl l ↦ rw power at (i.steep l)
        | inr le ↦ rw (flat k bag scratch n s i (omega (arith, le))) (omega (arith, full))
      ] in
      record {
        top = suc i.top;
        bag_fits = omega (arith, length-sent h rest up bag, i.bag_fits, last);
        scratch_fits = omega (arith, i.scratch_fits);
        weighs = sent-weighs;
        squares = sent-squares;
        high = λ j e. let is : j ≡ h = omega (arith, e, last) in rw is (omega (arith, mul-le-mul_left p (c.many_are last), along-at two h bag, i.weighs));
        steep = λ l. rw (above, along-up i.top scratch i.scratch_fits)
            (steep_top k s p up (along (rising_weight i.top) bag) (along (rising_weight i.top) scratch) (along (rising_weight (suc i.top)) after) (omega (arith, go)) full sent before);
      }

  -- a compaction keeps the bound, with its coin's part added to the spread
  pub rolled-compact : IsRolled k after scratch n (s + four h)
  rolled-compact = grind (arith, common_steps, cases_lt, compact-below, compact-top)

-- ---- what a full level sends up

three-above : (d : ℕ) → 2 ^ d ≤ 3 ^ d
three-above d = pow-le-pow_left {n = 2} {m = 3} (lit≤ tt) d

-- a level at its capacity at depth d holds at least k * (2/3)^d items, less half an item
shallow_many : (k d x : ℕ) → shallow_capacity k d ≤ x → 2 * (k * 2 ^ d) ≤ (2 * x + 1) * 3 ^ d
unfolding shallow_capacity
shallow_many k d x h =
    let twice : 2 ^ (d + 1) ≡ 2 * 2 ^ d = rw add-one (pow-succ' 2 d) in
    let quotient : ℕ = k * 2 ^ (d + 1) / 3 ^ d in
    let most : k * 2 ^ (d + 1) < 3 ^ d * (quotient + 1) = lt-mul-div-succ (k * 2 ^ (d + 1)) {b = 3 ^ d} (three_pow_pos d) in
    let many : 3 ^ d * (quotient + 1) ≤ 3 ^ d * (2 * x + 1) = mul-le-mul_left (3 ^ d) (omega (arith, h)) in
    omega (arith, most, many, ap (λ (p : ℕ). k * p) twice)

one_leg : (k p q n t : ℕ) → 2 * (k * p) ≤ (2 * n + 1) * q → n ≤ t + 1 → 8 ≤ t → 4 * (k * p) ≤ 5 * (q * t)
one_leg k p q n t h b e = omega (arith, h, mul-le-mul_left q b, mul-le-mul_left q e)

two_legs : (k p q c p' q' n t : ℕ) → 2 * (k * p) ≤ (2 * c + 1) * q → 2 * (c * p') ≤ (2 * n + 1) * q' → p' ≤ q' → n ≤ t + 1 → 8 ≤ t → 4 * (k * (p * p')) ≤ 5 * (q * q' * t)
two_legs k p q c p' q' n t h g l b e =
    omega (arith, mul-le-mul_left p' h, mul-le-mul_left q g, mul-le-mul_left q l, mul-le-mul_left (q * q') b, mul-le-mul_left (q * q') e)

depth_many : (k d n : ℕ) → 8 ≤ n → depth_capacity k d ≤ n → 4 * (k * 2 ^ d) ≤ 5 * (3 ^ d * (n - n % 2))
unfolding depth_capacity
depth_many k d n b h =
    elim (cases_lt d 31) [
      | inl l ↦
          grind (arith, common_steps, le-leb, one_leg, shallow_many)
      | inr g ↦
          let e : leb d 30 ≡ false = lt-leb d 30 (omega (arith, g)) in
          let i : ℕ = d / 2 in
          let j : ℕ = d - d / 2 in
          let is : i + j ≡ d = omega arith in
          let r = two_legs k (2 ^ i) (3 ^ i) (shallow_capacity k i) (2 ^ j) (3 ^ j) n (n - n % 2)
          (shallow_many k i (shallow_capacity k i) (omega arith)) (shallow_many (shallow_capacity k i) j n (rw e at h)) (three-above j) (omega arith) (omega (arith, b)) in
          subst (λ (m : ℕ). 4 * (k * 2 ^ m) ≤ 5 * (3 ^ m * (n - n % 2))) is (rw (pow-add 2 i j, pow-add 3 i j) r)
    ]

many-go : (k d n : ℕ) → capacity_at k 8 d ≤ n → 4 * (k * 2 ^ d) ≤ 5 * (3 ^ d * (n - n % 2))
unfolding capacity_at
many-go k d n h = depth_many k d n (omega (arith, h)) (omega (arith, h))

-- a compaction of a full level takes at least 4/5 of j * (2/3)^far items, if j is at most k and `far` at least the depth
pub many-further : (j k d far n : ℕ) → j ≤ k → d ≤ far → capacity_at k 8 d ≤ n → 4 * (j * 2 ^ far) ≤ 5 * (3 ^ far * (n - n % 2))
many-further j k d far n l f h =
    let rest : ℕ = far - d in
    let is : d + rest ≡ far = omega (arith, f) in
    let many = further (2 ^ d) (2 ^ rest) (3 ^ d) (3 ^ rest) (n - n % 2) l (three-above rest) (many-go k d n h) in
    subst (λ (e : ℕ). 4 * (j * 2 ^ e) ≤ 5 * (3 ^ e * (n - n % 2))) is (rw (pow-add 2 d rest, pow-add 3 d rest) many)
  where
    further : (u p v q t : ℕ) → j ≤ k → p ≤ q → 4 * (k * u) ≤ 5 * (v * t) → 4 * (j * (u * p)) ≤ 5 * (v * q * t)
    further u p v q t l h g = omega (arith, mul-le-mul_right (u * p) l, mul-le-mul_left p g, mul-le-mul_left (v * t) h)

-- ---- what a slot comes to

four-below : (top h : ℕ) → h ≤ top → four h ≤ 2 ^ top * two h
four-below top h b = mul-le-mul_right (2 ^ h) (pow_mono {i = h} {j = top} b)

squared_split : (d : ℕ) → 3 ^ d ≤ 2 ^ d * 2 ^ d
squared_split zero = omega arith
squared_split (suc d) = rw (next-three d, next-two d) (omega (arith, squared_split d))

rising-below : (top h : ℕ) → h ≤ top → rising_weight top h ≤ 2 ^ top * 2 ^ top * two h
rising-below top h b = rw (two-split h (top - h) top (omega (arith, b))) (omega (arith, mul-le-mul_left (2 ^ h * 2 ^ h * 2 ^ h) (squared_split (top - h))))

plain_bound : (k s n p q squares : ℕ) → q ≡ 2 * p → 8 * s + n ≤ squares → squares ≤ q * n → k * p ≤ n → 4 * (k * s) ≤ n * n
plain_bound k s n p q squares e a b h =
    let one : 4 * s ≤ p * n = omega (arith, a, rw e at b) in
    omega (arith, mul-le-mul_left k one, mul-le-mul_left n h)

-- 8x + 5v^2 <= 30vn and v <= 2n give x <= 5n^2
square_bound : (x v n w : ℕ) → 2 * n ≡ v + w → 8 * x + 5 * (v * v) ≤ 30 * (v * n) → x ≤ 5 * (n * n)
square_bound x v n w e h = omega (arith, h, ap (λ (m : ℕ). v * m) e, ap (λ (m : ℕ). n * m) e, ap (λ (m : ℕ). w * m) e)

sharp_bound : (k s n q w rises : ℕ) → 0 < q → 8 * (k * s * q) + 5 * (k * (q * q * q)) ≤ 30 * rises → rises ≤ q * q * n → 2 * n ≡ k * q + w → k * k * s ≤ 5 * (n * n)
sharp_bound k s n q w rises some h b e =
    let a : (8 * (k * s) + 5 * (k * (q * q))) * q ≤ 30 * (q * n) * q = omega (arith, h, b) in
    let c : 8 * (k * s) + 5 * (k * (q * q)) ≤ 30 * (q * n) = le_of_mul-le-mul_right a some in
    square_bound (k * k * s) (k * q) n w e (omega (arith, mul-le-mul_left k c))

-- the bound makes the spread small
pub rolled-little : (k : ℕ) (bag : List ℕ) (n s : ℕ) → IsRolled k bag [] n s → IsLittle k n s
rolled-little k bag n s i = go i.top refl
  where
    weighs : along two bag ≡ n
    weighs = omega (arith, i.weighs)

    squares_below : along four bag ≤ 2 ^ i.top * n
    squares_below = rw weighs at (along-below (2 ^ i.top) four two bag (λ h b. four-below i.top h (omega (arith, b, i.bag_fits))))

    rises_below : along (rising_weight i.top) bag ≤ 2 ^ i.top * 2 ^ i.top * n
    rises_below = rw weighs at (along-below (2 ^ i.top * 2 ^ i.top) (rising_weight i.top) two bag (λ h b. rising-below i.top h (omega (arith, b, i.bag_fits))))

    go : (top : ℕ) → i.top ≡ top → IsLittle k n s
    go zero e = rw (flat k bag [] n s i e) (record { plain = omega arith; sharp = omega arith })
    go (suc j) e =
        let q : ℕ = 2 ^ i.top in
        let is : q ≡ 2 * 2 ^ j = ap (λ (m : ℕ). 2 ^ m) e ∙ next-two j in
        let high = i.high j e in
        let squares : 8 * s + n ≤ along four bag = omega (arith, i.squares) in
        let steep : 8 * (k * s * q) + 5 * (k * (q * q * q)) ≤ 30 * along (rising_weight i.top) bag = omega (arith, i.steep (omega (arith, e))) in
        let fits : k * q ≤ 2 * n = rw is (omega (arith, high)) in
        record {
          plain = omega (arith, plain_bound k s n (2 ^ j) q (along four bag) is squares squares_below high);
          sharp = sharp_bound k s n q (2 * n - k * q) (along (rising_weight i.top) bag) (pow_pos i.top) steep rises_below (omega (arith, fits));
        }
