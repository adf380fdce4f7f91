-- The squares of a slot's errors, summed over all words. Errors of compactions with different coins are orthogonal, so their squares add up:
-- the shares of each coin are summed along a trace, and two slots that have no coin in common add theirs.
use Rattle.std.proofs.lemmas.Grind.{common_steps}
use Rattle.std.proofs.Common.{◌≡◌, ℕ, ◌+◌, ◌*◌, ◌^◌, min, Bool, true, false, ◌&&◌, ◌==◌, if◌then◌else◌, IsTrue, List, [], ◌∷◌, ◌++◌, length, map, zip, sum_by, refl, sym, ap, ◌∙◌, arith, eqb-true, length-append, zero, suc, ◌-◌, ◌≤◌, ◌⊎◌, cond, ⊎_elim, mul-le-mul, mul-le-mul_left, Ordering, nat_le, leb-true}
use Rattle.std.proofs.lemmas.Bool.{eq-eqb, false≢true, cases_lt}
use Rattle.std.proofs.lemmas.List.Sums.{sum_by-cons}
use Rattle.sketch_base.specs.Bag.{Taken, Bag, sort}
use Rattle.sketch_base.specs.Trace.{Put, Compact, Clear, Fresh, Action, Event, Snap, At, changed, Redraw, Turned, World, happens, event_draws, play, coins, act, IsKll, start}
use Rattle.sketch_base.specs.Shares.{shares_after, all_shares, share_no_coin, once_after, takes_once, spread}
use Rattle.sketch_base.proofs.bags.Acts.{changed-there, changed-through, rank, sum_by-expanded}
use Rattle.sketch_base.specs.Ranks.{true_ranks, rank_of_trace}
use Rattle.sketch_base.specs.Lengths.{world_lengths, ObeysScratch, start_lengths}
use Rattle.sketch_base.specs.Words.{sum_over_words, distance, square}
use Rattle.sketch_base.proofs.plays.Plays.{one, held, held-ended, true_ranks-related, true_ranks-same, true_ranks-average, held-event, held-compact, held-settled}
use Rattle.sketch_base.proofs.unbiased.Average.{sum_over_words-add, sum_over_words-const, still_obeys, sum_over_words-same}
use Rattle.sketch_base.proofs.order.Order.{Falling, IsNear, compaction-near, counted-falls}
use Rattle.std.specs.Cmp.{IsTotalOrder}
use Rattle.std.proofs.Math.Nat.{pow-le-pow_left}
use Rattle.sketch_base.specs.declared.common.SearchCriteria.{SearchCriteria}
use Rattle.sketch_base.specs.Query.{counted}
use Rattle.sketch_base.specs.Moments.{odd_product, words_with, error_under}
use Rattle.sketch_base.proofs.spread.NormalMoments.{moment, double, double-is, moment-still, moment-centred, coin-moments}

-- Shares along a trace: their number, the sum of the squares of added shares, whether two slots share a coin,
-- and whether a slot took each coin in once.

-- ---- the number of shares

-- all slots have the same number of shares
abbrev pub AreAsMany : (ℕ → List ℕ) → Type 0
AreAsMany shares = (i j : ℕ) → length (shares i) ≡ length (shares j)

length-map_zip : (f : ℕ × ℕ → ℕ) (xs ys : List ℕ) → length (map f (zip xs ys)) ≡ min (length xs) (length ys)
length-map_zip f (x ∷ xs) (y ∷ ys) = omega (arith, length-map_zip f xs ys)
length-map_zip f _ _ = omega arith

length-cleared : (shares : List ℕ) → (let none : List ℕ = map (λ share. 0) shares in length none ≡ length shares)
length-cleared [] = refl
length-cleared (share ∷ shares) = let r = length-cleared shares in omega (arith, r)

-- they still do if one slot's shares are replaced by the same number of shares
length-changed : (shares : ℕ → List ℕ) (s : ℕ) (others : List ℕ) → AreAsMany shares → length others ≡ length (shares s) → AreAsMany (changed shares s others)
length-changed shares s others many e i j = grind (arith, many i j, many i s, many s j)

module _ {A : Type 0} where
  -- all slots still have the same number of shares after an event, and after a trace
  pub as_many-after : (e : Event A) (shares : ℕ → List ℕ) → AreAsMany shares → AreAsMany (shares_after e shares)
  as_many-after e shares many = grind (arith, common_steps, length-changed, length-map_zip, length-append, length-cleared)

  pub as_many-all : (trace : List (Event A)) (shares : ℕ → List ℕ) → AreAsMany shares → AreAsMany (all_shares trace shares)
  as_many-all [] shares many = many
  as_many-all (e ∷ es) shares many = as_many-all es (shares_after e shares) (as_many-after e shares many)

-- ---- shares that are added

-- the sum of the squares of some shares
abbrev pub squared : List ℕ → ℕ
squared shares = sum_by (λ share. share * share) shares

zero_parts : (a b : ℕ) → a + b ≡ 0 → (a ≡ 0) × (b ≡ 0)
zero_parts a b e = (omega (arith, e), omega (arith, e))

squared-added : (xs ys : List ℕ) → length xs ≡ length ys → sum_by (λ both. both.0 * both.1) (zip xs ys) ≡ 0 → squared (map (λ both. both.0 + both.1) (zip xs ys)) ≡ squared xs + squared ys
squared-added [] [] e none = refl
squared-added (x ∷ xs) (y ∷ ys) e none =
    let times : ℕ × ℕ → ℕ = λ both. both.0 * both.1 in
    let parts = zero_parts (x * y) (sum_by times (zip xs ys)) (sym (sum_by-cons times (x, y) (zip xs ys)) ∙ none) in
    let rest = squared-added xs ys (omega (arith, e)) parts.1 in
    sum_by-cons (λ (m : ℕ). m * m) (x + y) (map (λ both. both.0 + both.1) (zip xs ys)) ∙ (grind (arith, common_steps, sum_by-cons))
squared-added _ _ e none = absurd (omega (arith, e))

-- if two lists share no coin, the squares of the added shares sum to those of both lists
pub squared-both : (xs ys : List ℕ) → length xs ≡ length ys → IsTrue (share_no_coin xs ys) → squared (map (λ both. both.0 + both.1) (zip xs ys)) ≡ squared xs + squared ys
squared-both xs ys e none = squared-added xs ys e (eqb-true _ 0 none)

-- the squares of cleared shares sum to 0
pub squared-cleared : (shares : List ℕ) → squared (map (λ share. 0) shares) ≡ 0
squared-cleared [] = refl
squared-cleared (share ∷ shares) = omega (arith, sum_by-cons (λ (m : ℕ). m * m) 0 (map (λ share. 0) shares), squared-cleared shares)

module _ {A : Type 0} where
  -- the shares after two traces in turn
  pub all_shares-append : (xs ys : List (Event A)) (shares : ℕ → List ℕ) → all_shares (xs ++ ys) shares ≡ all_shares ys (all_shares xs shares)
  all_shares-append [] ys shares = refl
  all_shares-append (e ∷ xs) ys shares = all_shares-append xs ys (shares_after e shares)

  -- actions on one slot don't change the squares of the others
  pub squared-elsewhere : (s j : ℕ) → (j == s) ≡ false → (actions : List (Action A)) (shares : ℕ → List ℕ) →
      squared (all_shares (map (λ action. At s action) actions) shares j) ≡ squared (shares j)
  squared-elsewhere s j ne [] shares = refl
  squared-elsewhere s j ne (Clear ∷ rest) shares = grind (arith, common_steps, squared-elsewhere s j ne rest (shares_after {A = A} (At s Clear) shares))
  squared-elsewhere s j ne (Compact h Fresh taken ∷ rest) shares = grind (arith, common_steps, squared-elsewhere s j ne rest (shares_after {A = A} (At s (Compact h Fresh taken)) shares))
  squared-elsewhere s j ne (_ ∷ rest) shares = squared-elsewhere s j ne rest shares

module _ (A : Type 0) where
  -- a compaction of level h by a fresh coin adds the square of 2^h
  pub squared-compact : (s h : ℕ) (taken : Taken) (shares : ℕ → List ℕ) → squared (shares_after {A = A} (At s (Compact h Fresh taken)) shares s) ≡ squared (shares s) + 2 ^ h * 2 ^ h
  squared-compact s h taken shares = grind (arith, common_steps, eq-eqb)

-- ---- coins that two slots share

-- the sum over the coins of the product of both shares, which is 0 if the two share no coin
abbrev pub products : List ℕ → List ℕ → ℕ
products xs ys = sum_by (λ both. both.0 * both.1) (zip xs ys)

products-cons : (x y : ℕ) (xs ys : List ℕ) → products (x ∷ xs) (y ∷ ys) ≡ x * y + products xs ys
products-cons x y xs ys = sum_by-cons (λ (both : ℕ × ℕ). both.0 * both.1) (x, y) (zip xs ys)

products-swapped : (xs ys : List ℕ) → products xs ys ≡ products ys xs
products-swapped [] [] = refl
products-swapped (x ∷ xs) (y ∷ ys) = omega (arith, products-cons x y xs ys, products-cons y x ys xs, products-swapped xs ys)
products-swapped _ _ = refl

products-cleared : (xs ys : List ℕ) → products (map (λ share. 0) xs) ys ≡ 0
products-cleared (x ∷ xs) (y ∷ ys) = omega (arith, products-cons 0 y (map (λ share. 0) xs) ys, products-cleared xs ys)
products-cleared _ _ = refl

-- products with added shares are the added products
products-added : (xs ys zs : List ℕ) → length xs ≡ length ys → length ys ≡ length zs → products (map (λ both. both.0 + both.1) (zip xs ys)) zs ≡ products xs zs + products ys zs
products-added [] [] [] e f = refl
products-added [] (y ∷ ys) zs e f = absurd (omega (arith, e))
products-added (x ∷ xs) [] zs e f = absurd (omega (arith, e))
products-added (x ∷ xs) (y ∷ ys) (z ∷ zs) e f = grind (arith, common_steps, products-cons, products-added xs ys zs (omega (arith, e)) (omega (arith, f)))
products-added _ _ _ e f = absurd (omega (arith, f))

products-push : (xs ys : List ℕ) (a b : ℕ) → length xs ≡ length ys → products (xs ++ a ∷ []) (ys ++ b ∷ []) ≡ products xs ys + a * b
products-push [] [] a b e = omega (arith, products-cons a b [] [])
products-push (x ∷ xs) (y ∷ ys) a b e = omega (arith, products-cons x y (xs ++ a ∷ []) (ys ++ b ∷ []), products-cons x y xs ys, products-push xs ys a b (omega (arith, e)))
products-push _ _ a b e = absurd (omega (arith, e))

-- a coin that is tossed at one slot has a share in that slot only
tossed_at : (s i j n : ℕ) → (i == j) ≡ false → (if i == s then n else 0) * (if j == s then n else 0) ≡ 0
tossed_at s i j n ne = grind (arith, eqb-true, eq-eqb)

-- two slots share no coin
abbrev pub AreApart : (ℕ → List ℕ) → ℕ → ℕ → Type 0
AreApart shares i j = products (shares i) (shares j) ≡ 0

-- the same for the two slots exchanged
pub apart-swapped : (shares : ℕ → List ℕ) (i j : ℕ) → AreApart shares i j → AreApart shares j i
apart-swapped shares i j e = products-swapped (shares j) (shares i) ∙ e

module _ (A : Type 0) where
  -- a cleared slot shares no coin with any slot, and the other slots stay apart
  pub apart-cleared : (s i j : ℕ) (shares : ℕ → List ℕ) → ((i == s) ≡ false → (j == s) ≡ false → AreApart shares i j) → AreApart (shares_after {A = A} (At s Clear) shares) i j
  apart-cleared s i j shares others = grind (arith, products-cleared, products-swapped, others)

  -- a slot that takes another one in shares no coin with a third slot, if neither did before
  pub apart-snapped : (s t j : ℕ) → (j == t) ≡ false → (shares : ℕ → List ℕ) → AreAsMany shares → AreApart shares t j → AreApart shares s j →
      AreApart (shares_after {A = A} (Snap s t) shares) t j
  apart-snapped s t j ne shares many mine its = grind (arith, common_steps, changed-there, products-added)

module _ {A : Type 0} where
  -- two slots that share no coin share none after actions on one slot
  pub apart-acts : (s i j : ℕ) → (i == j) ≡ false → (actions : List (Action A)) (shares : ℕ → List ℕ) → AreAsMany shares → AreApart shares i j →
      AreApart (all_shares (map (λ action. At s action) actions) shares) i j
  apart-acts s i j ne [] shares many e = e
  apart-acts s i j ne (Clear ∷ rest) shares many e =
      apart-acts s i j ne rest (shares_after {A = A} (At s Clear) shares) (as_many-after {A = A} (At s Clear) shares many) (apart-cleared A s i j shares (λ f g. e))
  apart-acts s i j ne (Compact h Fresh taken ∷ rest) shares many e =
      let event : Event A = At s (Compact h Fresh taken) in
      let push = products-push (shares i) (shares j) (if i == s then 2 ^ h else 0) (if j == s then 2 ^ h else 0) (many i j) in
      apart-acts s i j ne rest (shares_after event shares) (as_many-after event shares many) (push ∙ omega (arith, e, tossed_at s i j (2 ^ h) ne))
  apart-acts s i j ne (_ ∷ rest) shares many e = apart-acts s i j ne rest shares many e

-- ---- coins taken in once

module _ {A : Type 0} where
  -- which slots took each coin in once, after two traces in turn
  pub takes_once-append : (xs ys : List (Event A)) (shares : ℕ → List ℕ) (once : ℕ → Bool) → takes_once (xs ++ ys) shares once ≡ takes_once ys (all_shares xs shares) (takes_once xs shares once)
  takes_once-append [] ys shares once = refl
  takes_once-append (e ∷ xs) ys shares once = takes_once-append xs ys (shares_after e shares) (once_after e shares once)

  -- a put into level 0 doesn't change which slots took each coin in once
  pub once-put : (s : ℕ) (x : A) (shares : ℕ → List ℕ) (once : ℕ → Bool) (j : ℕ) → once_after (At s (Put 0 x)) shares once j ≡ once j
  once-put s x shares once j = grind (arith, eqb-true)

  -- actions on one slot don't change it for the other slots
  pub once-elsewhere : (s j : ℕ) → (j == s) ≡ false → (actions : List (Action A)) (shares : ℕ → List ℕ) (once : ℕ → Bool) → takes_once (map (λ action. At s action) actions) shares once j ≡ once j
  once-elsewhere s j ne [] shares once = refl
  once-elsewhere s j ne (Put h x ∷ rest) shares once = once-elsewhere s j ne rest shares _ ∙ ap (λ (b : Bool). if b then once s && h == 0 else once j) ne
  once-elsewhere s j ne (Clear ∷ rest) shares once = once-elsewhere s j ne rest (shares_after {A = A} (At s Clear) shares) _ ∙ ap (λ (b : Bool). if b then true else once j) ne
  once-elsewhere s j ne (action ∷ rest) shares once = once-elsewhere s j ne rest (shares_after {A = A} (At s action) shares) once

-- A measure of how far a slot's rank is from a number, such as the square of the distance, summed over all words.

-- the squares of two numbers on both sides of m, at the same distance of at most c
squares_apart : (a d c m t : ℕ) → m ≡ a + d → t ≡ a + 2 * d → d ≤ c → a * a + t * t ≤ 2 * (m * m + c * c)
squares_apart a d c m t e g le = rw (e, g) (omega (arith, mul-le-mul le le))

-- the squares of two numbers with the average m that are at most 2 * c apart
pub squares_near : (a b m c : ℕ) → a + b ≡ 2 * m → a ≤ b + 2 * c → b ≤ a + 2 * c → a * a + b * b ≤ 2 * (m * m + c * c)
squares_near a b m c e p q = ⊎_elim (λ lt. squares_apart a (m - a) c m b (omega arith) (omega arith) (omega arith))
    (λ le. omega (arith, squares_apart b (m - b) c m a (omega arith) (omega arith) (omega arith))) (cases_lt a b)

-- of two numbers with the average m, one is off `center` by the distance of m plus a step, and the other one by the distance of m
-- less the step, or the other way round
pub on_sides : (a b m center : ℕ) → a + b ≡ 2 * m → ((distance a center ≡ distance m center + distance a m) × (distance b center ≡ distance (distance m center) (distance a m)))
    ⊎ ((distance b center ≡ distance m center + distance a m) × (distance a center ≡ distance (distance m center) (distance a m)))
on_sides a b m center e = grind (arith, common_steps, cases_lt)

-- the arithmetic of one more bit, with a sum for each of its values
both_sums : (w w2 heads tails a b both : ℕ) → w2 ≡ 2 * w → heads ≤ w * a → tails ≤ w * b → a + b ≤ 2 * both → heads + tails ≤ w2 * both
both_sums w w2 heads tails a b both e p q h = rw e (omega (arith, p, q, mul-le-mul_left w h))

module _ {A : Type 0} where
  -- what differences of the slots' ranks come to after a trace
  abbrev carried : List (Event A) → (ℕ → ℕ) → ℕ → ℕ
  carried trace = true_ranks (λ x. false) trace

  true_ranks-within : (test : A → Bool) (trace : List (Event A)) (a b d : ℕ → ℕ) → ((j : ℕ) → a j ≤ b j + d j) → (slot : ℕ) →
      true_ranks test trace a slot ≤ true_ranks test trace b slot + carried trace d slot
  true_ranks-within test = true_ranks-related (λ a b c. a ≤ b + c) (omega arith) (λ a b c a' b' c' e e'. omega (arith, e, e')) test test (λ x. false) (λ h x. omega arith)

  carried-double : (trace : List (Event A)) (d : ℕ → ℕ) (slot : ℕ) → carried trace (λ j. 2 * d j) slot ≤ 2 * carried trace d slot
  carried-double trace d slot = omega (arith, true_ranks-average (λ x. false) trace (λ j. 2 * d j) (λ j. 0) d (λ j. omega arith) slot)

  -- the shares of the first coin go along a trace as differences of ranks do
  shares-cons : (trace : List (Event A)) (a : ℕ → ℕ) (more : ℕ → List ℕ) (slot : ℕ) → all_shares trace (λ i. a i ∷ more i) slot ≡ carried trace a slot ∷ all_shares trace more slot
  shares-cons [] a more slot = refl
  shares-cons (Snap s t ∷ es) a more slot = grind (arith, common_steps, shares-cons es (changed a t (a t + a s)) (changed more t (map (λ both. both.0 + both.1) (zip (more t) (more s)))) slot)
  shares-cons (At s (Put n x) ∷ es) a more slot =
      shares-cons es a more slot ∙ ap (λ m. m ∷ all_shares es more slot) (true_ranks-same (λ x. false) es a (changed a s (a s + 0)) (λ i. grind (arith, eqb-true)) slot)
  shares-cons (At s Clear ∷ es) a more slot = grind (arith, common_steps, shares-cons es (changed a s 0) (changed more s (map (λ share. 0) (more s))) slot)
  shares-cons (At s (Compact h Fresh taken) ∷ es) a more slot = shares-cons es a (λ i. more i ++ (if i == s then 2 ^ h else 0) ∷ []) slot
  shares-cons (At s _ ∷ es) a more slot = shares-cons es a more slot

  -- an event before the first coin doesn't change the spread
  spread-undrawn : (e : Event A) (es : List (Event A)) (slot : ℕ) → event_draws e ≡ false → spread (e ∷ es) slot ≡ spread es slot
  spread-undrawn e es slot drawn = grind (arith, common_steps, false≢true)

  spread-compact : (es : List (Event A)) (s h : ℕ) (taken : Taken) (slot : ℕ) →
      spread (At s (Compact h Fresh taken) ∷ es) slot ≡ carried es (λ i. if i == s then 2 ^ h else 0) slot * carried es (λ i. if i == s then 2 ^ h else 0) slot + spread es slot
  spread-compact es s h taken slot =
      let first = λ (i : ℕ). if i == s then 2 ^ h else 0 in
      ap (sum_by (λ share. share * share)) (shares-cons es first (λ i. []) slot) ∙
      sum_by-cons (λ share. share * share) (carried es first slot) (all_shares es (λ i. []) slot)

-- a measure of a distance and a spread, for which a coin of share c adds at most c^2 to the spread: on average over both sides of x,
-- at a step of at most c
pub record IsSpreading (measure : ℕ → ℕ → ℕ) : Type 0 where
  pub coin : (x d c v : ℕ) → d ≤ c → measure (x + d) v + measure (distance x d) v ≤ 2 * measure x (v + c * c)

module _ {measure : ℕ → ℕ → ℕ} (is : IsSpreading measure) where
  -- so it is for two numbers with the average m that are at most 2 * c apart
  pub measure-near : (center a b m c v : ℕ) → a + b ≡ 2 * m → a ≤ b + 2 * c → b ≤ a + 2 * c →
      measure (distance a center) v + measure (distance b center) v ≤ 2 * measure (distance m center) (v + c * c)
  measure-near center a b m c v e p q =
      let whole = is.coin (distance m center) (distance a m) c v (omega arith) in
      ⊎_elim (λ sides. rw (sides.0, sides.1) whole) (λ sides. rw (sides.0, sides.1) (omega (arith, whole))) (on_sides a b m center e)

module _ {A : Type 0} (cmp : A → A → Ordering) (test : A → Bool) (falls : (xs : List A) → Falling test (sort cmp xs)) where
  -- what a slot holds under the two bits of a fresh coin is at most twice the coin's share apart
  held-near : (s h : ℕ) (taken : Taken) (world : World (Bag A)) (i : ℕ) →
      IsNear (held test (happens (act cmp) (At s (Compact h Fresh taken)) false world) i) (held test (happens (act cmp) (At s (Compact h Fresh taken)) true world) i)
      (2 * (if i == s then 2 ^ h else 0))
  held-near s h taken world i = grind (arith, common_steps, rank, one, compaction-near, changed-through)

  module _ {measure : ℕ → ℕ → ℕ} (is : IsSpreading measure) (center slot : ℕ) where
    -- what a measure comes to, from what the slots hold on
    abbrev bound : List (Event A) → (ℕ → ℕ) → ℕ → ℕ
    bound es ranks sp = measure (distance (true_ranks test es ranks slot) center) sp

    -- an event that draws no coin: the ranks that the slots hold may be replaced by equal ones
    same_bound : (es : List (Event A)) (n : ℕ) (world : World (Bag A)) (ranks : ℕ → ℕ) (sum sp sp' : ℕ) → sum ≤ 2 ^ n * bound es (held test world) sp →
        ((i : ℕ) → held test world i ≡ ranks i) → sp' ≡ sp → sum ≤ 2 ^ n * bound es ranks sp'
    same_bound es n world ranks sum sp sp' le h e = rw (e, ← (true_ranks-same test es (held test world) ranks h slot)) le

    -- at the end of a trace
    at_end : (w r sum held : ℕ) → sum ≡ w * measure (distance r center) 0 → held ≡ r → sum ≤ w * measure (distance held center) 0
    at_end w r sum held e h = rw (e, h) (omega arith)

    split_sums : (n sum heads_and_tails x share rest sp : ℕ) → sum ≡ heads_and_tails → sp ≡ share * share + rest → heads_and_tails ≤ 2 ^ suc n * measure x (rest + share * share) →
        sum ≤ 2 ^ suc n * measure x sp
    split_sums n sum heads_and_tails x share rest sp e h le =
        let turned : sp ≡ rest + share * share = omega (arith, h) in
        rw (e, turned) le

    -- the sum of the measures, from any world on
    pub measures_from : (trace : List (Event A)) (n : ℕ) (world : World (Bag A)) → ObeysScratch trace (world_lengths world) → IsKll trace → coins trace ≤ n →
        sum_over_words n (λ word. measure (distance (rank (one test) ((play cmp trace word world).slots slot)) center) 0) ≤ 2 ^ n * bound trace (held test world) (spread trace slot)
    measures_from [] n world obeys kll enough = at_end (2 ^ n) (rank (one test) (world.slots slot)) _ _
        (sum_over_words-const n (measure (distance (rank (one test) (world.slots slot)) center) 0)) (held-ended test world obeys slot)
    measures_from (At s (Redraw h) ∷ es) n world obeys kll enough = absurd (false≢true kll.0)
    measures_from (At s (Compact h Turned taken) ∷ es) n world obeys kll enough = absurd (false≢true kll.0)
    measures_from (At s (Compact h Fresh taken) ∷ es) zero world obeys kll enough =
        absurd (omega (arith, sum_by-cons (λ e. cond (event_draws e) 1 0) (At s (Compact h Fresh taken)) es, enough))
    measures_from (At s (Compact h Fresh taken) ∷ es) (suc n) world obeys kll enough =
        let e : Event A = At s (Compact h Fresh taken) in
        let heads = happens (act cmp) e false world in
        let tails = happens (act cmp) e true world in
        let less : coins es ≤ n = omega (arith, sum_by-cons (λ e. cond (event_draws e) 1 0) e es, enough) in
        let first = λ (i : ℕ). if i == s then 2 ^ h else 0 in
        let off = λ (start : World (Bag A)) (word : List Bool). measure (distance (rank (one test) ((play cmp es word start).slots slot)) center) 0 in
        split_sums n _ _ _ (carried es first slot) (spread es slot) _ (sum_over_words-add n (off heads) (off tails))
        (spread-compact es s h taken slot) (both_sums (2 ^ n) (2 ^ suc n) _ _ (bound es (held test heads) (spread es slot)) (bound es (held test tails) (spread es slot)) _ (omega arith)
        (measures_from es n heads (still_obeys cmp test e es false world obeys kll.0) kll.1 less) (measures_from es n tails (still_obeys cmp test e es true world obeys kll.0) kll.1 less)
        (measure-near is center _ _ _ (carried es first slot) (spread es slot)
        (true_ranks-average test es (held test heads) (held test tails) (held test world) (held-compact test cmp s h taken world) slot)
        (omega (arith, true_ranks-within test es (held test heads) (held test tails) (λ i. 2 * first i) (λ i. (held-near s h taken world i).0) slot, carried-double es first slot))
        (omega (arith, true_ranks-within test es (held test tails) (held test heads) (λ i. 2 * first i) (λ i. (held-near s h taken world i).1) slot, carried-double es first slot))))
    measures_from (e ∷ es) n world obeys kll enough = same_bound es n (happens (act cmp) e false world) _ _ (spread es slot) _
        (measures_from es n (happens (act cmp) e false world) (still_obeys cmp test e es false world obeys kll.0) kll.1 enough)
        (held-event test cmp e false world refl obeys.0) (spread-undrawn e es slot refl)

-- The squares of a slot's errors, from those of its ranks.

square_apart : (x d m n : ℕ) → m ≡ x + d → n ≡ d → n * n + 2 * (x * m) ≡ x * x + m * m
square_apart x d m n e h = rw (e, h) (omega arith)

square-distance : (x m : ℕ) → square (distance x m) + 2 * (x * m) ≡ square x + square m
square-distance x m =
    ⊎_elim (λ lt. square_apart x (m - x) m (distance x m) (omega arith) (omega arith)) (λ le. omega (arith, square_apart m (x - m) x (distance x m) (omega arith) (omega arith))) (cases_lt x m)

-- the arithmetic of one more bit
split_errors : (w w2 m e e' x x' s s' errors ranks squares : ℕ) → w2 ≡ 2 * w → errors ≡ e + e' → ranks ≡ x + x' → squares ≡ s + s' → e + 2 * (x * m) ≡ s + w * (m * m) →
    e' + 2 * (x' * m) ≡ s' + w * (m * m) → errors + 2 * (ranks * m) ≡ squares + w2 * (m * m)
split_errors w w2 m e e' x x' s s' errors ranks squares a b c d g h = rw (a, b, c, d) (omega (arith, g, h))

-- the squares of the errors, from those of the numbers themselves
pub sum_of_errors : (n m : ℕ) (f : List Bool → ℕ) → sum_over_words n (λ word. square (distance (f word) m)) + 2 * (sum_over_words n f * m)
    ≡ sum_over_words n (λ word. square (f word)) + 2 ^ n * (m * m)
sum_of_errors zero m f = omega (arith, square-distance (f []) m)
sum_of_errors (suc n) m f = split_errors (2 ^ n) (2 ^ suc n) m _ _ _ _ _ _ _ _ _ (omega arith)
    (sum_over_words-add n (λ w. square (distance (f (false ∷ w)) m)) (λ w. square (distance (f (true ∷ w)) m))) (sum_over_words-add n (λ w. f (false ∷ w)) (λ w. f (true ∷ w)))
    (sum_over_words-add n (λ w. square (f (false ∷ w))) (λ w. square (f (true ∷ w)))) (sum_of_errors n m (λ w. f (false ∷ w))) (sum_of_errors n m (λ w. f (true ∷ w)))

-- the words under which a number is t or more, as Markov counts them
far : (t k x : ℕ) → (if nat_le t x then 1 else 0) * t ^ k ≤ x ^ k
far t k x = grind (arith, common_steps, pow-le-pow_left, leb-true)

pub few_are_far : (n t k : ℕ) (f : List Bool → ℕ) → words_with n (λ word. nat_le t (f word)) * t ^ k ≤ sum_over_words n (λ word. f word ^ k)
few_are_far zero t k f = far t k (f [])
few_are_far (suc n) t k f =
    rw ((sum_over_words-add n (λ w. if nat_le t (f (false ∷ w)) then 1 else 0) (λ w. if nat_le t (f (true ∷ w)) then 1 else 0)), (sum_over_words-add n (λ w. f (false ∷ w) ^ k) (λ w. f (true ∷ w) ^ k))) (omega (arith, (few_are_far n t k (λ w. f (false ∷ w))), (few_are_far n t k (λ w. f (true ∷ w)))))

same_squares : (w sum sum' bound sp : ℕ) → sum ≡ sum' → bound ≡ sp → sum' ≤ w * bound → sum ≤ w * sp
same_squares w sum sum' bound sp e h le = rw (e, ← h) le

module _ {A : Type 0} {cmp : A → A → Ordering} (order : IsTotalOrder cmp) (y : A) (criteria : SearchCriteria) (trace : List (Event A)) (n slot : ℕ)
    (kll : IsKll trace) (obeys : ObeysScratch trace start_lengths) (enough : coins trace ≤ n) where
  within : (measure : ℕ → ℕ → ℕ) → IsSpreading measure → sum_over_words n (λ word. measure (error_under cmp y criteria trace slot word) 0) ≤ 2 ^ n * measure 0 (spread trace slot)
  within measure is =
      let test = counted cmp y criteria in
      let truth = rank_of_trace test trace slot in
      let none : distance (true_ranks test trace (held test start) slot) truth ≡ 0 = grind (arith, common_steps, true_ranks-same, held, held-settled) in
      let same = sum_over_words-same n (λ word. measure (error_under cmp y criteria trace slot word) 0) _
      (λ word. ap (λ r. measure (distance r truth) 0) (sum_by-expanded (one test) cmp ((play cmp trace word start).slots slot))) in
      (grind (arith, common_steps, measures_from cmp test (counted-falls order y criteria) is truth slot trace n start obeys kll enough))

  -- the even moments of the errors of KLL's ranks
  pub within_moments : (m : ℕ) → sum_over_words n (λ word. error_under cmp y criteria trace slot word ^ (2 * m)) ≤ 2 ^ n * (odd_product m * spread trace slot ^ m)
  within_moments m =
      let error = error_under cmp y criteria trace slot in
      let same = sum_over_words-same n (λ word. error word ^ (2 * m)) (λ word. moment (double m) (error word) 0)
      (λ word. ap (λ k. error word ^ k) (sym (double-is m)) ∙ sym (moment-still (double m) (error word))) in
      rw (same, ← (moment-centred m (spread trace slot))) (within (moment (double m)) (record { coin = coin-moments m }))

  -- so few of them are far off
  pub within_few : (t m : ℕ) → words_with n (λ word. nat_le t (error_under cmp y criteria trace slot word)) * t ^ (2 * m) ≤ 2 ^ n * (odd_product m * spread trace slot ^ m)
  within_few t m = omega (arith, few_are_far n t (2 * m) (error_under cmp y criteria trace slot), within_moments m)

  -- their squares are within the spread
  pub within_spread : sum_over_words n (λ word. square (error_under cmp y criteria trace slot word)) ≤ 2 ^ n * spread trace slot
  within_spread =
      let error = error_under cmp y criteria trace slot in
      let same = sum_over_words-same n (λ word. square (error word)) (λ word. moment 2 (error word) 0) (λ word. omega arith) in
      same_squares (2 ^ n) _ _ _ _ same (omega arith) (within (moment 2) (record { coin = coin-moments 1 }))
