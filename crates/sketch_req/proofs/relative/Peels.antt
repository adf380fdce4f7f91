-- A sketch's levels one after another, from the top: the mean and the mean square of what a query's items come to. Each level's bits are independent
-- of those below, so means carry through and squares add up.
use Rattle.std.proofs.lemmas.Grind.{common_steps}
use Rattle.std.proofs.Common.{◌≡◌, ℕ, zero, suc, ◌+◌, ◌-◌, ◌*◌, ◌^◌, ◌<◌, ◌≤◌, Bool, true, false, not, ◌==◌, if◌then◌else◌, List, [], ◌∷◌, drop, subst, refl, sym, ap, ◌∙◌, arith, inl, inr, mul-le-mul_left, mul-le-mul_right}
use Rattle.std.proofs.Math.Dec.{eqb-suc-suc, eqb-zero-suc}
use Rattle.std.proofs.Math.Nat.{pow-le-pow_left, pow-succ', le-suc}
use Rattle.std.proofs.lemmas.Nat.{pow-add}
use Rattle.sketch_base.specs.Trace.{next_bit}
use Rattle.sketch_base.specs.Words.{sum_over_words, distance, square}
use Rattle.sketch_base.proofs.unbiased.Average.{sum_over_words-same, sum_over_words-add, sum_over_words-const}
use Rattle.sketch_base.proofs.spread.Squares.{sum_of_errors}
use Rattle.sketch_base.proofs.bags.Acts.{changed-other}
use Rattle.sketch_req.proofs.relative.Moves.{Move, Gives, Compacts, IsHalving, Tally, no_tally, tally-same, above, worth, total, left, odds, keeps, Alternates, AreBelowNominal, own_draws, other_draws, own_bits, other_bits, kept_at, moved, tally, peeled, outcome, split_over, outcome-spread, outcome-most}
use Rattle.sketch_req.specs.Relative.{Reaches}
use Rattle.sketch_req.proofs.relative.Charges.{IsPaid}

-- each level below top pays for its odd numbers, whatever comes to it
abbrev pub ArePaid : ℕ → ℕ → List Move → Type 0
ArePaid k top es = (h : ℕ) → h < top → (fs : List Move) → keeps 0 fs ≡ keeps h es → IsPaid k (total fs) (odds fs 0)

-- on each level fresh and turned coins alternate
abbrev pub TakeTurns : ℕ → List Move → Type 0
TakeTurns top es = (h : ℕ) → h < top → Alternates false (keeps h es)

-- moves that compact only levels below top, by coins that alternate, and for which n bits are enough
pub record AreScheduled (top : ℕ) (es : List Move) (n : ℕ) : Type 0 where
  pub below : AreBelowNominal top es
  pub turns : TakeTurns top es
  pub enough : own_draws es + other_draws es ≤ n

sum_over_words-times : (n c : ℕ) (f : List Bool → ℕ) → sum_over_words n (λ w. c * f w) ≡ c * sum_over_words n f
sum_over_words-times zero c f = refl
sum_over_words-times (suc n) c f = grind (arith, common_steps, sum_over_words-same, sum_over_words-times n c (λ w. f (false ∷ w) + f (true ∷ w)))

sum_over_words-below : (n : ℕ) (f g : List Bool → ℕ) → ((w : List Bool) → f w ≤ g w) → sum_over_words n f ≤ sum_over_words n g
sum_over_words-below zero f g le = le []
sum_over_words-below (suc n) f g le =
    sum_over_words-below n (λ w. f (false ∷ w) + f (true ∷ w)) (λ w. g (false ∷ w) + g (true ∷ w)) (λ w. omega (arith, le (false ∷ w), le (true ∷ w)))

-- a sum over words of a number plus twice another
sum_over_words-doubled : (n l : ℕ) (f : List Bool → ℕ) → sum_over_words n (λ w. l + 2 * f w) ≡ 2 ^ n * l + 2 * sum_over_words n f
sum_over_words-doubled n l f =
    omega (arith, sum_over_words-add n (λ w. l) (λ w. 2 * f w), sum_over_words-const n l, sum_over_words-times n 2 f)

sum_over_words-squared : (n l : ℕ) (f : List Bool → ℕ) →
    sum_over_words n (λ w. square (l + 2 * f w)) ≡ 2 ^ n * (l * l) + (4 * l) * sum_over_words n f + 4 * sum_over_words n (λ w. square (f w))
sum_over_words-squared n l f =
    let parts = sum_over_words-same n (λ w. square (l + 2 * f w)) (λ w. l * l + ((4 * l) * f w + 4 * square (f w))) (λ w. omega arith) in
    let first = sum_over_words-add n (λ w. l * l) (λ w. (4 * l) * f w + 4 * square (f w)) in
    let second = sum_over_words-add n (λ w. (4 * l) * f w) (λ w. 4 * square (f w)) in
    omega (arith, parts, first, second, sum_over_words-const n (l * l), sum_over_words-times n (4 * l) f, sum_over_words-times n 4 (λ w. square (f w)))

-- if no level is compacted, all items are left
left-all : (es : List Move) (c : ℕ) → AreBelowNominal 0 es → left es c ≡ c + total es
left-all [] c below = omega arith
left-all (Gives n ∷ es) c below = omega (arith, left-all es (c + n) below)
left-all (Compacts h keep turned ∷ es) c below = absurd (omega (arith, below.0))

-- the number of words of a length is the product of those of two parts
powers : (own n : ℕ) → own ≤ n → 2 ^ n ≡ 2 ^ own * 2 ^ (n - own)
powers own n le = grind (arith, common_steps, pow-add)

-- the squares of what a level holds plus twice what the levels above come to
upper_bound : (low high l mean w sum squares all : ℕ) → low ≤ high → all ≡ w * (l * l) + (4 * l) * sum + 4 * squares → sum ≡ w * mean → low * squares ≤ w * (high * (mean * mean)) →
    low * all ≤ (w * high) * ((l + 2 * mean) * (l + 2 * mean))
upper_bound low high l mean w sum squares all le e e' bound =
    rw (e, e') (omega (arith, bound, mul-le-mul_left (w * (l * l)) le, mul-le-mul_left (4 * l * (w * mean)) le))

-- a level's own odd compactions are charged to its square
level_bound : (u low high w own rest sum squares mean odd : ℕ) → w ≡ own * rest → low * sum ≤ (rest * high) * squares → squares ≤ own * (mean + odd) → u * odd ≤ mean →
    (u * low) * sum ≤ w * ((suc u * high) * mean)
level_bound u low high w own rest sum squares mean odd e bound small charge =
    let all = mul-le-mul_left (rest * high) small in
    rw e (omega (arith, mul-le-mul_left u bound, mul-le-mul_left u all, mul-le-mul_left (own * rest * high) charge))

-- if it has none, there is nothing to charge
flat_bound : (low high w own rest sum squares mean odd : ℕ) → w ≡ own * rest → low * sum ≤ (rest * high) * squares → squares ≤ own * (mean + odd) → odd ≡ 0 → low * sum ≤ w * (high * mean)
flat_bound low high w own rest sum squares mean odd e bound small none =
    rw e (omega (arith, bound, mul-le-mul_left (rest * high) (rw none at small)))

-- from squares to squares of distances from the mean
scatter_bound : (low high more w mean sum squares scatter : ℕ) → high ≡ low + more → scatter + 2 * (sum * mean) ≡ squares + w * (mean * mean) → sum ≡ w * mean →
    low * squares ≤ w * (high * (mean * mean)) → low * scatter ≤ w * (mean * mean * more)
scatter_bound low high more w mean sum squares scatter h e e' bound =
    let scaled = ap (λ m. low * m) e in
    let sum_is = ap (λ m. low * (2 * (m * mean))) e' in
    let bounded = rw h at bound in
    omega (arith, scaled, sum_is, bounded)

module _ (ups : Bool → ℕ → ℕ) where
  -- peeled moves are those of the levels above, one level down
  keeps-peeled : (es : List Move) (v : List Bool) (c : ℕ) (b : Bool) (h : ℕ) → keeps h (peeled ups es v c b) ≡ keeps (suc h) es
  keeps-peeled [] v c b h = refl
  keeps-peeled (Gives n ∷ es) v c b h = keeps-peeled es v (c + n) b h
  keeps-peeled (Compacts zero keep turned ∷ es) v c b h = rw (eqb-zero-suc h) (keeps-peeled es _ _ _ h)
  keeps-peeled (Compacts (suc j) keep turned ∷ es) v c b h = rw (eqb-suc-suc j h) (ap (λ ks. if j == h then (turned, keep) ∷ ks else ks) (keeps-peeled es v c b h))

  below-peeled : (top : ℕ) (es : List Move) (v : List Bool) (c : ℕ) (b : Bool) → AreBelowNominal (suc top) es → AreBelowNominal top (peeled ups es v c b)
  below-peeled top [] v c b below = tt
  below-peeled top (Gives n ∷ es) v c b below = below-peeled top es v (c + n) b below
  below-peeled top (Compacts zero keep turned ∷ es) v c b below = below-peeled top es _ _ _ below.1
  below-peeled top (Compacts (suc j) keep turned ∷ es) v c b below = (omega (arith, below.0), below-peeled top es v c b below.1)

  draws-peeled : (es : List Move) (v : List Bool) (c : ℕ) (b : Bool) → own_draws (peeled ups es v c b) + other_draws (peeled ups es v c b) ≡ other_draws es
  draws-peeled [] v c b = omega arith
  draws-peeled (Gives n ∷ es) v c b = draws-peeled es v (c + n) b
  draws-peeled (Compacts zero keep turned ∷ es) v c b = draws-peeled es _ _ _
  draws-peeled (Compacts (suc zero) keep false ∷ es) v c b = omega (arith, draws-peeled es v c b)
  draws-peeled (Compacts (suc zero) keep true ∷ es) v c b = draws-peeled es v c b
  draws-peeled (Compacts (suc (suc j)) keep false ∷ es) v c b = omega (arith, draws-peeled es v c b)
  draws-peeled (Compacts (suc (suc j)) keep true ∷ es) v c b = draws-peeled es v c b

  -- what a move makes of the levels above level 0: items that come, level 0's compactions, those of the levels above
  above-gives : (n : ℕ) (t : Tally) → above (moved ups (Gives n) false t) ≡ above t
  above-gives n t = tally-same _ _ (λ h. changed-other t.counts 0 _ (suc h) (omega arith)) (λ h. refl)

  above-own : (keep : ℕ) (bit : Bool) (t : Tally) → above (kept_at ups 0 keep bit t) ≡ moved ups (Gives (ups bit (t.counts 0 - keep))) false (above t)
  above-own keep bit t = grind (arith, common_steps, tally-same, changed-other, kept_at, moved, above)

  above-other : (j keep : ℕ) (bit : Bool) (t : Tally) → above (kept_at ups (suc j) keep bit t) ≡ kept_at ups j keep bit (above t)
  above-other j keep bit t = tally-same _ _ (λ h. rw (eqb-suc-suc h (suc j), eqb-suc-suc h j) refl) (λ h. rw (eqb-suc-suc h j) refl)

  -- level 0 of a tally is what is left there; the levels above have the tally of the peeled moves
  tally-peeled : (es : List Move) (w : List Bool) (t : Tally) → ((tally ups es w t).counts 0 ≡ left es (t.counts 0))
      × (above (tally ups es w t) ≡ tally ups (peeled ups es (own_bits es w) (t.counts 0) (t.kept 0)) (other_bits es w) (above t))
  tally-peeled [] w t = (refl, refl)
  tally-peeled (Gives n ∷ es) w t = rw (above-gives n t) at (tally-peeled es w (moved ups (Gives n) false t))
  tally-peeled (Compacts zero keep false ∷ es) w t = rw (above-own keep (next_bit w) t) at (tally-peeled es (drop 1 w) (kept_at ups 0 keep (next_bit w) t))
  tally-peeled (Compacts zero keep true ∷ es) w t = rw (above-own keep (not (t.kept 0)) t) at (tally-peeled es w (kept_at ups 0 keep (not (t.kept 0)) t))
  tally-peeled (Compacts (suc j) keep false ∷ es) w t =
      rw (eqb-zero-suc (suc j), eqb-zero-suc j, above-other j keep (next_bit w) t) at (tally-peeled es (drop 1 w) (kept_at ups (suc j) keep (next_bit w) t))
  tally-peeled (Compacts (suc j) keep true ∷ es) w t =
      rw (eqb-zero-suc (suc j), eqb-zero-suc j, above-other j keep (not (t.kept (suc j))) t) at (tally-peeled es w (kept_at ups (suc j) keep (not (t.kept (suc j))) t))

module _ (ups : Bool → ℕ → ℕ) (halves : IsHalving ups) where
  -- the moves of the levels above level 0, under level 0's bits
  abbrev upper : List Move → List Bool → List Move
  upper es v = peeled ups es v 0 false

  -- what the items come to under a word, and its squares, summed over all words of n bits
  abbrev come_to : ℕ → List Move → List Bool → ℕ
  come_to top es w = worth top (tally ups es w no_tally).counts

  abbrev squares : ℕ → List Move → ℕ → ℕ
  squares top es n = sum_over_words n (λ w. square (come_to top es w))

  -- if no level is compacted, they come to their number
  come-bottom : (es : List Move) (w : List Bool) → AreBelowNominal 0 es → come_to 0 es w ≡ total es
  come-bottom es w below = omega (arith, (tally-peeled ups es w no_tally).0, left-all es 0 below)

  -- a sum over words, by the bits of level 0 and those of the levels above
  come-peeled : (of : ℕ → ℕ) (top : ℕ) (es : List Move) (n : ℕ) → own_draws es + other_draws es ≤ n →
      sum_over_words n (λ w. of (come_to (suc top) es w)) ≡
      sum_over_words (own_draws es) (λ v. sum_over_words (n - own_draws es) (λ w. of (left es 0 + 2 * come_to top (upper es v) w)))
  come-peeled of top es n enough =
      sum_over_words-same n _ _ (λ w. ap of (one w)) ∙
      split_over es n (n - own_draws es) (λ v w. of (left es 0 + 2 * come_to top (upper es v) w)) (omega (arith, enough)) (omega (arith, enough))
    where
      one : (w : List Bool) → come_to (suc top) es w ≡ left es 0 + 2 * come_to top (upper es (own_bits es w)) (other_bits es w)
      one w =
          let both = tally-peeled ups es w no_tally in
          omega (arith, both.0, ap (λ (t : Tally). worth top t.counts) both.1)

  -- the levels above keep to the same rules
  upper-scheduled : (top : ℕ) (es : List Move) (n : ℕ) (v : List Bool) → AreScheduled (suc top) es n → AreScheduled top (upper es v) (n - own_draws es)
  upper-scheduled top es n v scheduled = record {
    below = below-peeled ups top es v 0 false scheduled.below;
    turns = λ h less. subst (λ ks. Alternates false ks) (sym (keeps-peeled ups es v 0 false h)) (scheduled.turns (suc h) (omega (arith, less)));
    enough = omega (arith, scheduled.enough, draws-peeled ups es v 0 false);
  }

  come-mean : (top : ℕ) (es : List Move) (n : ℕ) → AreScheduled top es n → sum_over_words n (λ w. come_to top es w) ≡ 2 ^ n * total es
  come-mean zero es n scheduled = sum_over_words-same n _ (λ w. total es) (λ w. come-bottom es w scheduled.below) ∙ sum_over_words-const n (total es)
  come-mean (suc top) es n scheduled =
      let own = own_draws es in
      let rest = n - own in
      come-peeled (λ m. m) top es n scheduled.enough ∙
      sum_over_words-same own _ (λ v. 2 ^ rest * outcome ups es v 0 false) (λ v.
      omega (arith, sum_over_words-doubled rest (left es 0) (come_to top (upper es v)), come-mean top (upper es v) rest (upper-scheduled top es n v scheduled))) ∙
      sum_over_words-times own (2 ^ rest) (λ v. outcome ups es v 0 false) ∙
      joined (2 ^ n) (2 ^ rest) (2 ^ own) _ (total es) (powers own n (omega (arith, scheduled.enough))) (outcome-spread ups halves es (scheduled.turns 0 (omega arith))).average
    where
      joined : (w rest own sum mean : ℕ) → w ≡ own * rest → sum ≡ own * mean → rest * sum ≡ w * mean
      joined w rest own sum mean e e' = rw (e, e') (omega arith)

  -- at most two thirds of the items that come to a level go up
  upper-thirds : (es : List Move) (v : List Bool) → 3 * odds es 0 ≤ total es → 3 * total (upper es v) ≤ 2 * total es
  upper-thirds es v third = omega (arith, outcome-most ups halves es v 0 false, third)

  upper-reached : (k reach : ℕ) (es : List Move) (v : List Bool) → 3 * odds es 0 ≤ total es → Reaches k (total es) (suc reach) → Reaches k (total (upper es v)) reach
  upper-reached k reach es v third reached =
      go (2 ^ reach) (2 ^ suc reach) (3 ^ suc reach) (3 ^ suc (suc reach)) (total (upper es v)) (total es) (pow-succ' 2 reach) (pow-succ' 3 (suc reach))
      (mul-le-mul_left (2 ^ reach) (upper-thirds es v third)) reached
    where
      go : (p p2 q q2 count whole : ℕ) → p2 ≡ 2 * p → q2 ≡ 3 * q → p * (3 * count) ≤ p * (2 * whole) → p2 * whole ≤ q2 * k → p * count ≤ q * k
      go p p2 q q2 count whole e f le r = omega (arith, ap (λ n. n * whole) e, ap (λ n. n * k) f, le, r)

  -- ---- squares, if each level below top pays

  module _ (k : ℕ) where
    abbrev u : ℕ
    u = 3 * k * k

    -- the mean square is within a power of (1 + 1/u) of the mean's square
    abbrev AreWithin : (reach top : ℕ) → List Move → ℕ → Type 0
    AreWithin reach top es n = u ^ reach * squares top es n ≤ 2 ^ n * (suc u ^ reach * square (total es))

    upper-paid : (top : ℕ) (es : List Move) (v : List Bool) → ArePaid k (suc top) es → ArePaid k top (upper es v)
    upper-paid top es v paid h less fs e = paid (suc h) (omega (arith, less)) fs (e ∙ keeps-peeled ups es v 0 false h)

    bottom-within : (reach : ℕ) (es : List Move) (n : ℕ) → AreBelowNominal 0 es → AreWithin reach 0 es n
    bottom-within reach es n below =
        let whole = sum_over_words-same n _ (λ w. square (total es)) (λ w. ap square (come-bottom es w below)) ∙ sum_over_words-const n (square (total es)) in
        let more : u ^ reach * (2 ^ n * square (total es)) ≤ suc u ^ reach * (2 ^ n * square (total es)) = mul-le-mul_right (2 ^ n * square (total es)) (pow-le-pow_left (le-suc u) reach) in
        rw whole (omega (arith, more))

    -- the squares, by those of what level 0 holds and sends up
    by-outcomes : (reach top : ℕ) (es : List Move) (n : ℕ) → AreScheduled (suc top) es n → ((v : List Bool) → AreWithin reach top (upper es v) (n - own_draws es)) →
        u ^ reach * squares (suc top) es n ≤ 2 ^ (n - own_draws es) * suc u ^ reach * sum_over_words (own_draws es) (λ v. square (outcome ups es v 0 false))
    by-outcomes reach top es n scheduled each_above =
        let own = own_draws es in
        let rest = n - own in
        let inner = λ (v : List Bool). sum_over_words rest (λ w. square (left es 0 + 2 * come_to top (upper es v) w)) in
        let scale = 2 ^ rest * suc u ^ reach in
        let each : (v : List Bool) → u ^ reach * inner v ≤ scale * square (outcome ups es v 0 false) = λ v.
        upper_bound (u ^ reach) (suc u ^ reach) (left es 0) (total (upper es v)) (2 ^ rest) _ _ _ (pow-le-pow_left (le-suc u) reach)
        (sum_over_words-squared rest (left es 0) (come_to top (upper es v))) (come-mean top (upper es v) rest (upper-scheduled top es n v scheduled)) (each_above v) in
        let outer : u ^ reach * sum_over_words own inner ≤ scale * sum_over_words own (λ v. square (outcome ups es v 0 false)) =
        omega (
          arith,
          sum_over_words-below own (λ v. u ^ reach * inner v) (λ v. scale * square (outcome ups es v 0 false)) each,
          sum_over_words-times own (u ^ reach) inner,
          sum_over_words-times own scale (λ v. square (outcome ups es v 0 false)),
        ) in
        rw (come-peeled square top es n scheduled.enough) outer

    -- one more level, whose odd numbers are paid for
    level-within : (reach top : ℕ) (es : List Move) (n : ℕ) → AreScheduled (suc top) es n → ArePaid k (suc top) es → ((v : List Bool) → AreWithin reach top (upper es v) (n - own_draws es)) →
        AreWithin (suc reach) (suc top) es n
    level-within reach top es n scheduled paid each_above =
        let bound = level_bound u (u ^ reach) (suc u ^ reach) (2 ^ n) (2 ^ own_draws es) (2 ^ (n - own_draws es)) _ _ (square (total es)) (odds es 0)
        (powers (own_draws es) n (omega (arith, scheduled.enough))) (by-outcomes reach top es n scheduled each_above)
        (outcome-spread ups halves es (scheduled.turns 0 (omega arith))).squares (paid 0 (omega arith) es refl).bounded in
        rw (pow-succ' u reach, pow-succ' (suc u) reach) bound

    -- the powers of all levels suffice
    pub all-within : (top : ℕ) (es : List Move) (n : ℕ) → AreScheduled top es n → ArePaid k top es → AreWithin top top es n
    all-within zero es n scheduled paid = bottom-within 0 es n scheduled.below
    all-within (suc top) es n scheduled paid =
        level-within top top es n scheduled paid (λ v. all-within top (upper es v) (n - own_draws es) (upper-scheduled top es n v scheduled) (upper-paid top es v paid))

    -- if the count loses a third from level to level and is at most 3k after `reach` levels, the levels above don't matter
    pub reached-within : (reach top : ℕ) (es : List Move) (n : ℕ) → 24 ≤ k → AreScheduled top es n → ArePaid k top es → Reaches k (total es) reach → AreWithin reach top es n
    reached-within reach zero es n many scheduled paid reached = bottom-within reach es n scheduled.below
    reached-within zero (suc top) es n many scheduled paid reached =
        let own = paid 0 (omega arith) es refl in
        let few : total es ≤ 3 * k = omega (arith, reached) in
        let none : odds es 0 ≡ 0 =
        elim own.spared [
          | inl z ↦ z
          | inr z ↦ omega (arith, z, few)
        ] in
        flat_bound (u ^ 0) (suc u ^ 0) (2 ^ n) (2 ^ own_draws es) (2 ^ (n - own_draws es)) _ _ (square (total es)) (odds es 0) (powers (own_draws es) n (omega (arith, scheduled.enough)))
        (by-outcomes 0 top es n scheduled (λ v. reached-within 0 top (upper es v) (n - own_draws es) many (upper-scheduled top es n v scheduled) (upper-paid top es v paid)
        (omega (arith, upper-thirds es v (own.third many), few))))
        (outcome-spread ups halves es (scheduled.turns 0 (omega arith))).squares none
    reached-within (suc reach) (suc top) es n many scheduled paid reached =
        let own = paid 0 (omega arith) es refl in
        level-within reach top es n scheduled paid (λ v. reached-within reach top (upper es v) (n - own_draws es) many (upper-scheduled top es n v scheduled) (upper-paid top es v paid)
        (upper-reached k reach es v (own.third many) reached))

    -- so the squares of the distances from the true count are within a bound
    pub scattered : (levels top : ℕ) (es : List Move) (n : ℕ) → AreScheduled top es n → AreWithin levels top es n →
        u ^ levels * sum_over_words n (λ w. square (distance (come_to top es w) (total es))) ≤ 2 ^ n * (square (total es) * (suc u ^ levels - u ^ levels))
    scattered levels top es n scheduled within =
        scatter_bound (u ^ levels) (suc u ^ levels) _ (2 ^ n) (total es) _ _ _
        (omega (arith, pow-le-pow_left (le-suc u) levels)) (sum_of_errors n (total es) (come_to top es)) (come-mean top es n scheduled) within
