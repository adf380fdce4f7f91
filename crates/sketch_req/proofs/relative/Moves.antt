-- A query's items on the accurate side, as numbers: how many each level holds and sends up. Over all words of a level's bits, what it holds and
-- twice what went up come out even, and their squares grow only where it compacted an odd number of these items.
use Rattle.std.proofs.Common.{◌≡◌, ℕ, zero, suc, ◌+◌, ◌-◌, ◌*◌, ◌/◌, ◌%◌, ◌<◌, ◌≤◌, Bool, true, false, not, ◌==◌, List, [], ◌∷◌, drop, if◌then◌else◌, ◌^◌, refl, sym, ap, ◌∙◌, arith, mul-le-mul_left}
use Rattle.std.specs.Prelude.{⊤}
use mathlib.Core.Path.{fun_ext}
use Rattle.sketch_base.specs.Trace.{changed, in_turn, next_bit}
use Rattle.sketch_req.specs.Level.{turns_coin}
use Rattle.sketch_req.specs.Sections.{size_of, grown_once, kept_at_least}
use Rattle.sketch_req.specs.declared.RankAccuracy.{RankAccuracy}
use Rattle.sketch_req.specs.declared.RankAccuracy.TheVariants.{HighRank, LowRank}
use Rattle.std.proofs.lemmas.Grind.{common_steps}
use mathlib.Core.Bool.{not-not}
use Rattle.std.proofs.Math.Dec.{eqb-suc-zero}
use Rattle.std.proofs.lemmas.Bool.{false≢true}
use Rattle.sketch_base.specs.Words.{sum_over_words, square}
use Rattle.sketch_base.proofs.unbiased.Average.{sum_over_words-same, sum_over_words-add}
use Rattle.sketch_base.proofs.spread.Squares.{squares_near}

-- A query's items on the accurate side, as numbers: how many each level of a sketch that takes updates holds,
-- and what compactions make of them.

-- n items come to level 0; or a compaction of level h, by a fresh or a turned coin, keeps `keep` items
pub data Move : Type 0 where
  Gives : (n : ℕ) → Move
  Compacts : (h keep : ℕ) (turned : Bool) → Move

abbrev pub draws : Move → Bool
draws (Gives n) = false
draws (Compacts h keep turned) = not turned

-- how many of t items at one end of an even number of items go up by a bit:
-- if t is odd, one more goes up by the bit `more`, which is true for high ranks
pub record IsHalving (ups : Bool → ℕ → ℕ) : Type 0 where
  pub more : Bool
  pub both : (t : ℕ) → ups more t + ups (not more) t ≡ t
  pub least : (t : ℕ) → ups (not more) t ≤ ups more t
  pub near : (t : ℕ) → ups more t ≤ ups (not more) t + t % 2

-- how many of t items go up by a bit for high ranks, and by the other bit for low ranks
abbrev high_ups : Bool → ℕ → ℕ
high_ups false t = t / 2
high_ups true t = t - t / 2

abbrev pub ups_of : RankAccuracy → Bool → ℕ → ℕ
ups_of HighRank bit t = high_ups bit t
ups_of LowRank bit t = high_ups (not bit) t

-- how many items each level holds, and the kept bits
pub record Tally : Type 0 where
  pub counts : ℕ → ℕ
  pub kept : ℕ → Bool

abbrev pub no_tally : Tally
no_tally = record { counts = λ h. 0; kept = λ h. false }

-- tallies that are equal at each level are equal
pub tally-same : (s t : Tally) → ((h : ℕ) → s.counts h ≡ t.counts h) → ((h : ℕ) → s.kept h ≡ t.kept h) → s ≡ t
tally-same s t counts kept = λ i. record { counts = fun_ext counts i; kept = fun_ext kept i }

-- the tally of the levels above level 0
abbrev pub above : Tally → Tally
above t = record { counts = λ h. t.counts (suc h); kept = λ h. t.kept (suc h) }

-- the weight of the items on levels 0 to top: an item counts once on level 0, and on each level twice as much as below
abbrev pub worth : ℕ → (ℕ → ℕ) → ℕ
worth zero counts = counts 0
worth (suc top) counts = counts 0 + 2 * worth top (λ h. counts (suc h))

-- how many items come in all
abbrev pub total : List Move → ℕ
total [] = 0
total (Gives n ∷ es) = n + total es
total (Compacts h keep turned ∷ es) = total es

-- level 0 alone, from c items on: how many are left in the end, and how many compactions took an odd number
abbrev pub left : List Move → ℕ → ℕ
left [] c = c
left (Gives n ∷ es) c = left es (c + n)
left (Compacts zero keep turned ∷ es) c = left es (c - (c - keep))
left (Compacts (suc h) keep turned ∷ es) c = left es c

abbrev pub odds : List Move → ℕ → ℕ
odds [] c = 0
odds (Gives n ∷ es) c = odds es (c + n)
odds (Compacts zero keep turned ∷ es) c = (c - keep) % 2 + odds es (c - (c - keep))
odds (Compacts (suc h) keep turned ∷ es) c = odds es c

-- what the compactions of a level keep, and whether their coins are turned
abbrev pub keeps : ℕ → List Move → List (Bool × ℕ)
keeps h [] = []
keeps h (Gives n ∷ es) = keeps h es
keeps h (Compacts j keep turned ∷ es) = if j == h then (turned, keep) ∷ keeps h es else keeps h es

-- fresh and turned coins alternate
abbrev pub Alternates : Bool → List (Bool × ℕ) → Type 0
Alternates turned [] = ⊤
Alternates turned (k ∷ ks) = (k.0 ≡ turned) × Alternates (not turned) ks

-- they keep what the section rule says, from a state and a number of doublings on
abbrev pub ObeysSections : ℕ → ℕ → ℕ → List (Bool × ℕ) → Type 0
ObeysSections k state d [] = ⊤
ObeysSections k state d (x ∷ xs) =
    (x.0 ≡ turns_coin state) × (kept_at_least (size_of k d) state d ≤ x.1) × (x.1 ≤ kept_at_least (size_of k d) state d + 1) × ObeysSections k (suc state) (grown_once k (suc state) d) xs

-- all levels that are compacted are below top
abbrev pub AreBelowNominal : ℕ → List Move → Type 0
AreBelowNominal top [] = ⊤
AreBelowNominal top (Gives n ∷ es) = AreBelowNominal top es
AreBelowNominal top (Compacts h keep turned ∷ es) = (h < top) × AreBelowNominal top es

-- the bits that level 0 takes, and the word without them
abbrev pub own_draws : List Move → ℕ
own_draws [] = 0
own_draws (Gives n ∷ es) = own_draws es
own_draws (Compacts zero keep false ∷ es) = suc (own_draws es)
own_draws (Compacts zero keep true ∷ es) = own_draws es
own_draws (Compacts (suc h) keep turned ∷ es) = own_draws es

abbrev pub other_draws : List Move → ℕ
other_draws [] = 0
other_draws (Gives n ∷ es) = other_draws es
other_draws (Compacts zero keep turned ∷ es) = other_draws es
other_draws (Compacts (suc h) keep false ∷ es) = suc (other_draws es)
other_draws (Compacts (suc h) keep true ∷ es) = other_draws es

abbrev pub own_bits : List Move → List Bool → List Bool
own_bits [] w = []
own_bits (Gives n ∷ es) w = own_bits es w
own_bits (Compacts zero keep false ∷ es) w = next_bit w ∷ own_bits es (drop 1 w)
own_bits (Compacts zero keep true ∷ es) w = own_bits es w
own_bits (Compacts (suc h) keep turned ∷ es) w = own_bits es (if turned then w else drop 1 w)

abbrev pub other_bits : List Move → List Bool → List Bool
other_bits [] w = w
other_bits (Gives n ∷ es) w = other_bits es w
other_bits (Compacts zero keep turned ∷ es) w = other_bits es (if turned then w else drop 1 w)
other_bits (Compacts (suc h) keep false ∷ es) w = next_bit w ∷ other_bits es (drop 1 w)
other_bits (Compacts (suc h) keep true ∷ es) w = other_bits es w

module _ (ups : Bool → ℕ → ℕ) where
  -- a compaction of level h by a bit
  abbrev pub kept_at : ℕ → ℕ → Bool → Tally → Tally
  kept_at h keep bit t =
      let taken = t.counts h - keep in
      record {
        counts = changed (changed t.counts h (t.counts h - taken)) (suc h) (t.counts (suc h) + ups bit taken);
        kept = changed t.kept h bit;
      }

  abbrev pub moved : Move → Bool → Tally → Tally
  moved (Gives n) next t = record { counts = changed t.counts 0 (t.counts 0 + n); kept = t.kept }
  moved (Compacts h keep turned) next t = kept_at h keep (if turned then not (t.kept h) else next) t

  -- the tally after some moves under a word
  abbrev pub tally : List Move → List Bool → Tally → Tally
  tally = in_turn draws moved

  -- the moves of the levels above level 0, with what level 0's compactions send up,
  -- under a word of level 0's own bits, from c items and a kept bit on
  abbrev pub peeled : List Move → List Bool → ℕ → Bool → List Move
  peeled [] v c b = []
  peeled (Gives n ∷ es) v c b = peeled es v (c + n) b
  peeled (Compacts zero keep turned ∷ es) v c b =
      let bit = if turned then not b else next_bit v in
      Gives (ups bit (c - keep)) ∷ peeled es (if turned then v else drop 1 v) (c - (c - keep)) bit
  peeled (Compacts (suc h) keep turned ∷ es) v c b = Compacts h keep turned ∷ peeled es v c b

  -- what level 0 holds in the end, and twice what went up
  abbrev pub outcome : List Move → List Bool → ℕ → Bool → ℕ
  outcome es v c b = left es c + 2 * total (peeled es v c b)

-- One level: what it holds in the end and twice what went up, over all words of its bits.

-- the mean over all words of a length; and the mean square, which exceeds the square of the mean by at most `extra`
pub record IsSpread (n : ℕ) (f : List Bool → ℕ) (mean extra : ℕ) : Type 0 where
  pub average : sum_over_words n f ≡ 2 ^ n * mean
  pub squares : sum_over_words n (λ v. square (f v)) ≤ 2 ^ n * (square mean + extra)

-- the same for two functions together
record ArePaired (n : ℕ) (f g : List Bool → ℕ) (mean extra : ℕ) : Type 0 where
  average : sum_over_words n f + sum_over_words n g ≡ 2 ^ n * (2 * mean)
  squares : sum_over_words n (λ v. square (f v)) + sum_over_words n (λ v. square (g v)) ≤ 2 ^ n * (2 * (square mean + extra))

-- two numbers with mean y: the first is at least the second and at most 2d greater, and d is at most 1
record AreApart (high low y d : ℕ) : Type 0 where
  about : high + low ≡ 2 * y
  order : low ≤ high
  within : high ≤ low + 2 * d
  little : d ≤ 1

-- functions with equal values have the same mean and mean square
spread-same : (n : ℕ) (f g : List Bool → ℕ) (mean extra : ℕ) → ((v : List Bool) → f v ≡ g v) → IsSpread n g mean extra → IsSpread n f mean extra
spread-same n f g mean extra same spread = record {
  average = sum_over_words-same n f g same ∙ spread.average;
  squares = omega (arith, spread.squares, sum_over_words-same n (λ v. square (f v)) (λ v. square (g v)) (λ v. ap square (same v)));
}

-- the empty word, with one value
spread-end : (f : List Bool → ℕ) (mean : ℕ) → f [] ≡ mean → IsSpread 0 f mean 0
spread-end f mean e = record { average = omega (arith, e); squares = rw e (omega arith) }

little_square : (d : ℕ) → d ≤ 1 → d * d ≤ d
little_square d le = let square : d * d ≤ d * 1 = mul-le-mul_left d le in omega (arith, square)

-- doubling a number comes to the same as doubling the number of words
doubled : (w w2 m : ℕ) → w2 ≡ 2 * w → w * (2 * m) ≡ w2 * m
doubled w w2 m e = omega (arith, ap (λ n. n * m) e)

-- a pair after its last compaction, with one value each
paired-end : (f g : List Bool → ℕ) (high low y d mean c : ℕ) → AreApart high low y d → y + c ≡ mean → f [] ≡ high + c → g [] ≡ low + c → ArePaired 0 f g mean (d + 0)
paired-end f g high low y d mean c apart m e e' = record {
  average = omega (arith, apart.about, m, e, e');
  squares =
      let near = squares_near (f []) (g []) mean d (omega (arith, apart.about, m, e, e')) (omega (arith, apart.within, e, e')) (omega (arith, apart.order, e, e')) in
      omega (arith, near, little_square d apart.little);
}

-- a fresh coin: its two values make a pair
spread-drawn : (n : ℕ) (f : List Bool → ℕ) (after : Bool → List Bool → ℕ) (more : Bool) (mean extra : ℕ) → ((bit : Bool) (v : List Bool) → f (bit ∷ v) ≡ after bit v) →
    ArePaired n (after more) (after (not more)) mean extra → IsSpread (suc n) f mean extra
spread-drawn n f after more mean extra same pair = record {
  average = sums (λ m. m) ∙ pair.average ∙ doubled (2 ^ n) (2 ^ suc n) mean (omega arith);
  squares =
      let both = sums square in
      let twice = doubled (2 ^ n) (2 ^ suc n) (square mean + extra) (omega arith) in
      omega (arith, both, pair.squares, twice);
}
  where
    either : (value : Bool → ℕ) (b : Bool) → value false + value true ≡ value b + value (not b)
    either value false = refl
    either value true = omega arith

    sums : (of : ℕ → ℕ) → sum_over_words (suc n) (λ v. of (f v)) ≡ sum_over_words n (λ v. of (after more v)) + sum_over_words n (λ v. of (after (not more) v))
    sums of =
        sum_over_words-same n _ _ (λ v. omega (arith, ap of (same false v), ap of (same true v), either (λ bit. of (after bit v)) more)) ∙
        sum_over_words-add n (λ v. of (after more v)) (λ v. of (after (not more) v))

-- a turned coin: what one of the pair gets less, the other gets more
paired-turned : (n : ℕ) (f g : List Bool → ℕ) (a b mean d odd rest : ℕ) → a + b ≡ 2 * mean → a ≤ b + 2 * d → b ≤ a + 2 * odd → d ≤ 1 → odd ≤ 1 →
    IsSpread n f a rest → IsSpread n g b rest → ArePaired n f g mean (d + (odd + rest))
paired-turned n f g a b mean d odd rest about above below little small spread other = record {
  average = omega (arith, spread.average, other.average, ap (λ m. 2 ^ n * m) about);
  squares =
      let near : a * a + b * b ≤ 2 * (mean * mean + (d + odd)) = near_square d odd little small above below in
      omega (arith, spread.squares, other.squares, mul-le-mul_left (2 ^ n) near);
}
  where
    near_square : (d odd : ℕ) → d ≤ 1 → odd ≤ 1 → a ≤ b + 2 * d → b ≤ a + 2 * odd → a * a + b * b ≤ 2 * (mean * mean + (d + odd))
    near_square zero odd little small above below = omega (arith, squares_near a b mean odd about (omega (arith, above)) below, little_square odd small)
    near_square (suc d) odd little small above below = omega (arith, squares_near a b mean 1 about (omega (arith, above, little)) (omega (arith, below, small)))

module _ (ups : Bool → ℕ → ℕ) (halves : IsHalving ups) where
  mutual
    -- nothing pending: the next coin is fresh
    settled : (es : List Move) (c x mean : ℕ) (b : Bool) → Alternates false (keeps 0 es) → x + (c + total es) ≡ mean →
        IsSpread (own_draws es) (λ v. x + outcome ups es v c b) mean (odds es c)
    settled [] c x mean b alt e = spread-end _ _ (omega (arith, e))
    settled (Gives n ∷ es) c x mean b alt e = settled es (c + n) x mean b alt (omega (arith, e))
    settled (Compacts (suc h) keep turned ∷ es) c x mean b alt e = settled es c x mean b (rw eqb-suc-zero at alt) e
    settled (Compacts zero keep false ∷ es) c x mean b alt e =
        let taken = c - keep in
        let up = ups halves.more taken in
        let down = ups (not halves.more) taken in
        spread-drawn (own_draws es) _ (λ bit v. x + 2 * ups bit taken + outcome ups es v (c - taken) bit) halves.more mean _ (λ bit v. omega arith)
        (pending es (c - taken) (x + 2 * up) (x + 2 * down) (x + taken) (taken % 2) mean alt.1
        (record { about = omega (arith, halves.both taken); order = omega (arith, halves.least taken); within = omega (arith, halves.near taken); little = omega arith })
        (omega (arith, e)))
    settled (Compacts zero keep true ∷ es) c x mean b alt e = absurd (false≢true (sym alt.0))

    -- a coin to be turned: the state whose bit sent up more, and the other one
    pending : (es : List Move) (c high low y d mean : ℕ) → Alternates true (keeps 0 es) → AreApart high low y d → y + (c + total es) ≡ mean →
        ArePaired (own_draws es) (λ v. high + outcome ups es v c halves.more) (λ v. low + outcome ups es v c (not halves.more)) mean (d + odds es c)
    pending [] c high low y d mean alt apart e = paired-end _ _ high low y d mean c apart (omega (arith, e)) (omega arith) (omega arith)
    pending (Gives n ∷ es) c high low y d mean alt apart e = pending es (c + n) high low y d mean alt apart (omega (arith, e))
    pending (Compacts (suc h) keep turned ∷ es) c high low y d mean alt apart e = pending es c high low y d mean (rw eqb-suc-zero at alt) apart e
    pending (Compacts zero keep false ∷ es) c high low y d mean alt apart e = absurd (false≢true alt.0)
    pending (Compacts zero keep true ∷ es) c high low y d mean alt apart e =
        let more = halves.more in
        let taken = c - keep in
        let up = ups more taken in
        let down = ups (not more) taken in
        let other : ups (not (not more)) taken ≡ up = ap (λ bit. ups bit taken) (not-not more) in
        let last = c - taken + total es in
        paired-turned (own_draws es) _ _ (high + 2 * down + last) (low + 2 * up + last) mean d (taken % 2) (odds es (c - taken))
        (omega (arith, apart.about, halves.both taken, e))
        (omega (arith, apart.within, halves.least taken))
        (omega (arith, apart.order, halves.near taken))
        apart.little (omega arith)
        (spread-same _ _ _ _ _ (λ v. omega arith) (settled es (c - taken) (high + 2 * down) (high + 2 * down + last) (not more) alt.1 (omega arith)))
        (spread-same _ _ _ _ _ (λ v. omega (arith, other)) (settled es (c - taken) (low + 2 * up) (low + 2 * up + last) (not (not more)) alt.1 (omega arith)))

  -- twice what goes up is more than what is taken by at most one, and only if an odd number is taken
  twice-most : (b : Bool) (t : ℕ) → 2 * ups b t ≤ t + t % 2
  twice-most b t = grind (arith, common_steps)

  -- what a level comes to is at most what came in, plus one for each odd number
  pub outcome-most : (es : List Move) (v : List Bool) (c : ℕ) (b : Bool) → outcome ups es v c b ≤ c + total es + odds es c
  outcome-most [] v c b = omega arith
  outcome-most (Gives n ∷ es) v c b = let r = outcome-most es v (c + n) b in omega (arith, r)
  outcome-most (Compacts zero keep turned ∷ es) v c b =
      let bit = if turned then not b else next_bit v in
      omega (arith, outcome-most es (if turned then v else drop 1 v) (c - (c - keep)) bit, twice-most bit (c - keep))
  outcome-most (Compacts (suc h) keep turned ∷ es) v c b = outcome-most es v c b

  -- on average it is what came in, and its square is not much more
  pub outcome-spread : (es : List Move) → Alternates false (keeps 0 es) → IsSpread (own_draws es) (λ v. outcome ups es v 0 false) (total es) (odds es 0)
  outcome-spread es alt = spread-same _ _ _ _ _ (λ v. omega arith) (settled es 0 0 (total es) false alt (omega arith))

-- A word consists of the bits that level 0 takes and of the other levels' bits.

-- a sum over words is one over the bits of level 0's own coins and over the `rest` bits, enough for the other levels
pub split_over : (es : List Move) (n rest : ℕ) (f : List Bool → List Bool → ℕ) → n ≡ own_draws es + rest → other_draws es ≤ rest →
    sum_over_words n (λ w. f (own_bits es w) (other_bits es w)) ≡ sum_over_words (own_draws es) (λ v. sum_over_words rest (λ w. f v w))
split_over [] n rest f e enough = grind (arith, common_steps)
split_over (Gives m ∷ es) n rest f e enough = split_over es n rest f e enough
split_over (Compacts zero keep true ∷ es) n rest f e enough = split_over es n rest f e enough
split_over (Compacts (suc h) keep true ∷ es) n rest f e enough = split_over es n rest f e enough
split_over (Compacts zero keep false ∷ es) (suc n) rest f e enough =
    split_over es n rest (λ v w. f (false ∷ v) w + f (true ∷ v) w) (omega (arith, e)) enough ∙
    sum_over_words-same (own_draws es) _ _ (λ v. sum_over_words-add rest (λ w. f (false ∷ v) w) (λ w. f (true ∷ v) w))
split_over (Compacts (suc h) keep false ∷ es) (suc n) (suc rest) f e enough =
    split_over es n rest (λ v w. f v (false ∷ w) + f v (true ∷ w)) (omega (arith, e)) (omega (arith, enough))
split_over es n rest f e enough = absurd (omega (arith, e, enough))
