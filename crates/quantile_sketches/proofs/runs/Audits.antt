-- What an audit counts, from the commands and from the plays: sums over the words in the order of their numbers.
use Rattle.std.proofs.lemmas.Grind.{common_steps, get_or_default_zero}
use Rattle.std.proofs.Common.{◌≡◌, ℕ, zero, suc, ◌+◌, ◌-◌, ◌*◌, ◌/◌, ◌%◌, ◌==◌, ◌^◌, ◌<◌, ◌≤◌, Bool, true, false, List, [], ◌∷◌, ◌++◌, length, append_assoc, sum, slice_get, Some, refl, ap, ap₂, ◌∙◌, arith, rules, get_or, replicate, map, None, Ordering, Result, Ok, Err, sym, subst, inl, inr}
use Rattle.std.proofs.Math.Nat.{pow-le-pow_right}
use Rattle.std.proofs.lemmas.List.Sums.{sum_by-cons, count_by-le-length}
use Rattle.std.proofs.lemmas.Option.{same_Some, slice_get-map}
use Rattle.sketch_base.specs.Random.{is_odd}
use Rattle.sketch_base.specs.Words.{sum_over_words}
use Rattle.quantile_sketches.specs.Audit.{word_of, AreWeights, CountStreams}
use Rattle.std.specs.Prelude.{Contains, slice_index}
use Rattle.std.proofs.lemmas.Bool.{cases_lt, false≢true}
use Rattle.std.proofs.lemmas.List.{length-map, length-replicate, map-id}
use Rattle.std.proofs.lemmas.List.Kept.{AllPairs-from_increasing}
use Rattle.std.proofs.lemmas.List.Sorted.{searched}
use Rattle.std.specs.List.Sorted.{IsStrictlyIncreasing, IsBinarySearchResult}
use Rattle.std.specs.Ordering.{nat_cmp}
use Rattle.std.specs.Result.{is_err}
use Rattle.std.specs.Option.{option_map}
use Rattle.sketch_base.specs.declared.common.SearchCriteria.{SearchCriteria}
use Rattle.sketch_base.specs.Bag.{expanded, weighted_rank}
use Rattle.sketch_base.specs.Lengths.{start_lengths}
use Rattle.sketch_base.specs.Query.{counted, true_rank}
use Rattle.sketch_base.specs.Trace.{coins, play, start}
use Rattle.sketch_base.proofs.bags.Alike.{rank-alike}
use Rattle.sketch_base.proofs.tails.ExactTails.{weight_is}
use Rattle.quantile_sketches.specs.declared.commands.Command.{Command}
use Rattle.quantile_sketches.specs.RuleLaws.{IsLawful}
use Rattle.quantile_sketches.specs.Outcome.{SlotMap, sketch_at, ArePlanned}
use Rattle.quantile_sketches.specs.Plan.{start_plan, count_of, plan_of, trace_of}
use Rattle.quantile_sketches.specs.Refused.{accepted_of, AreRefused}
use Rattle.quantile_sketches.specs.Rules.{Rules, Kind}
use Rattle.quantile_sketches.specs.Run.{accepted_streams, stream_of, slot_rank_under, IsUnbiased}
use Rattle.quantile_sketches.proofs.plans.LeftOut.{left-out, state-left, state-taken}
use Rattle.quantile_sketches.proofs.plans.Legal.{along-even, run-legal, after-append}
use Rattle.quantile_sketches.proofs.plans.Streams.{run-counts, run-ranks, streams-fit, all-counted}

-- Sums over the words in the order of their numbers.

-- the sum of what is at the numbers below n
abbrev pub sum_up : ℕ → (ℕ → ℕ) → ℕ
sum_up zero g = 0
sum_up (suc n) g = g 0 + sum_up n (λ k. g (suc k))

sum_up-same : (n : ℕ) (f g : ℕ → ℕ) → ((k : ℕ) → f k ≡ g k) → sum_up n f ≡ sum_up n g
sum_up-same zero f g h = refl
sum_up-same (suc n) f g h = ap₂ (λ (a b : ℕ). a + b) (h 0) (sum_up-same n (λ k. f (suc k)) (λ k. g (suc k)) (λ k. h (suc k)))

-- a sum over a list
pub sum-entries : (ws : List ℕ) (g : ℕ → ℕ) → ((k : ℕ) → k < length ws → slice_get ws k ≡ Some (g k)) → sum ws ≡ sum_up (length ws) g
sum-entries [] g h = refl
sum-entries (x ∷ xs) g h = grind (arith, common_steps, same_Some, sum_by-cons, sum-entries xs (λ k. g (suc k)) (λ k inside. h (suc k) (omega arith)))

-- one more entry
pub entries-push : (P : ℕ → ℕ → Type 0) (ws : List ℕ) (w : ℕ) → ((k : ℕ) → k < length ws → (x : ℕ) × (slice_get ws k ≡ Some x) × P k x) → P (length ws) w →
    (k : ℕ) → k < length ws + 1 → (x : ℕ) × (slice_get (ws ++ w ∷ []) k ≡ Some x) × P k x
entries-push P [] w h p zero inside = (w, refl, p)
entries-push P [] w h p (suc k) inside = absurd (omega (arith, inside))
entries-push P (x ∷ xs) w h p zero inside = h 0 (omega arith)
entries-push P (x ∷ xs) w h p (suc k) inside = entries-push (λ k. P (suc k)) xs w (λ k inside. h (suc k) (omega arith)) p k (omega (arith, inside))

-- two by two
sum_up-pairs : (n : ℕ) (g : ℕ → ℕ) → sum_up (n + n) g ≡ sum_up n (λ k. g (k + k) + g (suc (k + k)))
sum_up-pairs zero g = refl
sum_up-pairs (suc n) g =
    let e : suc n + suc n ≡ suc (suc (n + n)) = omega arith in
    let shift : sum_up n (λ k. g (suc (suc (k + k))) + g (suc (suc (suc (k + k))))) ≡ sum_up n (λ k. g (suc k + suc k) + g (suc (suc k + suc k))) =
    sum_up-same n (λ k. g (suc (suc (k + k))) + g (suc (suc (suc (k + k))))) (λ k. g (suc k + suc k) + g (suc (suc k + suc k)))
    (λ k. let d : suc (suc (k + k)) ≡ suc k + suc k = omega arith in ap (λ (m : ℕ). g m + g (suc m)) d) in
    let whole : sum_up (suc n + suc n) g ≡ g 0 + (g 1 + sum_up (n + n) (λ k. g (suc (suc k)))) = ap (λ (m : ℕ). sum_up m g) e in
    omega (arith, whole, sum_up-pairs n (λ k. g (suc (suc k))), shift)

-- a sum over the numbers of words
pub sum-words : (n : ℕ) (f : List Bool → ℕ) → sum_up (2 ^ n) (λ k. f (word_of n k)) ≡ sum_over_words n f
sum-words zero f = omega arith
sum-words (suc n) f = ap (λ (m : ℕ). sum_up m (λ k. f (word_of (suc n) k))) (omega arith) ∙ (sum_up-pairs (2 ^ n) (λ k. f (word_of (suc n) k))
    ∙ (sum_up-same (2 ^ n) (λ k. f (word_of (suc n) (k + k)) + f (word_of (suc n) (suc (k + k)))) (λ k. f (false ∷ word_of n k) + f (true ∷ word_of n k)) both
    ∙ sum-words n (λ word. f (false ∷ word) + f (true ∷ word))))
  where
    both : (k : ℕ) → f (word_of (suc n) (k + k)) + f (word_of (suc n) (suc (k + k))) ≡ f (false ∷ word_of n k) + f (true ∷ word_of n k)
    both k = ap₂ (λ (a b : ℕ). a + b) (ap₂ (λ (b : Bool) (m : ℕ). f (b ∷ word_of n m)) (let e : (k + k) % 2 ≡ 0 = omega arith in ap (λ (m : ℕ). m == 1) e) (omega arith))
        (ap₂ (λ (b : Bool) (m : ℕ). f (b ∷ word_of n m)) (let e : (suc (k + k)) % 2 ≡ 1 = omega arith in ap (λ (m : ℕ). m == 1) e) (omega arith))

-- the length of a number's word
length-word : (n number : ℕ) → length (word_of n number) ≡ n
length-word zero number = refl
length-word (suc n) number = ap suc (length-word n (number / 2))

-- one more bit
pub word-more : (coins counter rest : ℕ) (bits : List Bool) → counter < coins → (bits ++ is_odd rest ∷ []) ++ word_of (coins - (counter + 1)) (rest / 2) ≡ bits ++ word_of (coins - counter) rest
word-more coins counter rest bits inside =
    let e : suc (coins - (counter + 1)) ≡ coins - counter = omega (arith, inside) in
    append_assoc bits (is_odd rest ∷ []) (word_of (coins - (counter + 1)) (rest / 2)) ∙ ap (λ (m : ℕ). bits ++ word_of m rest) e

-- a count that stops at a shift by a few coins is a power of 2
pub counted_all : (coins n : ℕ) → coins ≤ 16 → n ≤ (1 * 2 ^ coins) % 2 ^ 64 → (1 * 2 ^ coins) % 2 ^ 64 ≤ n → 2 ^ coins ≡ n
counted_all coins n few below above = grind (arith, common_steps, pow-le-pow_right)

-- the word of a number is as long as all coins that are taken
pub word-enough : (coins number : ℕ) (word : List Bool) {taken : ℕ} → word ≡ word_of coins number → coins ≡ taken → taken ≤ length word
word-enough coins number word is all = omega (arith, ap length is, length-word coins number, all)

-- What an audit counts, from the commands and from the plays.

-- ---- counting along the commands

-- the counts after some commands
pub record IsCounted {A C Shape : Type 0} (rules : Rules A C Shape) (test : A → Bool) (before : List (Command A C)) (counts : List ℕ) : Type 0 where
  pub slots : length counts ≡ 256
  pub exact : CountStreams test counts (stream_of rules before)

-- at the start all counts are 0
pub counted-none : {A C Shape : Type 0} (rules : Rules A C Shape) (test : A → Bool) (counts : List ℕ) → counts ≡ replicate 256 0 → IsCounted rules test [] counts
counted-none rules test counts e = record {
  slots = ap length e ∙ length-replicate {A = ℕ} 256 0;
  exact = λ q inside. ap (λ (l : List ℕ). slice_index l q) e ∙ nothing 256 q;
}
  where
    nothing : (n q : ℕ) → slice_index (replicate n 0) q ≡ 0
    nothing zero q = refl
    nothing (suc n) zero = refl
    nothing (suc n) (suc q) = nothing n q

-- one more command
module _ {A C Shape S : Type 0} (kind : Kind A C Shape S) (word : List Bool) (test : A → Bool) (commands before after : List (Command A C)) (command : Command A C) (refused counts : List ℕ)
    (are : AreRefused kind word commands refused) (at : commands ≡ before ++ command ∷ after) where
  accepted-stream : ¬ Contains refused (length before) → stream_of kind.look.rules (before ++ command ∷ []) ≡ accepted_streams (stream_of kind.look.rules before) command
  accepted-stream n = after-append kind.look.rules (λ plan. accepted_streams) start_plan (λ q. []) before command
      ∙ state-taken kind word refused before (λ plan. accepted_streams) (λ plan streams slot. refl) (stream_of kind.look.rules before)
      command (Contains refused (length before)) (are.exact before after command at) n

  -- an accepted one leads to streams that fit
  pub accepted-fits : IsLawful kind → ¬ Contains refused (length before) → IsCounted kind.look.rules test before counts →
      (streams : ℕ → List A) × CountStreams test counts streams × ((q : ℕ) → length (accepted_streams streams command q) < 2 ^ 64)
  accepted-fits lawful n h = (
    stream_of kind.look.rules before,
    h.exact,
    λ q. subst (λ (f : ℕ → List A). length (f q) < 2 ^ 64) (accepted-stream n) (streams-fit lawful.rules (before ++ command ∷ []) q),
  )

  -- the counts after it are those of the streams after it
  pub counted-accepted : (counts' : List ℕ) → ¬ Contains refused (length before) → IsCounted kind.look.rules test before counts → length counts' ≡ 256 →
      ((streams : ℕ → List A) → CountStreams test counts streams → CountStreams test counts' (accepted_streams streams command)) →
      IsCounted kind.look.rules test (before ++ command ∷ []) counts'
  counted-accepted counts' n h l goes = record { slots = l; exact = subst (CountStreams test counts') (sym (accepted-stream n)) (goes (stream_of kind.look.rules before) h.exact) }

  -- and a refused one leaves the counts unchanged
  pub counted-refused : Contains refused (length before) → IsCounted kind.look.rules test before counts → IsCounted kind.look.rules test (before ++ command ∷ []) counts
  counted-refused p h =
      let same : stream_of kind.look.rules (before ++ command ∷ []) ≡ stream_of kind.look.rules before =
      after-append kind.look.rules (λ plan. accepted_streams) start_plan (λ q. []) before command
      ∙ state-left kind word refused before (λ plan. accepted_streams) (λ plan streams slot. refl) (stream_of kind.look.rules before)
      command (Contains refused (length before)) (are.exact before after command at) p in
      record { slots = h.slots; exact = subst (CountStreams test counts) (sym same) h.exact }

rises : (xs : List ℕ) → IsStrictlyIncreasing xs → (i j : ℕ) → i ≤ j → j < length xs → get_or xs i 0 ≤ get_or xs j 0
rises xs h i j le inside = elim (cases_lt i j) [
  | inl less ↦ let l = AllPairs-from_increasing xs h i j 0 less inside in omega (arith, l)
  | inr more ↦ let e : i ≡ j = omega (arith, le, more) in let l = ap (λ (k : ℕ). get_or xs k 0) e in omega (arith, l)
]

-- a number that a search of the refused numbers finds is among them
pub found : (refused : List ℕ) (n : ℕ) (r : Result ℕ ℕ) → IsBinarySearchResult (λ y. nat_cmp y n) refused r → IsStrictlyIncreasing refused → is_err r ≡ false → Contains refused n
found refused n (Ok i) h rising e =
    let at = searched refused n (Ok i) h (rises refused rising) in
    (i, at.0, get_or_default_zero refused i n at.0 ∙ at.1)
found refused n (Err i) h rising e = absurd (false≢true (sym e))

-- and one that it doesn't find isn't
pub not-found : (refused : List ℕ) (n : ℕ) (r : Result ℕ ℕ) → IsBinarySearchResult (λ y. nat_cmp y n) refused r → IsStrictlyIncreasing refused → is_err r ≡ true → ¬ Contains refused n
not-found refused n (Ok i) h rising e p = false≢true e
not-found refused n (Err i) h rising e p =
    let at = searched refused n (Err i) h (rises refused rising) in
    let is : get_or refused p.0 0 ≡ n = sym (get_or_default_zero refused p.0 n p.1) ∙ p.2 in
    elim (cases_lt p.0 i) [
      | inl less ↦ let l = at.1 p.0 less in omega (arith, l, is)
      | inr more ↦ let l = at.2 p.0 more p.1 in omega (arith, l, is)
    ]

-- ---- ranks in the plays

module _ {A C Shape S : Type 0} {kind : Kind A C Shape S} (lawful : IsLawful kind) where
  -- if the stream is empty, each play counts nothing
  pub rank-nothing : (y : A) (criteria : SearchCriteria) (commands : List (Command A C)) (slot : ℕ) (word : List Bool) → length (stream_of kind.look.rules commands slot) ≡ 0 →
      slot_rank_under kind.look.rules kind.look.cmp y criteria commands slot word ≡ 0
  rank-nothing y criteria commands slot word none =
      let bag = (play kind.look.cmp (trace_of kind.look.rules commands) word start).slots slot in
      let legal = run-legal lawful.rules commands in
      let whole = weight_is lawful.total (trace_of kind.look.rules commands) word slot legal.scratch (along-even lawful.rules (trace_of kind.look.rules commands) start_lengths legal.meets) in
      omega (arith, whole, run-ranks lawful.rules (λ x. true) commands slot, all-counted (stream_of kind.look.rules commands slot), all-counted (expanded kind.look.cmp bag), count_by-le-length (counted kind.look.cmp y criteria) (expanded kind.look.cmp bag), none)

  -- so does the play of the accepted commands
  rank-none : (y : A) (criteria : SearchCriteria) (commands : List (Command A C)) (refused : List ℕ) (word : List Bool) → AreRefused kind word commands refused →
      (slot : ℕ) → length (stream_of kind.look.rules commands slot) ≡ 0 → slot_rank_under kind.look.rules kind.look.cmp y criteria (accepted_of refused commands) slot word ≡ 0
  rank-none y criteria commands refused word are slot none =
      rank-nothing y criteria (accepted_of refused commands) slot word (ap (λ (f : ℕ → List A). length (f slot)) (sym (left-out lawful word commands refused are).streams) ∙ none)

  -- nor does it count anything if the slot holds no sketch
  pub rank-absent : (y : A) (criteria : SearchCriteria) (commands : List (Command A C)) (refused : List ℕ) (word : List Bool) → AreRefused kind word commands refused → (slots : SlotMap S) (slot : ℕ) →
      ArePlanned kind.look commands slots → sketch_at slots slot ≡ None → slot_rank_under kind.look.rules kind.look.cmp y criteria (accepted_of refused commands) slot word ≡ 0
  rank-absent y criteria commands refused word are slots slot planned none =
      let count : 0 ≡ count_of kind.look.rules ((plan_of kind.look.rules commands).shapes slot) = ap (count_of kind.look.rules) (sym (ap (option_map kind.look.shape) none) ∙ planned slot) in
      rank-none y criteria commands refused word are slot (omega (arith, count, run-counts lawful.rules commands slot))

-- ---- weights of an audit, under all words

module _ {A C Shape : Type 0} (rules : Rules A C Shape) (cmp : A → A → Ordering) (y : A) (criteria : SearchCriteria) (commands : List (Command A C)) (slot : ℕ) (weights : List ℕ)
    (words : length weights ≡ 2 ^ coins (trace_of rules commands)) (are : AreWeights rules cmp y criteria commands slot weights) where
  -- the sum of a measure of the weights is its sum over all words
  pub weights-measured : (measure : ℕ → ℕ) → sum (map measure weights) ≡ sum_over_words (coins (trace_of rules commands)) (λ word. measure (slot_rank_under rules cmp y criteria commands slot word))
  weights-measured measure =
      let n = coins (trace_of rules commands) in
      let f : List Bool → ℕ = λ word. measure (slot_rank_under rules cmp y criteria commands slot word) in
      let long : length (map measure weights) ≡ 2 ^ n = length-map weights measure ∙ words in
      sum-entries (map measure weights) (λ k. f (word_of n k)) (λ k inside. slice_get-map measure weights k ∙ ap (option_map measure) (are k (omega (arith, inside, long))))
      ∙ (ap (λ (m : ℕ). sum_up m (λ k. f (word_of n k))) long ∙ sum-words n f)

  -- if the slot is unbiased, they sum to the true rank times the number of words
  pub weights-total : IsUnbiased rules cmp commands (coins (trace_of rules commands)) slot (counted cmp y criteria) →
      sum weights ≡ length weights * true_rank cmp y criteria (stream_of rules commands slot)
  weights-total unbiased = ap (λ (l : List ℕ). sum l) (sym (map-id weights))
      ∙ (weights-measured (λ weight. weight) ∙ (unbiased ∙ ap (λ (m : ℕ). m * true_rank cmp y criteria (stream_of rules commands slot)) (sym words)))

-- the rank that a sketch gives is that of its slot in the play of the accepted commands, if it is alike to the slot's bag
pub rank-played : {A C Shape S : Type 0} {kind : Kind A C Shape S} → IsLawful kind → (y : A) (criteria : SearchCriteria) (commands : List (Command A C)) (slot : ℕ)
    (word : List Bool) (s : S) (weight : ℕ) → weight ≡ weighted_rank kind.look.cmp (counted kind.look.cmp y criteria) (kind.look.bag s) →
    kind.look.IsAlike ((play kind.look.cmp (trace_of kind.look.rules commands) word start).slots slot) (kind.look.bag s) →
    weight ≡ slot_rank_under kind.look.rules kind.look.cmp y criteria commands slot word
rank-played {kind = kind} lawful y criteria commands slot word s weight is alike =
    let bag = (play kind.look.cmp (trace_of kind.look.rules commands) word start).slots slot in
    is ∙ sym (rank-alike lawful.total y criteria bag (kind.look.bag s) (lawful.alike_levels bag (kind.look.bag s) alike))

-- the rank of a sketch without items
pub rank-empty : {A C Shape S : Type 0} {kind : Kind A C Shape S} → IsLawful kind → (y : A) (criteria : SearchCriteria) (commands : List (Command A C))
    (refused : List ℕ) (word : List Bool) → AreRefused kind word commands refused → (slot : ℕ) {count : ℕ} →
    count ≡ length (stream_of kind.look.rules commands slot) →
    count ≡ 0 → 0 ≡ slot_rank_under kind.look.rules kind.look.cmp y criteria (accepted_of refused commands) slot word
rank-empty lawful y criteria commands refused word are slot long none = sym (rank-none lawful y criteria commands refused word are slot (sym long ∙ none))
