-- The counts and true ranks of a run are those of its streams, and fit.
use Rattle.std.proofs.Common.{rules, ◌≡◌, ℕ, zero, suc, ◌+◌, ◌^◌, ◌<◌, Bool, true, cond, if◌then◌else◌, List, [], ◌∷◌, ◌++◌, length, length-append, replicate, count_by, Option, Some, refl, sym, ◌∙◌, subst, arith, ◌≤◌, set, get_or, ◌⊎◌, inl, inr, ap, ap₂, Fits, w64}
use Rattle.std.proofs.lemmas.Grind.{common_steps}
use Rattle.std.specs.Prelude.{⊤, slice_index}
use Rattle.std.proofs.lemmas.List.{length-replicate, get_or_past, get_or-set_same, get_or-set_other}
use Rattle.std.proofs.lemmas.List.Sums.{count_by-le-length, sum_by-append, sum_by-cons}
use Rattle.sketch_base.specs.Ranks.{ranks_after, true_ranks, rank_of_trace}
use Rattle.sketch_base.specs.Trace.{Event, World, changed}
use Rattle.sketch_base.proofs.bags.Acts.{changed-own, changed-there, changed-other}
use Rattle.quantile_sketches.specs.declared.commands.Command.{Command}
use Rattle.quantile_sketches.specs.declared.commands.Command.TheVariants.{New, Update, UpdateWeighted, Merge, Reset, RoundTrip, Redraw, MergeRedrawn}
use Rattle.quantile_sketches.specs.Plan.{Plan, start_plan, count_of, shape_merged, shape_after, events_of, plan_after, trace_from, trace_of, plan_of}
use Rattle.quantile_sketches.specs.Rules.{Rules}
use Rattle.quantile_sketches.specs.Run.{accepted_streams, stream_of}
use Rattle.quantile_sketches.specs.RuleLaws.{AreLawful}
use Rattle.quantile_sketches.proofs.plans.Legal.{accepted_shapes, after_command, plan_from, streams_from, counts_after, IsSteady, steady-start, steady-after, changed-at, changed-both, accepted-well, some-there, then-there, map-there, refused-or-taken}
use Rattle.std.proofs.lemmas.Bool.{cases_eq, cases_lt}
use Rattle.quantile_sketches.specs.Audit.{CountStreams}

-- The counts and true ranks of a run are those of its streams, and fit.

-- the streams after one command, refused or not
abbrev pub streams_after : {A C Shape : Type 0} → Rules A C Shape → Plan Shape → (ℕ → List A) → Command A C → ℕ → List A
streams_after rules = after_command rules (λ plan. accepted_streams)

-- a test that all items pass counts each item
pub all-counted : {A : Type 0} (xs : List A) → count_by (λ x. true) xs ≡ length xs
all-counted [] = refl
all-counted {A} (x ∷ xs) = sum_by-cons (λ (y : A). 1) x xs ∙ (let m : 1 + count_by (λ (y : A). true) xs ≡ suc (length xs) = omega (arith, all-counted xs) in m)

module _ {A : Type 0} (test : A → Bool) where
  none_either : (b : Bool) → count_by test [] ≡ (if b then 0 else 0)
  none_either b = grind (arith, common_steps)

  one_more : (b : Bool) (n m : ℕ) → m ≡ (if b then n else 0) → cond b 1 0 + m ≡ (if b then suc n else 0)
  one_more b n m e = grind (arith, common_steps)

  -- the count of an item that is repeated
  many_items : (n : ℕ) (x : A) → count_by test (replicate n x) ≡ (if test x then n else 0)
  many_items zero x = none_either (test x)
  many_items (suc n) x = sum_by-cons (λ y. cond (test y) 1 0) x (replicate n x) ∙ one_more (test x) n (count_by test (replicate n x)) (many_items n x)

  true_ranks-append : (xs ys : List (Event A)) (ranks : ℕ → ℕ) → true_ranks test (xs ++ ys) ranks ≡ true_ranks test ys (true_ranks test xs ranks)
  true_ranks-append [] ys ranks = refl
  true_ranks-append (e ∷ xs) ys ranks = true_ranks-append xs ys (ranks_after test e ranks)

  abbrev AreRanked : (ℕ → ℕ) → (ℕ → List A) → Type 0
  AreRanked ranks streams = (j : ℕ) → ranks j ≡ count_by test (streams j)

-- P holds for each slot that a command names, if the command changes streams
abbrev pub NamesSlots : {A C : Type 0} → (ℕ → Type 0) → Command A C → Type 0
NamesSlots P (New slot config) = P slot
NamesSlots P (Update slot x) = P slot
NamesSlots P (UpdateWeighted slot x weight) = P slot
NamesSlots P (Merge into source) = P into × P source
NamesSlots P (Reset slot) = P slot
NamesSlots P (RoundTrip slot) = ⊤
NamesSlots P (Redraw slot) = ⊤
NamesSlots P (MergeRedrawn into source) = P into × P source

-- ---- counting along the commands

module _ {A : Type 0} (test : A → Bool) (P : ℕ → Type 0) (R : ℕ → ℕ → Type 0) where
  -- each count of a slot of P is related by R to that of its stream
  abbrev pub AreTallied : (ℕ → ℕ) → (ℕ → List A) → Type 0
  AreTallied counts streams = (q : ℕ) → P q → R (counts q) (count_by test (streams q))

  module _ (same : (n : ℕ) → R n n) (adds : (a b c d : ℕ) → R a b → R c d → R (a + c) (b + d)) (counts : ℕ → ℕ) (streams : ℕ → List A) (h : AreTallied counts streams) where
    tallied-more : (slot n : ℕ) (items : List A) → P slot → R n (count_by test items) → AreTallied (changed counts slot (counts slot + n)) (changed streams slot (streams slot ++ items))
    tallied-more slot n items named r q inside = changed-at (λ (m : ℕ) (l : List A). R m (count_by test l)) counts streams slot _ _ q (h q inside)
        (subst (R (counts slot + n)) (sym (sum_by-append (λ x. cond (test x) 1 0) (streams slot) items)) (adds _ _ _ _ (h slot named) r))

    -- they stay so after an accepted command that names only such slots
    pub tallied-after : {C : Type 0} (command : Command A C) → NamesSlots P command → AreTallied (counts_after test command counts) (accepted_streams streams command)
    tallied-after command named = grind (arith, common_steps, changed-at, tallied-more, many_items)

-- if any slot will do, each command names such slots
pub names-any : {A C : Type 0} (command : Command A C) → NamesSlots (λ slot. ⊤) command
names-any command = grind (arith, common_steps)

module _ {A C Shape : Type 0} {rules : Rules A C Shape} {Meets : Event A → World (List ℕ) → Type 0} {Fits : Shape → List ℕ → Type 0} (laws : AreLawful rules Meets Fits) where
  -- a count is the length of the stream, and fits
  abbrev Measures : Option Shape → List A → Type 0
  Measures shape stream = (count_of rules shape ≡ length stream) × (count_of rules shape < 2 ^ 64)

  -- the plan counts the streams
  abbrev pub AreCounted : Plan Shape → (ℕ → List A) → Type 0
  AreCounted plan streams = (j : ℕ) → Measures (plan.shapes j) (streams j)

  measured : (o : Option Shape) (t : Shape) (stream : List A) → o ≡ Some t → (rules.count t ≡ length stream) × (rules.count t < 2 ^ 64) → Measures o stream
  measured o t stream e m = subst (λ (s : Option Shape). Measures s stream) (sym e) m

  merged-counts : (redraws : Bool) (plan : Plan Shape) (streams : ℕ → List A) → AreCounted plan streams → (into source : ℕ) (t : Shape) →
      shape_merged rules redraws plan.shapes into source ≡ Some t → (j : ℕ) →
      Measures (changed plan.shapes into (shape_merged rules redraws plan.shapes into source) j) (changed streams into (streams into ++ streams source) j)
  merged-counts redraws plan streams h into source t e = grind (arith, common_steps, then-there, changed-both, measured, length-append)

  accepted-counts : (plan : Plan Shape) (streams : ℕ → List A) → AreCounted plan streams → (command : Command A C) (t : Shape) → shape_after rules plan.shapes command ≡ Some t → (j : ℕ) →
      Measures (accepted_shapes rules plan.shapes command j) (accepted_streams streams command j)
  accepted-counts plan streams h command t e = grind (arith, common_steps, changed-both, measured, then-there, length-append, length-replicate, merged-counts, map-there, changed-own, accepted_shapes)

  -- it still does after a command
  pub counts-after : (plan : Plan Shape) (streams : ℕ → List A) → AreCounted plan streams → (command : Command A C) →
      AreCounted (plan_after rules plan command) (streams_after rules plan streams command)
  counts-after plan streams h command = refused-or-taken rules plan command
      (λ (refused : Bool) (shapes : ℕ → Option Shape) (events : List (Event A)). (j : ℕ) → Measures (shapes j) ((if refused then streams else accepted_streams streams command) j)) h
      (λ e. let (t, f) = some-there (shape_after rules plan.shapes command) e in accepted-counts plan streams h command t f)

  counts-from : (plan : Plan Shape) (streams : ℕ → List A) → AreCounted plan streams → (commands : List (Command A C)) →
      AreCounted (plan_from rules plan commands) (streams_from rules plan streams commands)
  counts-from plan streams h [] = h
  counts-from plan streams h (command ∷ rest) = counts-from (plan_after rules plan command) (streams_after rules plan streams command) (counts-after plan streams h command) rest

  start-counts : AreCounted start_plan (λ s. [])
  start-counts j = (refl, omega arith)

  -- and after a run
  pub run-counts : (commands : List (Command A C)) (slot : ℕ) → count_of rules ((plan_of rules commands).shapes slot) ≡ length (stream_of rules commands slot)
  run-counts commands slot = (counts-from start_plan (λ s. []) start-counts commands slot).0

  -- a stream is shorter than 2^64
  pub streams-fit : (commands : List (Command A C)) (slot : ℕ) → length (stream_of rules commands slot) < 2 ^ 64
  streams-fit commands slot = let c = counts-from start_plan (λ s. []) start-counts commands slot in omega (arith, c.0, c.1)

  module _ (test : A → Bool) where
    events-ranks : (plan : Plan Shape) → IsSteady laws plan → (streams : ℕ → List A) → AreCounted plan streams → (ranks : ℕ → ℕ) → AreRanked test ranks streams → (command : Command A C) →
        AreRanked test (true_ranks test (events_of rules plan command) ranks) (streams_after rules plan streams command)
    events-ranks plan st streams h ranks r command = refused-or-taken rules plan command
        (λ (refused : Bool) (shapes : ℕ → Option Shape) (events : List (Event A)). AreRanked test (true_ranks test events ranks) (if refused then streams else accepted_streams streams command)) r
        (λ e j.
        let (t, f) = some-there (shape_after rules plan.shapes command) e in
        (accepted-well laws plan st command t f).ranks test ranks (λ q z. omega (arith, r q, count_by-le-length test (streams q), (h q).0, z)) j
        ∙ tallied-after test (λ q. ⊤) (λ n m. n ≡ m) (λ n. refl) (λ a b c d e f. omega (arith, e, f)) ranks streams (λ q u. r q) command (names-any command) j tt)

    ranks-from : (plan : Plan Shape) → IsSteady laws plan → (streams : ℕ → List A) → AreCounted plan streams → (ranks : ℕ → ℕ) → AreRanked test ranks streams → (commands : List (Command A C)) →
        AreRanked test (true_ranks test (trace_from rules plan commands) ranks) (streams_from rules plan streams commands)
    ranks-from plan st streams h ranks r [] = r
    ranks-from plan st streams h ranks r (command ∷ rest) = subst (λ (f : ℕ → ℕ). AreRanked test f (streams_from rules plan streams (command ∷ rest)))
        (sym (true_ranks-append test (events_of rules plan command) (trace_from rules (plan_after rules plan command) rest) ranks))
        (ranks-from (plan_after rules plan command) (steady-after laws plan st command) (streams_after rules plan streams command) (counts-after plan streams h command)
        (true_ranks test (events_of rules plan command) ranks) (events-ranks plan st streams h ranks r command) rest)

    -- true ranks are the counts of the stream
    pub run-ranks : (commands : List (Command A C)) (slot : ℕ) → rank_of_trace test (trace_of rules commands) slot ≡ count_by test (stream_of rules commands slot)
    run-ranks commands slot = ranks-from start_plan (steady-start laws) (λ s. []) start-counts (λ s. 0) (λ j. refl) commands slot

-- The counts of the slots when a command is counted: one slot's count is set, or all stay.

-- these slots are below 256
abbrev pub HasFewSlots : {A C : Type 0} → Command A C → Type 0
HasFewSlots = NamesSlots (λ slot. slot < 256)

-- ---- what counts after a command say of its streams

module _ {A C : Type 0} (test : A → Bool) (command : Command A C) (counts : List ℕ) where
  -- the counts fit if the streams after the command do
  counts-fit : length counts ≡ 256 → (streams : ℕ → List A) × CountStreams test counts streams × ((q : ℕ) → length (accepted_streams streams command q) < 2 ^ 64) →
      (q : ℕ) → counts_after test command (slice_index counts) q < 2 ^ 64
  counts-fit long (streams, h, fits) q =
      let below : (i : ℕ) → slice_index counts i ≤ count_by test (streams i) = λ i.
      elim (cases_lt i 256) [
        | inl inside ↦ omega (arith, h i inside)
        | inr beyond ↦ omega (arith, get_or_past counts i 0 (omega (arith, long, beyond)))
      ] in
      let most = tallied-after test (λ i. ⊤) (λ n m. n ≤ m) (λ n. omega arith) (λ a b c d e f. omega (arith, e, f)) (slice_index counts) streams
      (λ i u. below i) command (names-any command) q tt in
      omega (arith, most, count_by-le-length test (accepted_streams streams command q), fits q)

  -- counts as `counts_after` says are those of the streams after the command
  pub counts-follow : (counts' : List ℕ) → HasFewSlots command → ((q : ℕ) → q < 256 → slice_index counts' q ≡ counts_after test command (slice_index counts) q) →
      (streams : ℕ → List A) → CountStreams test counts streams → CountStreams test counts' (accepted_streams streams command)
  counts-follow counts' few goes streams h q inside = grind (arith, common_steps, tallied-after)

-- ---- the counts after a command

-- the slot's count is set, at an index that is the slot
module _ {A C : Type 0} (test : A → Bool) (command : Command A C) (counts : List ℕ) (slot value : ℕ) {at new : ℕ}
    (sets : counts_after test command (slice_index counts) ≡ changed (slice_index counts) slot value) (here : at ≡ slot) (is : new ≡ value) where
  pub set-fits : length counts ≡ 256 → (streams : ℕ → List A) × CountStreams test counts streams × ((q : ℕ) → length (accepted_streams streams command q) < 2 ^ 64) → Fits w64 new
  set-fits long given = record {
    fits = subst (λ (n : ℕ). n < 2 ^ 64) (ap (λ (f : ℕ → ℕ). f slot) sets ∙ (changed-there (slice_index counts) slot value ∙ sym is)) (counts-fit test command counts long given slot);
  }

  pub set-counted : length counts ≡ 256 → slot < 256 → HasFewSlots command → (streams : ℕ → List A) → CountStreams test counts streams →
      CountStreams test (set counts at new) (accepted_streams streams command)
  set-counted long few all = counts-follow test command counts (set counts at new) all (λ q inside. grind (arith, common_steps, cases_eq, get_or-set_same, changed-there, get_or-set_other, changed-other))

-- what an item adds to its slot
pub added : (counts : List ℕ) (slot more : ℕ) {at weight : ℕ} → at ≡ slot → weight ≡ more → get_or counts at 0 + weight ≡ slice_index counts slot + more
added counts slot more here is = ap₂ (λ (n m : ℕ). n + m) (ap (slice_index counts) here) is

-- which commands empty a slot, join two or change no stream
module _ {A C : Type 0} {command : Command A C} where
  pub emptied-after : (test : A → Bool) (counts : ℕ → ℕ) {slot : ℕ} → ((config : C) × (command ≡ New slot config)) ⊎ (command ≡ Reset slot) →
      counts_after test command counts ≡ changed counts slot 0
  emptied-after test counts h2 = grind (arith, common_steps, counts_after)

  pub emptied-few : {slot : ℕ} → ((config : C) × (command ≡ New slot config)) ⊎ (command ≡ Reset slot) → slot < 256 → HasFewSlots command
  emptied-few h0 few = grind (arith, common_steps)

  pub joined-after : (test : A → Bool) (counts : ℕ → ℕ) {into source : ℕ} → (command ≡ Merge into source) ⊎ (command ≡ MergeRedrawn into source) →
      counts_after test command counts ≡ changed counts into (counts into + counts source)
  joined-after test counts h2 = grind (arith, common_steps, counts_after)

  pub joined-few : {into source : ℕ} → (command ≡ Merge into source) ⊎ (command ≡ MergeRedrawn into source) → into < 256 → source < 256 → HasFewSlots command
  joined-few h0 few all = grind (arith, common_steps)

  pub kept-after : (test : A → Bool) (counts : ℕ → ℕ) → ((slot : ℕ) × (command ≡ RoundTrip slot)) ⊎ ((slot : ℕ) × (command ≡ Redraw slot)) → counts_after test command counts ≡ counts
  kept-after test counts h2 = grind (arith, common_steps, counts_after)

  pub kept-few : ((slot : ℕ) × (command ≡ RoundTrip slot)) ⊎ ((slot : ℕ) × (command ≡ Redraw slot)) → HasFewSlots command
  kept-few h0 = grind (arith, common_steps)
