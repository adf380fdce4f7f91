-- A run from its start: what holds after some of its commands, and after all, and where the sketches stand under any source of coins.
use Rattle.std.proofs.Common.{◌≡◌, ℕ, zero, suc, ◌+◌, ◌-◌, ◌≤◌, Bool, true, false, if◌then◌else◌, List, [], ◌∷◌, ◌++◌, length, take, drop, None, Some, refl, sym, ap, ◌∙◌, subst, arith, ◌^◌, ◌<◌, ◌*◌, min, map, get_or, take_all, take-append-drop, length-take-le, ap₂, append_assoc}
use Rattle.std.proofs.lemmas.List.{drop-take, take_more}
use Rattle.std.specs.Option.{option_map}
use Rattle.sketch_base.specs.Random.{bits_from, after_draws, WordSource}
use Rattle.sketch_base.specs.Trace.{play, start, coins, event_draws, act, happens}
use Rattle.sketch_base.proofs.plays.Plays.{bits-take, bits-drop, after_draws-add, in_turn-append, word-bits, word-draws}
use Rattle.quantile_sketches.specs.declared.commands.Command.{Command}
use Rattle.quantile_sketches.specs.Outcome.{shapes_in, WeighsStream, HasExtremes, SlotMap, sketch_at, ArePlanned, ArePlayed, RankAsPlayed, WeighStreams, HaveExtremes, AreSound, AreClose}
use Rattle.quantile_sketches.specs.Plan.{start_plan, count_of, events_of, plan_of, trace_of, Plan}
use Rattle.quantile_sketches.specs.RuleLaws.{IsLawful}
use Rattle.quantile_sketches.specs.Rules.{Kind}
use Rattle.quantile_sketches.specs.Run.{accepted_streams, stream_of, RunIsWithinLoad}
use Rattle.quantile_sketches.specs.RunSteps.{Sketches, AreSame, IsExecuted}
use Rattle.quantile_sketches.proofs.plans.Legal.{steady-start, steady-from, plan-append, trace-more, after-append, coins-more, not-none, coins-within}
use Rattle.quantile_sketches.proofs.runs.Slots.{IsOf, Stand, Steps, stand-same, steps}
use Rattle.quantile_sketches.proofs.plans.Streams.{run-counts}
use mathlib.Core.Path.{fun_ext}
use Rattle.sketch_base.specs.Bag.{load, load_from}
use Rattle.sketch_base.proofs.bags.Alike.{rank-alike}
use Rattle.quantile_sketches.specs.Refused.{accepted_of, word_bit, word_next, AreExecuted, LeadTo, AreRefused}
use Rattle.quantile_sketches.proofs.plans.LeftOut.{left-out, refused-none, refused-more, decided-exactly, executed-next, accepted-next}

-- Where the sketches stand after accepted commands, under any source of coins.

-- the first m of the first n elements are the first m, if m is at most n
take-front : {X : Type 0} (m n : ℕ) (xs : List X) → m ≤ n → take m (take n xs) ≡ take m xs
take-front zero n xs h = refl
take-front (suc m) zero xs h = absurd (omega arith)
take-front (suc m) (suc n) [] h = refl
take-front (suc m) (suc n) (x ∷ xs) h = ap (λ l. x ∷ l) (take-front m n xs (omega arith))

-- the source is past the commands' coins, and the sketches stand under each word that begins with the bits that it gave
pub record Standing {A C Shape S Source : Type 0} (kind : Kind A C Shape S) (bit : Source → Bool) (next : Source → Source) (seed : Source) (commands : List (Command A C))
    (slots : Sketches S) (source : Source) : Type 0 where
  pub drawn : source ≡ after_draws next seed (coins (trace_of kind.look.rules commands))
  pub stand : (word : List Bool) → take (coins (trace_of kind.look.rules commands)) word ≡ bits_from bit next seed (coins (trace_of kind.look.rules commands)) →
      Stand kind (plan_of kind.look.rules commands) (stream_of kind.look.rules commands) (play kind.look.cmp (trace_of kind.look.rules commands) word start) slots

module _ {A C Shape S Source : Type 0} {kind : Kind A C Shape S} (lawful : IsLawful kind) (bit : Source → Bool) (next : Source → Source) (seed : Source) where
  abbrev Stands : List (Command A C) → Sketches S → Source → Type 0
  Stands commands slots source = Standing kind bit next seed commands slots source

  -- from empty slots on
  pub standing-none : (slots : Sketches S) → ((q : ℕ) → slots q ≡ None) → Stands [] slots seed
  standing-none slots none = record {
    drawn = refl;
    stand = λ word agree. record {
      lengths = refl;
      shapes = λ q. ap (option_map kind.look.shape) (none q);
      sketches = λ q s held. absurd (not-none s (sym (none q) ∙ held));
    };
  }

  -- if nothing changes, this still holds
  pub standing-same : (commands : List (Command A C)) (slots slots' : Sketches S) (source source' : Source) → Stands commands slots source → AreSame slots slots' → source' ≡ source →
      Stands commands slots' source'
  standing-same commands slots slots' source source' st same stays = record {
    drawn = stays ∙ st.drawn;
    stand = λ word agree. stand-same _ _ _ slots slots' (st.stand word agree) same;
  }

  -- one more command
  module _ (commands : List (Command A C)) (slots : Sketches S) (source : Source) (st : Stands commands slots source) (c : Command A C) (slots' : Sketches S) (source' : Source)
      (x : IsExecuted kind bit next c slots source true slots' source') where
    abbrev k : ℕ
    k = coins (trace_of kind.look.rules commands)

    abbrev m : ℕ
    m = coins (events_of kind.look.rules (plan_of kind.look.rules commands) c)

    step : (word : List Bool) → take k word ≡ bits_from bit next seed k →
        Steps lawful bit next (plan_of kind.look.rules commands) (stream_of kind.look.rules commands) (play kind.look.cmp (trace_of kind.look.rules commands) word start) c source slots' source'
    step word agree = steps lawful bit next (plan_of kind.look.rules commands) (steady-from lawful.rules start_plan (steady-start lawful.rules) commands) (stream_of kind.look.rules commands)
        (play kind.look.cmp (trace_of kind.look.rules commands) word start) slots (st.stand word agree) source slots' source' c x.decided (x.done refl)

    front : (word : List Bool) → take (k + m) word ≡ bits_from bit next seed (k + m) → take k word ≡ bits_from bit next seed k
    front word all = sym (take-front k (k + m) word (omega arith)) ∙ (ap (take k) all ∙ bits-take bit next seed k (k + m) (omega arith))

    back : (word : List Bool) → take (k + m) word ≡ bits_from bit next seed (k + m) → take m (drop k word) ≡ bits_from bit next source m
    back word all = sym (drop-take k m word) ∙ (ap (drop k) all ∙ (bits-drop bit next seed k (k + m) (omega arith)
        ∙ (ap (bits_from bit next (after_draws next seed k)) (omega arith) ∙ ap (λ (s : Source). bits_from bit next s m) (sym st.drawn))))

    stands-on : (word : List Bool) → take (coins (trace_of kind.look.rules (commands ++ c ∷ []))) word ≡ bits_from bit next seed (coins (trace_of kind.look.rules (commands ++ c ∷ []))) →
        Stand kind (plan_of kind.look.rules (commands ++ c ∷ [])) (stream_of kind.look.rules (commands ++ c ∷ [])) (play kind.look.cmp (trace_of kind.look.rules (commands ++ c ∷ [])) word start) slots'
    stands-on word agree =
        let all : take (k + m) word ≡ bits_from bit next seed (k + m) = subst (λ (n : ℕ). take n word ≡ bits_from bit next seed n) (coins-more kind.look.rules commands c) agree in
        rw (
          plan-append kind.look.rules start_plan commands c,
          after-append kind.look.rules (λ plan. accepted_streams) start_plan (λ q. []) commands c,
          trace-more kind.look.rules commands c,
          in_turn-append event_draws (happens (act kind.look.cmp)) (trace_of kind.look.rules commands) (events_of kind.look.rules (plan_of kind.look.rules commands) c) word start,
        ) ((step word (front word all)).stands (drop k word) (back word all))

    pub standing-more : Stands (commands ++ c ∷ []) slots' source'
    standing-more = record {
      drawn = (step (bits_from bit next seed k) (bits-take bit next seed k k (omega arith))).source_goes
          ∙ (ap (λ (s : Source). after_draws next s m) st.drawn ∙ (sym (after_draws-add next seed k m) ∙ ap (after_draws next seed) (sym (coins-more kind.look.rules commands c))));
      stand = stands-on;
    }

  -- one more command, accepted or refused
  pub standing-next : (commands : List (Command A C)) (slots : Sketches S) (source : Source) → Stands commands slots source → (c : Command A C) (accepted : Bool) (slots' : Sketches S) (source' : Source) →
      IsExecuted kind bit next c slots source accepted slots' source' → Stands (if accepted then commands ++ c ∷ [] else commands) slots' source'
  standing-next commands slots source st c true slots' source' x = standing-more commands slots source st c slots' source' x
  standing-next commands slots source st c false slots' source' x = let left = x.left refl in standing-same commands slots slots' source source' st left.0 left.1

  -- ---- what is promised of the sketches

  -- the shapes are the planned ones
  pub standing-shapes : (commands : List (Command A C)) (slots : Sketches S) (source : Source) → Stands commands slots source →
      (q : ℕ) → shapes_in kind.look.shape slots q ≡ (plan_of kind.look.rules commands).shapes q
  standing-shapes commands slots source st =
      let n = coins (trace_of kind.look.rules commands) in (st.stand (bits_from bit next seed n) (bits-take bit next seed n n (omega arith))).shapes

  module _ (commands : List (Command A C)) (slots : Sketches S) (source : Source) (st : Stands commands slots source) (slot : ℕ) (s : S) (held : slots slot ≡ Some s) where
    abbrev pub given : List Bool
    given = bits_from bit next seed (coins (trace_of kind.look.rules commands))

    stood : Stand kind (plan_of kind.look.rules commands) (stream_of kind.look.rules commands) (play kind.look.cmp (trace_of kind.look.rules commands) given start) slots
    stood = st.stand given (bits-take bit next seed (coins (trace_of kind.look.rules commands)) (coins (trace_of kind.look.rules commands)) (omega arith))

    -- the sketch is that of its slot's bag in the play, and of its stream
    pub standing-is : IsOf kind ((play kind.look.cmp (trace_of kind.look.rules commands) given start).slots slot) (stream_of kind.look.rules commands slot) s
    standing-is = stood.sketches slot s held

    -- it has the planned shape
    pub standing-shape : (plan_of kind.look.rules commands).shapes slot ≡ Some (kind.look.shape s)
    standing-shape = sym (stood.shapes slot) ∙ ap (option_map kind.look.shape) held

    -- its count and weight are the length of its stream
    pub standing-weight : WeighsStream kind.look commands slot s
    standing-weight =
        let n : kind.look.rules.count (kind.look.shape s) ≡ length (stream_of kind.look.rules commands slot) = ap (count_of kind.look.rules) (sym standing-shape) ∙ run-counts lawful.rules commands slot in
        (n, lawful.weighs s standing-is.sound ∙ n)

    -- its extremes are those of its stream
    pub standing-extremes : HasExtremes kind.look commands slot s
    standing-extremes = (standing-is.least, standing-is.greatest)

-- A run from its start: what holds after some of its commands, and after all.

-- bags of the same level lengths have the same load
load-lengths : {A : Type 0} (h : ℕ) (xs ys : List (List A)) → map length xs ≡ map length ys → load_from h xs ≡ load_from h ys
load-lengths h [] [] e = refl
load-lengths h [] (y ∷ ys) e = cc
load-lengths h (x ∷ xs) [] e = cc
load-lengths h (x ∷ xs) (y ∷ ys) e =
    let first : length x ≡ length y = cc in
    let rest : map length xs ≡ map length ys = cc in
    ap₂ (λ (n m : ℕ). h * (2 ^ h * n) + m) first (load-lengths (suc h) xs ys rest)

-- ---- words and places

-- a source at the beginning of a word
abbrev pub beginning : List Bool → WordSource
beginning word = record { word = word; drawn = 0 }

-- it gives the bits of the word
own-bits : (word : List Bool) (n : ℕ) → n ≤ length word → length word < 2 ^ 64 - 1 → take n word ≡ bits_from word_bit word_next (beginning word) n
own-bits word n enough few = sym (word-bits word_bit word_next (λ s. s.word) (λ s. s.drawn) (λ s. refl) (λ s. refl) (λ s. refl) n (beginning word) (omega (arith, enough)) (omega (arith, few)))

-- an element at an index of a list, between those before it and those after it
pub record IsAt {X : Type 0} (xs : List X) (i : ℕ) (x : X) : Type 0 where
  pub more : take (i + 1) xs ≡ take i xs ++ x ∷ []
  pub count : length (take i xs) ≡ i
  pub whole : xs ≡ take i xs ++ x ∷ drop (i + 1) xs

-- the element at an index within the list
pub at-place : {X : Type 0} (xs : List X) (i : ℕ) (x : X) → i < length xs → x ≡ get_or xs i x → IsAt xs i x
at-place xs i x inside is = record {
  more = more;
  count = length-take-le i xs (omega (arith, inside));
  whole = sym (take-append-drop (i + 1) xs) ∙ (ap (λ l. l ++ drop (i + 1) xs) more ∙ append_assoc (take i xs) (x ∷ []) (drop (i + 1) xs));
}
  where
    more : take (i + 1) xs ≡ take i xs ++ x ∷ []
    more = take_more xs i x inside ∙ ap (λ y. take i xs ++ y ∷ []) (sym is)

-- ---- what holds after some commands

-- what holds after some commands: under the word's bits the sketches stand where the accepted ones put them
pub record Going {A C Shape S : Type 0} (kind : Kind A C Shape S) (word : List Bool) (done : List (Command A C)) (slots : Sketches S) (refused : List ℕ) (source : WordSource) : Type 0 where
  pub standing : Standing kind word_bit word_next (beginning word) (accepted_of refused done) slots source
  pub refused_are : AreRefused kind word done refused
  pub executed : AreExecuted kind word_bit word_next refused 0 done (λ q. None) (beginning word) slots source
  pub enough : coins (trace_of kind.look.rules done) ≤ length word

-- it holds after all commands, for a map that holds what the slots hold
pub arrived : {A C Shape S : Type 0} {kind : Kind A C Shape S} (word : List Bool) (commands : List (Command A C)) (n : ℕ) → length commands ≤ n →
    (held : Sketches S) (slots : SlotMap S) → ((q : ℕ) → sketch_at slots q ≡ held q) →
    (refused : List ℕ) (source : WordSource) → Going kind word (take n commands) held refused source → Going kind word commands (sketch_at slots) refused source
arrived {kind = kind} word commands n all held slots same refused source g = subst (λ l. Going kind word l (sketch_at slots) refused source) (take_all n commands all)
    (subst (λ f. Going kind word (take n commands) f refused source) (sym (fun_ext same)) g)

module _ {A C Shape S : Type 0} {kind : Kind A C Shape S} (lawful : IsLawful kind) where
  -- at the start
  pub going-none : (word : List Bool) (slots : Sketches S) (source : WordSource) → ((q : ℕ) → slots q ≡ None) → source.word ≡ word → source.drawn ≡ 0 → Going kind word [] slots [] source
  going-none word slots source none w d =
      let first : source ≡ beginning word = ap₂ (λ (l : List Bool) (n : ℕ). let x : WordSource = record { word = l; drawn = n } in x) w d in
      record {
        standing =
            standing-same lawful word_bit word_next (beginning word) [] slots slots (beginning word) source (standing-none lawful word_bit word_next (beginning word) slots none) (λ q. refl) first;
        refused_are = refused-none kind word;
        executed = (fun_ext none, first);
        enough = omega arith;
      }

  -- the sketches stand as in the play under the word
  pub going-stand : (word : List Bool) (done : List (Command A C)) (slots : Sketches S) (refused : List ℕ) (source : WordSource) → Going kind word done slots refused source → length word < 2 ^ 64 - 1 →
      Stand kind (plan_of kind.look.rules (accepted_of refused done)) (stream_of kind.look.rules (accepted_of refused done)) (play kind.look.cmp (trace_of kind.look.rules (accepted_of refused done)) word start) slots
  going-stand word done slots refused source g few =
      g.standing.stand word (own-bits word (coins (trace_of kind.look.rules (accepted_of refused done))) (omega (arith, (left-out lawful word done refused g.refused_are).drawn, g.enough)) few)

  -- they are sound
  pub going-sound : (word : List Bool) (done : List (Command A C)) (slots : Sketches S) (refused : List ℕ) (source : WordSource) → Going kind word done slots refused source →
      (q : ℕ) (s : S) → slots q ≡ Some s → kind.IsSound s
  going-sound word done slots refused source g q s held = (standing-is lawful word_bit word_next (beginning word) (accepted_of refused done) slots source g.standing q s held).sound

  -- the number of bits drawn
  drawn-of : (word : List Bool) (done : List (Command A C)) (slots : Sketches S) (refused : List ℕ) (source : WordSource) → AreRefused kind word done refused →
      Standing kind word_bit word_next (beginning word) (accepted_of refused done) slots source → source.drawn ≡ min (coins (trace_of kind.look.rules done)) (2 ^ 64 - 1)
  drawn-of word done slots refused source are standing =
      let out = left-out lawful word done refused are in
      let drawn = word-draws word_next (λ s. s.drawn) (λ s. refl) (coins (trace_of kind.look.rules (accepted_of refused done))) (beginning word) (omega arith) in
      omega (arith, ap (λ s. s.drawn) standing.drawn, drawn, out.drawn)

  -- one more command, accepted or refused
  record HasGone (word : List Bool) (done : List (Command A C)) (slots : Sketches S) (refused : List ℕ) (source : WordSource) : Type 0 where
    refused_are : AreRefused kind word done refused
    standing : Standing kind word_bit word_next (beginning word) (accepted_of refused done) slots source
    drawn : source.drawn ≡ min (coins (trace_of kind.look.rules done)) (2 ^ 64 - 1)

  gone-on : (word : List Bool) (done : List (Command A C)) (slots : Sketches S) (refused : List ℕ) (source : WordSource) → Going kind word done slots refused source →
      (c : Command A C) (accepted : Bool) (slots' : Sketches S) (refused' : List ℕ) (source' : WordSource) → IsExecuted kind word_bit word_next c slots source accepted slots' source' →
      refused' ≡ (if accepted then refused else refused ++ length done ∷ []) → HasGone word (done ++ c ∷ []) slots' refused' source'
  gone-on word done slots refused source g c accepted slots' refused' source' x r =
      let out = left-out lawful word done refused g.refused_are in
      let shapes = λ (q : ℕ). standing-shapes lawful word_bit word_next (beginning word) (accepted_of refused done) slots source g.standing q ∙ ap (λ (p : Plan Shape). p.shapes q) (sym out.plan) in
      let are = refused-more kind word done refused g.refused_are c accepted refused' (decided-exactly kind word done refused slots (source, g.executed) shapes c accepted x.decided) r in
      let standing : Standing kind word_bit word_next (beginning word) (accepted_of refused' (done ++ c ∷ [])) slots' source' =
      rw (accepted-next refused refused' done c accepted g.refused_are.numbers r)
      (standing-next lawful word_bit word_next (beginning word) (accepted_of refused done) slots source g.standing c accepted slots' source' x) in
      record { refused_are = are; standing = standing; drawn = drawn-of word (done ++ c ∷ []) slots' refused' source' are standing }

  -- a command that the word has bits for
  going-more : (word : List Bool) (done : List (Command A C)) (slots : Sketches S) (refused : List ℕ) (source : WordSource) → Going kind word done slots refused source →
      (c : Command A C) (accepted : Bool) (slots' : Sketches S) (refused' : List ℕ) (source' : WordSource) → IsExecuted kind word_bit word_next c slots source accepted slots' source' →
      refused' ≡ (if accepted then refused else refused ++ length done ∷ []) → length word < 2 ^ 64 - 1 → source'.drawn ≤ length word → Going kind word (done ++ c ∷ []) slots' refused' source'
  going-more word done slots refused source g c accepted slots' refused' source' x r few within =
      let h = gone-on word done slots refused source g c accepted slots' refused' source' x r in
      record {
        standing = h.standing;
        refused_are = h.refused_are;
        executed = executed-next kind word_bit word_next refused refused' done accepted g.refused_are.numbers r (λ q. None) (beginning word) slots source g.executed c slots' source' x;
        enough = omega (arith, h.drawn, within, few);
      }

  -- the command at an index of the list
  pub going-next : (word : List Bool) (commands : List (Command A C)) (i : ℕ) (slots : Sketches S) (refused : List ℕ) (source : WordSource) →
      Going kind word (take i commands) slots refused source → (c : Command A C) → IsAt commands i c → (accepted : Bool) (slots' : Sketches S) (refused' : List ℕ)
      (source' : WordSource) → IsExecuted kind word_bit word_next c slots source accepted slots' source' →
      refused' ≡ (if accepted then refused else refused ++ i ∷ []) → length word < 2 ^ 64 - 1 → source'.drawn ≤ length word →
      Going kind word (take (i + 1) commands) slots' refused' source'
  going-next word commands i slots refused source g c at accepted slots' refused' source' x r few within =
      rw at.more (going-more word (take i commands) slots refused source g c accepted slots' refused' source' x (rw at.count r) few within)

  -- a command that the word is too short for
  pub going-short : (word : List Bool) (commands : List (Command A C)) (i : ℕ) (slots : Sketches S) (refused : List ℕ) (source : WordSource) →
      Going kind word (take i commands) slots refused source → (c : Command A C) → IsAt commands i c → (accepted : Bool) (slots' : Sketches S)
      (source' : WordSource) → IsExecuted kind word_bit word_next c slots source accepted slots' source' →
      length word < 2 ^ 64 - 1 → length word < source'.drawn → length word < coins (trace_of kind.look.rules commands)
  going-short word commands i slots refused source g c at accepted slots' source' x few beyond =
      let done = take i commands in
      let h = gone-on word done slots refused source g c accepted slots' (if accepted then refused else refused ++ length done ∷ []) source' x refl in
      let short : length word < coins (trace_of kind.look.rules ((done ++ c ∷ []) ++ (drop (i + 1) commands))) =
      omega (arith, h.drawn, beyond, few, coins-within kind.look.rules (done ++ c ∷ []) (drop (i + 1) commands)) in
      subst (λ (l : List (Command A C)). length word < coins (trace_of kind.look.rules l)) (append_assoc done (c ∷ []) (drop (i + 1) commands) ∙ sym at.whole) short

  -- ---- whole runs

  module _ (word : List Bool) (commands : List (Command A C)) (slots : SlotMap S) (refused : List ℕ) (source : WordSource)
      (g : Going kind word commands (sketch_at slots) refused source) (few : length word < 2 ^ 64 - 1) where
    is : (slot : ℕ) (s : S) → sketch_at slots slot ≡ Some s →
        IsOf kind ((play kind.look.cmp (trace_of kind.look.rules (accepted_of refused commands)) word start).slots slot) (stream_of kind.look.rules (accepted_of refused commands) slot) s
    is = (going-stand word commands (sketch_at slots) refused source g few).sketches

    -- the coins that were drawn
    pub gone-drawn : source.drawn ≡ coins (trace_of kind.look.rules commands)
    gone-drawn = omega (arith, drawn-of word commands (sketch_at slots) refused source g.refused_are g.standing, g.enough, few)

    -- what is promised of the slots: their shapes are the plan's
    pub gone-planned : ArePlanned kind.look commands slots
    gone-planned slot =
        (going-stand word commands (sketch_at slots) refused source g few).shapes slot ∙ ap (λ (p : Plan Shape). p.shapes slot) (sym (left-out lawful word commands refused g.refused_are).plan)

    -- their sketches are alike to the bags in the play of the accepted commands
    pub gone-played : ArePlayed kind.look (accepted_of refused commands) word slots
    gone-played slot s held = (is slot s held).alike

    -- they are sound
    pub gone-sound : AreSound kind slots
    gone-sound slot s held = (is slot s held).sound

    -- their weights are the lengths of their streams
    pub gone-weight : WeighStreams kind.look commands slots
    gone-weight slot s held =
        let shape : Some (kind.look.shape s) ≡ (plan_of kind.look.rules commands).shapes slot = sym (ap (option_map kind.look.shape) held) ∙ gone-planned slot in
        let n : kind.look.rules.count (kind.look.shape s) ≡ length (stream_of kind.look.rules commands slot) = ap (count_of kind.look.rules) shape ∙ run-counts lawful.rules commands slot in
        (n, lawful.weighs s (is slot s held).sound ∙ n)

    -- their extremes are those of their streams
    pub gone-extremes : HaveExtremes kind.look commands slots
    gone-extremes slot s held =
        rw (sym (ap (λ (f : ℕ → List A). f slot) (sym (left-out lawful word commands refused g.refused_are).streams))) ((is slot s held).least, (is slot s held).greatest)

    -- and the commands lead to them
    pub gone-executed : LeadTo kind word commands refused (sketch_at slots)
    gone-executed = (source, g.executed)

  -- sketches that are alike to the play of some commands rank as it does
  pub ranks-by : (commands : List (Command A C)) (word : List Bool) (slots : SlotMap S) → ArePlayed kind.look commands word slots → RankAsPlayed kind.look commands word slots
  ranks-by commands word slots played slot s held y criteria =
      let bag = (play kind.look.cmp (trace_of kind.look.rules commands) word start).slots slot in
      sym (rank-alike lawful.total y criteria bag (kind.look.bag s) (lawful.alike_levels bag (kind.look.bag s) (played slot s held)))

  -- if in every run the error is within the load, sketches that are alike to the play of the accepted commands are close to
  -- their streams
  pub close-by : (times : ℕ) → RunIsWithinLoad kind.look.rules times kind.look.cmp → (word : List Bool) (commands : List (Command A C)) (refused : List ℕ) → AreRefused kind word commands refused →
      (slots : SlotMap S) → ArePlayed kind.look (accepted_of refused commands) word slots → AreClose kind.look times commands slots
  close-by times within word commands refused are slots played slot s held y criteria =
      let fewer = accepted_of refused commands in
      let bag = (play kind.look.cmp (trace_of kind.look.rules fewer) word start).slots slot in
      let loads : load bag ≡ load (kind.look.bag s) = load-lengths 0 bag.levels (kind.look.bag s).levels (lawful.alike_lengths bag (kind.look.bag s) (played slot s held)) in
      rw (ranks-by fewer word slots played slot s held y criteria, sym loads, ap (λ (f : ℕ → List A). f slot) (left-out lawful word commands refused are).streams) (within y criteria fewer word slot)
