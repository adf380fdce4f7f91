-- Lines one after another: the run goes on by one, or ends where its answer can't be written. Each is answered by the sketches of a run of
-- the commands that were accepted before it.
use Rattle.std.proofs.lemmas.Grind.{common_steps}
use Rattle.std.proofs.Common.{◌≡◌, ℕ, ℤ, List, [], ◌∷◌, ◌++◌, length, refl, sym, ap, ◌∙◌, arith, Option, Some, None, IfSome, Result, Ok, Err, IsOk, IsErr, OnOk, subst, zero-add, replicate, Bool, OnErr}
use Rattle.std.specs.Io.BufRead.{drop_through}
use Rattle.std.specs.Io.KnownBytes.{Appends, IsAtEnd}
use Rattle.std.proofs.lemmas.List.{append_assoc, append-nil}
use Rattle.std.proofs.lemmas.Option.{IfSome_then, MatchOption-at_some}
use Rattle.quantile_sketches.specs.Behaviour.{Behaviour, coin_of_state}
use Rattle.quantile_sketches.specs.declared.answer.Answer.{Answer}
use Rattle.quantile_sketches.specs.declared.answer.Refusal.{Refusal}
use Rattle.quantile_sketches.specs.Answer.{answer_text}
use Rattle.quantile_sketches.specs.Command.{request_of}
use Rattle.sketch_base.specs.TextLines.{lines, TakesLine}
use Rattle.quantile_sketches.specs.Lines.{BeginsServing, Ends, Serves}
use Rattle.quantile_sketches.specs.Output.{Writes}
use Rattle.quantile_sketches.specs.Reader.{Grammar}
use Rattle.quantile_sketches.specs.LineSteps.{Answers, Reply, Slots, in_slot, reply_of, Makes, ReadsImage, CarriesOutItem}
use Rattle.quantile_sketches.specs.LineWords.{words, image_in}
use Rattle.sketch_base.proofs.lines.FirstLine.{lines-first}
use Rattle.quantile_sketches.proofs.writing.Answers.{all-out, writes-none, writes-on, writes-as}
use Rattle.std.specs.Prelude.{⊤}
use mathlib.Core.Path.{fun_ext}
use Rattle.sketch_base.specs.Random.{next_state}
use Rattle.sketch_base.specs.declared.error.ErrorKind.{ErrorKind}
use Rattle.quantile_sketches.specs.Refused.{AreExecuted}
use Rattle.quantile_sketches.specs.RunsBehindLines.{Known, run_after, AreOfRunKeeping, AnswersWhere}
use Rattle.quantile_sketches.specs.Calls.{ObeysRules}
use Rattle.quantile_sketches.specs.declared.commands.Command.{Command}
use Rattle.quantile_sketches.specs.declared.command.Request.{Request}
use Rattle.quantile_sketches.specs.declared.command.Request.TheVariants.{Run, Load}
use Rattle.quantile_sketches.specs.declared.table.TheConstants.{SLOTS}
use Rattle.quantile_sketches.specs.RuleLaws.{IsLawful}
use Rattle.quantile_sketches.specs.Rules.{Kind}
use Rattle.quantile_sketches.specs.RunSteps.{Sketches}
use Rattle.quantile_sketches.proofs.slots.Carried.{AreSoundIn, Comes, comes-item, left}
use Rattle.quantile_sketches.proofs.plans.LeftOut.{executed-more}
use Rattle.quantile_sketches.proofs.slots.Slots.{in_slot-none}
use Rattle.quantile_sketches.proofs.runs.Runs.{Standing, standing-none, standing-same, standing-more, standing-is}
use Rattle.quantile_sketches.specs.Served.{BeginsFamily, ServesFamily}

-- Lines one after another: how a run goes on by one, and how it ends.

module _ {S C : Type 0} (grammar : Grammar C) (behaviour : Behaviour S ℤ C) where
  -- these bytes are written for these lines, which lead to these slots and coins; what is written for more lines follows them
  abbrev pub Goes : List (Option S) → ℕ → List (List ℕ) → List ℕ → List (Option S) → ℕ → Type 0
  Goes slots coins front done slots' coins' =
      (more : List (List ℕ)) (out : List ℕ) → Serves grammar behaviour slots' coins' more out → Serves grammar behaviour slots coins (front ++ more) (done ++ out)

  goes-end : (slots : List (Option S)) (coins : ℕ) (front : List (List ℕ)) (done : List ℕ) (slots' : List (Option S)) (coins' : ℕ) →
      Goes slots coins front done slots' coins' → Serves grammar behaviour slots coins front done
  goes-end slots coins front done slots' coins' h = rw (append-nil done, append-nil front) at (h [] [] refl)

  goes-on : (slots : List (Option S)) (coins : ℕ) (front : List (List ℕ)) (done : List ℕ) (slots' : List (Option S)) (coins' : ℕ) (line : List ℕ) (r : Result Answer Refusal)
      (slots'' : List (Option S)) (coins'' : ℕ) →
      Goes slots coins front done slots' coins' → Answers behaviour (request_of grammar (words line)) slots' coins' r slots'' coins'' →
      Goes slots coins (front ++ (line ∷ [])) (done ++ (answer_text r ++ (10 ∷ []))) slots'' coins''
  goes-on slots coins front done slots' coins' line r slots'' coins'' h a more out k = grind (arith, common_steps, append_assoc)

  -- the first lines of a text call for some bytes, and lead to these sketches and coins
  pub record Reached (text : List ℕ) (left : Option (List ℕ)) (slots : List (Option S)) (coins : ℕ) (slots' : List (Option S)) (coins' : ℕ) (done : List ℕ) : Type 0 where
    pub front : List (List ℕ)
    pub rest : List ℕ
    pub left_is : left ≡ Some rest
    pub lines_are : lines text ≡ front ++ lines rest
    pub goes : Goes slots coins front done slots' coins'

  -- if the text was known, what was sent and what waits together are what is written for the lines read so far
  pub record Running {T E : Type 0} (r : Result T E) (text_at_first left contents_at_first contents : Option (List ℕ)) (waiting : List ℕ) (slots : List (Option S)) (coins : ℕ)
      (slots' : List (Option S)) (coins' : ℕ) : Type 0 where
    pub holds : IfSome text_at_first (λ text. (done : List ℕ) × Reached text left slots coins slots' coins' done × Writes r contents_at_first contents done waiting)

  -- nothing was read, and nothing waits
  pub running-start : {T E : Type 0} (r : Result T E) {t w : Option (List ℕ)} {waiting : List ℕ} {slots slots' : List (Option S)} {coins coins' : ℕ} →
      waiting ≡ [] → slots' ≡ slots → coins' ≡ coins → Running r t t w w waiting slots coins slots' coins'
  running-start {T} {E} r {t} {w} {waiting} {slots} {slots'} {coins} {coins'} nothing same_slots same_coins = record { holds = go t }
    where
      started : Goes slots coins [] [] slots' coins'
      started more out h = rw (← same_slots, ← same_coins) h

      go : (o : Option (List ℕ)) → IfSome o (λ text. (done : List ℕ) × Reached text o slots coins slots' coins' done × Writes r w w done waiting)
      go None = tt
      go (Some text) = ([], record { front = []; rest = text; left_is = refl; lines_are = refl; goes = started }, writes-none w r [] waiting (sym nothing))

  module _ {T E : Type 0} {r : Result T E} {t left w0 w : Option (List ℕ)} {waiting : List ℕ} {slots slots' : List (Option S)} {coins coins' : ℕ}
      (run : Running r t left w0 w waiting slots coins slots' coins') where
    -- what waits goes out, or some of it
    pub running-out : {T' E' : Type 0} {r' : Result T' E'} {w' : Option (List ℕ)} {waiting' : List ℕ} → IsOk r → Writes r' w w' waiting waiting' →
        Running r' t left w0 w' waiting' slots coins slots' coins'
    running-out ok out = record {
      holds = IfSome_then t run.holds (λ text held. (held.0, held.1, writes-on held.0 [] (sym (append-nil held.0)) held.2 ok (sym (append-nil waiting)) out));
    }

    -- the next line is answered, and its answer waits or is out
    pub running-line : {T' E' : Type 0} {r' : Result T' E'} {left' w' : Option (List ℕ)} {waiting' : List ℕ} {slots'' : List (Option S)} {coins'' : ℕ} (line : List ℕ) (a : Result Answer Refusal) →
        IsOk r → TakesLine left line left' →
        Answers behaviour (request_of grammar (words line)) slots' coins' a slots'' coins'' → Writes r' w w' (waiting ++ (answer_text a ++ (10 ∷ []))) waiting' →
        Running r' t left' w0 w' waiting' slots coins slots'' coins''
    running-line {left' = left'} {slots'' = slots''} {coins'' = coins''} line a ok taken answered out = record {
      holds = IfSome_then t run.holds (λ text held. (held.0 ++ more, step text held.0 held.1 (rw held.1.left_is at taken), writes-on (held.0 ++ more) more refl held.2 ok refl out));
    }
      where
        more : List ℕ
        more = answer_text a ++ (10 ∷ [])

        step : (text done : List ℕ) (reached : Reached text left slots coins slots' coins' done) → TakesLine (Some reached.rest) line left' →
            Reached text left' slots coins slots'' coins'' (done ++ more)
        step text done reached (some, is, dropped) = record {
          front = reached.front ++ (line ∷ []);
          rest = drop_through 10 reached.rest;
          left_is = dropped;
          lines_are = cc (lines-first reached.rest some, append_assoc reached.front (line ∷ []) (lines (drop_through 10 reached.rest)));
          goes = goes-on slots coins reached.front done slots' coins' line a slots'' coins'' reached.goes answered;
        }

    -- the input ends after all was written out
    pub ends-well : IsOk r → waiting ≡ [] → IsAtEnd left → IfSome t (λ text. (out : List ℕ) × Serves grammar behaviour slots coins (lines text) out × Appends w0 w out)
    ends-well ok nothing end = IfSome_then t run.holds (λ text held.
        let reached = held.1 in
        let all : lines text ≡ reached.front = reached.lines_are ∙ (ap (λ (xs : List ℕ). reached.front ++ lines xs) (rw reached.left_is at end) ∙ append-nil reached.front) in
        (held.0, rw all (goes-end slots coins reached.front held.0 slots' coins' reached.goes), all-out held.2 ok nothing))

    -- it fails, after a beginning of what is written
    pub ends-early : IfSome t (λ text. (sent : List ℕ) × BeginsServing grammar behaviour slots coins (lines text) sent × Appends w0 w sent)
    ends-early = IfSome_then t run.holds (λ text held.
        let reached = held.1 in
        (held.2.sent, (reached.front, lines reached.rest, reached.lines_are, held.2.left, rw held.2.parts at (goes-end slots coins reached.front held.0 slots' coins' reached.goes)), held.2.out))

    pub ends-broken : {E' : Type 0} (ended : Result Unit E') → IsErr ended → IfSome t (Ends grammar behaviour slots coins ended w0 w)
    ends-broken ended fails = grind (arith, common_steps, ends-early)

  -- the input ended, and what waits goes out or the output fails
  pub ends-flushed : {T E E' : Type 0} {r : Result T E} {t left w0 w w' : Option (List ℕ)} {waiting : List ℕ} {slots slots' : List (Option S)} {coins coins' : ℕ} →
      Running r t left w0 w waiting slots coins slots' coins' → IsOk r → (ended : Result Unit E') → Writes ended w w' waiting [] → IsAtEnd left →
      IfSome t (Ends grammar behaviour slots coins ended w0 w')
  ends-flushed run ok (Ok done) out end = ends-well (running-out run ok out) refl refl end
  ends-flushed run ok (Err e) out end = ends-broken (running-out run ok out) (Err e) refl

  -- however a run ends, a beginning of what is written is out
  pub begins-after : {E : Type 0} (slots : List (Option S)) (coins : ℕ) (left t w w' : Option (List ℕ)) (r : Result Unit E) → left ≡ t →
      IfSome left (Ends grammar behaviour slots coins r w w') →
      IfSome t (λ text. (sent : List ℕ) × BeginsServing grammar behaviour slots coins (lines text) sent × Appends w w' sent)
  begins-after slots coins left t w w' (Ok done) same h =
      rw (← same) (IfSome_then left h (λ text e. (e.0, (lines text, [], sym (append-nil (lines text)), [], rw (append-nil e.0) e.1), e.2)))
  begins-after slots coins left t w w' (Err e) same h = rw (← same) h

  -- at the end of the input all of it is
  pub serves-after : {E : Type 0} (slots : List (Option S)) (coins : ℕ) (left t w w' : Option (List ℕ)) (r : Result Unit E) → left ≡ t →
      IfSome left (Ends grammar behaviour slots coins r w w') →
      OnOk r (IfSome t (λ text. (out : List ℕ) × Serves grammar behaviour slots coins (lines text) out × Appends w w' out))
  serves-after slots coins left t w w' r same h = grind (arith, common_steps)

  -- the same from these sketches and coins
  pub ends-from : {E : Type 0} {slots slots' : List (Option S)} {coins coins' : ℕ} (t w w' : Option (List ℕ)) (r : Result Unit E) → slots' ≡ slots → coins' ≡ coins →
      IfSome t (Ends grammar behaviour slots' coins' r w w') → IfSome t (Ends grammar behaviour slots coins r w w')
  ends-from t w w' r same_slots same_coins h = rw (← same_slots, ← same_coins) h

-- A line is answered: the run goes on by it, or ends where its answer can't be written.

abbrev done : Result Unit Unit
done = Ok tt

module _ {S C : Type 0} (grammar : Grammar C) (behaviour : Behaviour S ℤ C) where
  -- a line is taken from what is left, and has this answer
  abbrev pub AnswersLine : Option (List ℕ) → Option (List ℕ) → List (Option S) → ℕ → List (Option S) → ℕ → Reply → Type 0
  AnswersLine left left' slots coins slots' coins' a = (line : List ℕ) × TakesLine left line left' × Answers behaviour (request_of grammar (words line)) slots coins a slots' coins'

  -- the answer that a line was found to have
  pub line-found : (left left' : Option (List ℕ)) (slots slots' : List (Option S)) (coins coins' : ℕ) (found : Option Reply) (a : Reply) → found ≡ Some a →
      IfSome found (AnswersLine left left' slots coins slots' coins') → AnswersLine left left' slots coins slots' coins' a
  line-found left left' slots slots' coins coins' found a is answered = MatchOption-at_some _ _ a is answered

  module _ {T E T' E' : Type 0} {r : Result T E} {r' : Result T' E'} {t left w0 w w' : Option (List ℕ)} {waiting waiting' : List ℕ}
      {slots slots' : List (Option S)} {coins coins' : ℕ} (left' : Option (List ℕ)) (slots'' : List (Option S)) (coins'' : ℕ) (a : Reply)
      (run : Running grammar behaviour r t left w0 w waiting slots coins slots' coins') (ok : IsOk r)
      (answered : AnswersLine left left' slots' coins' slots'' coins'' a) (out : Writes r' w w' (waiting ++ (answer_text a ++ (10 ∷ []))) waiting') where
    -- its answer waits or is out
    pub line-written : IsOk r' → Running grammar behaviour done t left' w0 w' waiting' slots coins slots'' coins''
    line-written well = running-line grammar behaviour run answered.0 a ok answered.1 answered.2 (writes-as done out well)

    -- the output fails
    pub line-unwritten : {E'' : Type 0} (ended : Result Unit E'') → IsErr ended → IfSome t (Ends grammar behaviour slots coins ended w0 w')
    line-unwritten ended fails = ends-broken grammar behaviour (running-line grammar behaviour run answered.0 a ok answered.1 answered.2 out) ended fails

-- Each line is answered by the sketches of a run of the commands that were accepted before it.

module _ {C Shape S : Type 0} (grammar : Grammar C) {kind : Kind ℤ C Shape S} (lawful : IsLawful kind) (behaviour : Behaviour S ℤ C)
    (obeys : ObeysRules behaviour kind coin_of_state next_state) (seed : ℕ) where
  -- the sketches and the coins are those of a run, and stand where its commands put them
  abbrev OfRun : Known C → Slots S → ℕ → Type 0
  OfRun None slots coins = ⊤
  OfRun (Some commands) slots coins = AreExecuted kind coin_of_state next_state [] 0 commands (λ slot. None) seed (in_slot slots) coins × Standing kind coin_of_state next_state seed commands (in_slot slots) coins

  -- if nothing changes, this still holds
  stays : (run : Known C) (slots : Slots S) (coins : ℕ) (slots' : Slots S) (coins' : ℕ) → slots' ≡ slots → coins' ≡ coins → OfRun run slots coins → OfRun run slots' coins'
  stays run slots coins slots' coins' e f h = subst (λ s. OfRun run s coins') (sym e) (subst (λ n. OfRun run slots n) (sym f) h)

  -- it holds after a command of runs, carried out or not
  carried : (run : Known C) (command : Command ℤ C) (slots : Slots S) (coins : ℕ) (v : Result Unit Refusal) (slots' : Slots S) (coins' : ℕ) →
      CarriesOutItem behaviour coin_of_state next_state command slots coins v slots' coins' → OfRun run slots coins → OfRun (run_after run (Some (Run command)) (reply_of v)) slots' coins'
  carried None command slots coins (Ok tt) slots' coins' h of = tt
  carried None command slots coins (Err e) slots' coins' h of = tt
  carried (Some commands) command slots coins v slots' coins' h (of, st) = go v (comes-item lawful behaviour coin_of_state next_state obeys slots slots' coins coins' sound command v h)
    where
      sound : AreSoundIn kind (in_slot slots)
      sound q s held = (standing-is lawful coin_of_state next_state seed commands (in_slot slots) coins st q s held).sound

      go : (v : Result Unit Refusal) → Comes kind coin_of_state next_state v command (in_slot slots) coins (in_slot slots') coins' → OfRun (run_after (Some commands) (Some (Run command)) (reply_of v)) slots' coins'
      go (Ok tt) done = (
        executed-more kind coin_of_state next_state [] 0 (length commands) commands (zero-add (length commands)) (λ slot. None) seed (in_slot slots) coins of command (in_slot slots') coins' done,
        standing-more lawful coin_of_state next_state seed commands (in_slot slots) coins st command (in_slot slots') coins' done,
      )
      go (Err e) done =
          let same = left kind coin_of_state next_state e command (in_slot slots) coins (in_slot slots') coins' done in (
            rw (fun_ext same.0, same.1) of,
            standing-same lawful coin_of_state next_state seed commands (in_slot slots) (in_slot slots') coins coins' st same.0 same.1,
          )

  loaded : (run : Known C) (slot : ℕ) (image : List (List ℕ)) (made : Result S ErrorKind → Type 0) (slots : Slots S) (coins : ℕ) (v : Result Unit Refusal) (slots' : Slots S) (coins' : ℕ) →
      Makes made slot slots v slots' → coins' ≡ coins → OfRun run slots coins → OfRun (run_after run (Some (Load slot image)) (reply_of v)) slots' coins'
  loaded run slot image made slots coins v slots' coins' h same of = grind (arith, common_steps, stays)

  answered : (run : Known C) (command : Option (Request C)) (slots : Slots S) (coins : ℕ) (r : Reply) (slots' : Slots S) (coins' : ℕ) →
      Answers behaviour command slots coins r slots' coins' → OfRun run slots coins → OfRun (run_after run command r) slots' coins'
  answered run None slots coins r slots' coins' h of = stays run slots coins slots' coins' h.1 h.2 of
  answered run (Some (Run command)) slots coins r slots' coins' (v, is, h) of = rw is (carried run command slots coins v slots' coins' h of)
  answered run (Some (Load slot image)) slots coins r slots' coins' (v, is, h, same) of =
      rw is (loaded run slot image (ReadsImage behaviour (image_in image)) slots coins v slots' coins' h same of)
  answered run (Some query) slots coins r slots' coins' h of = stays run slots coins slots' coins' h.1 h.2 of

  -- before each line that is answered, the sketches are those of a run, and keep every promise that the sketches of a run keep
  module _ (promise : List (Command ℤ C) → ℕ → S → Type 0)
      (keeps : (commands : List (Command ℤ C)) (slots : Sketches S) (coins : ℕ) → Standing kind coin_of_state next_state seed commands slots coins → (slot : ℕ) (s : S) → slots slot ≡ Some s → promise commands slot s) where
    of-run : (run : Known C) (slots : Slots S) (coins : ℕ) → OfRun run slots coins → AreOfRunKeeping kind promise seed run slots coins
    of-run None slots coins of = tt
    of-run (Some commands) slots coins of = (of.0, keeps commands (in_slot slots) coins of.1)

    answers-where : (run : Known C) (slots : Slots S) (coins : ℕ) (ls : List (List ℕ)) (out : List ℕ) → OfRun run slots coins → Serves grammar behaviour slots coins ls out →
        AnswersWhere grammar behaviour (AreOfRunKeeping kind promise seed) run slots coins ls out
    answers-where run slots coins [] out of e = (of-run run slots coins of, e)
    answers-where run slots coins (l ∷ ls) out of (r, slots', coins', rest, a, more, e) =
        let after = answered run (request_of grammar (words l)) slots coins r slots' coins' a of in
        (of-run run slots coins of, r, slots', coins', rest, a, answers-where (run_after run (request_of grammar (words l)) r) slots' coins' ls rest after more, e)

    -- from empty slots on
    pub answers-rest : (ls : List (List ℕ)) (out : List ℕ) → Serves grammar behaviour (replicate SLOTS None) seed ls out →
        AnswersWhere grammar behaviour (AreOfRunKeeping kind promise seed) (Some []) (replicate SLOTS None) seed ls out
    answers-rest ls out = answers-where (Some []) (replicate SLOTS None) seed ls out
        ((fun_ext (λ q. in_slot-none SLOTS q), refl), standing-none lawful coin_of_state next_state seed (in_slot (replicate SLOTS None)) (λ q. in_slot-none SLOTS q))

-- What is served for one family is served for the family that is asked for.

module _ {T E : Type 0} (r : Result T E) {asked : Bool} (is : Bool) (seed : ℕ) (t w w' : Option (List ℕ)) (same : asked ≡ is) where
  pub serves-asked : OnOk r (IfSome t (λ text. (out : List ℕ) × ServesFamily is seed text out × Appends w w' out)) →
      OnOk r (IfSome t (λ text. (out : List ℕ) × ServesFamily asked seed text out × Appends w w' out))
  serves-asked h = rw same h

  pub begins-asked : OnErr r (IfSome t (λ text. (out : List ℕ) × BeginsFamily is seed text out × Appends w w' out)) →
      OnErr r (IfSome t (λ text. (out : List ℕ) × BeginsFamily asked seed text out × Appends w w' out))
  begins-asked h = rw same h
