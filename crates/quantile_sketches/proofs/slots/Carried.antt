-- What comes of a command of runs on a table's slots is a step of a run.
use Rattle.std.proofs.Common.{arith, ◌≡◌, ◌≢◌, ◌⊎◌, ℕ, ◌==◌, Bool, true, false, not, Option, None, Some, is_some, is_ok, set, Result, Ok, Err, refl, sym, ap, ap₂, ◌∙◌, subst, inl, inr, eqb-true}
use Rattle.std.proofs.lemmas.Grind.{common_steps, get_or-set_at}
use Rattle.std.specs.Prelude.{IsTrue, MatchOption, ◌↔◌, ⊤}
use Rattle.std.proofs.lemmas.Bool.{eqb-false, false≢true}
use Rattle.std.proofs.lemmas.List.{get_or-set_other}
use Rattle.std.proofs.lemmas.Option.{get_or_from_slice_get, slice_get_within}
use Rattle.std.proofs.lemmas.Result.{on_ok_weaker}
use Rattle.std.specs.Cmp.{tied_itself}
use Rattle.std.specs.Option.{option_map, option_and_then}
use Rattle.std.specs.declared.cmp.Ordering.TheVariants.{Equal}
use Rattle.sketch_base.specs.Queries.{SameAnswer}
use Rattle.sketch_base.specs.Trace.{changed}
use Rattle.sketch_base.proofs.bags.Acts.{changed-own}
use Rattle.sketch_base.specs.declared.error.ErrorKind.{ErrorKind}
use Rattle.sketch_base.specs.declared.error.ErrorKind.TheVariants.{InvalidArgument, InvalidData, OutOfMemory}
use Rattle.quantile_sketches.specs.declared.answer.Refusal.{Refusal}
use Rattle.quantile_sketches.specs.Behaviour.{Behaviour, Change}
use Rattle.quantile_sketches.specs.Calls.{Obeys, ObeysRules}
use Rattle.quantile_sketches.specs.declared.answer.Refusal.TheVariants.{BadLine, AbsentSlot, Sketch}
use Rattle.quantile_sketches.specs.declared.commands.Command.{Command}
use Rattle.quantile_sketches.specs.declared.commands.Command.TheVariants.{New, Update, UpdateWeighted, Merge, Reset, RoundTrip, Redraw, MergeRedrawn}
use Rattle.quantile_sketches.specs.Outcome.{shapes_in}
use Rattle.quantile_sketches.specs.Plan.{shape_merged}
use Rattle.quantile_sketches.specs.RuleLaws.{IsLawful}
use Rattle.quantile_sketches.specs.Rules.{Kind}
use Rattle.quantile_sketches.specs.LineSteps.{Slots, in_slot, Holds, Turns, Changes, Cloned, Empties, RoundTrips, JoinsCopy, Merges, CarriesOut, CarriesOutItem, CarriesOutClone}
use Rattle.quantile_sketches.specs.RunSteps.{Sketches, Puts, AreSame, Refuses, IsPlainCopy, IsUpdated, IsWeighted, IsRedrawn, IsSketchMerged, IsMergedIn, IsDecided, IsDone, IsExecuted}
use Rattle.quantile_sketches.proofs.kll.Obeys.{no-err, same-err}

-- ---- slots

pub in_slot-held : {S : Type 0} (slots : Slots S) (slot : ℕ) (o : Option S) → Holds slots slot o → in_slot slots slot ≡ o
in_slot-held slots slot o h = get_or_from_slice_get slots slot o None h

in_slot-set : {S : Type 0} (slots : Slots S) (slot : ℕ) (o new : Option S) → Holds slots slot o → (q : ℕ) → in_slot (set slots slot new) q ≡ changed (in_slot slots) slot new q
in_slot-set slots slot o new h q = grind (arith, common_steps, get_or-set_at, eqb-true, slice_get_within, get_or-set_other, eqb-false)

-- a slot that is set to what it held doesn't change
in_slot-same : {S : Type 0} (slots slots' : Slots S) (slot : ℕ) (o new : Option S) → Holds slots slot o → new ≡ o → slots' ≡ set slots slot new → AreSame (in_slot slots) (in_slot slots')
in_slot-same slots slots' slot o new h same is q = cc (in_slot-set slots slot o new h q, in_slot-held slots slot o h, changed-own (in_slot slots) slot q)

-- a command is accepted if the rules give a shape
given : {X : Type 0} (o : Option X) (x : X) → o ≡ Some x → true ≡ not (not (is_some o))
given o x e = sym (ap (λ o. not (not (is_some o))) e)

not-given : {X : Type 0} (o : Option X) → o ≡ None → false ≡ not (not (is_some o))
not-given o e = sym (ap (λ o. not (not (is_some o))) e)

-- what must hold after an error, unless memory ran out
abbrev Unless : ErrorKind → Type 0 → Type 0
Unless InvalidArgument P = P
Unless InvalidData P = P
Unless OutOfMemory P = ⊤

unless-refused : {Shape : Type 0} {P : Type 0} (shape : Option Shape) (e : ErrorKind) → Refuses shape e → (shape ≡ None → P) → Unless e P
unless-refused shape e h2 f = grind (arith, common_steps)

-- each sketch in the slots keeps its invariant
abbrev pub AreSoundIn : {A C Shape S : Type 0} → Kind A C Shape S → Sketches S → Type 0
AreSoundIn {S = S} kind slots = (q : ℕ) (s : S) → slots q ≡ Some s → kind.IsSound s

-- ---- a command

module _ {A C Shape S Source : Type 0} (kind : Kind A C Shape S) (bit : Source → Bool) (next : Source → Source) where
  -- a verdict is that of a step: the command is accepted or refused, or memory runs out and nothing is changed
  abbrev pub Comes : Result Unit Refusal → Command A C → Sketches S → Source → Sketches S → Source → Type 0
  Comes (Ok done) command slots source slots' source' = IsExecuted kind bit next command slots source true slots' source'
  Comes (Err BadLine) command slots source slots' source' = IsExecuted kind bit next command slots source false slots' source'
  Comes (Err AbsentSlot) command slots source slots' source' = IsExecuted kind bit next command slots source false slots' source'
  Comes (Err (Sketch e)) command slots source slots' source' = Unless e (IsDecided kind command slots false) × AreSame slots slots' × (source' ≡ source)

  yes : (command : Command A C) (slots : Sketches S) (source : Source) (slots' : Sketches S) (source' : Source) → IsDecided kind command slots true → IsDone kind bit next command slots source slots' source' →
      IsExecuted kind bit next command slots source true slots' source'
  yes command slots source slots' source' d done = record { decided = d; done = λ t. done; left = λ f. absurd (false≢true (sym f)) }

  no : (command : Command A C) (slots : Sketches S) (source : Source) (slots' : Sketches S) (source' : Source) → IsDecided kind command slots false → AreSame slots slots' → source' ≡ source →
      IsExecuted kind bit next command slots source false slots' source'
  no command slots source slots' source' d same stays = record { decided = d; done = λ f. absurd (false≢true f); left = λ f. (same, stays) }

  -- a command that doesn't run out of memory is a step
  executed : (r : Result Unit Refusal) (command : Command A C) (slots : Sketches S) (source : Source) (slots' : Sketches S) (source' : Source) → r ≢ Err (Sketch OutOfMemory) →
      Comes r command slots source slots' source' → IsExecuted kind bit next command slots source (is_ok r) slots' source'
  executed r command slots source slots' source' n h = grind (arith, common_steps, no)

  -- a command that is not carried out changes nothing
  pub left : (e : _) (command : Command A C) (slots : Sketches S) (source : Source) (slots' : Sketches S) (source' : Source) →
      Comes (Err e) command slots source slots' source' → AreSame slots slots' × (source' ≡ source)
  left e command slots source slots' source' h = grind (arith, common_steps)

  module _ (command : Command A C) (slots slots' : Slots S) (source source' : Source) where
    -- what each outcome of a call on a slot's sketch means for the command
    record Turned (slot : ℕ) (turn : Change Source S) : Type 0 where
      absent : in_slot slots slot ≡ None → IsDecided kind command (in_slot slots) false
      done : (s t : S) → in_slot slots slot ≡ Some s → turn s source (Ok tt) t source' → Puts (in_slot slots) slot t (in_slot slots') →
          IsDecided kind command (in_slot slots) true × IsDone kind bit next command (in_slot slots) source (in_slot slots') source'
      refused : (s t : S) (e : ErrorKind) → in_slot slots slot ≡ Some s → turn s source (Err e) t source' →
          Unless e (IsDecided kind command (in_slot slots) false) × (t ≡ s) × (source' ≡ source)

    turned : (slot : ℕ) (turn : Change Source S) → Turned slot turn → (o new : Option S) (r : Result Unit Refusal) → Holds slots slot o → Turns turn o source r new source' → slots' ≡ set slots slot new →
        Comes r command (in_slot slots) source (in_slot slots') source'
    turned slot turn by None new r held (is, same, stays) set_is =
        rw is (no command (in_slot slots) source (in_slot slots') source' (by.absent (in_slot-held slots slot None held)) (in_slot-same slots slots' slot None new held same set_is) stays)
    turned slot turn by (Some s) new (Ok done) held (t, is, h) set_is =
        let puts : Puts (in_slot slots) slot t (in_slot slots') = λ q. ap (λ l. in_slot l q) set_is ∙ (in_slot-set slots slot (Some s) new held q ∙ ap (λ x. changed (in_slot slots) slot x q) is) in
        let d = by.done s t (in_slot-held slots slot (Some s) held) h puts in
        yes command (in_slot slots) source (in_slot slots') source' d.0 d.1
    turned slot turn by (Some s) new (Err (Sketch e)) held (t, is, h) set_is =
        let d = by.refused s t e (in_slot-held slots slot (Some s) held) h in
        (d.0, in_slot-same slots slots' slot (Some s) new held (is ∙ ap Some d.1) set_is, d.2)
    turned slot turn by (Some s) new r held h set_is = absurd h

-- ---- each command

module _ {A C Shape S Source : Type 0} {kind : Kind A C Shape S} (lawful : IsLawful kind) (behaviour : Behaviour S A C) (bit : Source → Bool) (next : Source → Source)
    (obeys : ObeysRules behaviour kind bit next) where
  -- a sketch took an item that compares equal to the given one
  abbrev Took : A → S → Source → S → Source → Type 0
  Took x s source t source' = (y : A) × (kind.look.cmp x y ≡ Equal) × IsUpdated kind bit next s y source t source'

  abbrev TookWeighted : A → ℕ → S → Source → S → Source → Type 0
  TookWeighted x weight s source t source' = (y : A) × (kind.look.cmp x y ≡ Equal) × IsWeighted kind bit next s y weight source t source'

  item-obeys : (x : A) (shape : Option Shape) (does : A → S → Source → Type 0) → (s : S) (source : Source) (r : Result Unit ErrorKind) (t : S) (source' : Source) →
      Obeys shape (does x) s source r t source' →
      Obeys shape (λ t source'. (y : A) × (kind.look.cmp x y ≡ Equal) × does y t source') s source r t source'
  item-obeys x shape does s source r t source' h = (on_ok_weaker r (λ d. (x, tied_itself lawful.total x, d)) h.0, h.1, h.2)

  clone-obeys : (IsClone : A → Type 0) (x : A) → ((y : A) → IsClone y → kind.look.cmp x y ≡ Equal) → (behave : A → Change Source S) (shape : Option Shape) (does : A → S → Source → Type 0) →
      (s : S) (source : Source) (r : Result Unit ErrorKind) (t : S) (source' : Source) → ((y : A) → behave y s source r t source' → Obeys shape (does y) s source r t source') →
      Cloned IsClone behave s source r t source' →
      Obeys shape (λ t source'. (y : A) × (kind.look.cmp x y ≡ Equal) × does y t source') s source r t source'
  clone-obeys IsClone x ties behave shape does s source r t source' f (inl (y, is, h)) = let o = f y h in (on_ok_weaker r (λ d. (y, ties y is, d)) o.0, o.1, o.2)
  clone-obeys IsClone x ties behave shape does s source r t source' f (inr all) = item-obeys x shape does s source r t source' (f x (all x))

  -- a sketch is a copy of itself
  same-answer : (o : Option A) → SameAnswer kind.look.cmp o o
  same-answer o = grind (arith, common_steps)

  copied-itself : (s : S) → kind.IsSound s → IsPlainCopy kind s s
  copied-itself s sound = grind (arith, common_steps, same-answer)

  module _ (slots slots' : Slots S) (source source' : Source) (sound : AreSoundIn kind (in_slot slots)) where
    abbrev Goes : Result Unit Refusal → Command A C → Type 0
    Goes r command = Comes kind bit next r command (in_slot slots) source (in_slot slots') source'

    comes-new : (slot : ℕ) (config : C) (r : Result Unit Refusal) → CarriesOut behaviour bit next (λ x s coins r t coins'. ⊥) (λ x weight s coins r t coins'. ⊥) (New slot config) slots source
        r slots' source' → Goes r (New slot config)
    comes-new slot config (Ok tt) ((s, o, held, made, is), stays) =
        let fresh = (obeys.made config (Ok s) made).0 in
        yes kind bit next (New slot config) (in_slot slots) source (in_slot slots') source' (given _ (kind.look.shape s) fresh.shape_is)
        (record { made = s; fresh = fresh; puts = λ q. ap (λ l. in_slot l q) is ∙ in_slot-set slots slot o (Some s) held q }, stays)
    comes-new slot config (Err (Sketch e)) ((made, is), stays) = (unless-refused _ e (obeys.made config (Err e) made).1 (λ none. not-given _ none), (λ q. ap (λ l. in_slot l q) is), stays)
    comes-new slot config r h = absurd h.0

    -- one slot turns
    changes : (command : Command A C) (slot : ℕ) (turn : Change Source S) → Turned kind bit next command slots slots' source source' slot turn → (r : Result Unit Refusal) →
        Changes (Turns turn) slot slots source r slots' source' → Goes r command
    changes command slot turn by r (o, new, held, turns, is) = turned kind bit next command slots slots' source source' slot turn by o new r held turns is

    -- a command that the rules decide by the shape of its slot's sketch
    ruled : (command : Command A C) (slot : ℕ) (gives : Shape → Option Shape) →
        ((accepted : Bool) → accepted ≡ not (not (is_some (option_and_then gives (option_map kind.look.shape (in_slot slots slot))))) → IsDecided kind command (in_slot slots) accepted) →
        (turn : Change Source S) (does : S → S → Type 0) →
        ((s t : S) (r : Result Unit ErrorKind) → kind.IsSound s → turn s source r t source' → Obeys (gives (kind.look.shape s)) (λ t source'. does s t) s source r t source') →
        ((s t : S) → does s t → gives (kind.look.shape s) ≡ Some (kind.look.shape t)) →
        ((s t : S) → in_slot slots slot ≡ Some s → does s t → Puts (in_slot slots) slot t (in_slot slots') → IsDone kind bit next command (in_slot slots) source (in_slot slots') source') →
        (r : Result Unit Refusal) → Changes (Turns turn) slot slots source r slots' source' → Goes r command
    ruled command slot gives decide turn does follows shape done = changes command slot turn (record {
      absent = λ h. decide false (not-given _ (by h));
      done = λ s t held h puts.
          let d = (follows s t (Ok tt) (sound slot s held) h).0 in (decide true (given _ (kind.look.shape t) (by held ∙ shape s t d)), done s t held d puts);
      refused = λ s t e held h.
          let o = follows s t (Err e) (sound slot s held) h in (unless-refused _ e o.1 (λ none. decide false (not-given _ (by held ∙ none))), o.2.0, o.2.1);
    })
      where
        by : {o : Option S} → in_slot slots slot ≡ o → option_and_then gives (option_map kind.look.shape (in_slot slots slot)) ≡ option_and_then gives (option_map kind.look.shape o)
        by h = ap (λ o. option_and_then gives (option_map kind.look.shape o)) h

    -- a round trip
    trip-decided : (slot : ℕ) (accepted : Bool) (s : S) → in_slot slots slot ≡ Some s → IsTrue accepted ↔ kind.HasImage s → IsDecided kind (RoundTrip slot) (in_slot slots) accepted
    trip-decided slot accepted s held h = subst (λ o. MatchOption o (accepted ≡ false) (λ s. IsTrue accepted ↔ kind.HasImage s)) (sym held) h

    comes-trip : (slot : ℕ) (r : Result Unit Refusal) → Changes (Turns (RoundTrips behaviour)) slot slots source r slots' source' → Goes r (RoundTrip slot)
    comes-trip slot = changes (RoundTrip slot) slot (RoundTrips behaviour) (record {
      absent = λ h. subst (λ o. MatchOption o (false ≡ false) (λ s. IsTrue false ↔ kind.HasImage s)) (sym h) refl;
      done = done;
      refused = refused;
    })
      where
        done : (s t : S) → in_slot slots slot ≡ Some s → RoundTrips behaviour s source (Ok tt) t source' → Puts (in_slot slots) slot t (in_slot slots') →
            IsDecided kind (RoundTrip slot) (in_slot slots) true × IsDone kind bit next (RoundTrip slot) (in_slot slots) source (in_slot slots') source'
        done s t held (inl (bytes, written, read), stays) puts = (
          trip-decided slot true s held (λ y. (obeys.imaged s (Ok bytes) (sound slot s held) written).0, λ has. refl),
          (record { old = s; made = t; held = held; copied = (obeys.read_back s bytes (Ok t) written read).0; puts = puts }, stays),
        )
        done s t held (inr (e, written, is, same), stays) puts = absurd (no-err tt e is)

        unwritten : (s : S) (e : ErrorKind) → in_slot slots slot ≡ Some s → ((e ≡ InvalidArgument) × (¬ kind.HasImage s)) ⊎ (e ≡ OutOfMemory) →
            Unless e (IsDecided kind (RoundTrip slot) (in_slot slots) false)
        unwritten s e held h3 = grind (arith, common_steps, trip-decided, false≢true)

        refused : (s t : S) (e : ErrorKind) → in_slot slots slot ≡ Some s → RoundTrips behaviour s source (Err e) t source' →
            Unless e (IsDecided kind (RoundTrip slot) (in_slot slots) false) × (t ≡ s) × (source' ≡ source)
        refused s t e held (inl (bytes, written, (read, same)), stays) = ((rw (obeys.read_back s bytes (Err e) written read).1 tt), same, stays)
        refused s t e held (inr (f, written, is, same), stays) = (unwritten s e held (rw (same-err e f _ refl is) (obeys.imaged s (Err f) (sound slot s held) written).1), same, stays)

    -- a merge with coins redrawn or not, for the command that asks for it
    module _ (redraws : Bool) (into from : ℕ) (command : Command A C)
        (decide : (accepted : Bool) → accepted ≡ not (not (is_some (shape_merged kind.look.rules redraws (shapes_in kind.look.shape (in_slot slots)) into from))) →
        IsDecided kind command (in_slot slots) accepted)
        (does : IsMergedIn kind bit next redraws into from (in_slot slots) source (in_slot slots') source' → IsDone kind bit next command (in_slot slots) source (in_slot slots') source') where
      abbrev merged-by : Option S → Option S → Option Shape
      merged-by x y = option_and_then (λ shape. option_and_then (kind.look.rules.merged redraws shape) (option_map kind.look.shape y)) (option_map kind.look.shape x)

      merged-at : (s p : S) → in_slot slots into ≡ Some s → in_slot slots from ≡ Some p → merged-by (in_slot slots into) (in_slot slots from) ≡ kind.look.rules.merged redraws (kind.look.shape s) (kind.look.shape p)
      merged-at s p held its = ap₂ merged-by held its

      merged-none : (x : Option S) → merged-by x None ≡ None
      merged-none x = grind (arith, common_steps)

      merge-absent : in_slot slots into ≡ None → IsDecided kind command (in_slot slots) false
      merge-absent h = decide false (not-given _ (ap (λ x. merged-by x (in_slot slots from)) h))

      -- a sketch takes in another that is in a slot, or a copy of it
      takes-in : (s p copy t : S) → in_slot slots into ≡ Some s → in_slot slots from ≡ Some p → IsPlainCopy kind p copy → IsSketchMerged kind bit next redraws s copy source t source' →
          kind.IsSound t → Puts (in_slot slots) into t (in_slot slots') →
          IsDecided kind command (in_slot slots) true × IsDone kind bit next command (in_slot slots) source (in_slot slots') source'
      takes-in s p copy t held its copied merged sound puts = (
        decide true (given _ (kind.look.shape t) (merged-at s p held its ∙ (ap (kind.look.rules.merged redraws (kind.look.shape s)) (sym copied.shape_is) ∙ merged.shape_is))),
        does (record { old = s; other = p; copy = copy; made = t; held = held; held_other = its; copied = copied; merged = merged; sound = sound; puts = puts }),
      )

      refuses-it : (s p : S) → in_slot slots into ≡ Some s → in_slot slots from ≡ Some p → kind.look.rules.merged redraws (kind.look.shape s) (kind.look.shape p) ≡ None → IsDecided kind command (in_slot slots) false
      refuses-it s p held its none = decide false (not-given _ (merged-at s p held its ∙ none))

      merge-copy : into ≡ from → Turned kind bit next command slots slots' source source' into (JoinsCopy behaviour bit next redraws)
      merge-copy same = record { absent = merge-absent; done = done; refused = refused }
        where
          also : {s : S} → in_slot slots into ≡ Some s → in_slot slots from ≡ Some s
          also held = ap (in_slot slots) (sym same) ∙ held

          done : (s t : S) → in_slot slots into ≡ Some s → JoinsCopy behaviour bit next redraws s source (Ok tt) t source' → Puts (in_slot slots) into t (in_slot slots') →
              IsDecided kind command (in_slot slots) true × IsDone kind bit next command (in_slot slots) source (in_slot slots') source'
          done s t held (inl (refuses, is, kept, stays)) puts = absurd (no-err tt InvalidArgument is)
          done s t held (inr (fits, inl (p, copied, joined))) puts =
              let copy = (obeys.copied s (Ok p) copied).0 in
              let merged = (obeys.joined redraws p copy.sound s source (Ok tt) t source' (sound into s held) joined).0 in
              takes-in s s p t held (also held) copy merged.0 merged.1 puts
          done s t held (inr (fits, inr (e, copied, is, kept, stays))) puts = absurd (no-err tt e is)

          refused : (s t : S) (e : ErrorKind) → in_slot slots into ≡ Some s → JoinsCopy behaviour bit next redraws s source (Err e) t source' →
              Unless e (IsDecided kind command (in_slot slots) false) × (t ≡ s) × (source' ≡ source)
          refused s t e held (inl (refuses, is, kept, stays)) = (
            subst (λ e. Unless e (IsDecided kind command (in_slot slots) false)) (sym (same-err e InvalidArgument _ refl is))
                (refuses-it s s held (also held) ((obeys.refuses redraws s s true (sound into s held) (sound into s held) refuses).0 refl)),
            kept,
            stays,
          )
          refused s t e held (inr (fits, inl (p, copied, joined))) =
              let copy = (obeys.copied s (Ok p) copied).0 in
              let r = obeys.joined redraws p copy.sound s source (Err e) t source' (sound into s held) joined in
              (unless-refused _ e r.1 (λ none. refuses-it s s held (also held) (ap (kind.look.rules.merged redraws (kind.look.shape s)) (sym copy.shape_is) ∙ none)), r.2.0, r.2.1)
          refused s t e held (inr (fits, inr (f, copied, is, kept, stays))) = ((rw (same-err e f _ refl is ∙ (obeys.copied s (Err f) copied).1) tt), kept, stays)

      merge-other : (p : S) → in_slot slots from ≡ Some p → Turned kind bit next command slots slots' source source' into (behaviour.joined redraws p Source bit next)
      merge-other p its = record {
        absent = merge-absent;
        done = λ s t held h puts.
            let merged = (obeys.joined redraws p (sound from p its) s source (Ok tt) t source' (sound into s held) h).0 in
            takes-in s p p t held its (copied-itself p (sound from p its)) merged.0 merged.1 puts;
        refused = λ s t e held h.
            let r = obeys.joined redraws p (sound from p its) s source (Err e) t source' (sound into s held) h in
            (unless-refused _ e r.1 (refuses-it s p held its), r.2.0, r.2.1);
      }

      comes-merge : (b : Bool) → (into == from) ≡ b → (r : Result Unit Refusal) → Merges behaviour bit next redraws b into from slots source r slots' source' → Goes r command
      comes-merge true e r h = changes command into (JoinsCopy behaviour bit next redraws) (merge-copy (eqb-true into from e)) r h
      comes-merge false e r (None, its, (o, new, held, (is, same, stays), set_is)) = rw is (no kind bit next command (in_slot slots) source (in_slot slots') source'
          (decide false (not-given _ (ap (λ y. merged-by (in_slot slots into) y) (in_slot-held slots from None its) ∙ merged-none _)))
          (in_slot-same slots slots' into o new held same set_is) stays)
      comes-merge false e r (Some p, its, (o, new, held, turns, set_is)) =
          turned kind bit next command slots slots' source source' into (behaviour.joined redraws p Source bit next) (merge-other p (in_slot-held slots from (Some p) its)) o new r held turns set_is

    -- any command, by how its item is taken
    comes : (taken : A → Change Source S) (weighted : A → ℕ → Change Source S) →
        ((x : A) (s t : S) (r : Result Unit ErrorKind) → kind.IsSound s → taken x s source r t source' → Obeys (kind.look.rules.updated (kind.look.shape s)) (Took x s source) s source r t source') →
        ((x : A) (weight : ℕ) (s t : S) (r : Result Unit ErrorKind) → kind.IsSound s → weighted x weight s source r t source' →
        Obeys (kind.look.rules.updated_weighted (kind.look.shape s) weight) (TookWeighted x weight s source) s source r t source') →
        (command : Command A C) (r : Result Unit Refusal) → CarriesOut behaviour bit next taken weighted command slots source r slots' source' → Goes r command
    comes taken weighted f g (New slot config) r h = comes-new slot config r h
    comes taken weighted f g (Update slot x) r h = ruled (Update slot x) slot kind.look.rules.updated (λ accepted e. e) (taken x) (λ s t. Took x s source t source') (f x)
        (λ s t d. d.2.0.shape_is) (λ s t held d puts. record { old = s; taken = d.0; made = t; held = held; ties = d.1; after = d.2; puts = puts }) r h
    comes taken weighted f g (UpdateWeighted slot x weight) r h =
        ruled (UpdateWeighted slot x weight) slot (λ shape. kind.look.rules.updated_weighted shape weight) (λ accepted e. e) (weighted x weight) (λ s t. TookWeighted x weight s source t source')
        (g x weight) (λ s t d. d.2.0.shape_is) (λ s t held d puts. record { old = s; taken = d.0; made = t; held = held; ties = d.1; after = d.2; puts = puts }) r h
    comes taken weighted f g (Merge into from) r h = comes-merge false into from (Merge into from) (λ accepted e. e) (λ m. m) (into == from) refl r h
    comes taken weighted f g (Reset slot) r h = changes (Reset slot) slot (Empties behaviour) (record {
      absent = λ h. not-given _ (ap (λ o. option_map kind.look.rules.emptied (option_map kind.look.shape o)) h);
      done = λ s t held h puts. (
        given _ (kind.look.rules.emptied (kind.look.shape s)) (ap (λ o. option_map kind.look.rules.emptied (option_map kind.look.shape o)) held),
        (record { old = s; held = held; made = record { made = t; fresh = obeys.emptied s t h.1; puts = puts } }, h.2),
      );
      refused = λ s t e held h. absurd (no-err tt e (sym h.0));
    }) r h
    comes taken weighted f g (RoundTrip slot) r h = comes-trip slot r h
    comes taken weighted f g (Redraw slot) r h =
        ruled (Redraw slot) slot kind.look.rules.redrawn (λ accepted e. e) (behaviour.redrawn Source bit next) (λ s t. IsRedrawn kind bit next s source t source')
        (λ s t r was h. obeys.redrawn s source r t source' was h) (λ s t d. d.0.shape_is) (λ s t held d puts. record { old = s; made = t; held = held; after = d; puts = puts }) r h
    comes taken weighted f g (MergeRedrawn into from) r h = comes-merge true into from (MergeRedrawn into from) (λ accepted e. e) (λ m. m) (into == from) refl r h

    comes-clone : (IsClone : A → A → Type 0) → ((x y : A) → IsClone x y → kind.look.cmp x y ≡ Equal) → (command : Command A C) (r : Result Unit Refusal) →
        CarriesOutClone behaviour bit next IsClone command slots source r slots' source' → Goes r command
    comes-clone IsClone ties =
        comes (λ x. Cloned (IsClone x) (λ y. behaviour.taken y Source bit next)) (λ x weight. Cloned (IsClone x) (λ y. behaviour.taken_weighted y weight Source bit next))
        (λ x s t r was. clone-obeys (IsClone x) x (ties x) (λ y. behaviour.taken y Source bit next) (kind.look.rules.updated (kind.look.shape s)) (λ y. IsUpdated kind bit next s y source) s
        source r t source' (λ y. obeys.taken y s source r t source' was))
        (λ x weight s t r was. clone-obeys (IsClone x) x (ties x) (λ y. behaviour.taken_weighted y weight Source bit next) (kind.look.rules.updated_weighted (kind.look.shape s) weight)
        (λ y. IsWeighted kind bit next s y weight source) s source r t source' (λ y. obeys.taken_weighted y weight s source r t source' was))

    -- a command whose items are cloned is a step
    pub clone-executed : (IsClone : A → A → Type 0) → ((x y : A) → IsClone x y → kind.look.cmp x y ≡ Equal) → (command : Command A C) (r : Result Unit Refusal) →
        CarriesOutClone behaviour bit next IsClone command slots source r slots' source' → r ≢ Err (Sketch OutOfMemory) →
        IsExecuted kind bit next command (in_slot slots) source (is_ok r) (in_slot slots') source'
    clone-executed IsClone ties command r h n = executed kind bit next r command (in_slot slots) source (in_slot slots') source' n (comes-clone IsClone ties command r h)

    -- a command whose sketch takes the item itself is a step
    pub comes-item : (command : Command A C) (r : Result Unit Refusal) → CarriesOutItem behaviour bit next command slots source r slots' source' → Goes r command
    comes-item = comes (λ x. behaviour.taken x Source bit next) (λ x weight. behaviour.taken_weighted x weight Source bit next)
        (λ x s t r was h. item-obeys x (kind.look.rules.updated (kind.look.shape s)) (λ y. IsUpdated kind bit next s y source) s source r t source' (obeys.taken x s source r t source' was h))
        (λ x weight s t r was h. item-obeys x (kind.look.rules.updated_weighted (kind.look.shape s) weight) (λ y. IsWeighted kind bit next s y weight source) s source r t source'
        (obeys.taken_weighted x weight s source r t source' was h))
