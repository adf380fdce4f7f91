-- The sketches behind the answers to lines summarize what is told of them, also after images were loaded.
use Rattle.std.proofs.lemmas.Grind.{common_steps, get_or-set_at}
use Rattle.std.proofs.Common.{◌≡◌, ℕ, ℤ, ◌==◌, Bool, true, false, if◌then◌else◌, List, [], ◌∷◌, replicate, set, Option, None, Some, Ok, Err, is_ok, is_some, refl, sym, ap, ◌∙◌, subst, inl, inr, eqb-true, arith, Ordering, Result}
use Rattle.std.specs.Cmp.{IsTotalOrder}
use Rattle.std.specs.Option.{option_and_then, option_map}
use Rattle.std.specs.Ordering.{int_cmp}
use Rattle.std.specs.Prelude.{drop, slice_get, unwrap_or}
use Rattle.std.specs.Result.{result_ok}
use Rattle.std.proofs.lemmas.Bool.{eqb-false, false≢true}
use Rattle.std.proofs.lemmas.Cmp.{int_cmp_total}
use Rattle.std.proofs.lemmas.List.{get_or-set_other}
use Rattle.std.proofs.lemmas.Option.{slice_get_within}
use Rattle.hex.proofs.HexLemmas.{decode_of-encode_lower}
use Rattle.sketch_base.specs.Random.{bits_from, next_state}
use Rattle.sketch_base.specs.Spelling.{i64_spelling}
use Rattle.sketch_base.specs.Trace.{changed}
use Rattle.sketch_base.proofs.bags.Acts.{changed-itself}
use Rattle.sketch_base.specs.declared.error.ErrorKind.{ErrorKind}
use Rattle.sketch_base.specs.declared.error.ErrorKind.TheVariants.{InvalidArgument}
use Rattle.sketch_req.specs.Image.{BeginsImage}
use Rattle.sketch_req.specs.ImageLaws.{OneSketch, without_coins}
use Rattle.sketch_req.specs.Merged.{coins_of_merge_by}
use Rattle.sketch_req.specs.Redrawn.{coins_of_redraw}
use Rattle.sketch_req.specs.Sketch.{Req, IsSound, coins_of_update}
use Rattle.sketch_req.specs.declared.RankAccuracy.{RankAccuracy}
use Rattle.quantile_sketches.specs.declared.answer.Refusal.{Refusal}
use Rattle.quantile_sketches.specs.Behaviour.{Change, coin_of_state}
use Rattle.quantile_sketches.specs.Command.{request_of}
use Rattle.quantile_sketches.specs.declared.answer.Refusal.TheVariants.{BadLine, AbsentSlot, Sketch}
use Rattle.quantile_sketches.specs.declared.commands.Command.{Command}
use Rattle.quantile_sketches.specs.declared.commands.Command.TheVariants.{New, Update, UpdateWeighted, Merge, Reset, RoundTrip, Redraw, MergeRedrawn}
use Rattle.quantile_sketches.specs.declared.command.Request.{Request}
use Rattle.quantile_sketches.specs.declared.command.Request.TheVariants.{Run, Load}
use Rattle.quantile_sketches.specs.declared.table.TheConstants.{SLOTS}
use Rattle.quantile_sketches.specs.Lines.{Serves}
use Rattle.quantile_sketches.specs.LineSteps.{Slots, in_slot, Holds, Reply, reply_of, Turns, Changes, Empties, RoundTrips, JoinsCopy, Merges, CarriesOutItem, Makes, ReadsImage, Answers}
use Rattle.quantile_sketches.specs.HexText.{hex_of}
use Rattle.quantile_sketches.specs.LineWords.{words, image_in}
use Rattle.quantile_sketches.specs.Reader.{Grammar}
use Rattle.quantile_sketches.specs.ReqBehaviour.{req, IsEmptyOf, IsMade, TakesIn, TakesNone, DrawsAnew, JoinsIn}
use Rattle.sketch_req.specs.Summaries.{Summarizes}
use Rattle.quantile_sketches.specs.SummariesBehindLines.{Told, IsAsTold, Origins, AreTrue, ShownAreTrue, told_more, told_joined, told_both, told_empty, told_after_command, told_after, AreAsTold, AnswersAsTold}
use Rattle.quantile_sketches.proofs.slots.Carried.{in_slot-held}
use Rattle.quantile_sketches.proofs.kll.Obeys.{no-err}
use Rattle.quantile_sketches.proofs.slots.Slots.{in_slot-none}
use Rattle.sketch_req.proofs.merges.Merges.{same-accuracy}
use Rattle.sketch_req.proofs.tails.Summaries.{empty-summarizes, update-summarizes, merge-summarizes, redrawn-summarizes, copy-summarizes, forgotten-summarizes}

module _ {A Source : Type 0} {cmp : A → A → Ordering} (order : IsTotalOrder cmp) (spelling : A → Option (List ℕ)) (one : OneSketch cmp spelling)
    (bit : Source → Bool) (next : Source → Source) where
  -- a sketch is sound and as told
  record IsGood (told : Option (Told A)) (s : Req A) : Type 0 where
    sound : IsSound cmp s
    as_told : IsAsTold cmp told s

  abbrev AreGood : (ℕ → Option (Told A)) → Slots (Req A) → Type 0
  AreGood told slots = (slot : ℕ) (s : Req A) → in_slot slots slot ≡ Some s → IsGood (told slot) s

  -- what follows of a sketch that something is told of holds of all
  good-if : (told : Option (Told A)) (f : Told A → Told A) (s t : Req A) → IsSound cmp t → IsGood told s →
      ((w : Told A) → s.k ≡ w.k → Summarizes cmp s w.stream w.tail → IsAsTold cmp (Some (f w)) t) → IsGood (option_map f told) t
  good-if told f s t sound good by = grind (arith, common_steps)

  good-same : (told : Option (Told A)) (s t : Req A) → IsSound cmp t → IsGood told s → t.k ≡ s.k →
      ((stream : List A) (tail : ℕ) → Summarizes cmp s stream tail → Summarizes cmp t stream tail) → IsGood told t
  good-same None s t sound good k by = record { sound = sound; as_told = tt }
  good-same (Some w) s t sound good k by = record { sound = sound; as_told = (k ∙ good.as_told.0, by w.stream w.tail good.as_told.1) }

  -- ---- calls

  is-empty : (k : ℕ) (accuracy : RankAccuracy) (s : Req A) → IsEmptyOf cmp spelling k accuracy s → Summarizes cmp s [] k
  is-empty k accuracy s is = grind (arith, common_steps, empty-summarizes)

  taken : (told : Option (Told A)) (x : A) (s t : Req A) (coins coins' : Source) → IsGood told s → TakesIn cmp spelling bit next s x coins (Ok tt) t coins' → IsGood (option_map (told_more x) told) t
  taken told x s t coins coins' good h =
      good-if told (told_more x) s t h.4 good (λ w k is. (h.2.k ∙ k, update-summarizes order s t x (bits_from bit next coins (coins_of_update s x)) w.stream w.tail good.sound is h.2))

  read : (told : Option (Told A)) (s t : Req A) (bytes : List ℕ) (rest others : List ℕ) → IsSound cmp t → IsGood told s → BeginsImage cmp spelling bytes (without_coins s) rest →
      BeginsImage cmp spelling bytes t others → IsGood told t
  read told s t bytes rest others sound good i j =
      let same = (one bytes (without_coins s) t rest others i j).0 in
      good-same told s t sound good same.k (λ stream tail is. copy-summarizes order (without_coins s) t stream tail same (forgotten-summarizes order s stream tail is))

  joined : (redraws : Bool) (told other : Option (Told A)) (p s t : Req A) (coins coins' : Source) → IsGood told s → IsGood other p →
      JoinsIn cmp spelling bit next redraws p s coins (Ok tt) t coins' → IsGood (told_both told other) t
  joined redraws None other p s t coins coins' good good' h = record { sound = h.5; as_told = tt }
  joined redraws (Some w) None p s t coins coins' good good' h = record { sound = h.5; as_told = tt }
  joined redraws (Some w) (Some v) p s t coins coins' good good' h = record { sound = h.5; as_told = go v.stream good'.as_told.1 }
    where
      same : s.accuracy ≡ p.accuracy
      same = same-accuracy s.accuracy p.accuracy (λ differ. no-err tt InvalidArgument (h.0.1 (inl differ)))

      go : (more : List A) → Summarizes cmp p more v.tail → IsAsTold cmp (Some (told_joined w more v.tail)) t
      go [] is = subst (λ (x : Req A). IsAsTold cmp (Some w) x) (sym ((h.2 same is.length_is).1)) good.as_told
      go (x ∷ more) is =
          let m = h.3 (omega (arith, is.length_is)) in
          (m.k ∙ good.as_told.0, merge-summarizes order redraws s p t (bits_from bit next coins (coins_of_merge_by redraws s p)) w.stream (x ∷ more) w.tail v.tail good.sound same good.as_told.1 is m)

  -- ---- slots

  some-same : (s t : Req A) → Some s ≡ Some t → s ≡ t
  some-same s t e = ap (λ (o : Option (Req A)). elim o as (λ x. Req A) [ None ↦ s | Some x ↦ x ]) e

  -- one slot changes
  put : (told : ℕ → Option (Told A)) (slots slots' : Slots (Req A)) (slot : ℕ) (o new : Option (Req A)) (v : Option (Told A)) → Holds slots slot o → slots' ≡ set slots slot new →
      AreGood told slots → ((t : Req A) → new ≡ Some t → IsGood v t) → AreGood (changed told slot v) slots'
  put told slots slots' slot o new v held is good here q t e = go (q == slot) refl
    where
      at : in_slot (set slots slot new) q ≡ Some t
      at = subst (λ (l : Slots (Req A)). in_slot l q ≡ Some t) is e

      go : (b : Bool) → (q == slot) ≡ b → IsGood (if b then v else told q) t
      go true f = here t (sym (get_or-set_at slots slot q new None (eqb-true q slot f) (slice_get_within slots slot o held)) ∙ at)
      go false f = good q t (sym (get_or-set_other slots slot q new None (eqb-false q slot f)) ∙ at)

  -- a slot is set to what it held
  put-same : (told : ℕ → Option (Told A)) (slots slots' : Slots (Req A)) (slot : ℕ) (o new : Option (Req A)) → Holds slots slot o → slots' ≡ set slots slot new → new ≡ o → AreGood told slots → AreGood told slots'
  put-same told slots slots' slot o new held is same good = subst (λ (f : ℕ → Option (Told A)). AreGood f slots') (changed-itself told slot)
      (put told slots slots' slot o new (told slot) held is good (λ t e. good slot t (in_slot-held slots slot o held ∙ (sym same ∙ e))))

  -- what each outcome of a call on a slot's sketch means
  record IsKept (before after : Option (Told A)) (call : Change Source (Req A)) (coins coins' : Source) : Type 0 where
    done : (s t : Req A) → IsGood before s → call s coins (Ok tt) t coins' → IsGood after t
    refused : (s t : Req A) (e : ErrorKind) → call s coins (Err e) t coins' → t ≡ s

  -- the slots after a verdict
  abbrev After : (ℕ → Option (Told A)) → (ℕ → Option (Told A)) → Result Unit Refusal → Slots (Req A) → Type 0
  After told told' (Ok done) slots' = AreGood told' slots'
  After told told' (Err refusal) slots' = AreGood told slots'

  turned : (told : ℕ → Option (Told A)) (slots slots' : Slots (Req A)) (slot : ℕ) (v : Option (Told A)) (call : Change Source (Req A)) (coins coins' : Source) → AreGood told slots →
      IsKept (told slot) v call coins coins' → (o new : Option (Req A)) (r : Result Unit Refusal) → Holds slots slot o → Turns call o coins r new coins' → slots' ≡ set slots slot new →
      After told (changed told slot v) r slots'
  turned told slots slots' slot v call coins coins' good kept None new r held h is = rw h.0 (put-same told slots slots' slot None new held is h.1 good)
  turned told slots slots' slot v call coins coins' good kept (Some s) new (Ok done) held (t, new_is, h) is =
      put told slots slots' slot (Some s) new v held is good (λ u e. subst (IsGood v) (some-same t u (sym new_is ∙ e)) (kept.done s t (good slot s (in_slot-held slots slot (Some s) held)) h))
  turned told slots slots' slot v call coins coins' good kept (Some s) new (Err (Sketch e)) held (t, new_is, h) is =
      put-same told slots slots' slot (Some s) new held is (new_is ∙ ap Some (kept.refused s t e h)) good
  turned told slots slots' slot v call coins coins' good kept (Some s) new (Err BadLine) held h is = absurd h
  turned told slots slots' slot v call coins coins' good kept (Some s) new (Err AbsentSlot) held h is = absurd h

  -- ---- commands

  module _ (told : ℕ → Option (Told A)) (slots slots' : Slots (Req A)) (coins coins' : Source) (good : AreGood told slots) where
    abbrev Comes : Command A (ℕ × RankAccuracy) → Result Unit Refusal → Type 0
    Comes command r = After told (told_after_command told command) r slots'

    changes : (slot : ℕ) (v : Option (Told A)) (call : Change Source (Req A)) → IsKept (told slot) v call coins coins' → (r : Result Unit Refusal) →
        Changes (Turns call) slot slots coins r slots' coins' → After told (changed told slot v) r slots'
    changes slot v call kept r (o, new, held, h, is) = turned told slots slots' slot v call coins coins' good kept o new r held h is

    made : (slot : ℕ) (config : ℕ × RankAccuracy) (r : Result Unit Refusal) → Makes (IsMade cmp spelling config) slot slots r slots' → Comes (New slot config) r
    made slot config (Ok done) (s, o, held, h, is) = put told slots slots' slot o (Some s) (Some (record { k = config.0; stream = []; tail = config.0 })) held is good
        (λ t e. subst (IsGood (Some (record { k = config.0; stream = []; tail = config.0 }))) (some-same s t e)
        (record { sound = h.2.6; as_told = (h.2.0, is-empty config.0 config.1 s h.2) }))
    made slot config (Err (Sketch e)) h = subst (AreGood told) (sym h.1) good
    made slot config (Err BadLine) h = absurd h
    made slot config (Err AbsentSlot) h = absurd h

    takes : (slot : ℕ) (x : A) → IsKept (told slot) (option_map (told_more x) (told slot)) (λ s. TakesIn cmp spelling bit next s x) coins coins'
    takes slot x = record { done = λ s t is h. taken (told slot) x s t coins coins' is h; refused = λ s t e h. h.5.0 }

    takes-none : (slot : ℕ) (v : Option (Told A)) → IsKept (told slot) v (TakesNone cmp spelling bit next) coins coins'
    takes-none slot v = record { done = λ s t is h. absurd (no-err tt InvalidArgument h.0); refused = λ s t e h. h.1 }

    empties : (slot : ℕ) → IsKept (told slot) (option_map told_empty (told slot)) (Empties (req cmp spelling)) coins coins'
    empties slot = record {
      done = λ s t is h. good-if (told slot) told_empty s t h.1.6 is (λ w k summary. (h.1.0 ∙ k, subst (λ (n : ℕ). Summarizes cmp t [] n) k (is-empty s.k s.accuracy t h.1)));
      refused = λ s t e h. absurd (false≢true (ap is_ok h.0));
    }

    redraws-kept : (slot : ℕ) → IsKept (told slot) (told slot) (DrawsAnew cmp spelling bit next) coins coins'
    redraws-kept slot = record {
      done = λ s t is h. rw h.1 (good-same (told slot) s _ (rw h.1 at h.3) is refl (λ stream tail summary. redrawn-summarizes order s (bits_from bit next coins (coins_of_redraw s)) stream tail summary));
      refused = λ s t e h. absurd (false≢true h.0);
    }

    trips : (slot : ℕ) → IsKept (told slot) (told slot) (RoundTrips (req cmp spelling)) coins coins'
    trips slot = record { done = done; refused = refused }
      where
        done : (s t : Req A) → IsGood (told slot) s → RoundTrips (req cmp spelling) s coins (Ok tt) t coins' → IsGood (told slot) t
        done s t is (inl (bytes, written, loaded), same) = read (told slot) s t bytes.items [] loaded.0.0.0 loaded.0.1 is written.0.1 loaded.0.0.1
        done s t is (inr h, same) = absurd (false≢true (sym (ap is_ok h.2)))

        refused : (s t : Req A) (e : ErrorKind) → RoundTrips (req cmp spelling) s coins (Err e) t coins' → t ≡ s
        refused s t e h3 = grind (arith, common_steps)

    joins : (redraws : Bool) (into : ℕ) (other : Option (Told A)) (p : Req A) → IsGood other p →
        IsKept (told into) (told_both (told into) other) (JoinsIn cmp spelling bit next redraws p) coins coins'
    joins redraws into other p theirs = record {
      done = λ s t is h. joined redraws (told into) other p s t coins coins' is theirs h;
      refused = λ s t e h. h.6.0;
    }

    joins-copy : (redraws : Bool) (into : ℕ) → IsKept (told into) (told_both (told into) (told into)) (JoinsCopy (req cmp spelling) bit next redraws) coins coins'
    joins-copy redraws into = record { done = done; refused = refused }
      where
        done : (s t : Req A) → IsGood (told into) s → JoinsCopy (req cmp spelling) bit next redraws s coins (Ok tt) t coins' → IsGood (told_both (told into) (told into)) t
        done s t is (inl h) = absurd (false≢true (sym (ap is_ok h.1)))
        done s t is (inr (fits, inr h)) = absurd (false≢true (sym (ap is_ok h.2)))
        done s t is (inr (fits, inl (p, copied, h))) =
            let good-copy = good-same (told into) s p copied.0.1 is copied.0.0.k (λ stream tail summary. copy-summarizes order s p stream tail copied.0.0 summary) in
            joined redraws (told into) (told into) p s t coins coins' is good-copy h

        refused : (s t : Req A) (e : ErrorKind) → JoinsCopy (req cmp spelling) bit next redraws s coins (Err e) t coins' → t ≡ s
        refused s t e h3 = grind (arith, common_steps)

    merges : (redraws : Bool) (into source : ℕ) (b : Bool) → (into == source) ≡ b → (r : Result Unit Refusal) →
        Merges (req cmp spelling) bit next redraws b into source slots coins r slots' coins' → After told (changed told into (told_both (told into) (told source))) r slots'
    merges redraws into source true e r h = subst (λ (q : ℕ). After told (changed told into (told_both (told into) (told q))) r slots') (eqb-true into source e)
        (changes into (told_both (told into) (told into)) (JoinsCopy (req cmp spelling) bit next redraws) (joins-copy redraws into) r h)
    merges redraws into source false e r (None, held, (o, new, own, h, is)) = rw h.0 (put-same told slots slots' into o new own is h.1 good)
    merges redraws into source false e r (Some p, held, (o, new, own, h, is)) =
        turned told slots slots' into (told_both (told into) (told source)) (JoinsIn cmp spelling bit next redraws p) coins coins' good
        (joins redraws into (told source) p (good source p (in_slot-held slots source (Some p) held))) o new r own h is

    -- a command of runs
    carried : (command : Command A (ℕ × RankAccuracy)) (r : Result Unit Refusal) → CarriesOutItem (req cmp spelling) bit next command slots coins r slots' coins' → Comes command r
    carried (New slot config) r h = made slot config r h.0
    carried (Update slot x) r h = changes slot _ (λ s. TakesIn cmp spelling bit next s x) (takes slot x) r h
    carried (UpdateWeighted slot x weight) r h = changes slot None (TakesNone cmp spelling bit next) (takes-none slot None) r h
    carried (Merge into source) r h = merges false into source (into == source) refl r h
    carried (Reset slot) r h = changes slot _ (Empties (req cmp spelling)) (empties slot) r h
    carried (RoundTrip slot) r h = changes slot _ (RoundTrips (req cmp spelling)) (trips slot) r h
    carried (Redraw slot) r h = changes slot _ (DrawsAnew cmp spelling bit next) (redraws-kept slot) r h
    carried (MergeRedrawn into source) r h = merges true into source (into == source) refl r h

-- ---- lines

module _ {cmp : ℤ → ℤ → Ordering} (order : IsTotalOrder cmp) (spelling : ℤ → Option (List ℕ)) (one : OneSketch cmp spelling)
    (origins : Origins ℤ) (true_origins : AreTrue cmp spelling origins) where
  abbrev Good : (ℕ → Option (Told ℤ)) → Slots (Req ℤ) → Type 0
  Good = AreGood order spelling one coin_of_state next_state

  -- a sketch that was read from an image is as its origin tells
  from-origin : (image : List ℕ) (s : Req ℤ) → ReadsImage (req cmp spelling) image (Ok s) → (v : Option (Told ℤ)) → origins image ≡ v → IsGood order spelling one coin_of_state next_state v s
  from-origin image s (inr e) v is = absurd (false≢true (sym (ap is_ok e)))
  from-origin image s (inl h) None is = record { sound = h.0.1; as_told = tt }
  from-origin image s (inl h) (Some w) is =
      let o = true_origins image w is in
      let same = (one image o.0 s o.1 h.0.0.0 o.2 h.0.0.1).0 in
      record { sound = h.0.1; as_told = (same.k ∙ o.3.0, copy-summarizes order o.0 s w.stream w.tail same o.3.1) }

  answered : (told : ℕ → Option (Told ℤ)) (request : Option (Request (ℕ × RankAccuracy))) (slots : Slots (Req ℤ)) (coins : ℕ) (r : Reply) (slots' : Slots (Req ℤ)) (coins' : ℕ) →
      Answers (req cmp spelling) request slots coins r slots' coins' → Good told slots → Good (told_after origins told request r) slots'
  answered told None slots coins r slots' coins' h good = subst (Good told) (sym h.1) good
  answered told (Some (Run command)) slots coins r slots' coins' (v, is, h) good =
      rw is (ran v (carried order spelling one coin_of_state next_state told slots slots' coins coins' good command v h))
    where
      ran : (v : Result Unit Refusal) → After order spelling one coin_of_state next_state told (told_after_command told command) v slots' → Good (told_after origins told (Some (Run command)) (reply_of v)) slots'
      ran (Ok done) a = a
      ran (Err refusal) a = a
  answered told (Some (Load slot image)) slots coins r slots' coins' (v, is, h, same) good = rw is (go v h)
    where
      go : (v : Result Unit Refusal) → Makes (ReadsImage (req cmp spelling) (image_in image)) slot slots v slots' → Good (told_after origins told (Some (Load slot image)) (reply_of v)) slots'
      go (Ok done) (s, o, held, made, set_is) = put order spelling one coin_of_state next_state told slots slots' slot o (Some s) (origins (image_in image)) held set_is good
          (λ t e. subst (IsGood order spelling one coin_of_state next_state (origins (image_in image))) (some-same order spelling one coin_of_state next_state s t e) (from-origin (image_in image) s made (origins (image_in image)) refl))
      go (Err (Sketch e)) h = subst (Good told) (sym h.1) good
      go (Err BadLine) h = absurd h
      go (Err AbsentSlot) h = absurd h
  answered told (Some query) slots coins r slots' coins' h good = subst (Good told) (sym h.1) good

  told-of : (told : ℕ → Option (Told ℤ)) (slots : Slots (Req ℤ)) → Good told slots → AreAsTold cmp told slots
  told-of told slots good slot s e = (good slot s e).as_told

  answers-told : (grammar : Grammar (ℕ × RankAccuracy)) (told : ℕ → Option (Told ℤ)) (slots : Slots (Req ℤ)) (coins : ℕ) (ls : List (List ℕ)) (out : List ℕ) → Good told slots →
      Serves grammar (req cmp spelling) slots coins ls out → AnswersAsTold cmp grammar (req cmp spelling) origins told slots coins ls out
  answers-told grammar told slots coins [] out good e = (told-of told slots good, e)
  answers-told grammar told slots coins (l ∷ ls) out good (r, slots', coins', rest, a, more, e) =
      let next = answered told (request_of grammar (words l)) slots coins r slots' coins' a good in (
        told-of told slots good,
        r,
        slots',
        coins',
        rest,
        a,
        answers-told grammar (told_after origins told (request_of grammar (words l)) r) slots' coins' ls rest next more,
        e,
      )

  -- from empty slots on
  pub answers-told-first : (grammar : Grammar (ℕ × RankAccuracy)) (seed : ℕ) (ls : List (List ℕ)) (out : List ℕ) →
      Serves grammar (req cmp spelling) (replicate SLOTS None) seed ls out → AnswersAsTold cmp grammar (req cmp spelling) origins (λ slot. None) (replicate SLOTS None) seed ls out
  answers-told-first grammar seed ls out = answers-told grammar (λ slot. None) (replicate SLOTS None) seed ls out none
    where
      not-some : (s : Req ℤ) → None ≡ Some s → ⊥
      not-some s e = false≢true (ap is_some e)

      none : Good (λ slot. None) (replicate SLOTS None)
      none q s e = absurd (not-some s (sym (in_slot-none SLOTS q) ∙ e))

third-word : (line : List (List ℕ)) → slice_get (drop 2 line) 0 ≡ slice_get line 2
third-word [] = refl
third-word (verb ∷ []) = refl
third-word (verb ∷ slot ∷ ws) = refl

-- what is answered as an image is true of it
pub shown-true : ShownAreTrue
shown-true s told bytes line as_told imaged fits third =
    let read : image_in (drop 2 line) ≡ bytes.items = ap (λ (o : Option (List ℕ)). unwrap_or (option_and_then hex_of o) []) (third-word line ∙ third)
    ∙ ap (λ (r : Result (List ℕ) _). unwrap_or (result_ok r) []) (decode_of-encode_lower bytes.items fits) in (
      without_coins s,
      [],
      subst (λ (b : List ℕ). BeginsImage int_cmp i64_spelling b (without_coins s) []) (sym read) imaged.0.1,
      (as_told.0, forgotten-summarizes int_cmp_total s told.stream told.tail as_told.1),
    )
