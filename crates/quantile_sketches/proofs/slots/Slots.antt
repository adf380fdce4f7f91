-- A slot that is emptied for a while and filled again, and what comes of a call on a slot, by what the slot holds and what the call returns.
use Rattle.std.proofs.Common.{arith, Result, IfOk, OnOk, vec_len, ◌+◌, ◌==◌, eqb-true, IsErrAnd, false, ◌≡◌, ◌≢◌, ◌<◌, ◌≤◌, ℕ, Bool, if◌then◌else◌, None, zero, suc, List, [], ◌∷◌, ◌++◌, length, replicate, set, get_or, slice_get, Option, Some, Ok, Err, refl, sym, ap, subst, inl, inr, ◌∙◌, true, ℤ}
use Rattle.std.proofs.lemmas.Grind.{common_steps}
use Rattle.std.specs.Ordering.{is_eq, nat_cmp}
use Rattle.std.specs.Result.{result_and}
use Rattle.std.specs.declared.alloc.Global.{Global}
use Rattle.std.specs.declared.vec.Vec.{Vec}
use Rattle.std.specs.BTreeMap.{BTreeMap, IsEmpty}
use Rattle.std.proofs.lemmas.List.{replicate_more, get_or_read, get_or_past, get_or-set_other, set-set}
use Rattle.std.proofs.lemmas.Bool.{cases_Bool, cases_lt, eqb-false, ne_eqb}
use Rattle.std.proofs.lemmas.Option.{slice_get_read}
use Rattle.sketch_base.specs.declared.error.ErrorKind.{ErrorKind}
use Rattle.sketch_base.specs.declared.error.ErrorKind.TheVariants.{InvalidArgument, OutOfMemory}
use Rattle.quantile_sketches.specs.Behaviour.{Behaviour, Change}
use Rattle.quantile_sketches.specs.Calls.{Foretells}
use Rattle.quantile_sketches.specs.Outcome.{sketch_at}
use Rattle.quantile_sketches.specs.LineSteps.{CarriesOutClone, CarriesOutItem, Changes, Cloned, JoinsCopy, Makes, RoundTrips, Turns, in_slot, reply_of, Reply, Asks, Joins, IsRefusal, AnswersMasses}
use Rattle.quantile_sketches.specs.declared.answer.Answer.TheVariants.{Done, Ranks}
use Rattle.quantile_sketches.specs.declared.answer.Refusal.{Refusal}
use Rattle.quantile_sketches.specs.declared.answer.Refusal.TheVariants.{Sketch, AbsentSlot}
use Rattle.quantile_sketches.specs.declared.commands.Command.{Command}
use Rattle.std.specs.Prelude.{MatchResult}
use Rattle.sketch_base.specs.Queried.{Masses}
use Rattle.quantile_sketches.specs.LineWords.{rise}

-- What follows for the value of a result, if there is one, from what is known of it.

pub all : {T E : Type 0} {P : T → Type 0} (r : Result T E) → ((x : T) → P x) → IfOk r P
all r f = grind (arith, common_steps)

pub given : {T E : Type 0} {P Q : T → Type 0} (r : Result T E) → ((x : T) → P x → Q x) → IfOk r P → IfOk r Q
given r f p = grind (arith, common_steps)

pub both : {T E : Type 0} {P Q R : T → Type 0} (r : Result T E) → ((x : T) → P x → Q x → R x) → IfOk r P → IfOk r Q → IfOk r R
both r f p q = grind (arith, common_steps)

pub three : {T E : Type 0} {P Q R U : T → Type 0} (r : Result T E) → ((x : T) → P x → Q x → R x → U x) → IfOk r P → IfOk r Q → IfOk r R → IfOk r U
three r f p q s = grind (arith, common_steps)

pub five : {T E : Type 0} {P Q R U V W : T → Type 0} (r : Result T E) → ((x : T) → P x → Q x → R x → U x → V x → W x) → IfOk r P → IfOk r Q → IfOk r R → IfOk r U → IfOk r V → IfOk r W
five r f p q s t u = grind (arith, common_steps)

pub both-done : {T E : Type 0} (P Q : Type 0) (r : Result T E) → OnOk r P → OnOk r Q → OnOk r (P × Q)
both-done P Q r p q = grind (arith, common_steps)

-- A slot that is emptied for a while and filled again, and one whose sketch is read back.

-- what is read at an index of 256 slots is in the slot
pub slot_held : {X : Type 0} (slots : Vec X Global) (all : List X) (slot : ℕ) (was : X) → vec_len slots ≡ 256 → slots.items ≡ all → slot < 256 → was ≡ get_or slots.items slot was →
    slice_get all slot ≡ Some was
slot_held slots all slot was l view b is = rw (← view) (slice_get_read slots.items 256 slot was (omega (arith, l, slots.ok)) b is)

-- an index below 256 is within 256 slots
pub within_all : {X : Type 0} (slots : Vec X Global) (slot : ℕ) → vec_len slots ≡ 256 → slot < 256 → slot < length slots.items
within_all slots slot l b = omega (arith, l, b, slots.ok)

-- the error that a call returns
pub error_is : {T : Type 0} (r : Result T Refusal) (refusal : Refusal) → IsErrAnd r (λ e. e ≡ refusal) → r ≡ Err refusal
error_is r refusal is = grind (arith, common_steps)

-- a slot that is emptied and filled again while another is written
pub emptied_for_a_while : {X : Type 0} (slots : Vec X Global) (all : List X) (i j : ℕ) (was out hole back other : X) → vec_len slots ≡ 256 → slots.items ≡ all → i < 256 → j < 256 →
    i ≢ j → was ≡ get_or slots.items i was → out ≡ was → other ≡ get_or (set slots.items i hole) j other →
    (slice_get all j ≡ Some other) × (slice_get all i ≡ Some out) × (set (set slots.items i hole) i back ≡ set all i back)
emptied_for_a_while slots all i j was out hole back other l view a b n w o e = grind (arith, common_steps, slot_held, get_or-set_other, set-set)

-- if clones are equal to the items, what comes of a command with clones comes of it with the items
pub item_of_clone : {S A C Source : Type 0} (behaviour : Behaviour S A C) (bit : Source → Bool) (next : Source → Source) (IsClone : A → A → Type 0) → ((x y : A) → IsClone x y → y ≡ x) →
    (command : Command A C) (slots : List (Option S)) (coins : Source) (r : Result Unit Refusal) (slots' : List (Option S)) (coins' : Source) →
    CarriesOutClone behaviour bit next IsClone command slots coins r slots' coins' → CarriesOutItem behaviour bit next command slots coins r slots' coins'
item_of_clone {S} {A} {C} {Source} behaviour bit next IsClone same command slots coins r slots' coins' h = grind (arith, common_steps)

-- new slots hold nothing
pub in_slot-none : {S : Type 0} (n q : ℕ) → in_slot {S = S} (replicate n None) q ≡ None
in_slot-none zero q = refl
in_slot-none (suc n) zero = refl
in_slot-none (suc n) (suc q) = in_slot-none n q

-- one more empty slot
pub one-more-empty : {S : Type 0} {len more n : ℕ} {slots slots' : List (Option S)} → more ≡ len + 1 → len ≡ n → slots' ≡ slots ++ None ∷ [] → slots ≡ replicate n None →
    (more ≡ n + 1) × (slots' ≡ replicate (n + 1) None)
one-more-empty {n = n} long l pushed empty = (long ∙ ap (λ m. m + 1) l, pushed ∙ (ap (λ slots. slots ++ None ∷ []) empty ∙ replicate_more n None))

-- the sketches in the first slots are moved into a map, and the others are left
pub record IsMoved {S : Type 0} (all left : List (Option S)) (slot : ℕ) (map : ℕ → Option S) : Type 0 where
  pub moved : (q : ℕ) → q < slot → map q ≡ in_slot all q
  pub none : (q : ℕ) → slot ≤ q → map q ≡ None
  pub behind : (q : ℕ) → slot ≤ q → in_slot left q ≡ in_slot all q

-- a slot that is emptied, if the map then holds what was there
moved-on : {S : Type 0} (all left : List (Option S)) (slot : ℕ) (map map' : ℕ → Option S) (was new : Option S) → IsMoved all left slot map → slot < length left →
    was ≡ get_or left slot was → map' slot ≡ was → ((q : ℕ) → q ≢ slot → map' q ≡ map q) → IsMoved all (set left slot new) (slot + 1) map'
moved-on all left slot map map' was new m inside is here others = record {
  moved = λ q below. elim (cases_Bool (q == slot)) [
    | inl e ↦
        ap map' (eqb-true q slot e) ∙ here ∙ get_or_read left slot was inside is None ∙ m.behind slot (omega arith) ∙ ap (in_slot all) (sym (eqb-true q slot e))
    | inr e ↦ let ne = eqb-false q slot e in others q ne ∙ m.moved q (omega (arith, below, ne))
  ];
  none = λ q above. others q (λ e. absurd (omega (arith, above, e))) ∙ m.none q (omega (arith, above));
  behind = λ q above. get_or-set_other left slot q new None (λ e. absurd (omega (arith, above, e))) ∙ m.behind q (omega (arith, above));
}

-- no sketch is moved yet
pub none-moved : {S : Type 0} (all left : List (Option S)) (map : BTreeMap ℕ S) → IsEmpty map → left ≡ all → IsMoved all left 0 (sketch_at map)
none-moved all left map none is = record {
  moved = λ q below. absurd (omega (arith, below));
  none = λ q above. grind (arith, common_steps);
  behind = λ q above. ap (λ l. in_slot l q) is;
}

-- the sketch of one slot is put into the map, if it has one
pub moved-one : {S : Type 0} (all left : List (Option S)) (slot : ℕ) (map put map' : BTreeMap ℕ S) (was new taken : Option S) → IsMoved all left slot (sketch_at map) →
    slot < length left → was ≡ get_or left slot was → map' ≡ put → sketch_at put slot ≡ taken → taken ≡ was →
    ((q : ℕ) → is_eq (nat_cmp slot q) ≡ false → sketch_at put q ≡ sketch_at map q) → IsMoved all (set left slot new) (slot + 1) (sketch_at map')
moved-one all left slot map put map' was new taken m inside is same here out others = grind (arith, common_steps, moved-on, ne_eqb)

-- all are moved
pub all-moved : {S : Type 0} (all : List (Option S)) (slots : Vec (Option S) Global) (slot : ℕ) (map : ℕ → Option S) → vec_len slots ≡ 256 →
    IsMoved all slots.items slot map → 256 ≤ slot → (q : ℕ) → map q ≡ in_slot all q
all-moved all slots slot map l m end q = elim (cases_lt q slot) [
  | inl below ↦ m.moved q below
  | inr above ↦ m.none q above ∙ (sym (get_or_past slots.items q None (omega (arith, l, slots.ok, end, above))) ∙ m.behind q above)
]

-- a sketch is read back from its own image, or stays
module _ {S A C Source : Type 0} (behaviour : Behaviour S A C) where
  -- a round trip that reads back
  pub reads_back : (slot : Option S) (s t : S) (bytes : Vec ℕ Global) (coins : Source) → slot ≡ Some s → behaviour.imaged s (Ok bytes) → behaviour.loaded bytes.items (Ok t) →
      Turns (RoundTrips behaviour) slot coins (Ok tt) (Some t) coins
  reads_back slot s t bytes coins is written read = rw is (t, refl, (inl (bytes, written, read), refl))

  -- a round trip whose image isn't read
  pub stays_unread : (slot : Option S) (s : S) (bytes : Vec ℕ Global) (e : ErrorKind) (r : Result Unit Refusal) (coins : Source) → slot ≡ Some s → behaviour.imaged s (Ok bytes) →
      behaviour.loaded bytes.items (Err e) →
      r ≡ Err (Sketch e) → Turns (RoundTrips behaviour) slot coins r (Some s) coins
  stays_unread slot s bytes e r coins is written unread err = rw (err, is) (s, refl, (inl (bytes, written, (unread, refl)), refl))

  -- a call that is refused before anything is done
  pub refused_early : (IsClone : A → Type 0) (call : A → Change Source S) (slot : Option S) (s : S) (refused : Bool) (r : Result Unit Refusal) (coins : Source) → slot ≡ Some s →
      ((x : A) → Foretells (call x) s refused) →
      (e : ErrorKind) → (if refused then InvalidArgument else OutOfMemory) ≡ e → r ≡ Err (Sketch e) → Turns (Cloned IsClone call) slot coins r (Some s) coins
  refused_early IsClone call slot s refused r coins is told e error err = rw (err, is) (s, refl, inr (λ x. subst (λ e. call x s coins (Err e) s coins) error (told x coins)))

-- a merge with a copy, which the sketch doesn't refuse
module _ {S A C Source : Type 0} (behaviour : Behaviour S A C) (bit : Source → Bool) (next : Source → Source) (redraws refused : Bool) (slot : Option S) (s : S) (coins : Source)
    (is : slot ≡ Some s) (told : behaviour.refuses redraws s s refused) (fine : refused ≡ false) where
  -- it is made, and joins if it isn't refused
  pub copy_tried : (p t : S) (coins' : Source) (r : Result Unit ErrorKind) → behaviour.copied s (Ok p) →
      behaviour.joined redraws p Source bit next s coins r t coins' → JoinsCopy behaviour bit next redraws s coins r t coins'
  copy_tried p t coins' r copied joined = inr (subst (behaviour.refuses redraws s s) fine told, inl (p, copied, joined))

  -- it isn't made
  pub copy_fails : (e : ErrorKind) (r : Result Unit Refusal) → behaviour.copied s (Err e) → r ≡ Err (Sketch e) → Turns (JoinsCopy behaviour bit next redraws) slot coins r (Some s) coins
  copy_fails e r copied err = rw (err, is) (s, refl, inr (subst (behaviour.refuses redraws s s) fine told, inr (e, copied, refl, refl, refl)))

-- the reply to a command that is carried out says so
pub done_is : (v : Result Unit Refusal) → result_and v (Ok Done) ≡ reply_of v
done_is v = grind (arith, common_steps)

-- one slot's sketch is replaced, and the others stay
pub changed-slot : {S Source : Type 0} (turns : Option S → Source → Result Unit Refusal → Option S → Source → Type 0) (slots : Vec (Option S) Global) (all : List (Option S))
    (slot : ℕ) (was new : Option S) (coins coins' : Source) (r : Result Unit Refusal) → vec_len slots ≡ 256 → slots.items ≡ all → slot < 256 → was ≡ get_or slots.items slot was →
    turns was coins r new coins' → Changes turns slot all coins r (set slots.items slot new) coins'
changed-slot turns slots all slot was new coins coins' r l view b is done = (was, new, slot_held slots all slot was l view b is, done, ap (λ l. set l slot new) view)

-- a sketch that was made is put into a slot
pub slot_made : {S : Type 0} (made : Result S ErrorKind → Type 0) (slots : Vec (Option S) Global) (all : List (Option S)) (slot : ℕ) (was : Option S) (s : S) → vec_len slots ≡ 256 →
    slots.items ≡ all → slot < 256 → was ≡ get_or slots.items slot was → made (Ok s) → Makes made slot all (Ok tt) (set slots.items slot (Some s))
slot_made made slots all slot was s l view b is done = (s, was, slot_held slots all slot was l view b is, done, ap (λ l. set l slot (Some s)) view)

-- What comes of a call on a slot, by what the slot holds and what the call returns, and the replies of split points and images.

module _ {S Source : Type 0} (changed : Change Source S) (slot : Option S) where
  -- the slot holds no sketch
  pub turns-absent : (coins : Source) → slot ≡ None → Turns changed slot coins (Err AbsentSlot) slot coins
  turns-absent coins is = subst (λ (o : Option S). Turns changed o coins (Err AbsentSlot) slot coins) (sym is) (refl, is, refl)

  -- what its sketch tells is the verdict
  pub turns-told : (s t : S) (coins coins' : Source) (told : Result Unit ErrorKind) (r : Result Unit Refusal) → slot ≡ Some s →
      MatchResult told (λ done. r ≡ Ok done) (λ e. IsErrAnd r (λ refusal. refusal ≡ Sketch e)) → changed s coins told t coins' →
      Turns changed slot coins r (Some t) coins'
  turns-told s t coins coins' told r is same h = grind (arith, common_steps, error_is)

-- what another slot holds
module _ {S Source : Type 0} (joined : S → Change Source S) (source slot : Option S) where
  pub joins-absent : (coins : Source) → source ≡ None → Joins joined source slot coins (Err AbsentSlot) slot coins
  joins-absent coins is = subst (λ (o : Option S). Joins joined o slot coins (Err AbsentSlot) slot coins) (sym is) (refl, refl, refl)

  pub joins-other : (p : S) (coins coins' : Source) (r : Result Unit Refusal) (slot' : Option S) → source ≡ Some p → Turns (joined p) slot coins r slot' coins' →
      Joins joined source slot coins r slot' coins'
  joins-other p coins coins' r slot' is turns = subst (λ (o : Option S). Joins joined o slot coins r slot' coins') (sym is) turns

-- what comes of a question, by what the slot holds
module _ {S : Type 0} (told : S → Reply → Type 0) (slot : Option S) where
  pub asks-held : (s : S) (r : Reply) → slot ≡ Some s → told s r → Asks told slot r
  asks-held s r is h = subst (λ (o : Option S). Asks told o r) (sym is) h

-- a merge with a copy that the sketch refuses
pub copy_refused : {S A C Source : Type 0} (behaviour : Behaviour S A C) (bit : Source → Bool) (next : Source → Source) (redraws refused : Bool) (slot : Option S) (s : S)
    (coins : Source) → slot ≡ Some s → behaviour.refuses redraws s s refused → refused ≡ true →
    Turns (JoinsCopy behaviour bit next redraws) slot coins (Err (Sketch InvalidArgument)) (Some s) coins
copy_refused behaviour bit next redraws refused slot s coins is told full = grind (arith, common_steps)

-- what comes of split points
module _ {S C : Type 0} (behaviour : Behaviour S ℤ C) (points : List ℤ) where
  pub masses-refused : (gives : Masses → Type 0) (r : Reply) (e : ErrorKind) → r ≡ Err (Sketch e) → IsRefusal (rise points) e → AnswersMasses behaviour points gives r
  masses-refused gives r e is h4 = grind (arith, common_steps)

  module _ (gives : List ℤ → Masses → Type 0) (given : List ℤ) (same : given ≡ points) (rises : rise points ≡ true) where
    pub masses-error : (r : Reply) (e : ErrorKind) → r ≡ Err (Sketch e) → gives given (Err e) → AnswersMasses behaviour points (gives points) r
    masses-error r e is told = rw is (inr (rises, inl (subst (λ (l : List ℤ). gives l (Err e)) same told)))

    pub masses-given : (masses : _) → gives given (Ok masses) → AnswersMasses behaviour points (gives points) (Ok (Ranks masses))
    masses-given masses told = inr (rises, inl (masses, subst (λ (l : List ℤ). gives l (Ok masses)) same told, refl))
