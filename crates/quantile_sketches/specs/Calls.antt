-- What a family's sketches do is what the rules of its kind say.
use Rattle.std.specs.Prelude.{◌≡◌, ◌⊎◌, ◌↔◌, ℕ, Bool, if◌then◌else◌, IsTrue, None, Option, Some, Result, Ok, Err, IfOk, IfErr, OnOk, OnErr}
use Rattle.std.specs.declared.alloc.Global.{Global}
use Rattle.std.specs.declared.vec.Vec.{Vec}
use Rattle.sketch_base.specs.declared.error.ErrorKind.{ErrorKind}
use Rattle.sketch_base.specs.declared.error.ErrorKind.TheVariants.{InvalidArgument, OutOfMemory}
use Rattle.quantile_sketches.specs.Behaviour.{Behaviour, Change}
use Rattle.quantile_sketches.specs.Rules.{Kind}
use Rattle.quantile_sketches.specs.RunSteps.{Refuses, IsFresh, IsPlainCopy, IsReadBack, IsUpdated, IsWeighted, IsRedrawn, IsSketchMerged}

-- the call is refused if that is said up front, else it may run out of memory; both change nothing
abbrev pub Foretells : {S Source : Type 0} → Change Source S → S → Bool → Type 0
Foretells call s refused = (coins : _) → call s coins (Err (if refused then InvalidArgument else OutOfMemory)) s coins

-- a call succeeds, and then `does` holds; or it changes nothing and gives an error that `Refuses` allows
abbrev pub Obeys : {S Source Shape : Type 0} → Option Shape → (S → Source → Type 0) → S → Source → Result Unit ErrorKind → S → Source → Type 0
Obeys shape does s coins r t coins' = OnOk r (does t coins') × IfErr r (Refuses shape) × OnErr r ((t ≡ s) × (coins' ≡ coins))

module _ {A C Shape S Source : Type 0} (behaviour : Behaviour S A C) (kind : Kind A C Shape S) (bit : Source → Bool) (next : Source → Source) where
  -- each call on a sound sketch obeys what the rules give for the sketch's shape
  abbrev pub Follows : Change Source S → (Shape → Option Shape) → (S → Source → S → Source → Type 0) → Type 0
  Follows call gives does = (s : S) (coins : Source) (r : Result Unit ErrorKind) (t : S) (coins' : Source) →
      kind.IsSound s → call s coins r t coins' → Obeys (gives (kind.look.shape s)) (does s coins) s coins r t coins'

  -- each call does what the rules say
  pub record ObeysRules : Type 0 where
    pub made : (config : C) (r : Result S ErrorKind) → behaviour.made config r → IfOk r (IsFresh kind (kind.look.rules.made config)) × IfErr r (Refuses (kind.look.rules.made config))
    pub copied : (s : S) (r : Result S ErrorKind) → behaviour.copied s r → IfOk r (IsPlainCopy kind s) × IfErr r (λ e. e ≡ OutOfMemory)
    pub emptied : (s t : S) → behaviour.emptied s t → IsFresh kind (Some (kind.look.rules.emptied (kind.look.shape s))) t
    pub taken : (x : A) → Follows (behaviour.taken x Source bit next) kind.look.rules.updated (λ s. IsUpdated kind bit next s x)
    pub taken_weighted : (x : A) (weight : ℕ) →
        Follows (behaviour.taken_weighted x weight Source bit next) (λ shape. kind.look.rules.updated_weighted shape weight) (λ s. IsWeighted kind bit next s x weight)
    pub redrawn : Follows (behaviour.redrawn Source bit next) kind.look.rules.redrawn (IsRedrawn kind bit next)
    pub joined : (redraws : Bool) (p : S) → kind.IsSound p →
        Follows (behaviour.joined redraws p Source bit next) (λ shape. kind.look.rules.merged redraws shape (kind.look.shape p))
        (λ s coins t coins'. IsSketchMerged kind bit next redraws s p coins t coins' × kind.IsSound t)
    pub refuses : (redraws : Bool) (s p : S) (answer : Bool) → kind.IsSound s → kind.IsSound p → behaviour.refuses redraws s p answer →
        (IsTrue answer ↔ (kind.look.rules.merged redraws (kind.look.shape s) (kind.look.shape p) ≡ None))
    pub imaged : (s : S) (r : Result (Vec ℕ Global) ErrorKind) → kind.IsSound s → behaviour.imaged s r →
        OnOk r (kind.HasImage s) × IfErr r (λ e. ((e ≡ InvalidArgument) × (¬ kind.HasImage s)) ⊎ (e ≡ OutOfMemory))
    pub read_back : (s : S) (bytes : Vec ℕ Global) (r : Result S ErrorKind) → behaviour.imaged s (Ok bytes) → behaviour.loaded bytes.items r →
        IfOk r (IsReadBack kind s) × IfErr r (λ e. e ≡ OutOfMemory)
