-- What a call returns that fails, refuses or finds. Each clause of a contract speaks of one of these cases, and a call that passes on
-- what another one returned has the same cases.
use Rattle.std.proofs.Common.{arith, OnOk, OnErr, IfOk, ◌≡◌, ◌∙◌, Result, Ok, Err, IfErr, IsErrAnd, sym, ap, ◌↔◌, ℕ, ◌<◌, subst, ◌≤◌}
use Rattle.std.proofs.lemmas.Grind.{common_steps}
use Rattle.sketch_base.specs.declared.error.ErrorKind.{ErrorKind}
use Rattle.sketch_base.specs.declared.error.ErrorKind.TheVariants.{InvalidArgument, InvalidData, OutOfMemory}
use Rattle.std.specs.Prelude.{Option, IsSome, IfSome}
use Rattle.sketch_base.specs.Queried.{IsAnswered}

-- What holds where a call returns that has failed, or that hasn't.

module _ {T E : Type 0} where
  -- the error that a call passes on
  pub returned : (r : Result T E) (x : E) → IsErrAnd r (λ e. e ≡ x) → r ≡ Err x
  returned r x h = grind (arith, common_steps)

  pub on_error : {P : Type 0} (r : Result T E) → P → IfErr r (λ _. P)
  on_error r p = grind (arith, common_steps)

  pub only_error : {x y : E} (r : Result T E) → IsErrAnd r (λ e. e ≡ x) → x ≡ y → IfErr r (λ e. e ≡ y)
  only_error r h f = grind (arith, common_steps)

  -- an error of another kind than y, or what follows if it is y
  pub refused_if : {x y : E} {P : Type 0} (r : Result T E) → IsErrAnd r (λ e. e ≡ x) → (x ≡ y → P) → IfErr r (λ e. e ≡ y → P)
  refused_if r h f = grind (arith, common_steps)

  -- what follows from a value that a call returned, or from its failure
  pub value_gives : {P R Q : T → Type 0} (r : Result T E) → IfOk r P → IfOk r R → ((x : T) → P x → R x → Q x) → IfOk r Q
  value_gives r p q f = grind (arith, common_steps)

  pub failure_gives : {P Q : Type 0} (r : Result T E) → OnErr r P → (P → Q) → OnErr r Q
  failure_gives r p f = grind (arith, common_steps)

  abbrev error_or : E → Result T E → E
  error_or x (Ok y) = x
  error_or x (Err e) = e

  pub error_is : {x y : E} {r : Result T E} → r ≡ Err x → r ≡ Err y → x ≡ y
  error_is {x} e f = ap (error_or x) (sym e ∙ f)

  pub no_error : {x : T} {e : E} → Ok x ≡ Err e → ⊥
  no_error is = cc

  -- a call that returned a value wasn't refused
  pub accepted : {P : Type 0} {x : T} {e : E} → (P → ⊥) → (Ok x ≡ Err e → P) × (P → Ok x ≡ Err e)
  accepted never = (λ is. absurd (no_error is), λ p. absurd (never p))

pub no_memory : {T P : Type 0} {x : ErrorKind} (r : Result T ErrorKind) → IsErrAnd r (λ e. e ≡ x) → x ≡ OutOfMemory → (P → ⊥) → (r ≡ Err InvalidArgument → P) × (P → r ≡ Err InvalidArgument)
no_memory r h e never = (λ is. absurd (grind (arith, common_steps, returned r _ h ∙ ap Err e)), λ p. absurd (never p))

pub memory_not_argument : OutOfMemory ≡ InvalidArgument → ⊥
memory_not_argument is = cc

pub memory_not_data : OutOfMemory ≡ InvalidData → ⊥
memory_not_data is = cc

pub data_not_argument : InvalidData ≡ InvalidArgument → ⊥
data_not_argument is = cc

pub no_value : {T E : Type 0} {r : Result T E} {x : E} (P : Type 0) → r ≡ Err x → OnOk r P
no_value P e = rw e tt

pub no_found : {T E : Type 0} {r : Result T E} {x : E} (P : T → Type 0) → r ≡ Err x → IfOk r P
no_found P e = rw e tt

pub with_error : {T E : Type 0} {r : Result T E} {x : E} (P : E → Type 0) → r ≡ Err x → P x → IfErr r P
with_error P e p = rw e p

-- How a query is answered where it returns.

module _ {V IsFit : Type 0} {IsWanted : Option V → Type 0} {n : ℕ} where
  -- arguments that aren't fit are refused
  pub unfit : {e : ErrorKind} (r : Result (Option V) ErrorKind) → IsErrAnd r (λ x. x ≡ e) → e ≡ InvalidArgument → ¬ IsFit → IsAnswered n IsFit IsWanted r
  unfit r h is bad = grind (arith, common_steps)

  -- for others memory may be refused
  pub short : {e : ErrorKind} (r : Result (Option V) ErrorKind) → IsErrAnd r (λ x. x ≡ e) → e ≡ OutOfMemory → IsFit → 0 < n → IsAnswered n IsFit IsWanted r
  short r h is fit some = grind (arith, common_steps, no_memory)

  pub answer : (x : Option V) → IsFit → IsSome x ↔ (0 < n) → IsWanted x → IsAnswered n IsFit IsWanted (Ok x)
  answer x fit there found = record { found = found; there = there; refused = accepted (λ bad. bad fit); memory = tt }

  -- the arguments of a query that was answered aren't unfit
  pub told-fit : {x : Option V} → IsAnswered n IsFit IsWanted (Ok x) → ¬ ¬ IsFit
  told-fit told bad = no_error (told.refused.1 bad)

  module _ {Wanted : Option V → Type 0} where
    -- an error that a query passes on
    pub passed : {e : ErrorKind} (r : Result (Option V) ErrorKind) → IsErrAnd r (λ x. x ≡ e) → IsAnswered n IsFit IsWanted (Err e) → IsAnswered n IsFit Wanted r
    passed r h told = grind (arith, common_steps)

    -- another answer of as many entries
    pub answer-too : {x : Option V} (y : Option V) → IsAnswered n IsFit IsWanted (Ok x) → IsSome y ↔ (0 < n) → Wanted y → IsAnswered n IsFit Wanted (Ok y)
    answer-too y told there found = record { found = found; there = there; refused = accepted (told-fit told); memory = tt }

-- what is wanted of one may be what is wanted of another
pub wanted-too : {V IsFit : Type 0} {Wanted Others : Option V → Type 0} {n m : ℕ} (r : Result (Option V) ErrorKind) → n ≡ m →
    ((x : Option V) → Wanted x → Others x) → IsAnswered n IsFit Wanted r → IsAnswered m IsFit Others r
wanted-too {IsFit = IsFit} {Others = Others} (Ok x) same others told = subst (λ (k : ℕ). IsAnswered k IsFit Others (Ok x)) same
    (record { found = others x told.found; there = told.there; refused = told.refused; memory = told.memory })
wanted-too {IsFit = IsFit} {Others = Others} (Err e) same others told =
    subst (λ (k : ℕ). IsAnswered k IsFit Others (Err e)) same (record { found = tt; there = tt; refused = told.refused; memory = told.memory })

-- Calls that are refused or aren't: what their clauses say, and the numbers that decide it.

pub refused_as : {T E P : Type 0} {r : Result T E} {x : E} → r ≡ Err x → P → (r ≡ Err x → P) × (P → r ≡ Err x)
refused_as e p = (λ _. p, λ _. e)

pub accepted_alone : {T E : Type 0} {x : T} {e : E} (P : Type 0) → Ok x ≡ Err e → P
accepted_alone P is = absurd (no_error is)

-- ---- numbers

pub some_of : {n : ℕ} → (n ≡ 0 → ⊥) → 0 < n
some_of none = omega (arith, none)

pub some_now : {n m : ℕ} → n ≡ m → (n ≡ 0 → ⊥) → 0 < m
some_now e none = omega (arith, e, none)

pub none_or_some : {n : ℕ} → n ≡ 0 → 0 < n → ⊥
none_or_some none some = omega (arith, none, some)

pub not_between : {n m : ℕ} → n < m → m ≤ n → ⊥
not_between low high = omega (arith, low, high)

-- What holds of a value in a result or an option may be weakened.

-- the value of a result
pub ok-weaker : {T E : Type 0} (r : Result T E) (P Q : T → Type 0) → ((x : T) → P x → Q x) → IfOk r P → IfOk r Q
ok-weaker r P Q f h = grind (arith, common_steps)

-- the value of an option
pub some-weaker : {T : Type 0} (o : Option T) (P Q : T → Type 0) → ((x : T) → P x → Q x) → IfSome o P → IfSome o Q
some-weaker o P Q f h = grind (arith, common_steps)
