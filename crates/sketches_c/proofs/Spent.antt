-- A function that uses up one value: what its walk begins and ends with. Assumes `Logic`.
use Rattle.std.proofs.Common.{◌≡◌, ℕ, List, [], ◌∷◌, ◌++◌, sym, subst}
use lib.Dec.{T}
use seplogic.Ra.Ura.{Ura}
use mir.Syntax.{Callee, Fn}
use mir.Val.{Val, WT, has_ty}
use base.Logic.{SProp, ent, sep}
use base.Fml.{fsep, ftrue}
use types.Logic.{Logic, sem}
use types.Kit.{‵, raw, ◌⊛◌, prop, Sq, ◌$◌, ◌∵◌, !, qed, done, move, keep, split, join, suffices, fsplit}
use prog.Model.{Model}
use prog.Wp.{WpFn, Closed}
use contract.Lifetimes.{Lfts, Shares, toks}
use contract.Monad.{fact}
use contract.Running.{Running, tables}
use denote.Exit.{Kept, Last}
use denote.Laws.{Is, Lawful, Typed}
use denote.Param.{layout}
use denote.Param.Steps.{one_value}
use denote.RattleType.{RattleType}
use denote.Signature.{plain}
use denote.Steps.{nothing}
use denote.Triple.Clauses.{Ended, Clauses, closing}
use denote.Triple.Spec.{Meets}
use denote.Triple.Walked.{Stays, stay_dropped, walk_of, says, ends_at, Goes}
use Rattle.std.proofs.raw_atomic.Walks.{proved_at}

-- lifetimes, one for each type parameter, and what is asked of them; what is seen at exit of the value; what the clause says of it and of the result
pub record Spend : Type 2 where
  pub lifetimes : ℕ
  pub kept : Kept
  pub from : RattleType
  pub into : RattleType
  pub asks : {M : Type 1} (𝓤 : Ura M) → Lfts lifetimes → SProp 𝓤
  pub says : from.Denot → into.Denot → Type 0
  pub last : (x : from.Denot) → Last (from.exit kept) x

module _ (P : Spend) where
  abbrev pub form : Ended
  form = record { signature = record { lifetimes = P.lifetimes; outlives = []; params = plain (λ κs. P.from) ∷ []; result = plain (λ κs. P.into) }; kept = (P.kept, tt) }

  abbrev lets : Stays form.signature.params form.kept
  lets = (stay_dropped (plain (λ κs. P.from)) P.kept, tt)

  module _ {M : Type 1} {𝓤 : Ura M} (𝓛 : Logic 𝓤) where
    abbrev pub means : Clauses 𝓤 form
    means κs a = record { ghost = Unit {0}; requires = λ g. P.asks 𝓤 κs; ensures = λ g r e. fact 𝓤 (P.says a.0 r) }

    abbrev pub Ends : Lfts P.lifetimes → Shares P.lifetimes → P.from.Denot → Val → Val → SProp 𝓤
    Ends κs qs x v = (walk_of 𝓛 form lets means).post ((κs, qs, tt, (x, tt), (v ∷ [], tt)), tt)

    -- the result ends it
    pub ends : (κs : Lfts P.lifetimes) (qs : Shares P.lifetimes) (x : P.from.Denot) (v u : Val) (r : P.into.Denot) → P.says x r
        → Sq 𝓛 (‵ (P.into.own_val r (u ∷ [])) ∷ raw (toks 𝓛 P.lifetimes κs qs) ∷ []) (prop (Ends κs qs x v u))
    ends κs qs x v u r is = suffices ! _ (ends_at 𝓛 form lets means ((κs, qs, tt, (x, tt), (v ∷ [], tt)), tt) u r (P.last x, tt) (tt, tt)) $ says ! is $
        nothing ! $ nothing ! $ join ! $ move ! (2 ∷ 0 ∷ []) $ done !

    module _ (𝓜 : Model 𝓤 𝓛.H) (𝓡 : Running 𝓤 𝓛.H 𝓜) where
      abbrev Runs : Fn → List Val → (Val → SProp 𝓤) → SProp 𝓤
      Runs = WpFn 𝓤 𝓛.H (tables 𝓤 𝓛.H 𝓜 𝓡 𝓡.env).C (tables 𝓤 𝓛.H 𝓜 𝓡 𝓡.env).Λ

      -- the value begins it, as `word` writes it
      pub begins : Goes 𝓛 P.lifetimes (plain (λ κs. P.from)) P.kept (stay_dropped (plain (λ κs. P.from)) P.kept) → Lawful 𝓛 P.from → P.from.mir ≡ layout P.from ∷ []
          → (word : P.from.Denot → Val → Val) → ((x : P.from.Denot) (v : Val) → Is P.from x (v ∷ []) → v ≡ word x v)
          → (key : Callee) (e : Fn) → Closed 𝓤 𝓛.H (tables 𝓤 𝓛.H 𝓜 𝓡 𝓡.env).C (tables 𝓤 𝓛.H 𝓜 𝓡 𝓡.env).Λ key e
          → ((κs : Lfts P.lifetimes) (qs : Shares P.lifetimes) (x : P.from.Denot) (v : Val) → T (has_ty (layout P.from) (word x v)) × WT (word x v)
          → Sq 𝓛 (‵ (P.from.own_val x (word x v ∷ [])) ∷ raw (toks 𝓛 P.lifetimes κs qs) ∷ raw (P.asks 𝓤 κs) ∷ []) (prop (Runs e (word x v ∷ []) (Ends κs qs x (word x v)))))
          → Meets 𝓛 form.signature ((tables 𝓤 𝓛.H 𝓜 𝓡 𝓡.env).C key) (closing 𝓛 form means)
      begins go law one word told key e closed walk = proved_at 𝓛 form lets means 𝓜 𝓡 (go, tt) key e closed (λ y are.
          let κs = y.0.0 in let qs = y.0.1 in let x = y.0.3.0 in
          let Walks : List Val → Type 1 = λ us. ent 𝓤 (sep 𝓤 (sep 𝓤 (toks 𝓛 P.lifetimes κs qs) (sem 𝓛 (fsep (P.from.own_val x us) ftrue))) (P.asks 𝓤 κs))
          (Runs e (us ++ []) ((walk_of 𝓛 form lets means).post ((κs, qs, tt, (x, tt), (us, tt)), tt))) in
          one_value (layout P.from) (λ us. Is P.from x us → Walks us) y.0.4.0 (subst (λ τs. Typed τs y.0.4.0) one (law.typed x y.0.4.0 are.0)) (λ v good is.
          let spelled : v ≡ word x v = told x v is in
          subst (λ (u : Val). Walks (u ∷ [])) (sym spelled) (qed 𝓛 ((raw (toks 𝓛 P.lifetimes κs qs) ⊛ ‵ (fsep (P.from.own_val x (word x v ∷ [])) ftrue)) ∷ raw (P.asks 𝓤 κs) ∷ []) ∵
          split ! $ move ! (1 ∷ []) $ fsplit ! $ keep ! (0 ∷ 2 ∷ 3 ∷ []) $ walk κs qs x v (subst (λ (u : Val). T (has_ty (layout P.from) u) × WT u) spelled good))) are.0)
