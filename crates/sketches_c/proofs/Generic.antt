-- A call at a type parameter and at `Global`: the tokens and the bounds that it asks, and what is owned of a `Global`. Assumes `Logic`.
use Rattle.std.proofs.Common.{[], ◌∷◌, refl}
use base.Fml.{Lft, Share, flft, ftrue}
use base.Fraction.{full_share}
use base.Logic.{SProp, ent, emp, sep}
use contract.BorrowLft.{◌⊑◌}
use contract.Lifetimes.{toks}
use contract.Monad.{fact, fact_i}
use denote.Exit.{no}
use denote.Laws.{Is}
use denote.Param.{arg, layout}
use denote.Param.Laws.{Laws, arg_laws}
use denote.RattleType.{RattleType}
use mir.Raw.{raw as bare}
use mir.Syntax.{Dict, dnil, impl, tcons, tnil}
use mir.Val.{vunit, vstruct, of_list}
use seplogic.Ra.Ura.{Ura}
use types.Kit.{keep, ‵, raw, ◌⊛◌, ◌$◌, ◌∵◌, !, qed, move, join, split, use0, done}
use types.Logic.{Logic}
use Rattle.std.specs.contracts.alloc.Global as heap
use Rattle.std.proofs.alloc.Global.TheLaws as heap_laws
use Rattle.sketches_c.specs.contracts.Destruct++none.drop.Key.{symbol as none}

-- `Global` as an argument
abbrev pub Z : RattleType
Z = arg (bare (layout heap.the_row)) no heap.the_row

abbrev pub LZ : Laws Z
LZ = arg_laws (bare (layout heap.the_row)) no heap.the_row heap_laws.the_row_laws refl

-- how it is dropped
abbrev pub gone : Dict
gone = impl (none ∷ []) (tcons (layout Z) tnil) dnil

pub global_is : (a : heap.the_row.Denot) → Is heap.the_row a (heap_laws.lowered a ∷ [])
global_is a = ((vstruct (of_list (vunit ∷ [])) ∷ [], tt), (refl, (((vunit ∷ [], tt), (refl, (refl, tt))), tt)))

module _ (X : RattleType) {M : Type 1} (𝓤 : Ura M) (κ : Lft) where
  abbrev pub bound : SProp 𝓤
  bound = sep 𝓤 (fact 𝓤 (κ ⊑ X.lives)) (emp 𝓤)

  abbrev pub bounds : SProp 𝓤 → SProp 𝓤
  bounds P = sep 𝓤 (fact 𝓤 (κ ⊑ X.lives)) (sep 𝓤 (fact 𝓤 ([] ⊑ heap.the_row.lives)) P)

  pub at_global : (𝓛 : Logic 𝓤) (q : Share) (P : SProp 𝓤) → ent 𝓤 (sep 𝓤 (toks 𝓛 1 (κ, tt) (q, tt)) (sep 𝓤 bound P)) (sep 𝓤 (toks 𝓛 2 (κ, ([], tt)) (q, (full_share, tt))) (bounds P))
  at_global 𝓛 q P = qed 𝓛 ((‵ (flft κ q) ⊛ ‵ ftrue) ∷ (raw (fact 𝓤 (κ ⊑ X.lives)) ⊛ ‵ ftrue) ∷ raw P ∷ []) ∵ move ! (1 ∷ []) $ split ! $ move ! (3 ∷ []) $
      use0 𝓛 (raw (fact 𝓤 ([] ⊑ heap.the_row.lives))) (fact_i 𝓤 ([] ⊑ heap.the_row.lives) (emp 𝓤) (heap_laws.the_within [])) $ join ! $ move ! (1 ∷ 0 ∷ []) $ join ! $
      move ! (2 ∷ []) $ split ! $ use0 𝓛 (‵ (flft [] full_share)) (𝓛.lfts.lft-nil full_share) $ move ! (0 ∷ 2 ∷ []) $ join ! $ move ! (1 ∷ 0 ∷ []) $ join ! $ keep ! (0 ∷ 1 ∷ []) $ done !
