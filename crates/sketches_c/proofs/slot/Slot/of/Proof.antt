-- `of` keeps the pointer of the box, and what the box owned.
use Rattle.sketches_c.proofs.Steps.{◌≡◌, [], ◌∷◌, refl, ap, subst, a_type, dcons, dnil, inst_fn, Val, full_share, ftrue, flft, emp, id⊢, fact, tables, toks, Ptr, ‵, raw, ◌⊛◌, some, later, ◌$◌, !, keep, move, drop, join, split, split3, fjoin, use1, use3, await, pick, stop, fld, of_opd, no_more, and_then, returns, enter, alloc_all, pass_all, free_all, look_at, get, get_in, sets, agg, sub, whole, no, Is, shows, bounded, param, param_laws, glues, RattleType, plain, only, peeks, Lasts, lasts, triple_of, framed, Goes-blank, Ptr-Good, Some, ghosts, dict, box_allocator, box_owns}
use Rattle.std.proofs.Common.{List}
use Rattle.sketches_c.proofs.Generic.{Z, LZ, gone, bound, bounds, at_global}
use types.Kit.{rewrite}
use types.ByLocal.{lands_as}
use denote.Signature.{type_at}
use denote.Steps.{nothing}
use denote.Triple.Call.{calls_at}
use Rattle.std.specs.contracts.alloc.Global as heap
use Rattle.std.proofs.alloc.Global.TheLaws as heap_laws
use Rattle.std.proofs.impls.GlobalAllocator.TheImpl.Met as global_met
use Rattle.std_alloc.specs.contracts.boxed.Box as box
use Rattle.std_alloc.proofs.boxed.Box.TheLaws as box_laws
use Rattle.std_alloc.specs.contracts.boxed.Box.into_raw_with_allocator as callee
use Rattle.std_alloc.proofs.boxed.Box.into_raw_with_allocator.Met as callee_met
use Rattle.sketches_c.specs.contracts.Destruct++none.drop.Key.{symbol as none}
use Rattle.sketches_c.specs.contracts.slot.Slot as slot
use Rattle.sketches_c.proofs.slot.Slot.TheLaws as slot_laws
use Rattle.sketches_c.specs.contracts.slot.Slot.of.Key.{name as key}
use Rattle.sketches_c.proofs.slot.Slot.of.Statement.{statement}
use Rattle.sketches_c.proofs.slot.Slot.of.Code as code
use Rattle.sketches_c.proofs.Spent.{Spend, begins, ends}

module _ (X : RattleType) where
  abbrev R : RattleType
  R = param 0 X

  abbrev spend : Spend
  spend = record { lifetimes = 1; kept = no; from = box.the_row R heap.the_row ghosts; into = slot.the_row R; asks = λ 𝓤 κs. bound X 𝓤 κs.0; says = λ b s. s.value ≡ Some b.value; last = λ b. tt }

pub of_spec : {M : Type 1} → statement M
unfolding Rattle.sketches_c.proofs.Destruct++none.drop.Code.code
of_spec 𝓤 𝓛 𝓜 𝓡 wired X L d met =
    let P = spend X in
    let G = triple_of 𝓛 (callee.signature X Z ghosts dict gone d) (callee.spec X Z ghosts dict gone d 𝓛 𝓜.mem 𝓡.returns) in
    let known = callee_met.met 𝓤 𝓛 𝓜 𝓡 (code.calls-std_alloc::boxed::Box::into_raw_with_allocator 𝓡.env wired) X Z L LZ ghosts dict gone d
    (global_met.passed 𝓡.env (code.calls-std_heap::GlobalAllocator::allocate 𝓡.env wired) (code.calls-std_heap::GlobalAllocator::deallocate 𝓡.env wired) (code.calls-std_heap::GlobalAllocator::grow 𝓡.env wired) (code.calls-std_heap::GlobalAllocator::shrink 𝓡.env wired) _ 𝓤 𝓛 𝓜 𝓡)
    (glues none 𝓡.env (code.calls-sketches_c::Destruct++none::drop 𝓡.env wired) Z LZ _ 𝓤 𝓛 𝓜 𝓡) met in
    begins P 𝓛 𝓜 𝓡 (Goes-blank 𝓛 1 (plain (λ _. P.from)) no (λ κs x f. tt)) ((box_laws.the_field_loose (R X) heap.the_row ghosts (param_laws 0 X L) heap_laws.the_row_laws).lawful 𝓛) refl
    (λ b v. v) (λ b v is. refl)
    (key (bounded (a_type ∷ []) (X, tt) (dcons d dnil))) (inst_fn (bounded (a_type ∷ []) (X, tt) (dcons d dnil)) code.function) (code.unfolded 𝓤 𝓛.H 𝓜 𝓡 wired (X, tt) d) (λ κs qs b v good.
    enter ! _ _ _ _ _ $ alloc_all ! (λ l. pass_all ! refl (good, tt) $
    sets ! (of_opd ! (get ! refl)) refl good $
    let z : G.Ghost = (((κs.0, ([], tt)), (qs.0, (full_share, tt)), tt, (b, tt), (v ∷ [], tt)), tt) in
    let S = P.into in let LS = slot_laws.the_row_laws (R X) (param_laws 0 X L) in let low = slot_laws.lowered (R X) (param_laws 0 X L) in let κs₂ = z.0.0 in let Ce = callee.ended X Z ghosts dict gone d in
    move ! (1 ∷ 2 ∷ []) $ nothing ! $ move ! (1 ∷ 2 ∷ 0 ∷ []) $ use3 𝓛 (raw (toks 𝓛 2 κs₂ z.0.1) ⊛ raw (bounds X 𝓤 κs.0 (emp 𝓤))) (at_global X 𝓤 κs.0 𝓛 qs.0 (emp 𝓤)) $ split ! $ nothing ! $ move ! (3 ∷ 0 ∷ []) $ fjoin ! $
    move ! (1 ∷ 0 ∷ []) $ join ! $ join ! $ use1 𝓛 (raw (G.pre z)) (id⊢ 𝓤 _) $
    calls_at ! (framed 𝓤 𝓛.H 𝓜 (tables 𝓤 𝓛.H 𝓜 𝓡 𝓡.env)) G known z (and_then ! (get ! refl) (no_more !)) (λ u.
    use1 𝓛 (later (some (λ (r : Ptr × Z.Denot). ((‵ (flft κs.0 qs.0) ⊛ ‵ (flft [] full_share) ⊛ ‵ ftrue) ⊛ ‵ ((type_at Ce.signature.result κs₂).own_val r (u ∷ [])))
    ⊛ some (λ (ws : Lasts Ce κs₂ (b, tt)). ‵ (lasts Ce κs₂ (b, tt) ws) ⊛ raw (fact 𝓤 (r.1 ≡ box_allocator b)) ⊛ ‵ (box_owns (ghosts.dealloc_token (box_allocator b)) (R X) r.0 b.value))))) (id⊢ 𝓤 _) $
    await ! tt $ pick ! (λ r. split ! $ split ! $ move ! (2 ∷ []) $ pick ! (λ ws. split3 ! $ drop ! $ drop ! $ move ! (2 ∷ 0 ∷ []) $ fjoin ! $ move ! (1 ∷ []) $ split3 ! $ move ! (0 ∷ 2 ∷ []) $ join ! $ use1 𝓛 (raw (toks 𝓛 1 κs qs)) (id⊢ 𝓤 _) $ move ! (2 ∷ []) $
    let made : S.Denot = record { at = r.0; alloc = r.1; value = Some b.value } in
    peeks ! S (Is S) (shows 𝓛 S) made (u ∷ []) (λ is. let same : u ∷ [] ≡ low made ∷ [] = (slot_laws.lowers (R X) (param_laws 0 X L)).val_is made (u ∷ []) is in
    let typed = (LS.lawful 𝓛).typed made (low made ∷ []) (subst (Is S made) same is) in
    rewrite ! 0 (λ (us : List Val). ‵ (S.own_val made us)) same refl $ lands_as ! (ap only same) refl typed.0 $
    sets ! (of_opd ! (get_in ! (fld ! refl (stop !)) (sub ! 0 refl (whole !)))) refl (Ptr-Good r.0) $
    sets ! (of_opd ! (get_in ! (fld ! refl (stop !)) (sub ! 1 refl (whole !)))) refl (tt, ((tt, tt), tt)) $
    sets ! (agg ! (and_then ! (get ! refl) (and_then ! (get ! refl) (no_more !)))) refl typed.0 $
    returns ! (look_at ! 0 refl) $ free_all ! refl $ keep ! (0 ∷ 1 ∷ []) $ ends P 𝓛 κs qs b v (low made) made refl))))))
