-- `into_box` tests the pointer, and makes the box again.
use Rattle.sketches_c.proofs.Steps.{◌≡◌, [], ◌∷◌, refl, ap, subst, a_type, dcons, dnil, inst_fn, Val, full_share, ftrue, flft, id⊢, toks, fact, tables, ‵, raw, ◌⊛◌, some, later, ◌$◌, !, keep, move, drop, join, split, split3, fjoin, use1, use3, await, pick, stop, fld, lit, of_opd, no_more, and_then, returns, enter, alloc_all, pass_all, free_all, look_at, get, get_in, sets, agg, sub, whole, no, Is, shows, bounded, param, param_laws, glues, RattleType, Ptr, null_ptr, ptr_val, pure_i, plain, peeks, Lasts, lasts, triple_of, framed, Goes-blank, Ptr-Good, None, Some, ghosts, dict, box_allocator, box_owns}
use Rattle.std.proofs.Common.{sym, lit<}
use mir.Syntax.{Args, Dict, Fn}
use mir.Raw.{raw as bare}
use mir.Val.{has_ty, WT, vcons, vnil, vstruct}
use base.Fml.{Fml}
use base.Logic.{guard_i}
use contract.Lifetimes.{Lfts, Shares}
use contract.Monad.{fact_use}
use contract.Running.{Running}
use lib.Dec.{T}
use prog.Model.{Model}
use prog.Wired.{Wired}
use prog.Wp.{WpFn}
use seplogic.Ra.Ura.{Ura}
use types.Kit.{Sq, prop, given, learn, at_ret, fsplit, use0}
use types.Logic.{Logic, sem}
use types.Run.{bin, first, branches, skips, blocks, exec, returns_within}
use types.ByLocal.{lands_last, env}
use types.Match.{live}
use denote.Memory.{lone}
use denote.Param.{layout}
use denote.Param.Laws.{Laws}
use denote.RattleType.{owns}
use denote.RawPtr.{InBlock, Testable, block_ptr, tests_null}
use denote.Shadow.{pure_l}
use denote.Signature.{types_at}
use denote.Steps.{heard}
use denote.Triple.Call.{calls_at_last}
use Rattle.core.proofs.alloc.Shapes.{after}
use Rattle.core.proofs.option.Made.{Some-of, none_of}
use Rattle.core.specs.contracts.option.Option as option
use Rattle.std.specs.declared.option.Option.{Option}
use Rattle.std.specs.Option.{MatchOption}
use Rattle.std.proofs.GlobalToken.{dealloc_token-Testable}
use Rattle.std.specs.contracts.alloc.Global as heap
use Rattle.std.proofs.alloc.Global.TheLaws as heap_laws
use Rattle.std.proofs.impls.GlobalAllocator.TheImpl.Met as global_met
use Rattle.std_alloc.specs.contracts.boxed.Box as box
use Rattle.std_alloc.proofs.boxed.Box.TheLaws as box_laws
use Rattle.std_alloc.proofs.ResultValues.{and_tt}
use Rattle.std_alloc.specs.contracts.boxed.Box.from_raw as callee
use Rattle.std_alloc.proofs.boxed.Box.from_raw.Met as callee_met
use Rattle.sketches_c.specs.Held.{held}
use Rattle.sketches_c.specs.contracts.Destruct++none.drop.Key.{symbol as none}
use Rattle.sketches_c.specs.contracts.slot.Slot as slot
use Rattle.sketches_c.proofs.slot.Slot.TheLaws as slot_laws
use Rattle.sketches_c.specs.contracts.slot.Slot.into_box.Key.{name as key}
use Rattle.sketches_c.proofs.slot.Slot.into_box.Statement.{statement}
use Rattle.sketches_c.proofs.slot.Slot.into_box.Code as code
use Rattle.sketches_c.proofs.Generic.{Z, LZ, gone, global_is, bound, bounds, at_global}
use Rattle.sketches_c.proofs.Spent.{Spend, Ends, begins, ends}

module _ (X : RattleType) (d : Dict) where
  abbrev R : RattleType
  R = param 0 X

  abbrev B : RattleType
  B = box.the_row R heap.the_row ghosts

  abbrev spend : Spend
  spend = record { lifetimes = 1; kept = no; from = slot.the_row R; into = option.the_row B; asks = λ 𝓤 κs. bound X 𝓤 κs.0; says = λ s r. MatchOption r (s.value ≡ None) (λ b. s.value ≡ Some b.value); last = λ s. tt }

  abbrev args : Args
  args = bounded (a_type ∷ []) (X, tt) (dcons d dnil)

  abbrev fn : Fn
  fn = inst_fn args code.function

abbrev word : Ptr → Val
word p = vstruct (vcons (ptr_val p) (vcons (vstruct (vcons (vstruct (vcons mir.Val.vunit vnil)) vnil)) vnil))

module _ {M : Type 1} (𝓤 : Ura M) (𝓛 : Logic 𝓤) (𝓜 : Model 𝓤 𝓛.H) (𝓡 : Running 𝓤 𝓛.H 𝓜) (wired : Wired 𝓡.env code.code) (X : RattleType) (L : Laws X) (d : Dict) (κs : Lfts 1) (qs : Shares 1) (a : heap.the_row.Denot) where
  goes : (p : Ptr) (x : Option X.Denot) → let s : (slot.the_row (R X d)).Denot = record { at = p; alloc = a; value = x } in T (has_ty (layout (slot.the_row (R X d))) (word p)) × WT (word p)
      → Sq 𝓛 (‵ ((slot.the_row (R X d)).own_val s (word p ∷ [])) ∷ raw (toks 𝓛 1 κs qs) ∷ raw (bound X 𝓤 κs.0) ∷ [])
      (prop (WpFn 𝓤 𝓛.H (tables 𝓤 𝓛.H 𝓜 𝓡 𝓡.env).C (tables 𝓤 𝓛.H 𝓜 𝓡 𝓡.env).Λ (fn X d) (word p ∷ []) (Ends (spend X d) 𝓛 κs qs s (word p))))
  unfolding Rattle.sketches_c.proofs.Destruct++none.drop.Code.code
  goes null_ptr (Some y) good = fsplit ! $ move ! (1 ∷ []) $ pure_l ! (held (R X d) a null_ptr (Some y)) (λ is. absurd is.0)
  goes (block_ptr b o) None good = fsplit ! $ move ! (1 ∷ []) $ pure_l ! (held (R X d) a (block_ptr b o) None) (λ is. absurd (subst InBlock is.0 tt))
  goes null_ptr None good = drop ! $ enter ! _ _ _ _ _ $ alloc_all ! (λ l. pass_all ! refl (good, tt) $
      sets ! (of_opd ! (get_in ! (fld ! refl (stop !)) (sub ! 0 refl (whole !)))) refl (Ptr-Good null_ptr) $
      sets ! (of_opd ! (get_in ! (fld ! refl (stop !)) (sub ! 1 refl (whole !)))) refl (tt, ((tt, tt), tt)) $
      sets ! (of_opd ! (get ! refl)) refl (Ptr-Good null_ptr) $
      sets ! (bin ! (get ! refl) (lit ! tt) tt) refl (tt, tt) $ first ! $ branches ! (get ! refl)
      (λ _. sets ! (agg ! (and_then ! (lit ! tt) (no_more !))) refl (tt, (record { fits = lit< tt }, tt)) $ returns_within ! (Ends (spend X d) 𝓛 κs qs (record { at = null_ptr; alloc = a; value = None }) (word null_ptr)) refl (look_at ! 0 refl) $ free_all ! refl $ keep ! (0 ∷ []) $
      use0 𝓛 (‵ ((option.the_row (B X d)).own_val None (live 0 vnil ∷ []))) (none_of 𝓛 (B X d)) $ ends (spend X d) 𝓛 κs qs (record { at = null_ptr; alloc = a; value = None }) (word null_ptr) (live 0 vnil) None refl)
      (λ is. absurd is))
  goes (block_ptr b o) (Some y) good =
      let p : Ptr = block_ptr b o in let held : Fml = box_owns (ghosts.dealloc_token a) (R X d) p y in let frees : Fml = ghosts.dealloc_token a (bare (lone (R X d).mir)) p in
      let 𝓣 = tables 𝓤 𝓛.H 𝓜 𝓡 𝓡.env in let Post = Ends (spend X d) 𝓛 κs qs (record { at = p; alloc = a; value = Some y }) (word p) in
      let Ce = callee.ended X Z ghosts dict gone in let G = triple_of 𝓛 Ce.signature (callee.spec X Z ghosts dict gone 𝓛 𝓜.mem 𝓡.returns) in
      let known = callee_met.met 𝓤 𝓛 𝓜 𝓡 (code.calls-std_alloc::boxed::Box::from_raw 𝓡.env wired) X Z L LZ ghosts dict gone
      (global_met.passed 𝓡.env (code.calls-std_heap::GlobalAllocator::allocate 𝓡.env wired) (code.calls-std_heap::GlobalAllocator::deallocate 𝓡.env wired) (code.calls-std_heap::GlobalAllocator::grow 𝓡.env wired) (code.calls-std_heap::GlobalAllocator::shrink 𝓡.env wired) M 𝓤 𝓛 𝓜 𝓡)
      (glues none 𝓡.env (code.calls-sketches_c::Destruct++none::drop 𝓡.env wired) Z LZ M 𝓤 𝓛 𝓜 𝓡) in
      let z : G.Ghost = (((κs.0, ([], tt)), (qs.0, (full_share, tt)), tt, (a, (p, tt)), (heap_laws.lowered a ∷ [], (ptr_val p ∷ [], tt))), y) in
      let κs₂ = z.0.0 in
      fsplit ! $ drop ! $ fsplit ! $ move ! (1 ∷ []) $
      use1 𝓛 (given (Testable p) (‵ frees)) (fact_use 𝓤 (Testable p) (dealloc_token-Testable 𝓛 a (bare (lone (R X d).mir)) p) (guard_i 𝓤 (Testable p) (sem 𝓛 frees))) $ learn ! (λ t. move ! (1 ∷ 0 ∷ []) $ fjoin ! $
      enter ! _ _ _ _ _ $ alloc_all ! (λ l. pass_all ! refl (good, tt) $
      sets ! (of_opd ! (get_in ! (fld ! refl (stop !)) (sub ! 0 refl (whole !)))) refl (Ptr-Good p) $
      sets ! (of_opd ! (get_in ! (fld ! refl (stop !)) (sub ! 1 refl (whole !)))) refl (tt, ((tt, tt), tt)) $
      sets ! (of_opd ! (get ! refl)) refl (Ptr-Good p) $
      sets ! (bin ! (get ! refl) (lit ! tt) (tests_null p t)) refl (tt, tt) $ first ! $ branches ! (get ! refl) (λ is. absurd is) (λ _. skips ! $
      exec ! 𝓣.C 𝓣.Λ (env (fn X d).locals l) (after 5 (fn X d).body) (at_ret (env (fn X d).locals l) Post) $ first ! $ blocks ! $
      sets ! (of_opd ! (get ! refl)) refl (tt, ((tt, tt), tt)) $ sets ! (of_opd ! (get ! refl)) refl (Ptr-Good p) $
      move ! (1 ∷ 2 ∷ []) $ use3 𝓛 (raw (toks 𝓛 2 κs₂ z.0.1) ⊛ raw (bounds X 𝓤 κs.0 (sem 𝓛 held))) (at_global X 𝓤 κs.0 𝓛 qs.0 (sem 𝓛 held)) $ split ! $
      pure_i ! (owns (types_at Ce.signature.params κs₂) z.0.3 z.0.4) ((λ us. (tt, ((λ ws. (tt, (tt, tt))), tt))), (tt, tt)) (global_is a, (refl, tt)) $
      move ! (1 ∷ 0 ∷ []) $ join ! $ join ! $ use1 𝓛 (raw (G.pre z)) (id⊢ 𝓤 _) $
      calls_at_last ! (framed 𝓤 𝓛.H 𝓜 𝓣) G known z (and_then ! (get ! refl) (and_then ! (get ! refl) (no_more !))) (λ u.
      use1 𝓛 (later (some (λ (r : (B X d).Denot). ((‵ (flft κs.0 qs.0) ⊛ ‵ (flft [] full_share) ⊛ ‵ ftrue) ⊛ ‵ ((B X d).own_val r (u ∷ [])))
      ⊛ some (λ (ws : Lasts Ce κs₂ z.0.3). ‵ (lasts Ce κs₂ z.0.3 ws) ⊛ raw (fact 𝓤 (r.value ≡ y)) ⊛ raw (fact 𝓤 (box_allocator r ≡ a)))))) (id⊢ 𝓤 _) $
      await ! tt $ pick ! (λ r. split ! $ split ! $ move ! (2 ∷ []) $ pick ! (λ ws. split3 ! $ drop ! $ heard ! (r.value ≡ y) (λ same. drop ! $
      split3 ! $ move ! (0 ∷ 2 ∷ []) $ join ! $ use1 𝓛 (raw (toks 𝓛 1 κs qs)) (id⊢ 𝓤 _) $ move ! (2 ∷ []) $
      peeks ! (B X d) (Is (B X d)) (shows 𝓛 (B X d)) r (u ∷ []) (λ is. let typed = ((box_laws.the_field_loose (R X d) heap.the_row ghosts (param_laws 0 X L) heap_laws.the_row_laws).lawful 𝓛).typed r (u ∷ []) is in
      lands_last ! refl typed.0 $ exec ! 𝓣.C 𝓣.Λ (env (fn X d).locals l) (after 6 (fn X d).body) (at_ret (env (fn X d).locals l) Post) $ sets ! (of_opd ! (get ! refl)) refl typed.0 $
      sets ! (agg ! (and_then ! (lit ! tt) (and_then ! (get ! refl) (no_more !)))) refl (and_tt _ typed.0.0, (record { fits = lit< tt }, (typed.0.1, tt))) $
      returns ! (look_at ! 0 refl) $ free_all ! refl $ keep ! (0 ∷ 1 ∷ []) $ use1 𝓛 (‵ ((option.the_row (B X d)).own_val (Some r) (live 1 (vcons u vnil) ∷ []))) (Some-of 𝓛 (B X d) r u) $
      ends (spend X d) 𝓛 κs qs (record { at = p; alloc = a; value = Some y }) (word p) (live 1 (vcons u vnil)) (Some r) (ap Some (sym same))))))))))

pub into_box_spec : {M : Type 1} → statement M
into_box_spec 𝓤 𝓛 𝓜 𝓡 wired X L d met =
    let P = spend X d in let low = slot_laws.lowered (R X d) (param_laws 0 X L) in
    begins P 𝓛 𝓜 𝓡 (Goes-blank 𝓛 1 (plain (λ _. P.from)) no (λ κs x f. tt)) ((slot_laws.the_row_laws (R X d) (param_laws 0 X L)).lawful 𝓛) refl
    (λ s v. low s) (λ s v is. ap denote.Steps.only ((slot_laws.lowers (R X d) (param_laws 0 X L)).val_is s (v ∷ []) is))
    (key (args X d)) (fn X d) (code.unfolded 𝓤 𝓛.H 𝓜 𝓡 wired (X, tt) d) (λ κs qs s v good. goes 𝓤 𝓛 𝓜 𝓡 wired X L d κs qs s.alloc s.at s.value good)
