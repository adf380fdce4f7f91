-- `empty` makes null.
use Rattle.sketches_c.proofs.Steps.{◌≡◌, [], ◌∷◌, refl, ap, emp, ◌$◌, !, keep, drop, of_opd, lit, no_more, and_then, returns, enter, alloc_all, pass_all, free_all, look_at, get, sets, agg, yes, null_ptr, ptr_val, pure_i, only, Goes-blank, Ptr-Good, plain, None}
use Rattle.std.specs.contracts.alloc.Global as heap
use Rattle.std.proofs.alloc.Global.TheLaws as heap_laws
use Rattle.sketches_c.specs.contracts.handle.Handle as handle
use Rattle.sketches_c.proofs.handle.Handle.TheLaws as handle_laws
use Rattle.sketches_c.specs.contracts.handle.Handle.empty.Key.{name as key}
use Rattle.sketches_c.proofs.handle.Handle.empty.Statement.{statement}
use Rattle.sketches_c.proofs.handle.Handle.empty.Code as code
use Rattle.sketches_c.proofs.Generic.{global_is}
use Rattle.sketches_c.proofs.Spent.{Spend, begins, ends}

abbrev spend : Spend
spend = record { lifetimes = 0; kept = yes; from = heap.the_row; into = handle.the_row; asks = λ 𝓤 κs. emp 𝓤; says = λ a h. h.value ≡ None; last = λ a. tt }

pub empty_spec : {M : Type 1} → statement M
empty_spec 𝓤 𝓛 𝓜 𝓡 wired =
    begins spend 𝓛 𝓜 𝓡 (Goes-blank 𝓛 0 (plain (λ _. spend.from)) yes (λ κs x f. tt)) (heap_laws.the_row_laws.lawful 𝓛) refl
    (λ a v. heap_laws.lowered a) (λ a v is. ap only (heap_laws.lowers.val_is a (v ∷ []) is))
    key code.function (code.unfolded 𝓤 𝓛.H 𝓜 𝓡 wired) (λ κs qs a v good.
    let made : handle.the_row.Denot = record { at = null_ptr; alloc = a; value = None } in
    drop ! $ enter ! _ _ _ _ _ $ alloc_all ! (λ l. pass_all ! refl (good, tt) $
    sets ! (of_opd ! (lit ! tt)) refl (Ptr-Good null_ptr) $
    sets ! (agg ! (and_then ! (get ! refl) (and_then ! (get ! refl) (no_more !)))) refl (tt, ((Ptr-Good null_ptr).1, (good.1, tt))) $
    returns ! (look_at ! 0 refl) $ free_all ! refl $ keep ! (0 ∷ []) $
    pure_i ! (handle.the_row.own_val made (handle_laws.lowered made ∷ []))
    ((λ vss. (tt, (tt, ((λ us. (tt, ((λ ws. (tt, (tt, tt))), tt))), tt)))), λ e. tt)
    ((((ptr_val null_ptr ∷ [], (heap_laws.lowered a ∷ [], tt)), (refl, (refl, (global_is a, tt)))), (refl, tt))) $
    ends spend 𝓛 κs qs a (heap_laws.lowered a) _ made refl))
