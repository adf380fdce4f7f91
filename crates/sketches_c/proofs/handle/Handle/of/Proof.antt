-- `of` forgets the type behind the pointer.
use Rattle.sketches_c.proofs.Steps.{◌≡◌, [], ◌∷◌, refl, ap, emp, ◌$◌, !, keep, stop, fld, of_opd, no_more, and_then, returns, enter, alloc_all, pass_all, free_all, look_at, get, get_in, sets, agg, sub, whole, yes, only, Goes-blank, Ptr-Good, plain}
use Rattle.sketches_c.specs.contracts.state.State.{the_row as state}
use Rattle.sketches_c.specs.contracts.slot.Slot as slot
use Rattle.sketches_c.specs.contracts.handle.Handle as handle
use Rattle.sketches_c.proofs.slot.Slot.TheLaws as slot_laws
use Rattle.sketches_c.proofs.state.State.TheLaws as state_laws
use Rattle.sketches_c.specs.contracts.handle.Handle.of.Key.{name as key}
use Rattle.sketches_c.proofs.handle.Handle.of.Statement.{statement}
use Rattle.sketches_c.proofs.handle.Handle.of.Code as code
use Rattle.sketches_c.proofs.Spent.{Spend, begins, ends}

abbrev spend : Spend
spend = record { lifetimes = 0; kept = yes; from = slot.the_row state; into = handle.the_row; asks = λ 𝓤 κs. emp 𝓤; says = λ s h. h.value ≡ s.value; last = λ s. tt }

pub of_spec : {M : Type 1} → statement M
of_spec 𝓤 𝓛 𝓜 𝓡 wired =
    begins spend 𝓛 𝓜 𝓡 (Goes-blank 𝓛 0 (plain (λ _. spend.from)) yes (λ κs x f. tt)) ((slot_laws.the_row_laws state state_laws.the_row_laws).lawful 𝓛) refl
    (λ s v. slot_laws.lowered state state_laws.the_row_laws s) (λ s v is. ap only ((slot_laws.lowers state state_laws.the_row_laws).val_is s (v ∷ []) is))
    key code.function (code.unfolded 𝓤 𝓛.H 𝓜 𝓡 wired) (λ κs qs s v good.
    enter ! _ _ _ _ _ $ alloc_all ! (λ l. pass_all ! refl (good, tt) $
    sets ! (of_opd ! (get_in ! (fld ! refl (stop !)) (sub ! 0 refl (whole !)))) refl (Ptr-Good s.at) $
    sets ! (of_opd ! (get_in ! (fld ! refl (stop !)) (sub ! 1 refl (whole !)))) refl (tt, ((tt, tt), tt)) $
    sets ! (of_opd ! (get ! refl)) refl (Ptr-Good s.at) $
    sets ! (agg ! (and_then ! (get ! refl) (and_then ! (get ! refl) (no_more !)))) refl good $
    returns ! (look_at ! 0 refl) $ free_all ! refl $ keep ! (0 ∷ 1 ∷ []) $
    ends spend 𝓛 κs qs s (slot_laws.lowered state state_laws.the_row_laws s) _ (record { at = s.at; alloc = s.alloc; value = s.value }) refl))
