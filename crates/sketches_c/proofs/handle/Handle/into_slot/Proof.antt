-- `into_slot` gives the pointer its type.
use Rattle.sketches_c.proofs.Steps.{◌≡◌, [], ◌∷◌, refl, ap, emp, ◌$◌, !, keep, stop, fld, of_opd, no_more, and_then, returns, enter, alloc_all, pass_all, free_all, look_at, get, get_in, sets, agg, sub, whole, yes, only, Goes-blank, Ptr-Good, plain}
use Rattle.sketches_c.specs.contracts.state.State.{the_row as state}
use Rattle.sketches_c.specs.contracts.slot.Slot as slot
use Rattle.sketches_c.specs.contracts.handle.Handle as handle
use Rattle.sketches_c.proofs.handle.Handle.TheLaws as handle_laws
use Rattle.sketches_c.specs.contracts.handle.Handle.into_slot.Key.{name as key}
use Rattle.sketches_c.proofs.handle.Handle.into_slot.Statement.{statement}
use Rattle.sketches_c.proofs.handle.Handle.into_slot.Code as code
use Rattle.sketches_c.proofs.Spent.{Spend, begins, ends}

abbrev spend : Spend
spend = record { lifetimes = 0; kept = yes; from = handle.the_row; into = slot.the_row state; asks = λ 𝓤 κs. emp 𝓤; says = λ h s. s.value ≡ h.value; last = λ s. tt }

pub into_slot_spec : {M : Type 1} → statement M
into_slot_spec 𝓤 𝓛 𝓜 𝓡 wired =
    begins spend 𝓛 𝓜 𝓡 (Goes-blank 𝓛 0 (plain (λ _. spend.from)) yes (λ κs x f. tt)) ((handle_laws.the_row_laws).lawful 𝓛) refl
    (λ s v. handle_laws.lowered s) (λ s v is. ap only ((handle_laws.lowers).val_is s (v ∷ []) is))
    key code.function (code.unfolded 𝓤 𝓛.H 𝓜 𝓡 wired) (λ κs qs s v good.
    enter ! _ _ _ _ _ $ alloc_all ! (λ l. pass_all ! refl (good, tt) $
    sets ! (of_opd ! (get_in ! (fld ! refl (stop !)) (sub ! 0 refl (whole !)))) refl (Ptr-Good s.at) $
    sets ! (of_opd ! (get_in ! (fld ! refl (stop !)) (sub ! 1 refl (whole !)))) refl (tt, ((tt, tt), tt)) $
    sets ! (of_opd ! (get ! refl)) refl (Ptr-Good s.at) $
    sets ! (agg ! (and_then ! (get ! refl) (and_then ! (get ! refl) (no_more !)))) refl good $
    returns ! (look_at ! 0 refl) $ free_all ! refl $ keep ! (0 ∷ 1 ∷ []) $
    ends spend 𝓛 κs qs s (handle_laws.lowered s) _ (record { at = s.at; alloc = s.alloc; value = s.value }) refl))
