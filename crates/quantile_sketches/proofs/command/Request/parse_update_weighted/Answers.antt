use Rattle.std.proofs.Common.{◌≡◌, ℕ, ℤ, true, List, [], ◌∷◌, drop, Option, Some, slice_get, option_and_then, refl, sym, ap, ◌∙◌}
use Rattle.std.specs.Int.{w64}
use Rattle.std.proofs.lemmas.Int.{to_z-of_z}
use Rattle.quantile_sketches.specs.Command.{parse_update_weighted}
use Rattle.quantile_sketches.specs.LineWords.{at_end, item_of, then_word}
use Rattle.quantile_sketches.specs.Reader.{parse_number}
use Rattle.quantile_sketches.specs.declared.commands.Command.TheVariants.{UpdateWeighted}
use Rattle.quantile_sketches.specs.declared.command.Request.TheVariants.{Run}
use Rattle.quantile_sketches.specs.declared.command.Request.{Request}
use Rattle.quantile_sketches.proofs.reading.Words.{item_fits}
use mir.Val.{to_z, of_z}
use Rattle.quantile_sketches.proofs.command.Request.parse_update_weighted.Goals as goal

-- a word that is read is the first one
then-parsed : {A B : Type 0} (read : List ℕ → Option A) (next : A → List (List ℕ) → Option B) (ws ws' : List (List ℕ)) (a : A) →
    Some a ≡ option_and_then read (slice_get ws 0) → ws' ≡ drop 1 ws → then_word read next ws ≡ next a ws'
then-parsed read next [] ws' a is rest = absurd cc
then-parsed read next (w ∷ ws) ws' a is rest = rw (← is, rest) refl

first-word : {A : Type 0} (read : List ℕ → Option A) (ws : List (List ℕ)) (a : A) → Some a ≡ option_and_then read (slice_get ws 0) → (w : List ℕ) × (read w ≡ Some a)
first-word read [] a is = absurd cc
first-word read (w ∷ ws) a is = (w, sym is)

weighs-parsed : {C : Type 0} (slot : ℕ) (ws ws' ws'' : List (List ℕ)) (item : ℤ) (weight : ℕ) →
    Some item ≡ option_and_then item_of (slice_get ws 0) → ws' ≡ drop 1 ws → Some weight ≡ option_and_then parse_number (slice_get ws' 0) → ws'' ≡ drop 1 ws' →
    at_end (Run (UpdateWeighted slot (to_z w64 (of_z w64 item)) weight)) ws'' ≡ parse_update_weighted {C = C} true slot ws
weighs-parsed {C} slot ws ws' ws'' item weight is rest number last =
    let word = first-word item_of ws item is in
    let behind : ℤ → ℕ → List (List ℕ) → Option (Request C) = λ item weight. at_end (Run (UpdateWeighted slot item weight)) in
    ap (λ (z : ℤ). behind z weight ws'') (to_z-of_z w64 item (item_fits word.0 item word.1)) ∙ sym (then-parsed item_of (λ item. then_word parse_number (behind item)) ws ws' item is rest
    ∙ then-parsed parse_number (behind item) ws' ws'' weight number last)

pub returns : goal.returns
returns g c = c.at_end.ensures ∙ weighs-parsed c.args.slot c.args.words.now c.item.new.self c.number.new.self c.in_ok-item.item c.in_ok-weight.weight
    c.in_ok-item.ensures.value c.in_ok-item.ensures.rest c.in_ok-weight.ensures.value c.in_ok-weight.ensures.rest
