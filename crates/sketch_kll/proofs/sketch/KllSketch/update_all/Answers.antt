-- The goals at the return are what updates by all items make of the fields.
use Rattle.std.proofs.Common.{◌≡◌, ◌<◌, ◌≤◌, ◌^◌, ◌+◌, ◌-◌, ℕ, List, [], ◌∷◌, length, ap, refl, arith, ◌∙◌}
use Rattle.sketch_base.specs.declared.error.ErrorKind.TheVariants.{OutOfMemory}
use Rattle.sketch_base.proofs.calls.Calls.{returned, with_error}
use Rattle.sketch_base.specs.Random.{after_draws}
use Rattle.sketch_kll.specs.Levels.{weight_in}
use Rattle.sketch_base.specs.Extremes.{newer_or}
use Rattle.sketch_kll.specs.Sketch.{Kll, sketch_of}
use Rattle.sketch_kll.specs.Updates.{coins_of_updates}
use Rattle.sketch_kll.proofs.calls.Calls.{still_seen, still_sound}
use Rattle.sketch_kll.proofs.layout.Compacted.{length-same}
use Rattle.sketch_kll.proofs.calls.InTurn.{UpdatesFields, updates_fields, updates_none, updates_seen}
use Rattle.sketch_kll.proofs.sketch.KllSketch.update_all.Given.{Over}
use Rattle.sketch_kll.proofs.sketch.KllSketch.update_all.Goals.{After-set_if_some-2}
use Rattle.sketch_kll.proofs.sketch.KllSketch.update_all.Goals as goal
use Rattle.sketch_kll.proofs.sketch.KllSketch.update_all.Goals.at as past

some_of : (n : ℕ) → (n ≡ 0 → ⊥) → 0 < n
some_of n some = omega arith

-- the sum of both fits
sum_of : (x : ℕ) {n : ℕ} → n ≤ 2 ^ 64 - 1 - x → 0 < n → x + n < 2 ^ 64
sum_of x h some = omega arith

levels_light : {A : Type 0} (ls kept : List (List A)) (x n l : ℕ) → kept ≡ ls → weight_in ls ≡ x → n ≡ l → x + n < 2 ^ 64 → weight_in kept + l < 2 ^ 64
levels_light ls kept x n l same weighs is light = omega (arith, ap weight_in same, weighs, is, light)

none_drawn : {A S : Type 0} (next : S → S) (source : S) (s : Kll A) (xs : List A) → length xs ≡ 0 → source ≡ after_draws next source (coins_of_updates s xs)
none_drawn next source s [] none = refl
none_drawn next source s (x ∷ xs) none = absurd (omega (arith, none))

pub update_all-requires-clause-light : goal.update_all-requires-clause-light
update_all-requires-clause-light g c =
    let x = c.self.inside in
    let clones = c.in_ok-clones.clones.items in
    let same = length-same g.T.Ord.cmp c.args.items.now clones c.in_ok-clones.ensures.clones in
    levels_light x.levels.levels c.prepare_all.new.self.levels x.n (length c.args.items.now) (length clones)
    c.prepare_all.ensures.kept.levels_are c.self.invariant.weighs_n same
    (sum_of _ c.if-count-self.false (some_of _ c.if-count-eq0.false))

-- what the updates make of the fields
made : (g : Over) (c : After-set_if_some-2 g) → let x = c.self.inside in let new = c.shrink.new.self in
    UpdatesFields g.met.T.Ord.total g.B.RandomBits.bit g.B.RandomBits.next c.args.coins.now c.update_all.new.coins c.args.self.now c.args.items.now
    (sketch_of new.k x.min_k (x.n + length c.args.items.now) new.is_sorted new.levels c.set_if_some.new.place c.set_if_some-2.new.place)
made g c =
    let x = c.self.inside in
    let old = c.prepare_all.new.self in
    let kept = c.prepare_all.ensures.kept in
    let told = c.in_ok-clones.ensures in
    let last = c.shrink.ensures.kept in
    updates_seen g.met.T.Ord.total c.self.view_is (updates_fields g.met.T.Ord.total g.B.RandomBits.bit g.B.RandomBits.next
    {clones = c.in_ok-clones.clones.items} {old_k = old.k} {old_flag = old.is_sorted} {rows = old.levels}
    {least = newer_or c.in_ok-clones.least x.min_item} {greatest = newer_or c.in_ok-clones.greatest x.max_item}
    c.self.invariant (some_of _ c.if-count-eq0.false) told.clones kept.k_is kept.flag_is kept.levels_are (last.k_is ∙ c.update_all.ensures.k)
    (rw (last.flag_is, last.levels_are) c.update_all.ensures.taken) told.least c.set_if_some.ensures told.greatest c.set_if_some-2.ensures)

pub returns-clause-ok : goal.returns-clause-ok
returns-clause-ok g c = (made g (past.returns-clause-ok g c).After-set_if_some-2).updated_are

pub returns-clause-coins : goal.returns-clause-coins
returns-clause-coins g c = (made g (past.returns-clause-coins g c).After-set_if_some-2).source_is

pub returns-clause-sound : goal.returns-clause-sound
returns-clause-sound g c = (made g (past.returns-clause-sound g c).After-set_if_some-2).sound

pub invariant_of-self-2 : goal.invariant_of-self-2
invariant_of-self-2 g c = (made g (past.invariant_of-self-2 g c).After-set_if_some-2).sound

pub returns-in_err-clones-clause-err : goal.returns-in_err-clones-clause-err
returns-in_err-clones-clause-err g c =
    let x = c.self.inside in
    with_error _ (returned _ OutOfMemory c.from_residual.ensures.1)
    (still_seen x.levels c.prepare_all.new.self x.min_k x.n x.min_item x.max_item c.args.self.now c.prepare_all.ensures.kept c.self.view_is, refl)

pub returns-in_err-clones-clause-sound : goal.returns-in_err-clones-clause-sound
returns-in_err-clones-clause-sound g c =
    let x = c.self.inside in
    still_sound g.T.Ord.cmp x.levels c.prepare_all.new.self x.min_k x.n x.min_item x.max_item c.prepare_all.ensures.kept c.self.invariant

pub returns-then-count-eq0-clause-ok : goal.returns-then-count-eq0-clause-ok
returns-then-count-eq0-clause-ok g c = updates_none g.met.T.Ord.total _ c.args.items.now _ c.if-count-eq0.true

pub returns-then-count-eq0-clause-coins : goal.returns-then-count-eq0-clause-coins
returns-then-count-eq0-clause-coins g c = none_drawn g.B.RandomBits.next c.args.coins.now c.args.self.now c.args.items.now c.if-count-eq0.true
