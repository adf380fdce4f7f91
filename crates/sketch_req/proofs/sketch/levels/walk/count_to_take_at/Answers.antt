use Rattle.std.proofs.Common.{arith, rules, ◌≡◌, ℕ, List, get_or, Option, unwrap_or, sym, ap, ap₂, ◌∙◌}
use Rattle.std.specs.Option.{option_map}
use Rattle.sketch_req.specs.Level.{Level}
use Rattle.sketch_req.specs.Schedule.{Layout, layout_of, layouts_of, layout_at, joined_layout}
use Rattle.sketch_req.specs.Walk.{k_of, accuracy_of, holding, taken_if_full}
use Rattle.sketch_req.proofs.layouts.Layouts.{length-layouts}
use Rattle.sketch_req.proofs.merges.Levels.{joined-at, joined-past, k-at, layout-there, reads}
use Rattle.sketch_req.proofs.sketch.levels.walk.count_to_take_at.Given.{Over}
use Rattle.sketch_req.proofs.sketch.levels.walk.count_to_take_at.Goals.{After-unwrap_or-own}
use Rattle.sketch_req.proofs.sketch.levels.walk.count_to_take_at.Goals as goal
use Rattle.sketch_req.proofs.sketch.levels.walk.count_to_take_at.Goals.at as past

-- The level at a place, or a fresh one, and the other's level at the same place.
-- what is found, or else another one
found : {R A : Type 0} (read : R → A) (r : Option R) (none : R) → read (unwrap_or r none) ≡ unwrap_or (option_map read r) (read none)
found read r none = search rules

module _ (g : Over) (c : After-unwrap_or-own g) where
  abbrev own : Level g.row.T.Denot
  own = c.unwrap_or-own.result.now

  own_is : own ≡ get_or c.args.levels.now c.args.level c.args.blank.now
  own_is = ap (λ r. r.now) c.unwrap_or-own.ensures ∙ (found (λ r. r.now) c.get.result _ ∙ c.get.ensures.lookup.4 (omega arith) c.args.blank.now)

  layout_is : layout_of own ≡ layout_at (layouts_of c.args.levels.now) c.args.level
  layout_is =
      let ls : List (Level g.row.T.Denot) = c.args.levels.now in
      ap layout_of (own_is ∙ ap (λ (d : Level g.row.T.Denot). get_or ls c.args.level d) c.requires.blank)
      ∙ sym (reads (k_of ls) 0 (accuracy_of ls) ls c.args.level).1

  k_is : own.k ≡ k_of c.args.levels.now
  k_is =
      ap (λ (l : Level g.row.T.Denot). l.k) own_is
      ∙ k-at g.T.Ord.cmp _ _ 0 c.args.level c.args.levels.now c.args.blank.now c.requires.levels.placed (ap (λ (l : Level g.row.T.Denot). l.k) c.requires.blank)

pub returns-in-Some : goal.returns-in-Some
returns-in-Some g c =
    let at = (past.returns-in-Some g c).After-unwrap_or-own in
    let ls : List Layout = layouts_of c.args.levels.now in
    let os : List Layout = layouts_of c.args.others.now in
    let k = k_of c.args.levels.now in
    let within = c.in-Some.ensures.lookup.3.0 in
    let other = layout-there c.args.others.now c.args.level c.in-Some.other.now within c.in-Some.ensures.lookup.1 in
    c.count_if_joined.ensures
    ∙ (ap₂ (λ (k : ℕ) (l : Layout). taken_if_full k (holding c.args.len (joined_layout k l (layout_of c.in-Some.other.now)))) (k_is g at) (layout_is g at)
    ∙ ap (λ (l : Layout). taken_if_full k (holding c.args.len l))
    (ap (joined_layout k (layout_at ls c.args.level)) (sym other) ∙ sym (joined-at k ls os c.args.level (omega (arith, within, length-layouts c.args.others.now)))))

pub returns-in-None : goal.returns-in-None
returns-in-None g c =
    let at = (past.returns-in-None g c).After-unwrap_or-own in
    let ls : List Layout = layouts_of c.args.levels.now in
    let os : List Layout = layouts_of c.args.others.now in
    let k = k_of c.args.levels.now in
    c.count_if_full.ensures
    ∙ ap₂ (λ (k : ℕ) (l : Layout). taken_if_full k (holding c.args.len l)) (k_is g at)
    (layout_is g at ∙ sym (joined-past k ls os c.args.level (omega (arith, c.in-None.ensures.lookup.3, length-layouts c.args.others.now))))
