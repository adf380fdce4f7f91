use Rattle.std.proofs.lemmas.Grind.{common_steps}
use Rattle.std.proofs.Common.{◌≡◌, ◌-◌, ◌<◌, ◌≤◌, ◌++◌, ℕ, List, replicate, take, drop, length, vec_capacity, refl, sym, ap, ◌∙◌, arith, append-nil, length-append}
use Rattle.std.proofs.lemmas.List.{length-replicate}
use Rattle.sketch_kll.specs.Capacity.{total_of}
use Rattle.sketch_kll.specs.Flat.{levels_in}
use Rattle.sketch_kll.specs.Join.{joined_bounds}
use Rattle.sketch_kll.specs.Levels.{retained_in}
use Rattle.sketch_kll.specs.Stored.{Stored}
use Rattle.sketch_kll.proofs.layout.Flats.{length-items}
use Rattle.sketch_kll.proofs.merges.Joined.{prepared, joined_fit, whole_slice}
use Rattle.sketch_kll.proofs.sketches.Stored.{JoinedStored, known_total, joined_stored}
use Rattle.sketch_kll.proofs.levels.Levels.merge_higher_levels.Goals as goal
use Rattle.sketch_kll.proofs.levels.Levels.merge_higher_levels.Goals.{After-drop-upper, Joined-len-others, then-len-others, else-len-others}
use Rattle.sketch_kll.proofs.levels.Levels.merge_higher_levels.Goals.at as past

none_more : {A : Type 0} (n : ℕ) (xs : List A) (x : A) {ys : List A} → ys ≡ xs → n ≤ length xs → ys ≡ xs ++ replicate (n - length xs) x
none_more n xs x same enough = same ∙ (sym (append-nil xs) ∙ ap (λ (m : ℕ). xs ++ replicate m x) (sym (no_more n enough)))
  where
    no_more : (n : ℕ) {m : ℕ} → n ≤ m → n - m ≡ 0
    no_more n enough = omega (arith, enough)

len_of : (n : ℕ) {A : Type 0} (xs : List A) (x : A) {ys : List A} {own others : ℕ} → ys ≡ xs ++ replicate (n - length xs) x → own ≡ length xs → others ≡ n → own < others →
    others - 1 ≡ length ys - 1
len_of n xs x more own others fewer = omega (arith, ap length more, length-append xs (replicate (n - length xs) x), length-replicate (n - length xs) x, own, others, fewer)

-- the fields once there are enough bounds
record IsWide (g : _) (c : Joined-len-others g) : Type 0 where
  bounds : c.if-len-others.self-inside.bounds.items ≡ c.self.inside.bounds.items ++ replicate (length c.args.others.now - length c.self.inside.bounds.items) 0
  room : vec_capacity c.if-len-others.self-inside.bounds ≡ vec_capacity c.self.inside.bounds
  k_is : c.if-len-others.self-inside.k ≡ c.self.inside.k
  flag_is : c.if-len-others.self-inside.is_level_zero_sorted ≡ c.self.inside.is_level_zero_sorted
  items_are : c.if-len-others.self-inside.items ≡ c.self.inside.items
  total_is : c.if-len-others.self-inside.total_capacity ≡ total_of c.self.inside.k 8 (length c.if-len-others.self-inside.bounds.items - 1)

is_wide : (g : _) (c : Joined-len-others g) → IsWide g c
is_wide g c = record {
  bounds = grind (arith, common_steps, none_more);
  room = grind (arith, common_steps);
  k_is = grind (arith, common_steps);
  flag_is = grind (arith, common_steps);
  items_are = grind (arith, common_steps);
  total_is = elim c.if-len-others.branch as (λ _. c.if-len-others.self-inside.total_capacity ≡ total_of c.self.inside.k 8 (length c.if-len-others.self-inside.bounds.items - 1)) [
    | then-len-others w ↦ ap (λ x. x.total_capacity) w.self-inside-is ∙ (w.total_capacity-self-inside.ensures.value ∙ ap (total_of c.self.inside.k 8)
        (len_of (length c.args.others.now) c.self.inside.bounds.items 0 (ap (λ x. x.bounds.items) w.self-inside-is ∙ w.add_levels.ensures.items) (c.len.ensures ∙ c.self.inside.bounds.ok.0) refl w.if-len-others.true))
    | else-len-others w ↦ ap (λ x. x.total_capacity) w.self-inside-is ∙ known_total c.self.invariant _ (ap (λ x. length x.bounds.items) w.self-inside-is)
  ];
}

-- what is stored in the end
stored_in_the_end : (g : _) (c : After-drop-upper g) →
    c.if-len-others.self-inside.bounds.items ≡ c.self.inside.bounds.items ++ replicate (length c.args.others.now - length c.self.inside.bounds.items) 0 →
    c.if-len-others.self-inside.items ≡ c.self.inside.items →
    c.if-len-others.self-inside.total_capacity ≡ total_of c.self.inside.k 8 (length c.if-len-others.self-inside.bounds.items - 1) →
    JoinedStored g.T.Ord.cmp c.self.inside.k
    (levels_in c.self.inside.items.items c.self.inside.bounds.items) (levels_in c.args.upper.items (drop 1 c.args.others.now)) c.reverse.new.self.items
    (take c.if-len-others.self-inside.bounds.len (c.add_bounds.new.bounds ++ drop (length c.add_bounds.new.bounds) c.if-len-others.self-inside.bounds.items))
    c.if-len-others.self-inside.total_capacity
stored_in_the_end g c more same total =
    let wide = c.if-len-others.self-inside.bounds in
    let back = c.merge_runs_back.ensures in
    let added : c.add_bounds.new.bounds ≡ joined_bounds c.deref.result.now c.args.others.now =
    c.add_bounds.ensures ∙ ap (λ (b : List ℕ). joined_bounds b c.args.others.now) (c.deref_mut.ensures.value ∙ sym c.deref.ensures.value) in
    let long = c.add_bounds.auto.bounds ∙ c.deref_mut.ensures.len in
    let whole = whole_slice c.add_bounds.new.bounds wide.items wide.len long in
    joined_stored c.args.others.now c.self.invariant c.requires.upper c.requires.some c.requires.few (c.deref.ensures.value ∙ more)
    (ap (λ v. v.items) (c.take_away-items.ensures.taken ∙ same))
    back.flat back.levels back.sorted c.reverse.ensures.items (whole ∙ added) (length wide.items)
    (sym wide.ok.0 ∙ sym (ap length whole ∙ long)) total

pub add_bounds-requires : goal.add_bounds-requires
add_bounds-requires g c =
    let x = c.self.inside in
    let wide = prepared c.args.others.now c.self.invariant c.requires.upper c.requires.some c.requires.few (c.deref_mut.ensures.value ∙ (is_wide g (past.add_bounds-requires g c).Joined-len-others).bounds) refl in
    let within = joined_fit x.items.items c.args.upper.items c.deref_mut.result.now c.args.others.now wide.fits c.requires.upper in
    let held = length-items x.items.items x.bounds.items c.self.invariant.flat ∙ ap (λ (y : Stored g.row.T.Denot). retained_in y.levels) c.self.view_is in
    record {
      some = c.requires.some;
      fewer = wide.fewer;
      zero = omega (arith, c.args.merged.small, c.requires.room, c.args.upper.ok.0, held, within.0);
      fits = λ j above. (omega (arith, c.args.merged.small, c.requires.room, c.args.upper.ok.0, held, within.1 j above));
    }

pub returns : goal.returns
returns g c = grind (arith, common_steps, is_wide, stored_in_the_end)

pub merge_runs_back-requires-clause-flat : goal.merge_runs_back-requires-clause-flat
merge_runs_back-requires-clause-flat g c =
    let w = is_wide g (past.merge_runs_back-requires-clause-flat g c).Joined-len-others in
    let wide = prepared c.args.others.now c.self.invariant c.requires.upper c.requires.some c.requires.few (c.deref.ensures.value ∙ w.bounds)
    (ap (λ v. v.items) (c.take_away-items.ensures.taken ∙ w.items_are)) in
    wide.fits

pub merge_runs_back-requires-clause-sorted : goal.merge_runs_back-requires-clause-sorted
merge_runs_back-requires-clause-sorted g c =
    let w = is_wide g (past.merge_runs_back-requires-clause-sorted g c).Joined-len-others in
    let wide = prepared c.args.others.now c.self.invariant c.requires.upper c.requires.some c.requires.few (c.deref.ensures.value ∙ w.bounds)
    (ap (λ v. v.items) (c.take_away-items.ensures.taken ∙ w.items_are)) in
    wide.sorted

pub merge_runs_back-requires-clause-room : goal.merge_runs_back-requires-clause-room
merge_runs_back-requires-clause-room g c = grind (arith, common_steps, is_wide, length-items)

pub invariant_of-self : goal.invariant_of-self
invariant_of-self g c =
    let w = is_wide g (past.invariant_of-self g c).Joined-len-others in
    grind (arith, common_steps, stored_in_the_end)
