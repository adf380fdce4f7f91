use Rattle.std.proofs.lemmas.Grind.{common_steps}
use Rattle.std.proofs.Common.{arith, ◌≡◌, ◌+◌, ◌<◌, ◌≤◌, ℕ, List, length, get_or, take, drop, ap, ap₂, refl, ◌∙◌, length-append, take-append-drop}
use Rattle.std.proofs.lemmas.Grind.{get_or_default_zero}
use Rattle.sketch_kll.specs.Flat.{levels_in}
use Rattle.sketch_kll.specs.Levels.{retained_in}
use Rattle.sketch_kll.specs.Stored.{Stored}
use Rattle.sketch_kll.proofs.layout.Flats.{bound_within, length-bounds, length-items}
use Rattle.sketch_kll.proofs.layout.Alike.{same_clones, cloned}
use Rattle.sketch_kll.proofs.sketches.Stored.{kept_still, clones_told}
use Rattle.sketch_kll.proofs.levels.Levels.make_ready.Goals as goal

-- where level 0 begins
begins_at : {from : ℕ} (bounds : List ℕ) {n : ℕ} → length bounds ≡ n + 1 → 0 < n → from ≡ get_or bounds 1 from → from ≡ get_or bounds 1 0
begins_at {from} bounds is some from_is = from_is ∙ get_or_default_zero bounds 1 from (omega (arith, is, some))

pub split_off-requires : goal.split_off-requires
split_off-requires g c = grind (arith, common_steps, begins_at, length-bounds, bound_within)

room_of : {items count now own low room : ℕ} → items + count ≤ room → now ≡ own → items ≡ own → count ≡ low → now + low ≤ room
room_of room now items low = omega (arith, room, now, items, low)

merged_of : (low upper : ℕ) {items count now own all room : ℕ} → items + count ≤ room → now ≡ own → items ≡ own → count ≡ all → low + upper ≡ all →
    now + low + upper ≤ room
merged_of low upper room now items count both = omega (arith, room, now, items, count, both)

parts_of : {A : Type 0} (n : ℕ) (copy : List A) {xs ys : List A} {low upper len all : ℕ} → low ≡ length xs → xs ≡ drop n copy → upper ≡ length ys →
    ys ≡ take n copy → len ≡ length copy → len ≡ all →
    low + upper ≡ all
parts_of n copy low xs upper ys len all =
    omega (arith, low, ap length xs, upper, ap length ys, length-append (take n copy) (drop n copy), ap length (take-append-drop n copy), len, all)

pub returns : goal.returns
returns g c =
    let made = c.in_ok-merged.ensures in
    let same = ap retained_in (ap₂ levels_in c.reserve_merged.ensures.items c.reserve_merged.ensures.bounds) in
    let n = length-items c.self.inside.items.items c.self.inside.bounds.items c.self.invariant.flat in
    let x = c.others.inside in
    let flat = c.others.invariant.flat in
    let long = length-bounds x.items.items x.bounds.items flat in
    let from = begins_at x.bounds.items long c.others.invariant.some c.index.ensures in
    let copy : List g.row.T.Denot = c.in_ok-upper.upper.items in
    let alike = same_clones g.T.Ord.cmp g.T.Clone.is_clone c.requires.clones x.items.items copy c.in_ok-upper.ensures.cases.0 in
    let split = cloned g.T.Ord.cmp x.items.items copy x.bounds.items c.in_ok-low.low.items c.split_off.new.self.items flat (omega (arith, long, c.others.invariant.some))
    alike (c.in_ok-low.ensures.tail ∙ ap (λ (n : ℕ). drop n copy) from) (c.in_ok-low.ensures.items ∙ ap (λ (n : ℕ). take n copy) from) in
    record {
      kept = kept_still c.self.view_is c.reserve_merged.ensures.items c.reserve_merged.ensures.bounds;
      ready = record {
        items_room = room_of made.room same n c.len.ensures;
        bounds_room = made.spare;
        merged_room = merged_of _ _ made.merged same n c.len-count.ensures
            (parts_of c.index.result.now copy c.in_ok-low.low.ok.0 c.in_ok-low.ensures.tail c.split_off.new.self.ok.0 c.in_ok-low.ensures.items
            c.in_ok-upper.upper.ok.0 c.in_ok-upper.ensures.cases.1);
        merged_empty = made.empty;
      };
      clones = clones_told _ flat refl (ap (λ (y : Stored g.row.T.Denot). y.levels) c.others.view_is) split.same split.fits;
    }
