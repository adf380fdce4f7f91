use Rattle.std.proofs.lemmas.Grind.{common_steps}
use Rattle.std.proofs.Common.{◌≡◌, ℕ, Bool, List, Ordering, true, cond, ◌≤◌, inl, inr, length, arith, ap, sym, subst, ◌∙◌, refl, le_refl}
use Rattle.std.proofs.lemmas.Bool.{cases_eq}
use Rattle.std.specs.Cmp.{IsTotalOrder}
use Rattle.sketch_kll.specs.Levels.{SameLevels, UpperSorted}
use Rattle.sketch_kll.specs.Compress.{passes, stepped, stepped_source}
use Rattle.sketch_kll.specs.Stored.{KeepsRoom, Stored}
use Rattle.sketch_kll.proofs.layout.Flats.{SameLevels-refl}
use Rattle.sketch_kll.proofs.plays.Compresses.{behind_start, no_62nd_level, stepped_passed, walk_step, walk_more, WalkStep, Behind, walk_ended}
use Rattle.sketch_kll.proofs.layout.Full.{full_holds}
use Rattle.sketch_kll.proofs.levels.Levels.compress.Goals as goal
use Rattle.sketch_kll.proofs.levels.Levels.compress.Goals.at as past
use Rattle.sketch_kll.proofs.levels.Levels.compress.Goals.{Joined-not-level_passes, then-not-level_passes, else-not-level_passes}

pub loop-self-init : goal.loop-self-init
loop-self-init g c = record {
  kept = record { k_is = refl; flag_is = refl; items_room = le_refl _; bounds_room = le_refl _ };
  start = λ z. refl;
  level_few = omega arith;
  weighs = c.requires.light;
  behind = behind_start c.args.self.now.k c.args.self.now.levels;
  below = λ h. absurd (omega (arith, ap (λ (y : Stored g.row.T.Denot). length y.levels) c.self.view_is, c.self.invariant.some, h));
  levels = SameLevels-refl g.T.Ord.cmp g.met.T.Ord.total _;
  source = refl;
}

pub compact-requires-clause-few : goal.compact-requires-clause-few
compact-requires-clause-few g c = grind (arith, common_steps, full_holds, cases_eq, no_62nd_level)

-- one step of the walk: it leaves a level as it is, or compacts it
record HasStepped {A S : Type 0} (cmp : A → A → Ordering) (bit : S → Bool) (next : S → S) (level : ℕ) (x y : Stored A) (coins coins' : S) : Type 0 where
  kept : KeepsRoom x y
  levels : SameLevels cmp (stepped cmp x.k x.is_sorted (bit coins) level x.levels) y.levels
  source : coins' ≡ stepped_source next x.k level coins x.levels

has_stayed : {A S : Type 0} {cmp : A → A → Ordering} → IsTotalOrder cmp → {bit : S → Bool} {next : S → S} {level : ℕ} {x y : Stored A} {coins coins' : S} →
    passes x.k x.levels level ≡ true → y ≡ x → coins' ≡ coins → HasStepped cmp bit next level x y coins coins'
has_stayed {A} {S} {cmp} o {bit} {next} {level} {x} {y} {coins} {coins'} stays same drawn =
    rw (same, drawn) (record {
      kept = record { k_is = refl; flag_is = refl; items_room = le_refl _; bounds_room = le_refl _ };
      levels = subst (λ (ls : List (List A)). SameLevels cmp ls x.levels) (sym (stepped_passed cmp x.k x.is_sorted (bit coins) level x.levels (sym stays)))
          (SameLevels-refl cmp o x.levels);
      source = ap (λ (b : Bool). cond b coins (next coins)) (sym stays);
    })

has_stepped : (g : _) (c : Joined-not-level_passes g) →
    HasStepped g.T.Ord.cmp g.B.RandomBits.bit g.B.RandomBits.next c.loop-self.level c.loop-self.self c.if-not-level_passes.self c.loop-self.coins c.if-not-level_passes.coins
has_stepped g c = elim c.if-not-level_passes.branch [
  | then-not-level_passes w ↦ grind (arith, common_steps)
  | else-not-level_passes w ↦ has_stayed g.met.T.Ord.total (sym c.level_passes.ensures ∙ w.if-not-level_passes.false) w.self-is w.coins-is
]

pub loop-self-preserved : goal.loop-self-preserved
loop-self-preserved g c =
    let x = c.loop-self.self in
    let i = c.loop-self.invariant in
    let e = has_stepped g (past.loop-self-preserved g c).Joined-not-level_passes in
    let k : ℕ = c.args.self.now.k in
    let flag : Bool = c.args.self.now.is_sorted in
    let ms : List (List g.row.T.Denot) = c.if-not-level_passes.self.levels in
    let t = c.loop-self-test.ensures.within refl in
    let few = c.loop-self-test.ensures.few in
    let above = subst (λ (n : ℕ). 8 ≤ n) (ap (λ (y : Stored g.row.T.Denot). y.k) c.self.view_is) c.self.invariant.k_above in
    let levels = rw (i.kept.k_is, i.kept.flag_is) at e.levels in
    let source = rw i.kept.k_is at e.source in
    let s : WalkStep k c.loop-self.level x.levels ms = walk_step g.T.Ord.cmp k c.loop-self.level flag (g.B.RandomBits.bit c.loop-self.coins) x.levels ms above t few i.weighs i.behind levels in
    let w = walk_more g.T.Ord.cmp g.met.T.Ord.total g.B.RandomBits.bit g.B.RandomBits.next k flag c.loop-self.level c.loop-self.coins c.if-not-level_passes.coins _ x.levels ms _
    (omega (arith, t, few)) source levels i.levels i.source in
    record {
      kept = grind (arith, common_steps);
      start = λ z. absurd (omega (arith, z));
      level_few = omega (arith, t, few);
      weighs = omega (arith, s.weighs, i.weighs);
      behind = subst (λ (h : ℕ). Behind k h ms) (omega arith) s.behind;
      below = λ h. s.below (omega (arith, h));
      levels = w.0;
      source = w.1;
    }

pub returns : goal.returns
returns g c =
    let x = c.loop-self.self in
    let i = c.loop-self.invariant in
    let sorted : UpperSorted g.T.Ord.cmp c.args.self.now.levels = subst (λ (y : Stored g.row.T.Denot). UpperSorted g.T.Ord.cmp y.levels) c.self.view_is c.self.invariant.sorted in
    let over = rw i.kept.k_is at (c.loop-self-test.ensures.over refl) in
    let r = walk_ended g.T.Ord.cmp g.met.T.Ord.total g.B.RandomBits.bit g.B.RandomBits.next c.args.self.now.k c.args.self.now.is_sorted c.loop-self.level c.args.coins.now
    c.loop-self.coins c.args.self.now.levels x.levels sorted c.requires.flag over i.levels i.source in
    record {
      kept = i.kept;
      below = elim over [
        | inl h ↦ i.below h
        | inr h ↦ h
      ];
      levels = r.0;
      bag = r.1;
      coins = r.2;
      few = c.loop-self-test.ensures.few;
      sorted = c.loop-self-test.ensures.sorted;
    }
