use Rattle.std.proofs.Common.{IfOk, ◌<◌, ◌∷◌, [], refl, sym, ap, ap₂, subst, length, List, Bool}
use Rattle.std.proofs.lemmas.Result.{IfOk-weaker}
use Rattle.std.proofs.lemmas.Bool.{false≢true, lt-ltb, eqb-true}
use Rattle.sketch_req.specs.Level.{Level}
use Rattle.sketch_req.specs.LevelImage.{Place, place_at, BeginsLevel, BeginsLevels}
use Rattle.sketch_req.specs.Image.{IsOneBody, first_place}
use Rattle.sketch_req.specs.declared.RankAccuracy.{RankAccuracy}
use Rattle.sketch_req.proofs.sketches.Sound.{one_of, alone}
use Rattle.sketch_req.proofs.images.Texts.{same_levels, same_numbers}
use Rattle.sketch_req.proofs.calls.Calls.{read_failed, read_refused, many_counted, still_many}
use Rattle.sketch_req.proofs.sketch.ReqSketch.read_one.Given.{Over}
use Rattle.sketch_req.proofs.sketch.ReqSketch.read_one.Goals.{After-from_level, In_ok-level}
use Rattle.sketch_req.proofs.sketch.ReqSketch.read_one.Goals as goal
use Rattle.sketch_req.proofs.sketch.ReqSketch.read_one.Goals.at as past

pub returns-in_err-level : goal.returns-in_err-level
returns-in_err-level g c =
    let told = c.in_err-level.ensures in
    let f = g.T.ReqValue.spelling in
    let text = c.args.text.now in
    let place = ap₂ (λ (a : RankAccuracy) (z : Bool). place_at c.args.header.now.k a 0 z) c.rank_accuracy.ensures c.has_flag-said.ensures in
    read_failed _ (IsOneBody g.T.Ord.cmp g.T.ReqValue.spelling c.args.header.now c.args.text.now) c.from_residual-in_err-level.result
    c.from_residual-in_err-level.ensures.1
    (λ k s rest b.
    let one = one_of s.levels b.one_level in
    let all = subst (λ (ls : List (Level g.row.T.Denot)). BeginsLevels g.T.Ord.cmp f (first_place c.args.header.now) text ls rest) one.1 b.levels in
    told.refused k one.0 all.0 (subst (λ (q : Place). BeginsLevel g.T.Ord.cmp f q text one.0 all.0) (sym place) all.1)) told.kind

-- the level that was read, at its place
read : (g : Over) (c : In_ok-level g) →
    BeginsLevel g.T.Ord.cmp g.T.ReqValue.spelling (first_place c.args.header.now) c.args.text.now c.in_ok-level.level c.deserialize.new.input
read g c =
    subst (λ (p : Place). BeginsLevel g.T.Ord.cmp g.T.ReqValue.spelling p c.args.text.now c.in_ok-level.level c.deserialize.new.input)
    (ap₂ (λ (a : RankAccuracy) (z : Bool). place_at c.args.header.now.k a 0 z) c.rank_accuracy.ensures c.has_flag-said.ensures)
    c.in_ok-level.ensures.found

pub returns-in_err-unless-2 : goal.returns-in_err-unless-2
returns-in_err-unless-2 g c =
    let told = c.in_err-unless-2.ensures in
    let level = read g (past.returns-in_err-unless-2 g c).In_ok-level in
    let xs : List (Level g.row.T.Denot) = c.in_ok-level.level ∷ [] in
    read_refused _ (IsOneBody g.T.Ord.cmp g.T.ReqValue.spelling c.args.header.now c.args.text.now) c.from_residual-in_err-unless-2.result
    c.from_residual-in_err-unless-2.ensures.1 told.err
    (λ s rest b.
    let same = same_levels _ _ g.met.T.ReqValue.is_prefix_free _ c.requires.head.legal_k _ xs _ _ _ (sym b.one_level)
    (c.deserialize.new.input, level, refl) b.levels in
    let n = same_numbers g.T.ReqValue.spelling xs s.levels same.0 in
    let its = ap length (alone xs c.in_ok-level.level refl).items in
    false≢true (told.ok.1 (lt-ltb _ _ (still_many n.items its b.many_items c.num_items.ensures.value))))

-- the sketch that is made has such a body
found : (g : Over) (c : After-from_level g) →
    BeginsLevel g.T.Ord.cmp g.T.ReqValue.spelling (first_place c.args.header.now) c.args.text.now c.in_ok-level.level c.deserialize.new.input →
    4 < c.num_items.result →
    IfOk c.from_level.result (λ s. IsOneBody g.T.Ord.cmp g.T.ReqValue.spelling c.args.header.now c.args.text.now s c.deserialize.new.input)
found g c level many =
    let rest = c.deserialize.new.input in
    let place = first_place c.args.header.now in
    IfOk-weaker c.from_level.result _ _ (λ s t. record {
      none_raw = eqb-true _ _ (c.in_ok-unless.ensures.ok.0 refl);
      one_level = ap length t.0;
      levels = subst (λ (ls : List (Level g.row.T.Denot)). BeginsLevels g.T.Ord.cmp g.T.ReqValue.spelling place c.args.text.now ls rest)
          (sym t.0) (rest, level, refl);
      many_items = many_counted (ap length (alone _ c.in_ok-level.level t.0).items) c.num_items.ensures.value many;
      told = t.1;
    }) c.from_level.ensures.told
