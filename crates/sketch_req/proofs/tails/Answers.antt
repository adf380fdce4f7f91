-- What a summary answers about its tail: ranks, entries and quantiles are those of the stream, ties included.
use Rattle.std.proofs.Common.{◌≡◌, ℕ, zero, suc, ◌+◌, ◌-◌, ◌*◌, ◌/◌, ◌<◌, ◌≤◌, true, false, not, ◌⊎◌, inl, inr, ⊎_elim, List, length, get_or, refl, sym, ap, ◌∙◌, subst, arith, eq-eqb, Ordering, Option, None, Some, is_lt, is_le}
use Rattle.std.specs.Prelude.{slice_get, ◌==◌}
use Rattle.std.specs.Cmp.{IsTotalOrder}
use Rattle.std.proofs.Math.Nat.{div-lt_iff_lt-mul, lt-div-mul-add, lt_of_mul-lt-mul_left}
use Rattle.std.proofs.lemmas.Cmp.{tied_back, tied_itself}
use Rattle.std.proofs.lemmas.Option.{slice_get_cases, slice_get_past}
use Rattle.sketch_base.specs.Exact.{IsExactUpTo}
use Rattle.sketch_base.specs.declared.common.SearchCriteria.{SearchCriteria}
use Rattle.sketch_base.specs.declared.common.SearchCriteria.TheVariants.{Inclusive, Exclusive}
use Rattle.sketch_base.specs.Bag.{expanded, repeated, sort}
use Rattle.sketch_base.specs.Queries.{SameAnswer, quantile_in, quantile_place}
use Rattle.sketch_base.specs.Query.{counted, true_rank}
use Rattle.sketch_base.proofs.views.Entries.{if-same, SameAnswer-itself, SameAnswer-trans, counted-parted, quantile-same, item-enclosed, length-expanded}
use Rattle.sketch_base.proofs.plays.Plays.{length-sort, one}
use Rattle.sketch_base.proofs.bags.Alike.{SameItems-refl}
use Rattle.sketch_base.proofs.order.Extremes.{one_least, one_greatest, counts-passed, counts-failed}
use Rattle.sketch_base.proofs.order.Order.{IsSorted-sort}
use Rattle.sketch_base.proofs.bags.Acts.{sum_by-sort}
use Rattle.sketch_base.proofs.tails.ExactTails.{both_counts}
use Rattle.sketch_req.specs.Actions.{bag_of}
use Rattle.sketch_req.specs.Relative.{off_protected_end}
use Rattle.sketch_req.specs.Sketch.{Req, IsSound}
use Rattle.sketch_req.specs.declared.RankAccuracy.{RankAccuracy}
use Rattle.sketch_req.specs.declared.RankAccuracy.TheVariants.{HighRank, LowRank}
use Rattle.sketch_req.proofs.views.Views.{weight_is}
use Rattle.sketch_req.specs.Summaries.{Summarizes, IsProtectedPlace, IsProtectedFraction, TailRanksAreExact, TailEntriesAreExact, NearFractionsAreProtected, TailQuantilesAreExact, SketchIsViewOfItself}

module _ {A : Type 0} (cmp : A → A → Ordering) where
  -- a sound summary's expanded list is as long as the stream
  as-long : (s : Req A) (stream : List A) (tail : ℕ) → IsSound cmp s → Summarizes cmp s stream tail → length (expanded cmp (bag_of s.levels)) ≡ length stream
  as-long s stream tail sound is = length-expanded cmp (bag_of s.levels) ∙ (weight_is s.levels ∙ (sound.weighs_n ∙ is.length_is))

  -- the rank, from the count on the accurate side
  rank-exact : (accuracy : RankAccuracy) (y : A) (criteria : SearchCriteria) (xs ys : List A) → length xs ≡ length ys →
      off_protected_end cmp accuracy y criteria xs ≡ off_protected_end cmp accuracy y criteria ys → true_rank cmp y criteria xs ≡ true_rank cmp y criteria ys
  rank-exact HighRank y criteria xs ys long same = omega (arith, long, same, both_counts (counted cmp y criteria) xs, both_counts (counted cmp y criteria) ys)
  rank-exact LowRank y criteria xs ys long same = same

  pub tail-ranks : TailRanksAreExact cmp
  tail-ranks s stream tail y criteria sound is few =
      rank-exact s.accuracy y criteria (expanded cmp (bag_of s.levels)) stream (as-long s stream tail sound is) ((is.exact y criteria).same few)

  -- the ranks of an entry enclose its place, if counts on the accurate side are exact up to that of the place
  encloses : (accuracy : RankAccuracy) (most p : ℕ) (x : A) (xs ys : List A) → length xs ≡ length ys → p < length ys → IsProtectedPlace accuracy most (length ys) p →
      ((criteria : SearchCriteria) → IsExactUpTo most (off_protected_end cmp accuracy x criteria ys) (off_protected_end cmp accuracy x criteria xs)) →
      true_rank cmp x Exclusive ys ≤ p → p < true_rank cmp x Inclusive ys → (true_rank cmp x Exclusive xs ≤ p) × (p < true_rank cmp x Inclusive xs)
  encloses HighRank most p x xs ys long within near exact low high =
      let excl = both_counts (counted cmp x Exclusive) in
      let incl = both_counts (counted cmp x Inclusive) in (
        omega (arith, long, within, near, low, (exact Exclusive).enough, excl xs, excl ys),
        omega (arith, long, within, near, high, (exact Inclusive).same (omega (arith, within, near, high, incl ys)), incl xs, incl ys),
      )
  encloses LowRank most p x xs ys long within near exact low high = (
    omega (arith, low, (exact Exclusive).same (omega (arith, near, low))),
    omega (arith, near, high, (exact Inclusive).enough),
  )

module _ {A : Type 0} {cmp : A → A → Ordering} (order : IsTotalOrder cmp) where
  pub tail-entries : TailEntriesAreExact cmp
  tail-entries s stream tail place sound is near =
      let xs = expanded cmp (bag_of s.levels) in
      let ys = sort cmp stream in
      let long : length xs ≡ length ys = as-long cmp s stream tail sound is ∙ sym (length-sort cmp stream) in
      ⊎_elim (λ h. go h.0 h.1 h.2 h.3)
      (λ h. rw (h.1, slice_get_past xs place (omega (arith, long, h.0))) tt) (slice_get_cases ys place).1
    where
      sorted-off : (accuracy : RankAccuracy) (y : A) (criteria : SearchCriteria) → off_protected_end cmp accuracy y criteria stream ≡ off_protected_end cmp accuracy y criteria (sort cmp stream)
      sorted-off HighRank y criteria = sym (sum_by-sort (one (λ x. not (counted cmp y criteria x))) cmp stream)
      sorted-off LowRank y criteria = sym (sum_by-sort (one (counted cmp y criteria)) cmp stream)

      go : (x : A) → place < length (sort cmp stream) → slice_get (sort cmp stream) place ≡ Some x → get_or (sort cmp stream) place x ≡ x →
          SameAnswer cmp (slice_get (expanded cmp (bag_of s.levels)) place) (slice_get (sort cmp stream) place)
      go x within e got =
          let xs = expanded cmp (bag_of s.levels) in
          let ys = sort cmp stream in
          let up = IsSorted-sort cmp order stream in
          let counts : counted cmp x Inclusive (get_or ys place x) ≡ true = rw got (ap is_le (tied_itself order x)) in
          let fails : counted cmp x Exclusive (get_or ys place x) ≡ false = rw got (ap is_lt (tied_itself order x)) in
          let low = counts-failed (counted cmp x Exclusive) ys place x (counted-parted order ys x Exclusive up) within fails in
          let high : place < true_rank cmp x Inclusive ys = omega (arith, counts-passed (counted cmp x Inclusive) ys place x (counted-parted order ys x Inclusive up) within counts) in
          let near' : IsProtectedPlace s.accuracy (3 * tail) (length ys) place = rw (length-sort cmp stream) near in
          let long : length xs ≡ length ys = as-long cmp s stream tail sound is ∙ sym (length-sort cmp stream) in
          let both = encloses cmp s.accuracy (3 * tail) place x xs ys long within near' (λ criteria.
          subst (λ (n : ℕ). IsExactUpTo (3 * tail) n (off_protected_end cmp s.accuracy x criteria xs)) (sorted-off s.accuracy x criteria) (is.exact x criteria)) low high in
          rw e (item-enclosed order xs x place (IsSorted-sort cmp order (repeated 0 (bag_of s.levels).levels)) both.0 both.1)

  -- quantiles of sorted lists of one length that are extremes, or whose entries compare equal
  same-quantile : (xs ys : List A) (l l' g g' : Option A) (a b : ℕ) (criteria : SearchCriteria) → length xs ≡ length ys → SameAnswer cmp l l' → SameAnswer cmp g g' →
      (a ≡ 0) ⊎ ((a ≡ b) ⊎ SameAnswer cmp (slice_get xs (quantile_place (length ys) a b criteria)) (slice_get ys (quantile_place (length ys) a b criteria))) →
      SameAnswer cmp (quantile_in xs l g a b criteria) (quantile_in ys l' g' a b criteria)
  same-quantile xs ys l l' g g' a b criteria long least greatest (inl first) = rw (eq-eqb a 0 first) least
  same-quantile xs ys l l' g g' a b criteria long least greatest (inr (inl last)) =
      if-same cmp (a == 0) l l' _ _ least (rw (eq-eqb a b last) greatest)
  same-quantile xs ys l l' g g' a b criteria long least greatest (inr (inr entry)) =
      if-same cmp (a == 0) l l' _ _ least (if-same cmp (a == b) g g' _ _ greatest (rw long entry))

  SameAnswer-back : (x y : Option A) → SameAnswer cmp x y → SameAnswer cmp y x
  SameAnswer-back None None h = tt
  SameAnswer-back (Some x) (Some y) h = tied_back order x y h
  SameAnswer-back None (Some y) h = absurd h
  SameAnswer-back (Some x) None h = absurd h

  pub tail-quantiles : TailQuantilesAreExact cmp
  tail-quantiles s view stream tail least greatest found fraction criteria sound is low high v near same =
      let a = fraction.weight in
      let b = fraction.total in
      let bag = bag_of s.levels in
      let ys = sort cmp stream in
      let long : length (expanded cmp bag) ≡ length ys = as-long cmp s stream tail sound is ∙ sym (length-sort cmp stream) in
      let itself = SameItems-refl cmp order stream in
      let exact = same-quantile ys (expanded cmp bag) least s.least greatest s.greatest a b criteria (sym long)
      (one_least order stream stream least s.least itself low is.least) (one_greatest order stream stream greatest s.greatest itself high is.greatest)
      (placed near) in
      let seen = quantile-same cmp (expanded cmp bag) view.entries s.least view.least s.greatest view.greatest a b criteria v.entries v.least v.greatest in
      SameAnswer-trans order _ _ _ exact (SameAnswer-trans order _ _ _ seen same)
    where
      placed : IsProtectedFraction s.accuracy (3 * tail) (length stream) fraction criteria →
          (fraction.weight ≡ 0) ⊎ ((fraction.weight ≡ fraction.total)
          ⊎ SameAnswer cmp (slice_get (sort cmp stream) (quantile_place (length (expanded cmp (bag_of s.levels))) fraction.weight fraction.total criteria))
          (slice_get (expanded cmp (bag_of s.levels)) (quantile_place (length (expanded cmp (bag_of s.levels))) fraction.weight fraction.total criteria)))
      placed (inl first) = inl first
      placed (inr (inl last)) = inr (inl last)
      placed (inr (inr near)) = inr (inr (rw (as-long cmp s stream tail sound is)
          (SameAnswer-back _ _ (tail-entries s stream tail (quantile_place (length stream) fraction.weight fraction.total criteria) sound is near))))

  pub view-of-itself : SketchIsViewOfItself cmp
  view-of-itself s sound = record {
    entries = SameItems-refl cmp order (expanded cmp (bag_of s.levels));
    weighs_n = length-expanded cmp (bag_of s.levels) ∙ (weight_is s.levels ∙ sound.weighs_n);
    least = SameAnswer-itself order s.least;
    greatest = SameAnswer-itself order s.greatest;
    ranks = λ y criteria. refl;
  }

-- ---- places of fractions

-- a fraction w/t with d + w = t whose complement, or which itself, leaves fewer than `most` of n entries
high-exclusive : (t w d n most : ℕ) → d + w ≡ t → 0 < t → d * n < most * t → n ≤ w * n / t + most
high-exclusive t w d n most e some near =
    let whole : (d + w) * n ≡ t * n = ap (λ m. m * n) e in
    let over = lt-div-mul-add {a = w * n} {b = t} some in
    let less : n < w * n / t + 1 + most = lt_of_mul-lt-mul_left t (omega (arith, whole, over, near)) in
    omega (arith, less)

high-inclusive : (t w d n most : ℕ) → d + w ≡ t → 0 < t → d * n < most * t → n ≤ (w * n + (t - 1)) / t - 1 + most
high-inclusive t w d n most e some near =
    let whole : (d + w) * n ≡ t * n = ap (λ m. m * n) e in
    let over = lt-div-mul-add {a = w * n + (t - 1)} {b = t} some in
    let less : n < (w * n + (t - 1)) / t + most = lt_of_mul-lt-mul_left t (omega (arith, whole, over, near, some)) in
    omega (arith, less)

low-exclusive : (t w n most : ℕ) → 0 < t → w * n < most * t → w * n / t < most
low-exclusive t w n most some near = (div-lt_iff_lt-mul {k = t} {x = w * n} {y = most} some).1 near

low-inclusive : (t w n most : ℕ) → 0 < t → w * n < most * t → (w * n + (t - 1)) / t - 1 < most
low-inclusive t w n zero some near = absurd (omega (arith, near))
low-inclusive t w n (suc most) some near =
    let small : w * n + (t - 1) < (suc most + 1) * t = omega (arith, near, some) in
    let less = (div-lt_iff_lt-mul {k = t} {x = w * n + (t - 1)} {y = suc most + 1} some).1 small in
    omega (arith, less)

pub near-protected : NearFractionsAreProtected
near-protected HighRank most n fraction Exclusive some le near =
    inr (inr (high-exclusive fraction.total fraction.weight (fraction.total - fraction.weight) n most (omega (arith, le)) some near))
near-protected HighRank most n fraction Inclusive some le near =
    inr (inr (high-inclusive fraction.total fraction.weight (fraction.total - fraction.weight) n most (omega (arith, le)) some near))
near-protected LowRank most n fraction Exclusive some le near = inr (inr (low-exclusive fraction.total fraction.weight n most some near))
near-protected LowRank most n fraction Inclusive some le near = inr (inr (low-inclusive fraction.total fraction.weight n most some near))
