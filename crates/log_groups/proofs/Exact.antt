-- The quantiles of a group that are exact.
use Rattle.std.proofs.Common.{◌≡◌, ℤ, ◌*◌, List, [], ◌∷◌, length, sym, subst, arith}
use Rattle.std.specs.Cmp.{int_cmp_total}
use Rattle.std.specs.Ordering.{int_cmp}
use Rattle.sketch_base.specs.declared.common.SearchCriteria.TheVariants.{Inclusive}
use Rattle.sketch_req.specs.Sketch as req
use Rattle.sketch_req.specs.Summaries.{Summarizes, IsProtectedFraction}
use Rattle.sketch_req.specs.Views as req_views
use Rattle.sketch_req.specs.declared.RankAccuracy.TheVariants.{HighRank}
use Rattle.sketch_req.proofs.tails.Answers.{tail-quantiles, view-of-itself, near-protected}
use Rattle.sketch_req.proofs.calls.Calls.{empty_sound}
use Rattle.sketch_req.proofs.tails.Summaries.{empty-summarizes, updates-summarize}
use Rattle.log_groups.specs.Exact.{TopIsExact}
use Rattle.log_groups.specs.Fed.{IsFedFrom}
use Rattle.log_groups.specs.declared.sketch.Kind.TheVariants.{Req as OfReq}
use Rattle.log_groups.specs.declared.sketch.Sketch.{Sketch}
use Rattle.log_groups.specs.declared.sketch.Sketch.TheVariants.{Req, Kll}
use Rattle.log_groups.proofs.OneRun.{one-run}

sound-after : (s : Sketch) (x : ℤ) (xs : List ℤ) (t : req.Req ℤ) → IsFedFrom s (x ∷ xs) (Req t) → req.IsSound int_cmp t
sound-after (Req s) x [] t (Req m, took, is) =
    let e : t ≡ m = cc in
    subst (λ (r : req.Req ℤ). req.IsSound int_cmp r) (sym e) took.2
sound-after (Req s) x [] t (Kll m, took, is) = absurd took
sound-after (Kll s) x [] t (Req m, took, is) = absurd took
sound-after (Kll s) x [] t (Kll m, took, is) = let e : Req t ≡ Kll m = is in absurd cc
sound-after (Req s) x (y ∷ ys) t (m, took, fed) = sound-after m y ys t fed
sound-after (Kll s) x (y ∷ ys) t (m, took, fed) = sound-after m y ys t fed

pub top-is-exact : TopIsExact
top-is-exact k x xs s fraction found legal fed some le near same =
    let run = one-run (OfReq k) x xs (Req s) fed in
    let sound = sound-after (Req (req.empty_sketch k HighRank)) x xs s fed in
    let summary : Summarizes int_cmp s (x ∷ xs) k = updates-summarize int_cmp_total (req.empty_sketch k HighRank) s (x ∷ xs) run.0 [] k (empty_sound int_cmp k HighRank legal)
    (empty-summarizes int_cmp_total k k HighRank (omega arith)) run.1 in
    let accurate : s.accuracy ≡ HighRank = run.1.accuracy in
    tail-quantiles int_cmp_total s (req_views.view_of int_cmp s) (x ∷ xs) k s.least s.greatest found fraction Inclusive sound summary summary.least summary.greatest
    (view-of-itself int_cmp_total s sound)
    (subst (λ a. IsProtectedFraction a (3 * k) (length (x ∷ xs)) fraction Inclusive) (sym accurate) (near-protected HighRank (3 * k) (length (x ∷ xs)) fraction Inclusive some le near))
    same
