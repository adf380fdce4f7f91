-- The numbers that a cdf and a pmf hand over.
use Rattle.std.proofs.Common.{◌≡◌, ℕ, ◌+◌, ℤ, Bool, true, false, List, [], ◌∷◌, length, map, suc, refl, ap, ◌∙◌}
use Rattle.std.proofs.lemmas.List.{length-append, length-map}
use Rattle.sketch_base.specs.Query.{true_rank}
use Rattle.sketch_base.specs.Queried.{Queried}
use Rattle.sketch_base.specs.Queries.{cdf_of, differences, ranks_of}
use Rattle.sketch_base.specs.declared.common.Rank.{Rank}
use Rattle.sketch_base.specs.declared.common.SearchCriteria.{SearchCriteria}
use Rattle.sketches_c.specs.Calls.{masses_of}

cdf_count : (q : Queried ℤ) (criteria : SearchCriteria) (points : List ℤ) → length (cdf_of q.cmp criteria q.entries points) ≡ length points + 1
cdf_count q criteria points =
    length-append (map (λ y. true_rank q.cmp y criteria q.entries) points) (length q.entries ∷ []) ∙ ap (λ k. k + 1) (length-map points (λ y. true_rank q.cmp y criteria q.entries))

as_many : (before : ℕ) (ns : List ℕ) → length (differences before ns) ≡ length ns
as_many before [] = refl
as_many before (n ∷ ns) = ap suc (as_many n ns)

-- one for each point and one more
pub masses_count : (q : Queried ℤ) (points : List ℤ) (criteria : SearchCriteria) (steps : Bool) → length (ranks_of q.n (masses_of q points criteria steps)) ≡ length points + 1
masses_count q points criteria true = length-map (masses_of q points criteria true) _ ∙ as_many 0 (cdf_of q.cmp criteria q.entries points) ∙ cdf_count q criteria points
masses_count q points criteria false = length-map (cdf_of q.cmp criteria q.entries points) _ ∙ cdf_count q criteria points
