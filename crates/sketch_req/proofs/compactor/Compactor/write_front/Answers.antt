use Rattle.std.specs.Int.{w32, w64, to_le_bytes}
use Rattle.std.proofs.Common.{◌∷◌, [], refl}
use Rattle.std.proofs.lemmas.Result.{IfOk-weaker}
use Rattle.sketch_req.proofs.images.Levels.{extended, front_written, not_extended}
use Rattle.sketch_req.proofs.compactor.Compactor.write_front.Goals as goal

pub returns-clause-ok : goal.returns-clause-ok
returns-clause-ok g c =
    let s = c.self.inside in
    let begun = extended c.args.bytes.now (to_le_bytes w64 s.state) (not_extended refl) c.in_ok-write_u64_le.ensures.ok in
    let further = extended c.args.bytes.now (to_le_bytes w32 s.section_size) begun c.in_ok-write_u32_le.ensures.ok in
    let last = extended c.args.bytes.now (s.lg_weight ∷ c.num_sections.result ∷ 0 ∷ 0 ∷ []) further c.in_ok-write.ensures.ok in
    IfOk-weaker c.write_u32_le-2.result _ _
    (λ _ last. front_written c.args.bytes.now c.self.view_is c.self.invariant.size_is c.num_sections.ensures.value c.num_items.ensures.value
    c.in_ok-write_u64_le.ensures.ok c.in_ok-write_u32_le.ensures.ok c.in_ok-write.ensures.ok last) c.write_u32_le-2.ensures.ok
