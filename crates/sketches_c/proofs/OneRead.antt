-- What bytes that aren't read hold: no image.
use Rattle.std.proofs.Common.{◌≡◌, ◌≢◌, ◌⊎◌, ℕ, ℤ, Bool, true, false, List, [], ◌∷◌, Option, None, Some, length, arith, refl, sym, ap, ◌∙◌, subst}
use mathlib.Core.Bool.{true≢false}
use mathlib.Core.Logic.{inl, inr}
use Rattle.std.proofs.lemmas.Cmp.{int_cmp_total}
use Rattle.std.specs.FinMap.{int_cmp-IsAntisymmetric}
use Rattle.std.specs.List.{AllZip}
use Rattle.std.specs.Ordering.{int_cmp}
use Rattle.sketch_base.specs.Bag.{SameItems}
use Rattle.sketch_base.specs.Queries.{SameAnswer}
use Rattle.sketch_base.specs.Spelling.{i64_spelling}
use Rattle.sketch_base.specs.SpellingLaws.{i64_prefix_free, i64_ties}
use Rattle.sketch_base.specs.declared.error.ErrorKind.{ErrorKind}
use Rattle.sketch_base.specs.declared.error.ErrorKind.TheVariants.{InvalidData}
use Rattle.sketch_kll.specs.Image as kll_image
use Rattle.sketch_kll.specs.Sketch.{Kll as KllSketch}
use Rattle.sketch_req.specs.Image.{BeginsImage, NoImage}
use Rattle.sketch_req.specs.Imaged.{IsSameLevel, IsSameSketch}
use Rattle.sketch_req.specs.Level.{Level}
use Rattle.sketch_req.specs.Sketch.{Req as ReqSketch}
use Rattle.sketch_req.specs.Written.{image_text}
use Rattle.sketch_req.proofs.images.Texts.{one_sketch}
use Rattle.sketches_c.specs.Calls.{ReadsNothing}
use Rattle.sketches_c.specs.Frames.{Holds, IsMarked}
use Rattle.sketches_c.specs.Sketches.{IsOfImage, IsOfNoImage}
use Rattle.sketches_c.specs.declared.sketch.Sketch.{Sketch}
use Rattle.sketches_c.specs.declared.sketch.Sketch.TheVariants.{Kll, Req}

-- ---- bytes begin with an image of one sketch

same_items : (xs ys : List ℤ) → SameItems int_cmp xs ys → ys ≡ xs
same_items [] [] h = refl
same_items [] (y ∷ ys) h = absurd h
same_items (x ∷ xs) [] h = absurd h
same_items (x ∷ xs) (y ∷ ys) h = λ i. sym (int_cmp-IsAntisymmetric x y h.0) i ∷ same_items xs ys h.1 i

same_levels : (ls ms : List (Level ℤ)) → AllZip (IsSameLevel int_cmp) ls ms → ms ≡ ls
same_levels [] [] h = refl
same_levels [] (m ∷ ms) h = absurd h
same_levels (l ∷ ls) [] h = absurd h
same_levels (l ∷ ls) (m ∷ ms) h = λ i. (h.0.rest ∙ ap (λ (xs : List ℤ). record l { items = xs }) (same_items l.items m.items h.0.items)) i ∷ same_levels ls ms h.1 i

same_end : (x y : Option ℤ) → SameAnswer int_cmp x y → y ≡ x
same_end None None h = refl
same_end None (Some y) h = absurd h
same_end (Some x) None h = absurd h
same_end (Some x) (Some y) h = ap Some (sym (int_cmp-IsAntisymmetric x y h))

same_sketch : (s t : ReqSketch ℤ) → IsSameSketch int_cmp s t → t ≡ s
same_sketch s t e i = record {
  k = e.k i;
  accuracy = e.accuracy i;
  n = e.n i;
  levels = same_levels s.levels t.levels e.levels i;
  least = same_end s.least t.least e.least i;
  greatest = same_end s.greatest t.greatest e.greatest i;
}

-- ---- bytes that a family doesn't read

pub none_kll : (error : ErrorKind) (bytes : List ℕ) (seed : ℕ) (req : Bool) → req ≡ false → (error ≡ InvalidData → (s : KllSketch ℤ) → ¬ (kll_image.IsImage int_cmp i64_spelling bytes s))
    → error ≡ InvalidData → IsOfNoImage req bytes seed
unfolding IsOfNoImage
none_kll error bytes seed req own refused is (Kll s) after e h = refused is s h.0
none_kll error bytes seed req own refused is (Req s) after e h = true≢false (e ∙ own)

pub none_req : (error : ErrorKind) (bytes : List ℕ) (seed : ℕ) (req : Bool) → req ≡ true → (error ≡ InvalidData → NoImage int_cmp i64_spelling bytes)
    → error ≡ InvalidData → IsOfNoImage req bytes seed
unfolding IsOfNoImage
none_req error bytes seed req own refused is (Kll s) after e h = true≢false (sym (e ∙ own))
none_req error bytes seed req own refused is (Req s) after e h = refused is h.read h.rest h.begins

-- the image is not as long as it would be written
pub none_whole : (bytes : List ℕ) (seed : ℕ) (req : Bool) (read : ReqSketch ℤ) → req ≡ true → (rest : List ℕ) × BeginsImage int_cmp i64_spelling bytes read rest
    → length bytes ≢ length (image_text i64_spelling read) → IsOfNoImage req bytes seed
unfolding IsOfNoImage
none_whole bytes seed req read own begins refused (Kll s) after e h = true≢false (sym (e ∙ own))
none_whole bytes seed req read own begins refused (Req s) after e h =
    let same = same_sketch h.read read (one_sketch int_cmp_total i64_spelling i64_prefix_free i64_ties bytes h.read read h.rest begins.0 h.begins begins.1).0 in
    refused (h.whole ∙ ap (λ t. length (image_text i64_spelling t)) (sym same))

-- ---- bytes with the mark of a frame are no image

abbrev third : List ℕ → ℕ
third (a ∷ b ∷ c ∷ more) = c
third _ = 0

none_marked : (bytes : List ℕ) (seed : ℕ) (s : Sketch) (after : ℕ) → IsMarked bytes → IsOfImage bytes seed s after → ⊥
none_marked bytes seed (Kll s) after m h =
    let family : 81 ≡ h.0.head.family = ap third (sym m.1 ∙ h.0.parts) in
    elim h.0.body [
      | inl b ↦ omega (arith, family, b.head.family_is)
      | inr c ↦ elim c [
        | inl b ↦ omega (arith, family, b.head.family_is)
        | inr b ↦ omega (arith, family, b.head.family_is)
      ]
    ]
none_marked bytes seed (Req s) after m h =
    let family : 81 ≡ h.begins.head.family = ap third (sym m.1 ∙ h.begins.parts) in
    omega (arith, family, h.begins.legal.family_is)

-- ---- so nothing is read

pub none_framed : (req : Bool) (bytes : List ℕ) (seed : ℕ) → ((image : List ℕ) (floats : Bool) → Holds req bytes image floats → IsMarked image) → ReadsNothing req bytes seed
unfolding ReadsNothing
none_framed req bytes seed marked s h = none_marked h.image seed s.sketch s.coins (marked h.image s.floats h.holds) h.sketch

pub none_held : (req : Bool) (bytes image : List ℕ) (seed : ℕ) → ((other : List ℕ) (floats : Bool) → Holds req bytes other floats → (other ≡ image) ⊎ IsMarked other)
    → IsOfNoImage req image seed → ReadsNothing req bytes seed
unfolding ReadsNothing IsOfNoImage
none_held req bytes image seed alone none s h =
    elim (alone h.image s.floats h.holds) [
      | inl e ↦ none s.sketch s.coins h.family (subst (λ (text : List ℕ). IsOfImage text seed s.sketch s.coins) e h.sketch)
      | inr m ↦ none_marked h.image seed s.sketch s.coins m h.sketch
    ]
