use Rattle.std.proofs.Common.{◌≡◌, ◌≤◌, ◌<◌, ℕ, Bool, true, false, cond, Option, None, Some, bytes_eq, refl, List, [], ◌∷◌, length, get_or, map, sym, ap, ◌∙◌, arith}
use Rattle.std.specs.Prelude.{codes, string_bytes}
use Rattle.std.proofs.lemmas.Bool.{cond-false, false_from_ne_true}
use Rattle.std.proofs.lemmas.Slice.Eq.{bytes_eq-Decides}
use Rattle.std.specs.Option.{option_map}
use Rattle.quantile_sketches.specs.Command.{arguments_of}
use Rattle.quantile_sketches.specs.LineWords.{unsigned_of}
use Rattle.quantile_sketches.proofs.reading.Words.{parses_unsigned}
use Rattle.quantile_sketches.proofs.lines.arguments.Goals as goal

-- without a seed nothing is asked for
no-seed : {A : Type 0} (f g : ℕ → A) (a b : Bool) (o : Option ℕ) → None ≡ o → None ≡ cond a (option_map f o) (cond b (option_map g o) None)
no-seed f g true b None none = refl
no-seed f g false true None none = refl
no-seed f g false false None none = refl
no-seed f g a b (Some n) none = absurd cc

-- a list of two elements
two : {A : Type 0} (text : A → List ℕ) (ws : List A) (a b : A) → 2 ≤ length ws → length ws < 3 → a ≡ get_or ws 0 a → b ≡ get_or ws 1 b → map text ws ≡ text a ∷ text b ∷ []
two text (x ∷ y ∷ []) a b h k e t = ap (λ z. text z ∷ text y ∷ []) (sym e) ∙ ap (λ z. text a ∷ text z ∷ []) (sym t)
two text ws a b h k e t = absurd (omega arith)

-- the words that are read
module _ {A : Type 0} (text : A → List ℕ) (ws : List A) (a b : A) (h : 2 ≤ length ws) (k : length ws < 3) (e : a ≡ get_or ws 0 a) (t : b ≡ get_or ws 1 b) {read : List ℕ} (same : read ≡ text b) where
  are : map text ws ≡ text a ∷ text b ∷ []
  are = two text ws a b h k e t

  asked-kll : (n : ℕ) → Some n ≡ unsigned_of 64 read → text a ≡ codes "kll" → Some (false, n) ≡ arguments_of (map text ws)
  asked-kll n is kll = ap (λ (o : Option ℕ). option_map (λ n. (false, n)) o) (is ∙ ap (unsigned_of 64) same) ∙ sym (ap arguments_of (are ∙ ap (λ (f : List ℕ). f ∷ text b ∷ []) kll))

  asked-req : (n : ℕ) → Some n ≡ unsigned_of 64 read → text a ≡ codes "req" → Some (true, n) ≡ arguments_of (map text ws)
  asked-req n is req = ap (λ (o : Option ℕ). option_map (λ n. (true, n)) o) (is ∙ ap (unsigned_of 64) same) ∙ sym (ap arguments_of (are ∙ ap (λ (f : List ℕ). f ∷ text b ∷ []) req))

  asked-none : {r : Option (Bool × ℕ)} → r ≡ None → None ≡ unsigned_of 64 read → r ≡ arguments_of (map text ws)
  asked-none is none = is ∙ (no-seed _ _ (bytes_eq (text a) (codes "kll")) (bytes_eq (text a) (codes "req")) _ (none ∙ ap (unsigned_of 64) same) ∙ sym (ap arguments_of are))

  asked-other : (text a ≡ codes "kll" → ⊥) → (text a ≡ codes "req" → ⊥) → None ≡ arguments_of (map text ws)
  asked-other not_kll not_req = sym (ap arguments_of are ∙ (cond-false _ _ _ (false_from_ne_true _ (λ h. not_kll ((bytes_eq-Decides (text a) (codes "kll")).0 h)))
      ∙ cond-false _ _ _ (false_from_ne_true _ (λ h. not_req ((bytes_eq-Decides (text a) (codes "req")).0 h)))))

pub returns-in_default-as_str : goal.returns-in_default-as_str
returns-in_default-as_str c = record {
  value = asked-other string_bytes c.args.words.now c.family-item.result c.seed-item.result c.in-len2.len_at_least c.in-len2.len_below c.family-item.is c.seed-item.is c.as_str.ensures.value
      (λ e. c.in_default-as_str.not-kll (c.as_str-2.ensures.value ∙ e)) (λ e. c.in_default-as_str.not-req (c.as_str-2.ensures.value ∙ e));
}

pub returns-in_err-seed : goal.returns-in_err-seed
returns-in_err-seed c = record {
  value = asked-none string_bytes c.args.words.now c.family-item.result c.seed-item.result c.in-len2.len_at_least c.in-len2.len_below c.family-item.is c.seed-item.is c.as_str.ensures.value
      c.from_residual.ensures (c.in_err-seed.ensures.value ∙ parses_unsigned 64 c.as_str.result.now c.parse.result c.parse.ensures.value.0);
}

pub returns-in-kll : goal.returns-in-kll
returns-in-kll c = record {
  value = asked-kll string_bytes c.args.words.now c.family-item.result c.seed-item.result c.in-len2.len_at_least c.in-len2.len_below c.family-item.is c.seed-item.is c.as_str.ensures.value
      c.in_ok-seed.seed (c.in_ok-seed.ensures.value ∙ parses_unsigned 64 c.as_str.result.now c.parse.result c.parse.ensures.value.0) (sym c.as_str-2.ensures.value ∙ c.in-kll.is);
}

pub returns-in-req : goal.returns-in-req
returns-in-req c = record {
  value = asked-req string_bytes c.args.words.now c.family-item.result c.seed-item.result c.in-len2.len_at_least c.in-len2.len_below c.family-item.is c.seed-item.is c.as_str.ensures.value
      c.in_ok-seed.seed (c.in_ok-seed.ensures.value ∙ parses_unsigned 64 c.as_str.result.now c.parse.result c.parse.ensures.value.0) (sym c.as_str-2.ensures.value ∙ c.in-req.is);
}
