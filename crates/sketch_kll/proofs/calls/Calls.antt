-- What a call returns that fails or finds, by the numbers that decide it, and a call that returns what a write or a read of an item returned.
use Rattle.std.proofs.Common.{◌≡◌, ◌∙◌, ℕ, Bool, false, eqb, List, [], Option, Ordering, length, subst, sym, ap, ◌≢◌, ◌<◌, ◌^◌, ℤ, ◌++◌, Some, None, Result, Ok, Err, refl, append-nil, append_assoc, unwrap_or}
use Rattle.std.proofs.lemmas.Bool.{true≢false}
use Rattle.sketch_kll.specs.Sketch.{IsSound, Kll, sketch_of}
use Rattle.sketch_kll.specs.Stored.{Stored, KeepsLevels}
use Rattle.std.specs.Int.{cast_unsigned, to_le_bytes, w32, w64}
use Rattle.std.specs.Prelude.{◌↔◌, FitsSigned, IfErr, IfOk, IsErrOf, IsSome, OnErr, OnOk, is_some}
use Rattle.std.proofs.lemmas.Result.{on_err_weaker, on_ok_weaker}
use Rattle.sketch_base.specs.Spelling.{Begins, bytes_of, i64_spelling, text_spelling}
use Rattle.sketch_base.specs.SpellingLaws.{begins_by, i64_short, i64_spelled, no_memory, ok_spelled, text_spelled}
use Rattle.sketch_base.specs.declared.error.ErrorKind.{ErrorKind}
use Rattle.sketch_base.specs.declared.error.ErrorKind.TheVariants.{InvalidArgument, InvalidData, OutOfMemory}
use Rattle.sketch_base.proofs.calls.Calls.{data_not_argument, memory_not_data}

-- Calls of a sketch that return an error or a value: what their clauses say, and the numbers that decide it.

-- levels that are kept make the same sketch
same_sketch : {A : Type 0} (x y : Stored A) (min_k n : ℕ) (least greatest : Option A) → KeepsLevels x y →
    sketch_of y.k min_k n y.is_sorted y.levels least greatest ≡ sketch_of x.k min_k n x.is_sorted x.levels least greatest
same_sketch x y min_k n least greatest kept = λ j. record {
  k = kept.k_is j;
  min_k = min_k;
  n = n;
  is_sorted = kept.flag_is j;
  levels = kept.levels_are j;
  least = least;
  greatest = greatest;
}

-- the same, of the sketch as callers see it
pub still_seen : {A : Type 0} (x y : Stored A) (min_k n : ℕ) (least greatest : Option A) (s : Kll A) → KeepsLevels x y →
    sketch_of x.k min_k n x.is_sorted x.levels least greatest ≡ s → sketch_of y.k min_k n y.is_sorted y.levels least greatest ≡ s
still_seen x y min_k n least greatest s kept seen = same_sketch x y min_k n least greatest kept ∙ seen

pub still_sound : {A : Type 0} (cmp : A → A → Ordering) (x y : Stored A) (min_k n : ℕ) (least greatest : Option A) → KeepsLevels x y →
    IsSound cmp (sketch_of x.k min_k n x.is_sorted x.levels least greatest) → IsSound cmp (sketch_of y.k min_k n y.is_sorted y.levels least greatest)
still_sound cmp x y min_k n least greatest kept sound = subst (IsSound cmp) (sym (same_sketch x y min_k n least greatest kept)) sound

-- ---- numbers

-- ---- images

pub some_left : {text left : List ℕ} {is_none : Bool} → left ≡ text → is_none ≡ eqb (length left) 0 → is_none ≡ false → text ≡ [] → ⊥
some_left same is off none = true≢false (sym (ap (λ (xs : List ℕ). eqb (length xs) 0) (same ∙ none)) ∙ (sym is ∙ off))

-- What a call says that returns what a write of an item's spelling or a read of one returns.

-- the bytes of a spelling are written, or a part of them if memory runs out
pub value_written : (r : Result Unit ErrorKind) (spelling : Option (List ℕ)) (bytes part before after : List ℕ) → spelling ≡ Some bytes →
    OnOk r (after ≡ before ++ bytes) → OnErr r (after ≡ before ++ part) → IfErr r (λ e. e ≡ OutOfMemory) → record {
      spelled : OnOk r (IsSome spelling);
      appended : OnOk r (after ≡ before ++ unwrap_or spelling []);
      err : OnErr r ((more : List ℕ) × (after ≡ before ++ more));
      refused : IsErrOf r InvalidArgument ↔ (spelling ≡ None);
      kind : IfErr r (λ e. e ≢ InvalidData);
    }
value_written (Ok x) spelling bytes part before after is ok err memory = record {
  spelled = ap is_some is;
  appended = ok ∙ ap (λ (o : Option (List ℕ)). before ++ unwrap_or o []) (sym is);
  err = tt;
  refused = ok_spelled x spelling bytes is;
  kind = tt;
}
value_written (Err e) spelling bytes part before after is ok err memory = record {
  spelled = tt;
  appended = tt;
  err = (part, err);
  refused = no_memory (Err e) e spelling bytes refl memory is;
  kind = λ is_data. memory_not_data (sym memory ∙ is_data);
}

-- an i64 is written
pub i64_written : (r : Result Unit ErrorKind) (y z : ℤ) (before after : List ℕ) → y ≡ z → FitsSigned w64 z →
    OnOk r (after ≡ before ++ to_le_bytes w64 (cast_unsigned w64 y)) → OnErr r (after ≡ before) → IfErr r (λ e. e ≡ OutOfMemory) → record {
      spelled : OnOk r (IsSome (i64_spelling z));
      appended : OnOk r (after ≡ before ++ bytes_of i64_spelling z);
      err : OnErr r ((more : List ℕ) × (after ≡ before ++ more));
      refused : IsErrOf r InvalidArgument ↔ (i64_spelling z ≡ None);
      kind : IfErr r (λ e. e ≢ InvalidData);
    }
i64_written r y z before after is fits ok err memory =
    value_written r (i64_spelling z) (to_le_bytes w64 (cast_unsigned w64 y)) [] before after
    (i64_spelled z fits ∙ ap (λ (z : ℤ). Some (to_le_bytes w64 (cast_unsigned w64 z))) (sym is)) ok
    (on_err_weaker r (λ same. same ∙ sym (append-nil before)) err) memory

-- a text is written, after its length
pub text_written : (r : Result Unit ErrorKind) (text before between after : List ℕ) (len : ℕ) (bytes : List ℕ) → len ≡ length text → length text < 2 ^ 32 →
    between ≡ before ++ to_le_bytes w32 len → bytes ≡ text → OnOk r (after ≡ between ++ bytes) → OnErr r (after ≡ between) → IfErr r (λ e. e ≡ OutOfMemory) → record {
      spelled : OnOk r (IsSome (text_spelling text));
      appended : OnOk r (after ≡ before ++ unwrap_or (text_spelling text) []);
      err : OnErr r ((more : List ℕ) × (after ≡ before ++ more));
      refused : IsErrOf r InvalidArgument ↔ (text_spelling text ≡ None);
      kind : IfErr r (λ e. e ≢ InvalidData);
    }
text_written r text before between after len bytes len_is fits first bytes_are ok err memory =
    let begun : between ≡ before ++ to_le_bytes w32 (length text) = first ∙ ap (λ (n : ℕ). before ++ to_le_bytes w32 n) len_is in
    let whole : between ++ bytes ≡ before ++ (to_le_bytes w32 (length text) ++ text) =
    ap (λ (xs : List ℕ). between ++ xs) bytes_are ∙ ap (λ (xs : List ℕ). xs ++ text) begun ∙ append_assoc before (to_le_bytes w32 (length text)) text in
    value_written r (text_spelling text) (to_le_bytes w32 (length text) ++ text) (to_le_bytes w32 (length text)) before after (text_spelled text fits)
    (on_ok_weaker r (λ is. is ∙ whole) ok) (on_err_weaker r (λ same. same ∙ begun) err) memory

-- the bytes of an i64 are read, or there are too few
pub i64_read : (r : Result ℤ ErrorKind) (text rest : List ℕ) → IfOk r (FitsSigned w64) → IfOk r (λ z. text ≡ to_le_bytes w64 (cast_unsigned w64 z) ++ rest) →
    OnErr r (length text < 8) → IfErr r (λ e. e ≡ InvalidData) → record {
      found : IfOk r (λ z. Begins i64_spelling text z rest);
      refused : IfErr r (λ e. e ≡ InvalidData → (z : ℤ) (rest : List ℕ) → ¬ Begins i64_spelling text z rest);
      kind : IfErr r (λ e. e ≢ InvalidArgument);
    }
i64_read (Ok z) text rest fits ok short kind = record {
  found = begins_by i64_spelling text z (to_le_bytes w64 (cast_unsigned w64 z)) rest (i64_spelled z fits) ok;
  refused = tt;
  kind = tt;
}
i64_read (Err e) text rest fits ok short kind = record {
  found = tt;
  refused = λ _. i64_short text short;
  kind = λ argument. data_not_argument (sym kind ∙ argument);
}
