-- What the sketches behind the answers to lines summarize, also after images were loaded.
use Rattle.std.specs.Prelude.{◌≡◌, ◌++◌, ℕ, ℤ, min, List, [], ◌∷◌, Option, None, Some, Ok, Err, MatchOption, ⊤, replicate, slice_get, drop}
use Rattle.std.specs.Option.{option_map}
use Rattle.std.specs.Ordering.{int_cmp}
use Rattle.std.specs.declared.alloc.Global.{Global}
use Rattle.std.specs.declared.cmp.Ordering.{Ordering}
use Rattle.std.specs.declared.vec.Vec.{Vec}
use Rattle.hex.specs.Hex.{encode_lower, IsBytes}
use Rattle.sketch_base.specs.Spelling.{i64_spelling}
use Rattle.sketch_base.specs.Trace.{changed}
use Rattle.sketch_req.specs.Image.{BeginsImage}
use Rattle.sketch_req.specs.Sketch.{Req}
use Rattle.sketch_req.specs.declared.RankAccuracy.{RankAccuracy}
use Rattle.quantile_sketches.specs.Answer.{answer_text}
use Rattle.quantile_sketches.specs.Behaviour.{Behaviour}
use Rattle.quantile_sketches.specs.Command.{request_of}
use Rattle.quantile_sketches.specs.declared.commands.Command.{Command}
use Rattle.quantile_sketches.specs.declared.commands.Command.TheVariants.{New, Update, UpdateWeighted, Merge, Reset, RoundTrip, Redraw, MergeRedrawn}
use Rattle.quantile_sketches.specs.declared.command.Request.{Request}
use Rattle.quantile_sketches.specs.declared.command.Request.TheVariants.{Run, Load}
use Rattle.quantile_sketches.specs.LineSteps.{Slots, in_slot, Reply, Answers}
use Rattle.quantile_sketches.specs.LineWords.{words, image_in}
use Rattle.sketch_base.specs.TextLines.{lines}
use Rattle.quantile_sketches.specs.Reader.{Grammar, req_grammar}
use Rattle.quantile_sketches.specs.Served.{req_of_i64}
use Rattle.quantile_sketches.specs.declared.table.TheConstants.{SLOTS}
use Rattle.sketch_req.specs.Summaries.{Summarizes}

-- what a sketch is known to summarize: its k, a stream and a tail
pub record Told (A : Type 0) : Type 0 where
  pub k : ℕ
  pub stream : List A
  pub tail : ℕ

-- a sketch is as told, if anything is told of it
abbrev pub IsAsTold : {A : Type 0} → (A → A → Ordering) → Option (Told A) → Req A → Type 0
IsAsTold cmp told s = MatchOption told ⊤ (λ t. (s.k ≡ t.k) × Summarizes cmp s t.stream t.tail)

-- what is told of the sketch of an image, by the image's bytes: the one who wrote it may know
abbrev pub Origins : Type 0 → Type 0
Origins A = List ℕ → Option (Told A)

-- it is true of an image: the bytes begin with an image of a sketch that is as told
abbrev pub IsTrueOf : {A : Type 0} → (A → A → Ordering) → (A → Option (List ℕ)) → List ℕ → Told A → Type 0
IsTrueOf {A} cmp spelling image told = (s : Req A) × (rest : List ℕ) × BeginsImage cmp spelling image s rest × IsAsTold cmp (Some told) s

-- and of all
abbrev pub AreTrue : {A : Type 0} → (A → A → Ordering) → (A → Option (List ℕ)) → Origins A → Type 0
AreTrue {A} cmp spelling origins = (image : List ℕ) (told : Told A) → origins image ≡ Some told → IsTrueOf cmp spelling image told

-- after an update; after a merge, in which an empty sketch adds nothing; and after a reset
abbrev pub told_more : {A : Type 0} → A → Told A → Told A
told_more x t = record t { stream = t.stream ++ x ∷ [] }

abbrev pub told_joined : {A : Type 0} → Told A → List A → ℕ → Told A
told_joined t [] tail = t
told_joined t (x ∷ more) tail = record t { stream = t.stream ++ x ∷ more; tail = min t.tail tail }

abbrev pub told_both : {A : Type 0} → Option (Told A) → Option (Told A) → Option (Told A)
told_both None other = None
told_both (Some t) None = None
told_both (Some t) (Some other) = Some (told_joined t other.stream other.tail)

abbrev pub told_empty : {A : Type 0} → Told A → Told A
told_empty t = record { k = t.k; stream = []; tail = t.k }

-- what is told of the slots after an accepted command
abbrev pub told_after_command : {A : Type 0} → (ℕ → Option (Told A)) → Command A (ℕ × RankAccuracy) → ℕ → Option (Told A)
told_after_command told (New slot config) = changed told slot (Some (record { k = config.0; stream = []; tail = config.0 }))
told_after_command told (Update slot x) = changed told slot (option_map (told_more x) (told slot))
told_after_command told (UpdateWeighted slot x weight) = changed told slot None
told_after_command told (Merge into source) = changed told into (told_both (told into) (told source))
told_after_command told (Reset slot) = changed told slot (option_map told_empty (told slot))
told_after_command told (RoundTrip slot) = changed told slot (told slot)
told_after_command told (Redraw slot) = changed told slot (told slot)
told_after_command told (MergeRedrawn into source) = changed told into (told_both (told into) (told source))

-- and after a line; a `load` tells what its image's origin tells
abbrev pub told_after : Origins ℤ → (ℕ → Option (Told ℤ)) → Option (Request (ℕ × RankAccuracy)) → Reply → ℕ → Option (Told ℤ)
told_after origins told None reply = told
told_after origins told (Some (Run command)) (Ok answer) = told_after_command told command
told_after origins told (Some (Run command)) (Err refusal) = told
told_after origins told (Some (Load slot image)) (Ok answer) = changed told slot (origins (image_in image))
told_after origins told (Some (Load slot image)) (Err refusal) = told
told_after origins told (Some query) reply = told

-- each sketch in the slots is as told
abbrev pub AreAsTold : {A : Type 0} → (A → A → Ordering) → (ℕ → Option (Told A)) → Slots (Req A) → Type 0
AreAsTold {A} cmp told slots = (slot : ℕ) (s : Req A) → in_slot slots slot ≡ Some s → IsAsTold cmp (told slot) s

module _ (cmp : ℤ → ℤ → Ordering) (grammar : Grammar (ℕ × RankAccuracy)) (behaviour : Behaviour (Req ℤ) ℤ (ℕ × RankAccuracy)) (origins : Origins ℤ) where
  -- lines are answered as `Serves` says; before each and at the end, the sketches are as told
  abbrev pub AnswersAsTold : (ℕ → Option (Told ℤ)) → Slots (Req ℤ) → ℕ → List (List ℕ) → List ℕ → Type 0
  AnswersAsTold told slots coins [] out = AreAsTold cmp told slots × (out ≡ [])
  AnswersAsTold told slots coins (l ∷ ls) out =
      AreAsTold cmp told slots
      × (r : _) × (slots' : _) × (coins' : _) × (rest : _)
      × Answers behaviour (request_of grammar (words l)) slots coins r slots' coins'
      × AnswersAsTold (told_after origins told (request_of grammar (words l)) r) slots' coins' ls rest
      × (out ≡ answer_text r ++ (10 ∷ rest))

-- the answers to all lines of a text on REQ sketches, from empty slots on, with the sketches as told
abbrev pub ServesAsTold : Origins ℤ → ℕ → List ℕ → List ℕ → Type 0
ServesAsTold origins seed text out =
    AnswersAsTold int_cmp req_grammar req_of_i64 origins (λ slot. None) (replicate SLOTS None) seed (lines text) out

-- what an `image` line answers for a sketch that is as told is true of the image that a `load` line with that answer holds
abbrev pub ShownAreTrue : Type 0
ShownAreTrue = (s : Req ℤ) (told : Told ℤ) (bytes : Vec ℕ Global) (line : List (List ℕ)) → IsAsTold int_cmp (Some told) s →
    req_of_i64.imaged s (Ok bytes) → IsBytes bytes.items → slice_get line 2 ≡ Some (encode_lower bytes.items) →
    IsTrueOf int_cmp i64_spelling (image_in (drop 2 line)) told
