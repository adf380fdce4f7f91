-- The run of commands behind the answers to lines.
use Rattle.std.specs.Prelude.{◌≡◌, ℕ, ℤ, List, [], ◌∷◌, ◌++◌, Option, None, Some, Ok, Err, ⊤}
use Rattle.std.specs.Option.{option_map}
use Rattle.sketch_base.specs.Random.{next_state}
use Rattle.quantile_sketches.specs.Answer.{answer_text}
use Rattle.quantile_sketches.specs.Behaviour.{Behaviour, coin_of_state}
use Rattle.quantile_sketches.specs.Command.{request_of}
use Rattle.quantile_sketches.specs.declared.commands.Command.{Command}
use Rattle.quantile_sketches.specs.declared.command.Request.{Request}
use Rattle.quantile_sketches.specs.declared.command.Request.TheVariants.{Run, Load}
use Rattle.quantile_sketches.specs.Reader.{Grammar}
use Rattle.quantile_sketches.specs.Refused.{AreExecuted}
use Rattle.quantile_sketches.specs.Rules.{Kind}
use Rattle.quantile_sketches.specs.LineSteps.{Slots, in_slot, Reply, Answers}
use Rattle.quantile_sketches.specs.LineWords.{words}

-- the accepted commands of a run; none are known once a `load` was accepted
abbrev pub Known : Type 0 → Type 0
Known C = Option (List (Command ℤ C))

-- what is known after one more line
abbrev pub run_after : {C : Type 0} → Known C → Option (Request C) → Reply → Known C
run_after run None reply = run
run_after run (Some (Run command)) (Ok answer) = option_map (λ commands. commands ++ command ∷ []) run
run_after run (Some (Run command)) (Err refusal) = run
run_after run (Some (Load slot image)) (Ok answer) = None
run_after run (Some (Load slot image)) (Err refusal) = run
run_after run (Some query) reply = run

-- the sketches and the coins are those that a run of these commands gives, from empty slots and the seed of SplitMix64 on; the
-- run accepts each command. And each of these sketches keeps a promise that depends on the commands
abbrev pub AreOfRunKeeping : {C Shape S : Type 0} → Kind ℤ C Shape S → (List (Command ℤ C) → ℕ → S → Type 0) → ℕ → Known C → Slots S → ℕ → Type 0
AreOfRunKeeping kind promise seed None slots coins = ⊤
AreOfRunKeeping {S = S} kind promise seed (Some commands) slots coins =
    AreExecuted kind coin_of_state next_state [] 0 commands (λ slot. None) seed (in_slot slots) coins
    × ((slot : ℕ) (s : S) → in_slot slots slot ≡ Some s → promise commands slot s)

module _ {C S : Type 0} (grammar : Grammar C) (behaviour : Behaviour S ℤ C) (Holds : Known C → Slots S → ℕ → Type 0) where
  -- lines are answered as `Serves` says; before each and at the end, `Holds` is true for the run so far, the sketches and coins
  abbrev pub AnswersWhere : Known C → Slots S → ℕ → List (List ℕ) → List ℕ → Type 0
  AnswersWhere run slots coins [] out = Holds run slots coins × (out ≡ [])
  AnswersWhere run slots coins (l ∷ ls) out =
      Holds run slots coins
      × (r : _) × (slots' : _) × (coins' : _) × (rest : _)
      × Answers behaviour (request_of grammar (words l)) slots coins r slots' coins'
      × AnswersWhere (run_after run (request_of grammar (words l)) r) slots' coins' ls rest
      × (out ≡ answer_text r ++ (10 ∷ rest))
