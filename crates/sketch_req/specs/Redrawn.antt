-- Kept coins that are redrawn: those that the next compactions of their levels turn.
use Rattle.std.specs.Prelude.{ℕ, Bool, if◌then◌else◌, List, [], ◌∷◌, drop}
use Rattle.sketch_base.specs.Trace.{next_bit}
use Rattle.sketch_req.specs.Level.{Level, turns_coin, redrawn_level}
use Rattle.sketch_req.specs.Schedule.{layouts_of, turning_levels}
use Rattle.sketch_req.specs.Sketch.{Req}

-- the levels with these coins redrawn under a word, from level 0 up: each level at an odd state takes the next bit
abbrev pub redrawn : {A : Type 0} → List Bool → List (Level A) → List (Level A)
redrawn word [] = []
redrawn word (level ∷ above) =
    redrawn_level level (next_bit word) ∷ redrawn (if turns_coin level.state then drop 1 word else word) above

-- a sketch with these coins redrawn, and how many coins that takes
abbrev pub redrawn_sketch : {A : Type 0} → List Bool → Req A → Req A
redrawn_sketch word s = record s { levels = redrawn word s.levels }

abbrev pub coins_of_redraw : {A : Type 0} → Req A → ℕ
coins_of_redraw s = turning_levels (layouts_of s.levels)
