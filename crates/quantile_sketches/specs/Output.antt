-- What is owed to an output: a beginning of it is written, and the rest waits.
use Rattle.std.specs.Prelude.{◌≡◌, ℕ, List, ◌++◌, Option, Result, OnOk}
use Rattle.std.specs.Io.KnownBytes.{Appends}

-- A write succeeds or fails. Either way the output grows by a beginning of what is owed. If the write succeeds, the rest waits.
pub record Writes {T E : Type 0} (r : Result T E) (contents contents' : Option (List ℕ)) (owed waiting : List ℕ) : Type 0 where
  pub sent : List ℕ
  pub left : List ℕ
  pub parts : owed ≡ sent ++ left
  pub out : Appends contents contents' sent
  pub waits : OnOk r (left ≡ waiting)
