-- How the program merges lines of images.
use Rattle.std.specs.Prelude.{◌≡◌, ◌⊎◌, ℕ, false, List}
use Rattle.std.specs.Io.BufRead.{strip_last}
use Rattle.log_groups.specs.Found.{AreKept}
use Rattle.log_groups.specs.Joined.{IsLineJoined}
use Rattle.percentiles.specs.Reads.{IsUnmarked}
use Rattle.percentiles.specs.declared.images.Images.{Images}

-- a line was taken once: its image was merged into the group of its key, or each group is as before and the run is not whole
pub record TakesImage (old : Images) (line : List ℕ) (new : Images) : Type 0 where
  pub text : List ℕ
  pub unmarked : IsUnmarked line → text ≡ strip_last 13 line
  pub merged : IsLineJoined old.merging.for_table old.groups text new.groups ⊎ (AreKept old.groups new.groups × (new.is_whole ≡ false))
  pub merging : new.merging ≡ old.merging
