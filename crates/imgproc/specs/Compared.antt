-- Document 01, part 2: a comparison of two samples. Definitions only.
use Rattle.std.specs.Prelude.{◌≡◌, Bool, true, false, ℕ, min, max}
use Rattle.imgproc.specs.Extremes.{Low, High}
use Rattle.imgproc.specs.declared.morphology.tally.Tally.{Tally}
use Rattle.imgproc.specs.declared.morphology.tally.Met.{Met}
use Rattle.imgproc.specs.Tallies.{Raised}

-- a comparison chooses the extreme of the two samples, and raises the tally by 1
pub record Compares (extreme : ℕ) (tally : Tally) (met : Met) : Type 0 where
  pub chosen : met.value ≡ extreme
  pub counted : Raised tally 1 met.tally

-- one sweep serves both orders: `least` is true where it seeks the minimum and false where it seeks the maximum
abbrev pub Before : Bool → ℕ → ℕ → Type 0
Before true a b = Low a b
Before false a b = High a b

-- chooses the extreme of two samples in that order
abbrev pub extreme : Bool → ℕ → ℕ → ℕ
extreme true a b = min a b
extreme false a b = max a b
