-- `transpose` meets its contract: x columns are transposed. Assumes nothing.
use Prim.Native.Nat.{ℕ, ◌<◌}
use mathlib.Core.Path.{◌≡◌}
use Rattle.imgproc.specs.Sweeps.{lane}
use Rattle.imgproc.proofs.morphology.Lanes.{Done}
use Rattle.imgproc.proofs.morphology.sweeps.transpose.Given as goal

abbrev pub invariant-loop-x : goal.invariant-loop-x
invariant-loop-x l =
    Done (λ (y i v : ℕ). v ≡ lane l.initial.ws l.from l.columns i y) (λ (i : ℕ). i < l.x) l.to l.rows l.columns l.initial.ws l.ws
