-- `transpose_column` meets its contract: y samples of the column are transposed. Assumes nothing.
use Prim.Native.Nat.{ℕ}
use Rattle.imgproc.specs.Sweeps.{lane, Rowed}
use Rattle.imgproc.proofs.morphology.sweeps.transpose_column.Given as goal

abbrev pub invariant-loop-y : goal.invariant-loop-y
invariant-loop-y l = Rowed l.to l.y (λ (j : ℕ). lane l.initial.ws l.from l.step l.x j) l.initial.ws l.ws
