-- `copy_lanes` meets its contract: x lanes are copied. Assumes nothing.
use Prim.Native.Nat.{ℕ, ◌+◌}
use lib.ListN.{get_or}
use Rattle.imgproc.specs.Sweeps.{Rowed}
use Rattle.imgproc.proofs.morphology.sweeps.copy_lanes.Given as goal

abbrev pub invariant-loop-x : goal.invariant-loop-x
invariant-loop-x l = Rowed l.to l.x (λ (j : ℕ). get_or l.initial.ws (l.from + j) 0) l.initial.ws l.ws
