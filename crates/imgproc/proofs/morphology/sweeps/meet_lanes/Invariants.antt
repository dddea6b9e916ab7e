-- `meet_lanes` meets its contract: x lanes are met, one comparison each. Assumes nothing.
use Prim.Native.Nat.{ℕ, ◌+◌}
use lib.ListN.{get_or}
use Rattle.imgproc.specs.Tallies.{Raised}
use Rattle.imgproc.specs.Compared.{extreme}
use Rattle.imgproc.specs.Sweeps.{Rowed}
use Rattle.imgproc.proofs.morphology.sweeps.Blocks.{flag}
use Rattle.imgproc.proofs.morphology.sweeps.meet_lanes.Given as goal

abbrev pub invariant-loop-x : goal.invariant-loop-x
invariant-loop-x g l =
    Rowed l.to l.x (λ (j : ℕ). extreme (flag g.row.LEAST) (get_or l.initial.ws (l.a + j) 0) (get_or l.initial.ws (l.b + j) 0)) l.initial.ws l.ws
    × Raised l.initial.t l.x l.t
