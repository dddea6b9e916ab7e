-- `divide_plane` meets its contract: the backgrounds below i are replaced, the others are as they were. Assumes nothing.
use Prim.Native.Nat.{ℕ, ◌+◌}
use lib.ListN.{get_or}
use Rattle.imgproc.specs.Division.{quotient}
use Rattle.imgproc.specs.Sweeps.{Rowed}
use Rattle.imgproc.proofs.illumination.divide_plane.Given as goal

abbrev pub invariant-loop-i : goal.invariant-loop-i
invariant-loop-i l =
    let ws = l.initial.workspace in
    Rowed l.at l.i (λ (j : ℕ). quotient l.config (get_or ws (l.from + j) 0) (get_or ws (l.at + j) 0)) ws l.workspace
