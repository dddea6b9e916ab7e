-- `join_pass` meets its contract: it has come down to line y. Assumes nothing.
use Prim.Native.Nat.{ℕ}
use Rattle.imgproc.specs.Reach.{join_at}
use Rattle.imgproc.specs.Compared.{extreme}
use Rattle.imgproc.specs.Sweeps.{lane, Joins}
use Rattle.imgproc.proofs.morphology.Lanes.{Downward}
use Rattle.imgproc.proofs.morphology.sweeps.Blocks.{flag}
use Rattle.imgproc.proofs.morphology.sweeps.join_pass.Given as goal

abbrev pub invariant-loop-y : goal.invariant-loop-y
invariant-loop-y g l =
    Downward (λ (x : ℕ). Joins (extreme (flag g.row.LEAST)) l.kernel l.height (lane l.initial.ws l.suffix l.width x) (lane l.initial.ws l.prefix l.width x)) join_at l.to l.width l.height l.y l.initial.ws l.ws l.initial.t l.t
