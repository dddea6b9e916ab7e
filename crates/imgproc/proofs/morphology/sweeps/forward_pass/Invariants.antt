-- `forward_pass` meets its contract: it has come down to line y. Assumes nothing.
use Prim.Native.Nat.{ℕ}
use Rattle.imgproc.specs.Reach.{forward_at}
use Rattle.imgproc.specs.Compared.{Before}
use Rattle.imgproc.specs.Sweeps.{lane, Forwards}
use Rattle.imgproc.proofs.morphology.Lanes.{Downward}
use Rattle.imgproc.proofs.morphology.sweeps.Blocks.{flag}
use Rattle.imgproc.proofs.morphology.sweeps.forward_pass.Given as goal

abbrev pub invariant-loop-y : goal.invariant-loop-y
invariant-loop-y g l =
    Downward (λ (x : ℕ). Forwards (Before (flag g.row.LEAST)) l.kernel (lane l.initial.ws l.from l.width x)) (forward_at l.kernel) l.to l.width l.height l.y l.initial.ws l.ws l.initial.t l.t
