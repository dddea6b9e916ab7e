-- `backward_pass` meets its contract: it has come up to line y. Assumes nothing.
use Prim.Native.Nat.{ℕ}
use Rattle.imgproc.specs.Reach.{backward_at}
use Rattle.imgproc.specs.Compared.{Before}
use Rattle.imgproc.specs.Sweeps.{lane, Backwards}
use Rattle.imgproc.proofs.morphology.Lanes.{Upward}
use Rattle.imgproc.proofs.morphology.sweeps.Blocks.{flag}
use Rattle.imgproc.proofs.morphology.sweeps.backward_pass.Given as goal

abbrev pub invariant-loop-y : goal.invariant-loop-y
invariant-loop-y g l =
    Upward (λ (x : ℕ). Backwards (Before (flag g.row.LEAST)) l.kernel l.height (lane l.initial.ws l.from l.width x)) (backward_at l.kernel l.height) l.to l.width l.height l.y l.initial.ws l.ws l.initial.t l.t
