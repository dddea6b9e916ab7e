-- `row_core` meets its contract: the rows above y are swept. Assumes nothing.
use Rattle.imgproc.proofs.morphology.Planes.{Sweeping}
use Rattle.imgproc.proofs.morphology.sweeps.Blocks.{flag}
use Rattle.imgproc.proofs.morphology.rect.row_core.Given as goal

abbrev pub invariant-loop-y : goal.invariant-loop-y
invariant-loop-y g l = Sweeping l.initial.t l.initial.ws l.planes l.kernel (flag g.row.LEAST) l.y l.t l.ws
