use Prim.Native.Nat.{◌+◌}
use native.Mathlib.Omega.{arith}
use Rattle.imgproc.proofs.morphology.Lanes.{row_more, row_apart}
use Rattle.imgproc.proofs.morphology.sweeps.copy_lanes.Goals as goal

pub loop-x-preserved : goal.loop-x-preserved
loop-x-preserved c =
    let lp = c.loop-x in
    let pre = c.requires in
    let i = c.args.from + lp.x in
    row_more _ _ _ lp.x _ lp.ws lp.invariant (omega arith)
    (row_apart _ _ _ lp.x i lp.ws lp.invariant pre.2 (omega arith) (omega arith) (omega arith))
