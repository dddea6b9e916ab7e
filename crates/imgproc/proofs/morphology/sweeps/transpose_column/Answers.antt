use Prim.Native.Nat.{◌+◌, ◌*◌}
use native.Mathlib.Omega.{arith}
use Rattle.imgproc.proofs.morphology.Lanes.{line_order, row_more, row_apart}
use Rattle.imgproc.proofs.morphology.sweeps.transpose_column.Goals as goal

pub loop-y-preserved : goal.loop-y-preserved
loop-y-preserved c =
    let lp = c.loop-y in
    let i = c.args.from + (lp.y * c.args.step + c.args.x) in
    let inside = line_order c.args.step lp.y c.args.count c.loop-y-test.true in
    row_more _ _ _ lp.y _ lp.ws lp.invariant (omega arith)
    (row_apart _ _ _ lp.y i lp.ws lp.invariant c.requires.3 (omega arith) (omega arith) (omega arith))
