use Prim.Native.Nat.{◌+◌, ◌*◌}
use native.Mathlib.Omega.{arith}
use Rattle.imgproc.proofs.morphology.Lanes.{off, outside_at, apart_within, line_order, done_more}
use Rattle.imgproc.proofs.morphology.sweeps.transpose.Goals as goal

pub transpose_column-requires : goal.transpose_column-requires
transpose_column-requires c =
    let pre = c.requires in
    let f = line_order c.args.rows c.loop-x.x c.args.columns c.loop-x-test.true in
    let long = c.loop-x.invariant.rest.long in
    (omega arith, omega arith, omega arith, apart_within _ _ _ _ pre.apart (omega arith) (omega arith) (omega arith) (omega arith))

pub loop-x-preserved : goal.loop-x-preserved
loop-x-preserved c =
    let lp = c.loop-x in
    let a = c.args in
    done_more lp.x _ c.loop-x-test.true lp.invariant c.transpose_column.ensures
    (λ y l.
    let b = line_order a.columns y a.rows l in
    outside_at _ lp.invariant.rest (off (a.from + (y * a.columns + lp.x)) c.requires.apart (omega arith) (omega arith)))
    (λ i m ne. omega arith)
