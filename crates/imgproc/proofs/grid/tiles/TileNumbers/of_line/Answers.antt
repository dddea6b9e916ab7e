use native.Mathlib.Omega.{arith}
use Rattle.imgproc.proofs.grid.tiles.Numbers.{scanned_none, scanned_more, scanned_all, sums_small}
use Rattle.imgproc.proofs.grid.tiles.TileNumbers.of_line.Goals as goal

pub loop-sample-init : goal.loop-sample-init
loop-sample-init c = scanned_none _

pub overflow_add-sum : goal.overflow_add-sum
overflow_add-sum c =
    omega (arith, sums_small c.loop-sample.invariant (λ k. omega (arith, c.type_inv.samples k)) c.from-value.ensures)

pub overflow_add-sum_sq : goal.overflow_add-sum_sq
overflow_add-sum_sq c =
    omega (arith, sums_small c.loop-sample.invariant (λ k. omega (arith, c.type_inv.samples k)) c.from-value.ensures)

pub loop-sample-preserved : goal.loop-sample-preserved
loop-sample-preserved c =
    scanned_more c.loop-sample.invariant c.min-minimum.ensures c.max-maximum.ensures c.from-value.ensures

pub returns : goal.returns
returns c =
    scanned_all c.loop-sample.invariant (λ k. omega (arith, c.type_inv.samples k)) c.from.ensures c.from-2.ensures (omega arith) (omega (arith, c.requires))
