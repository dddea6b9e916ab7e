-- `count_row` meets its contract. The invariant: the open tiles passed are counted. Assumes nothing.
use Rattle.std.proofs.Common.{◌≡◌, ◌+◌, ◌*◌, not}
use Rattle.imgproc.specs.Reach.{walk}
use Rattle.imgproc.specs.GridCalls.{skipped}
use Rattle.imgproc.proofs.grid.open.count_row.Given as goal

abbrev pub invariant-loop-skip : goal.invariant-loop-skip
invariant-loop-skip l =
    l.open ≡ walk (λ i. not (skipped l.skips (l.j * l.tiles_x + i))) l.skip-index
