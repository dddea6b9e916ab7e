-- `of_line` meets its contract. The invariant: the four locals are the numbers of the samples passed. Assumes nothing.
use lib.ListN.{get_or}
use Rattle.imgproc.proofs.grid.tiles.Numbers.{Scanned}
use Rattle.imgproc.proofs.grid.tiles.TileNumbers.of_line.Given as goal

abbrev pub invariant-loop-sample : goal.invariant-loop-sample
invariant-loop-sample l =
    Scanned (λ k. get_or l.samples k 0) l.sample-index l.minimum l.maximum l.sum l.sum_sq
