-- `count_open` meets its contract. The invariant: the tile rows passed are counted. Assumes nothing.
use mathlib.Core.Path.{◌≡◌}
use Rattle.image.specs.Plane.{tabulate, overwritten}
use Rattle.imgproc.specs.GridCalls.{open_in}
use Rattle.imgproc.proofs.grid.open.count_open.Given as goal

abbrev pub invariant-loop-j : goal.invariant-loop-j
invariant-loop-j l =
    l.open_tiles ≡ overwritten 0 (tabulate (open_in l.skips l.tiles.tiles_x) l.j) l.initial.open_tiles
