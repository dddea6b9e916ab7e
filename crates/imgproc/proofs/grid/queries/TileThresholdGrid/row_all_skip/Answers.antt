-- The number of the tile row lies in the buffer. Assumes nothing.
use Rattle.std.proofs.Common.{arith, sym}
use Rattle.imgproc.proofs.grid.queries.Grids.{row_within, row_small}
use Rattle.imgproc.proofs.grid.queries.TileThresholdGrid.row_all_skip.Goals as goal

pub offset_bounds-open_tiles-j : goal.offset_bounds-open_tiles-j
offset_bounds-open_tiles-j c = omega (arith, row_small _ _ _ _ (sym c.in_ok-j.ensures))

pub bounds-open_tiles-j : goal.bounds-open_tiles-j
bounds-open_tiles-j c = row_within _ _ _ _ (sym c.in_ok-j.ensures)
