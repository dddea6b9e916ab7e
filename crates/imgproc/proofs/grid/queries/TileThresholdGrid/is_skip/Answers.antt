-- The tile of the pixel lies in the buffer. Assumes nothing.
use Rattle.std.proofs.Common.{sym}
use Rattle.imgproc.proofs.grid.queries.Grids.{pixel_within}
use Rattle.imgproc.proofs.grid.queries.TileThresholdGrid.is_skip.Goals as goal

pub bounds-skips-i : goal.bounds-skips-i
bounds-skips-i c = pixel_within _ _ _ _ _ (sym c.in_ok-i.ensures)
