-- The tile of the pixel lies in the buffer. Assumes nothing.
use Rattle.std.proofs.Common.{sym}
use Rattle.imgproc.proofs.grid.queries.Grids.{pixel_within}
use Rattle.imgproc.proofs.grid.queries.TileThresholdGrid.threshold_at.Goals as goal

pub bounds-thresholds-i : goal.bounds-thresholds-i
bounds-thresholds-i c = pixel_within _ _ _ _ _ (sym c.in_ok-i.ensures)
