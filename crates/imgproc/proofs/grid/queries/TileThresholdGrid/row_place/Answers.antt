-- An accepted grid has tiles that are high. Assumes nothing.
use Rattle.std.proofs.Common.{sym}
use Rattle.imgproc.proofs.grid.queries.Grids.{sound_of}
use Rattle.imgproc.proofs.grid.queries.TileThresholdGrid.row_place.Goals as goal

pub nonzero_div-result : goal.nonzero_div-result
nonzero_div-result c = (sound_of _ (sym c.in_ok-check_grid.ensures)).tile_height
