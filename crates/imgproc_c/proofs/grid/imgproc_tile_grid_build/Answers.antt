-- The export returns the number of the build's answer, and stores the tile counts. Assumes nothing.
use mathlib.Core.Path.{refl}
use Rattle.imgproc_c.proofs.GridNumbers.{builds}
use Rattle.imgproc_c.proofs.grid.imgproc_tile_grid_build.Goals as goal

pub returns : goal.returns
returns c =
    let a = c.args in
    builds a.method a.k a.dynamic_range c.ranges.threshold_offset refl c.method_of.ensures c.build-answer.ensures c.built.ensures
