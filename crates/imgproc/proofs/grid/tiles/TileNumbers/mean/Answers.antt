-- `mean` meets its contract. Assumes nothing.
use mathlib.Core.Path.{refl}
use Rattle.imgproc.specs.Grid.{mean_of}
use Rattle.imgproc.proofs.grid.tiles.TileNumbers.mean.Goals as goal

pub returns : goal.returns
unfolding mean_of
returns c = refl
