-- `morph_rect` meets its contract: the sweep of the rows leaves what that of the columns asks. Assumes nothing.
use Rattle.imgproc.proofs.morphology.Planes.{columns_ready, morphed}
use Rattle.imgproc.proofs.morphology.rect.morph_rect.Goals as goal

pub sweep_columns-requires : goal.sweep_columns-requires
sweep_columns-requires g c = rw c.in_place.ensures (columns_ready c.requires c.sweep_rows.ensures)

pub returns : goal.returns
returns g c = morphed c.requires c.sweep_rows.ensures (rw c.in_place.ensures at c.sweep_columns.ensures)
