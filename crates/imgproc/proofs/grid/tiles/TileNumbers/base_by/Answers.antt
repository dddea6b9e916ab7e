-- `base_by` meets its contract. Assumes nothing.
use Rattle.imgproc.proofs.grid.base.Steps.{midrange_is, floats_are}
use Rattle.imgproc.proofs.grid.tiles.TileNumbers.base_by.Goals as goal

pub returns-in-Midrange : goal.returns-in-Midrange
returns-in-Midrange c = midrange_is c.args.self c.in-Midrange.is c.midrange.ensures

pub returns-in-Sauvola : goal.returns-in-Sauvola
returns-in-Sauvola c = floats_are c.args.self c.in-Sauvola.is c.sauvola.ensures
