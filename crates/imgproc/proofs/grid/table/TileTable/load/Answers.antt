-- `load` meets its contract. Assumes nothing.
use native.Mathlib.Omega.{arith}
use Rattle.imgproc.proofs.grid.tiles.Joins.{tile_proper}
use Rattle.imgproc.proofs.grid.table.TileTable.load.Goals as goal

pub overflow_cast-result : goal.overflow_cast-result
overflow_cast-result c =
    let p = tile_proper c.args.self.proper c.args.i c.args.j c.requires.0 c.requires.1 in omega (arith, p.small.minimum)

pub overflow_cast-result-2 : goal.overflow_cast-result-2
overflow_cast-result-2 c =
    let p = tile_proper c.args.self.proper c.args.i c.args.j c.requires.0 c.requires.1 in omega (arith, p.small.maximum)
