-- `new` meets its contract: the gathered numbers are those of a picture. Assumes nothing.
use Rattle.imgproc.proofs.grid.tiles.Neighbours.{proper_grid}
use Rattle.imgproc.proofs.grid.table.TileTable.new.Goals as goal

pub invariant_of-result : goal.invariant_of-result
invariant_of-result c =
    let a = c.args in
    let t = a.tiling in
    record {
      proper = rw c.counts.ensures
          (proper_grid c.requires.picture t.config t.source.geometry.width t.source.geometry.height a.at a.workspace.now t.sized c.requires.gathered);
    }
