-- `join_rows` meets its contract. The invariant: the numbers are those of the tile rows passed, joined. Assumes nothing.
use Prim.Native.Nat.{◌-◌}
use mathlib.Core.Path.{◌≡◌}
use Rattle.imgproc.specs.Tiles.{joined_rows}
use Rattle.imgproc.proofs.grid.table.TileTable.join_rows.Given as goal

abbrev pub invariant-loop-j : goal.invariant-loop-j
invariant-loop-j l =
    l.numbers ≡ joined_rows l.self.at l.self.tiles.tiles_x l.self.workspace.now l.area.left l.area.right l.area.top (l.j - 1)
