-- `join_row` meets its contract. The invariant: the numbers are those of the tiles passed, joined. Assumes nothing.
use Prim.Native.Nat.{◌-◌}
use mathlib.Core.Path.{◌≡◌}
use Rattle.imgproc.specs.Tiles.{tile_entry, join_over}
use Rattle.imgproc.proofs.grid.table.TileTable.join_row.Given as goal

abbrev pub invariant-loop-i : goal.invariant-loop-i
invariant-loop-i l =
    l.numbers ≡ join_over (λ k. tile_entry l.self.at l.self.tiles.tiles_x l.self.workspace.now k l.j) l.from (l.i - 1)
