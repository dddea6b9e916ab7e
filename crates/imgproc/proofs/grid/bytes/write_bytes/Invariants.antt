-- `write_bytes` meets its contract. The invariant: the bytes of the tiles passed are written. Assumes nothing.
use Prim.Native.Nat.{◌/◌, ◌%◌}
use mathlib.Core.Path.{◌≡◌}
use Rattle.image.specs.Plane.{tabulate, overwritten}
use Rattle.imgproc.specs.Tiles.{joined_around}
use Rattle.imgproc.proofs.grid.bytes.write_bytes.Given as goal

abbrev pub invariant-loop-t : goal.invariant-loop-t
invariant-loop-t g l =
    let a = l.table in
    l.bytes
    ≡ overwritten l.to
    (tabulate
    (λ k. g.R.TileRule.byte_of l.rule (joined_around a.radius a.tiles.tiles_x a.tiles.tiles_y a.at a.workspace.now (k % a.tiles.tiles_x) (k / a.tiles.tiles_x)))
    l.t)
    l.initial.bytes
