-- `of_area` meets its contract. The invariant: the numbers are those of the rows passed. Assumes nothing.
use Prim.Native.Nat.{◌-◌, ◌<◌}
use mathlib.Core.Path.{◌≡◌}
use Rattle.image.specs.Plane.{pixel}
use Rattle.imgproc.specs.Tiles.{numbers_in}
use Rattle.imgproc.proofs.grid.tiles.TileNumbers.of_area.Given as goal

abbrev pub invariant-loop-y : goal.invariant-loop-y
invariant-loop-y l =
    (l.numbers
    ≡ numbers_in (pixel l.source.pixels.now l.source.geometry.stride)
    (record { left = l.fn.area.left; right = l.fn.area.right; top = l.fn.area.top; bottom = l.y - 1 }))
    × (l.numbers.maximum < 256)
