-- Tile counts in the code: nothing wraps. Assumes nothing.
use mathlib.Core.Path.{◌≡◌}
use Prim.Native.Nat.{ℕ, ◌*◌, ◌≤◌}
use native.Mathlib.Omega.{arith}
use Rattle.image.specs.Layout.{side_limit}
use Rattle.imgproc.specs.declared.grid.config.TileThresholdConfig.{TileThresholdConfig}
use Rattle.imgproc.specs.Grid.{tiles_x_of, tiles_y_of, tiles_limit}
use Rattle.imgproc.specs.GridLaws.{ceiling_small, tiles_small}
use Rattle.imgproc.specs.Tiles.{Sized}

-- the tiles of a row are within the limit of a side
pub across : {g : TileThresholdConfig} {w h : ℕ} → Sized g w h → tiles_x_of g w ≤ side_limit
across {g} {w} z = omega (arith, ceiling_small w g.tile_width z.tile_width, z.small_width)

module _ {g : TileThresholdConfig} {w h : ℕ} (z : Sized g w h) {tx ty : ℕ} (X : tx ≡ tiles_x_of g w) (Y : ty ≡ tiles_y_of g h) where
  pub few : tx * ty ≤ tiles_limit
  few = tiles_small X Y z.tile_width z.tile_height z.small_width z.small_height
