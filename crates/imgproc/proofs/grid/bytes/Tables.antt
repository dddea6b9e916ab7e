-- The bytes made of gathered numbers are the thresholds and the skips of the picture. Assumes nothing.
use mathlib.Core.Path.{◌≡◌, refl, sym, ap, ◌∙◌}
use mathlib.Core.List.{List}
use Prim.Native.Nat.{ℕ, ◌*◌, ◌/◌, ◌%◌, ◌<◌}
use native.Mathlib.Omega.{arith}
use Rattle.image.specs.Plane.{tabulate, pixel, picture}
use Rattle.image.specs.Views.{pixel_picture}
use Rattle.imgproc.specs.declared.grid.config.TileThresholdConfig.{TileThresholdConfig}
use Rattle.imgproc.specs.declared.grid.tiles.TileNumbers.{TileNumbers}
use Rattle.imgproc.specs.Fold.{bit}
use Rattle.imgproc.specs.Grid.{tiles_x_of, tiles_y_of, around, skip_of, threshold_of, thresholds, skips}
use Rattle.imgproc.specs.GridLaws.{tabulate_same}
use Rattle.imgproc.specs.Gathering.{Tiled}
use Rattle.imgproc.specs.GatheringLaws.{tile_column, tile_row, same_in}
use Rattle.imgproc.specs.Tiles.{Sized, numbers_in, joined_around, each_tile, threshold_by, skip_by}
use Rattle.imgproc.proofs.grid.tiles.Gathering.{AllGathered}
use Rattle.imgproc.proofs.grid.tiles.Neighbours.{around_joined, some_around}

-- the numbers of the tiles of a picture stand in ws from `at` on
module _ (t : Tiled) (at : ℕ) {ws : List ℕ} (z : Sized t.settings t.source.width t.source.height) (got : AllGathered t at ws) where
  abbrev g : TileThresholdConfig
  g = t.settings

  abbrev w : ℕ
  w = t.source.width

  abbrev h : ℕ
  h = t.source.height

  abbrev f : ℕ → ℕ → ℕ
  f = pixel t.src t.source.stride

  abbrev p : List ℕ
  p = picture t.src t.source

  -- the numbers joined around a tile are those of the packed picture
  joined_picture : (i j : ℕ) → i < tiles_x_of g w → j < tiles_y_of g h
      → joined_around g.neighborhood_radius (tiles_x_of g w) (tiles_y_of g h) at ws i j ≡ numbers_in (pixel p w) (around g w h i j)
  joined_picture i j I J =
      around_joined f g w h at ws z got i j I J
      ∙ same_in f (pixel p w) (around g w h i j) (some_around f g w h at ws z got i j I J)
      (λ x y i. sym (pixel_picture t.src t.source x y (omega (arith, i.0.1, z.wide)) (omega (arith, i.1.1, z.high))))

  bytes_are : (by : TileNumbers → ℕ) (f : ℕ → ℕ → ℕ) → ((i j : ℕ) → by (numbers_in (pixel p w) (around g w h i j)) ≡ f i j)
      → each_tile by g w h at ws ≡ tabulate (λ k. f (k % tiles_x_of g w) (k / tiles_x_of g w)) (tiles_x_of g w * tiles_y_of g h)
  bytes_are by f e =
      tabulate_same _ _ (tiles_x_of g w * tiles_y_of g h)
      (λ k K. ap by (joined_picture (k % tiles_x_of g w) (k / tiles_x_of g w) (tile_column t z k) (tile_row t z k K)) ∙ e (k % tiles_x_of g w) (k / tiles_x_of g w))

  pub thresholds_are : each_tile (threshold_by g) g w h at ws ≡ thresholds g w h p
  unfolding thresholds threshold_of
  thresholds_are = bytes_are (threshold_by g) (threshold_of g w h p) (λ i j. refl)

  pub skips_are : each_tile (skip_by g) g w h at ws ≡ skips g w h p
  unfolding skips skip_of
  skips_are = bytes_are (skip_by g) (λ i j. bit (skip_of g w h p i j)) (λ i j. refl)
