-- The tiles of a grid are gathered one after another, tile row by tile row from the left: what the workspace holds
-- after the first n of them. Definitions only.
use Rattle.std.specs.Prelude.{◌≡◌, ℕ, zero, suc, ◌+◌, ◌*◌, ◌/◌, ◌%◌, ◌<◌, List, [], ◌∷◌, ◌++◌}
use Rattle.image.specs.declared.Geometry.{Geometry}
use Rattle.image.specs.Plane.{pixel, overwritten}
use Rattle.imgproc.specs.declared.grid.config.TileThresholdConfig.{TileThresholdConfig}
use Rattle.imgproc.specs.declared.grid.tiles.TileNumbers.{TileNumbers}
use Rattle.imgproc.specs.Fold.{Box, fold_box}
use Rattle.imgproc.specs.Extremes.{Inside}
use Rattle.imgproc.specs.Grid.{tiles_x_of}
use Rattle.imgproc.specs.GridCalls.{tile_count}
use Rattle.imgproc.specs.Tiles.{tile, numbers_in}

-- a picture, and the settings of the grid whose tiles cover it: the code's `Tiling`
pub record Tiled : Type 0 where
  pub src : List ℕ
  pub source : Geometry
  pub settings : TileThresholdConfig

-- how many tiles it has
abbrev pub tiles_of : Tiled → ℕ
tiles_of p = tile_count p.settings p.source.width p.source.height

-- the pixels of tile t: tiles are counted along a tile row from the left, and tile row after tile row
abbrev pub tile_at : Tiled → ℕ → Box
tile_at p t =
    let tiles_x = tiles_x_of p.settings p.source.width in
    tile p.settings p.source.width p.source.height (t % tiles_x) (t / tiles_x)

-- its own minimum, maximum, sum, sum of squares and count
abbrev pub tile_numbers : Tiled → ℕ → TileNumbers
tile_numbers p t = numbers_in (pixel p.src p.source.stride) (tile_at p t)

-- the five numbers in the order in which they are stored
abbrev pub five : TileNumbers → List ℕ
five n = n.minimum ∷ n.maximum ∷ n.sum ∷ n.sum_sq ∷ n.count ∷ []

-- those of the first n tiles, one tile after another: 5n numbers
unfoldable pub first_tiles : Tiled → ℕ → List ℕ
unfolding fold_box
first_tiles p zero = []
first_tiles p (suc n) = first_tiles p n ++ five (tile_numbers p n)

-- the workspace after the first n tiles: the lent one, with its first 5n numbers from `at` on replaced by theirs
abbrev pub after_tiles : Tiled → ℕ → ℕ → List ℕ → List ℕ
after_tiles p at n lent = overwritten at (first_tiles p n) lent

-- the contract of `gather`: it leaves the workspace after the first n tiles, whose maxima are bytes, as pixels are
pub record Gathers (p : Tiled) (at n : ℕ) (before after : List ℕ) : Type 0 where
  pub leaves : after ≡ after_tiles p at n before
  pub bytes : (t : ℕ) → t < n → (tile_numbers p t).maximum < 256

-- the contract of `gather_tile`: the five numbers of tile n are stored in their place and nothing else is, so that
-- whatever was lent, the workspace after n tiles becomes that after n + 1
pub record GathersTile (p : Tiled) (at n : ℕ) (before after : List ℕ) : Type 0 where
  pub alone : after ≡ overwritten (at + 5 * n) (five (tile_numbers p n)) before
  pub next : (lent : List ℕ) → before ≡ after_tiles p at n lent → after ≡ after_tiles p at (n + 1) lent
  pub byte : (tile_numbers p n).maximum < 256

-- two pictures agree on tile t: it has the same place in both, and the same pixels
pub record AgreeOn (a b : Tiled) (t : ℕ) : Type 0 where
  pub place : tile_at a t ≡ tile_at b t
  pub pixels : (x y : ℕ) → Inside (tile_at a t) (x, y)
      → pixel a.src a.source.stride x y ≡ pixel b.src b.source.stride x y

-- and on each of the first n tiles
abbrev pub Agree : Tiled → Tiled → ℕ → Type 0
Agree a b n = (t : ℕ) → t < n → AgreeOn a b t
