-- A build keeps five numbers of each tile in its workspace, joins them over neighbours and makes bytes of them.
-- Definitions only.
use Rattle.std.specs.Prelude.{ℕ, zero, suc, ◌+◌, ◌-◌, ◌*◌, ◌/◌, ◌%◌, ◌≤◌, ◌<◌, min, max, ◌≡◌, List, ltb, pos, ◌+ℤ◌, length, get_or}
use Rattle.image.specs.Plane.{tabulate}
use Rattle.image.specs.Layout.{side_limit, area_limit}
use Rattle.imgproc.specs.declared.grid.config.TileThresholdConfig.{TileThresholdConfig}
use Rattle.imgproc.specs.declared.grid.tiles.TileNumbers.{TileNumbers}
use Rattle.imgproc.specs.Fold.{Box, bit, fold_over}
use Rattle.imgproc.specs.Extremes.{Some}
use Rattle.imgproc.specs.Reach.{low, high}
use Rattle.imgproc.specs.Sums.{sum, sum_squares, count}
use Rattle.imgproc.specs.Grid.{tiles_x_of, tiles_y_of, tile_from, tile_to, least, most, base_of, clipped}
use Rattle.imgproc.specs.GridCalls.{BuildLent, BuildLeft, tiles_lent, thresholds_over, skips_over, open_tiles_over}

-- a picture and tile sides that a grid can be built over
pub record Sized (g : TileThresholdConfig) (w h : ℕ) : Type 0 where
  pub wide : 0 < w
  pub high : 0 < h
  pub small_width : w ≤ side_limit
  pub small_height : h ≤ side_limit
  pub tile_width : 0 < g.tile_width
  pub tile_height : 0 < g.tile_height

-- minimum, maximum, S, Q and c of the pixels f in a box
abbrev pub numbers_in : (ℕ → ℕ → ℕ) → Box → TileNumbers
numbers_in f b = record {
  minimum = least f b;
  maximum = most f b;
  sum = sum f b;
  sum_sq = sum_squares f b;
  count = count b;
}

-- of the samples f a, .., f b of a line
abbrev pub line_numbers : (ℕ → ℕ) → ℕ → ℕ → TileNumbers
line_numbers f a b = record {
  minimum = fold_over min f a b;
  maximum = fold_over max f a b;
  sum = fold_over ◌+◌ f a b;
  sum_sq = fold_over ◌+◌ (λ x. f x * f x) a b;
  count = fold_over ◌+◌ (λ x. 1) a b;
}

-- the pixels of tile (i, j), clipped to the picture
abbrev pub tile : TileThresholdConfig → ℕ → ℕ → ℕ → ℕ → Box
tile g w h i j = record {
  left = tile_from g.tile_width i;
  right = tile_to g.tile_width w i;
  top = tile_from g.tile_height j;
  bottom = tile_to g.tile_height h j;
}

-- the box has a pixel, and lies within the sides w and h
pub record Within (b : Box) (w h : ℕ) : Type 0 where
  pub some : Some b
  pub right : b.right < w
  pub bottom : b.bottom < h

-- the numbers of two sets of pixels together
abbrev pub joined : TileNumbers → TileNumbers → TileNumbers
joined a b = record {
  minimum = min a.minimum b.minimum;
  maximum = max a.maximum b.maximum;
  sum = a.sum + b.sum;
  sum_sq = a.sum_sq + b.sum_sq;
  count = a.count + b.count;
}

-- n a joined with the k after it
unfoldable pub join_from : (ℕ → TileNumbers) → ℕ → ℕ → TileNumbers
join_from n a zero = n a
join_from n a (suc k) = joined (join_from n a k) (n (a + suc k))

-- n a, .., n b joined, both ends among them
unfoldable pub join_over : (ℕ → TileNumbers) → ℕ → ℕ → TileNumbers
unfolding join_from
join_over n a b = join_from n a (b - a)

-- the five numbers that stand from `at` on
abbrev pub entry : List ℕ → ℕ → TileNumbers
entry ws at = record {
  minimum = get_or ws at 0;
  maximum = get_or ws (at + 1) 0;
  sum = get_or ws (at + 2) 0;
  sum_sq = get_or ws (at + 3) 0;
  count = get_or ws (at + 4) 0;
}

-- the numbers of tile (i, j) of a grid of tx columns that starts at `at`, tile row after tile row
abbrev pub tile_entry : ℕ → ℕ → List ℕ → ℕ → ℕ → TileNumbers
tile_entry at tx ws i j = entry ws (at + 5 * (j * tx) + 5 * i)

-- a workspace that holds, from `at` on, the numbers of every tile of the picture f
pub record Gathered (f : ℕ → ℕ → ℕ) (g : TileThresholdConfig) (w h at : ℕ) (ws : List ℕ) : Type 0 where
  pub room : at + 5 * (tiles_x_of g w * tiles_y_of g h) ≤ length ws
  pub bytes : (i j : ℕ) → i < tiles_x_of g w → j < tiles_y_of g h
      → (tile_entry at (tiles_x_of g w) ws i j).maximum < 256
  pub each : (i j : ℕ) → i < tiles_x_of g w → j < tiles_y_of g h
      → tile_entry at (tiles_x_of g w) ws i j ≡ numbers_in f (tile g w h i j)

-- numbers of at most as many bytes as a picture has
pub record Small (n : TileNumbers) : Type 0 where
  pub minimum : n.minimum < 256
  pub maximum : n.maximum < 256
  pub sum : n.sum ≤ 255 * area_limit
  pub sum_sq : n.sum_sq ≤ 65025 * area_limit
  pub count : n.count ≤ area_limit

-- and whose minimum is at most their maximum
pub record Proper (n : TileNumbers) : Type 0 where
  pub small : Small n
  pub ordered : n.minimum ≤ n.maximum

-- the numbers of the tiles from..to of the tile rows first..last, joined
abbrev pub joined_rows : ℕ → ℕ → List ℕ → ℕ → ℕ → ℕ → ℕ → TileNumbers
joined_rows at tx ws from to first last = join_over (λ b. join_over (λ a. tile_entry at tx ws a b) from to) first last

-- a workspace that holds, from `at` on, the entries of a grid of tx by ty tiles; those of any tiles a..b of the tile
-- rows c..d, joined, are the numbers of as many bytes as a picture has
pub record ProperGrid (at tx ty : ℕ) (ws : List ℕ) : Type 0 where
  pub room : at + 5 * (tx * ty) ≤ length ws
  pub each : (a b c d : ℕ) → a ≤ b → b < tx → c ≤ d → d < ty → Proper (joined_rows at tx ws a b c d)

-- the numbers of some picture
pub record HoldsTiles (g : TileThresholdConfig) (w h at : ℕ) (ws : List ℕ) : Type 0 where
  pub picture : ℕ → ℕ → ℕ
  pub gathered : Gathered picture g w h at ws

-- of all tiles within the radius r of tile (i, j), in a grid of tx by ty tiles
abbrev pub joined_around : ℕ → ℕ → ℕ → ℕ → List ℕ → ℕ → ℕ → TileNumbers
joined_around r tx ty at ws i j = joined_rows at tx ws (low r i) (high r tx i) (low r j) (high r ty j)

-- the stored threshold of a neighbourhood with the numbers n
abbrev pub threshold_by : TileThresholdConfig → TileNumbers → ℕ
threshold_by g n =
    clipped
    (pos (base_of g.method n.minimum n.maximum n.sum n.sum_sq n.count) +ℤ g.threshold_offset)

-- its stored skip
abbrev pub skip_by : TileThresholdConfig → TileNumbers → ℕ
skip_by g n = bit (ltb (n.maximum - n.minimum) g.contrast_floor)

-- one number for each tile of a grid of tx by ty tiles, tile row after tile row, from the numbers around it
abbrev pub bytes_around : (TileNumbers → ℕ) → ℕ → ℕ → ℕ → ℕ → List ℕ → List ℕ
bytes_around by r tx ty at ws = tabulate (λ t. by (joined_around r tx ty at ws (t % tx) (t / tx))) (tx * ty)

-- and for each tile of a picture of w by h pixels
abbrev pub each_tile : (TileNumbers → ℕ) → TileThresholdConfig → ℕ → ℕ → ℕ → List ℕ → List ℕ
each_tile by g w h at ws = bytes_around by g.neighborhood_radius (tiles_x_of g w) (tiles_y_of g h) at ws

-- ---- `fill` of a build

-- `fill` asks that the lent buffers hold t tiles
pub record Rooms (lent : BuildLent) : Type 0 where
  pub workspace : 5 * tiles_lent lent ≤ length lent.workspace
  pub thresholds : tiles_lent lent ≤ length lent.thresholds
  pub skips : tiles_lent lent ≤ length lent.skips
  pub open_tiles : tiles_y_of lent.settings lent.source.height ≤ length lent.open_tiles

-- `fill` leaves the three buffers as an accepted build leaves them
pub record Fills (lent : BuildLent) (left : BuildLeft) : Type 0 where
  pub thresholds_left : left.thresholds ≡ thresholds_over lent
  pub skips_left : left.skips ≡ skips_over lent
  pub open_tiles_left : left.open_tiles ≡ open_tiles_over lent
  pub long : length left.workspace ≡ length lent.workspace
