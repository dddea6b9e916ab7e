-- Document 01, part 5: the tile grid. Definitions only.
use Rattle.std.specs.Prelude.{ℕ, zero, suc, ◌+◌, ◌-◌, ◌*◌, ◌/◌, ◌%◌, min, max, ltb, ℤ, pos, negsuc, ◌+ℤ◌, Float}
use Rattle.std.specs.Prelude.{Bool, false, not, cond, List}
use Rattle.std.specs.Float.{fin, binary64}
use Rattle.std.specs.Float.Ieee.{of_int, add, sub, mul, div, lt, le}
use Rattle.image.specs.Layout.{area_limit}
use Rattle.image.specs.Plane.{tabulate, pixel}
use Rattle.imgproc.specs.declared.grid.config.TileThresholdConfig.{TileThresholdConfig}
use Rattle.imgproc.specs.declared.grid.config.TileThresholdMethod.{TileThresholdMethod}
use Rattle.imgproc.specs.declared.grid.config.TileThresholdMethod.TheVariants.{Midrange, Sauvola}
use Rattle.imgproc.specs.Fold.{Box, bit, fold_box}
use Rattle.imgproc.specs.Reach.{low, high, ceiling, walk}
use Rattle.imgproc.specs.Sums.{sum, sum_squares, count}
use Rattle.imgproc.specs.Root.{root_of}

-- the Rust's settings: Midrange tiles 16 by 16, radius 1, offset 0, contrast floor 12
abbrev pub grid_defaults : TileThresholdConfig
grid_defaults = record {
  tile_width = 16;
  tile_height = 16;
  neighborhood_radius = 1;
  threshold_offset = pos 0;
  contrast_floor = 12;
  method = Midrange;
}

-- tiles_x = ⌈w / tile_width⌉
abbrev pub tiles_x_of : TileThresholdConfig → ℕ → ℕ
tiles_x_of g w = ceiling w g.tile_width

-- tiles_y = ⌈h / tile_height⌉
abbrev pub tiles_y_of : TileThresholdConfig → ℕ → ℕ
tiles_y_of g h = ceiling h g.tile_height

-- the most tiles of a grid: tiles of one pixel
abbrev pub tiles_limit : ℕ
tiles_limit = area_limit

-- the first sample of tile i, along an axis with tiles of t samples
abbrev pub tile_from : ℕ → ℕ → ℕ
tile_from t i = i * t

-- its last sample, of n: the last tile is clipped
abbrev pub tile_to : ℕ → ℕ → ℕ → ℕ
tile_to t n i = min (i * t + t) n - 1

-- the pixels of all tiles within the radius of tile (i, j) on both axes, clipped to the grid and the picture
abbrev pub around : TileThresholdConfig → ℕ → ℕ → ℕ → ℕ → Box
around g w h i j = record {
  left = tile_from g.tile_width (low g.neighborhood_radius i);
  right = tile_to g.tile_width w (high g.neighborhood_radius (tiles_x_of g w) i);
  top = tile_from g.tile_height (low g.neighborhood_radius j);
  bottom = tile_to g.tile_height h (high g.neighborhood_radius (tiles_y_of g h) j);
}

-- the minimum of the pixels f in a box
abbrev pub least : (ℕ → ℕ → ℕ) → Box → ℕ
least f b = fold_box min f b

-- their maximum
abbrev pub most : (ℕ → ℕ → ℕ) → Box → ℕ
most f b = fold_box max f b

-- skip: maximum - minimum < contrast_floor
unfoldable pub skip_of : TileThresholdConfig → ℕ → ℕ → List ℕ → ℕ → ℕ → Bool
unfolding fold_box
skip_of g w h p i j =
    ltb (most (pixel p w) (around g w h i j) - least (pixel p w) (around g w h i j)) g.contrast_floor

-- a whole number as an f64
abbrev pub whole : ℕ → Float
whole n = of_int binary64 (pos n)

-- 0.0
abbrev pub nought : Float
nought = fin false 0 (pos 0)

-- 1.0
abbrev pub unit : Float
unit = fin false 1 (pos 0)

-- mean = S / c; here and below each operation is rounded once
unfoldable pub mean_of : ℕ → ℕ → Float
unfolding of_int div
mean_of S c = div binary64 (whole S) (whole c)

-- x, and zero if below zero
abbrev pub at_least_zero : Float → Float
at_least_zero x = cond (lt x nought) nought x

-- variance = Q / c - mean × mean, zero if below zero
unfoldable pub variance_of : ℕ → ℕ → ℕ → Float
unfolding mean_of of_int div sub mul lt
variance_of S Q c =
    at_least_zero (sub binary64 (div binary64 (whole Q) (whole c)) (mul binary64 (mean_of S c) (mean_of S c)))

-- mean × (1 + k × (root / dynamic_range - 1))
unfoldable pub sauvola_of : ℕ → ℕ → ℕ → Float → Float → Float
unfolding mean_of variance_of root_of add sub mul div
sauvola_of S Q c k range =
    mul binary64 (mean_of S c)
    (add binary64 unit (mul binary64 k (sub binary64 (div binary64 (root_of (variance_of S Q c)) range) unit)))

-- i + 0.5, exactly: (2 × i + 1) / 2
abbrev pub half_past : ℕ → Float
half_past i = fin false (2 * i + 1) (negsuc 0)

-- how many whole i below n have v ≥ i + 0.5
unfoldable pub count_to : ℕ → Float → ℕ
unfolding le
count_to zero v = 0
count_to (suc i) v = count_to i v + bit (le (half_past i) v)

-- the base: half of minimum + maximum, or the number of whole i in 0..254 with value ≥ i + 0.5
unfoldable pub base_of : TileThresholdMethod → ℕ → ℕ → ℕ → ℕ → ℕ → ℕ
unfolding sauvola_of count_to
base_of Midrange minimum maximum S Q c = (minimum + maximum) / 2
base_of (Sauvola f) minimum maximum S Q c = count_to 255 (sauvola_of S Q c f.k f.dynamic_range)

-- z, clipped to 0..255
abbrev pub clipped : ℤ → ℕ
clipped (pos n) = min n 255
clipped (negsuc n) = 0

-- the stored threshold of tile (i, j): base + threshold_offset, clipped
unfoldable pub threshold_of : TileThresholdConfig → ℕ → ℕ → List ℕ → ℕ → ℕ → ℕ
unfolding base_of fold_box
threshold_of g w h p i j =
    let b = around g w h i j in
    let f = pixel p w in
    clipped
    (pos (base_of g.method (least f b) (most f b) (sum f b) (sum_squares f b) (count b)) +ℤ g.threshold_offset)

-- the thresholds that a build stores, tile row after tile row
unfoldable pub thresholds : TileThresholdConfig → ℕ → ℕ → List ℕ → List ℕ
unfolding threshold_of
thresholds g w h p = tabulate (λ t. threshold_of g w h p (t % tiles_x_of g w) (t / tiles_x_of g w)) (tiles_x_of g w * tiles_y_of g h)

-- the skips, as bytes 0 and 1
unfoldable pub skips : TileThresholdConfig → ℕ → ℕ → List ℕ → List ℕ
unfolding skip_of
skips g w h p = tabulate (λ t. bit (skip_of g w h p (t % tiles_x_of g w) (t / tiles_x_of g w))) (tiles_x_of g w * tiles_y_of g h)

-- how many tiles of tile row j are open, that is not skipped
unfoldable pub open_of : TileThresholdConfig → ℕ → ℕ → List ℕ → ℕ → ℕ
unfolding skip_of walk
open_of g w h p j = walk (λ i. not (skip_of g w h p i j)) (tiles_x_of g w)

-- these numbers, one for each tile row
unfoldable pub open_tiles : TileThresholdConfig → ℕ → ℕ → List ℕ → List ℕ
unfolding open_of
open_tiles g w h p = tabulate (open_of g w h p) (tiles_y_of g h)
