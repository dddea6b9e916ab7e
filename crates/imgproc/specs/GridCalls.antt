-- The contracts of the tile grid's build and queries: each call's refusals, its answer and the buffers that it leaves.
-- (Blanking has those of the calls that set or clear a skip by hand.) Definitions only.
use Rattle.std.specs.Prelude.{Result, Ok, Err}
use Rattle.std.specs.Prelude.{ℕ, ◌+◌, ◌*◌, ◌/◌, ◌≡◌, Bool, true, not, ◌&&◌, ◌||◌, List, ltb, eqb, length, get_or, Float}
use Rattle.std.specs.Float.Ieee.{lt}
use Rattle.std.specs.Float.Ieee.Scale.{finite}
use Rattle.image.specs.declared.Geometry.{Geometry}
use Rattle.image.specs.declared.LumaError.TheVariants.{OutsidePicture}
use Rattle.image.specs.Answers.{Answer}
use Rattle.image.specs.Layout.{side_limit}
use Rattle.image.specs.Plane.{tabulate, overwritten, picture}
use Rattle.imgproc.specs.declared.ImgProcError.{ImgProcError}
use Rattle.imgproc.specs.declared.ImgProcError.TheVariants.{
  Image,
  InvalidConfiguration,
  WorkspaceTooSmall,
  GridBufferTooSmall,
}
use Rattle.imgproc.specs.declared.grid.config.TileThresholdConfig.{TileThresholdConfig}
use Rattle.imgproc.specs.declared.grid.config.TileThresholdMethod.{TileThresholdMethod}
use Rattle.imgproc.specs.declared.grid.config.TileThresholdMethod.TheVariants.{Midrange, Sauvola}
use Rattle.imgproc.specs.declared.grid.TileCounts.{TileCounts}
use Rattle.imgproc.specs.declared.grid.queries.TileThresholdGrid.{TileThresholdGrid}
use Rattle.imgproc.specs.Reach.{ceiling, walk}
use Rattle.imgproc.specs.Grid.{tiles_x_of, tiles_y_of, nought, thresholds, skips, open_tiles}
use Rattle.imgproc.specs.Refusals.{Check, Conditions, first, refused_if, ◌then◌, answer_by, left_by, Lent, view_conditions}

-- ---- build

-- k and dynamic_range are finite, and dynamic_range is above 0
abbrev pub usable_floats : Float → Float → Bool
usable_floats k range = finite k && finite range && lt nought range

-- the Midrange method has no floats
abbrev pub usable_method : TileThresholdMethod → Bool
usable_method Midrange = true
usable_method (Sauvola s) = usable_floats s.k s.dynamic_range

-- zero tile side, or for Sauvola k or dynamic_range not finite or dynamic_range ≤ 0
unfoldable pub grid_settings : TileThresholdConfig → Conditions
grid_settings g =
    refused_if (eqb g.tile_width 0 || eqb g.tile_height 0 || not (usable_method g.method))
    InvalidConfiguration

-- t = tiles_x × tiles_y
abbrev pub tile_count : TileThresholdConfig → ℕ → ℕ → ℕ
tile_count g w h = tiles_x_of g w * tiles_y_of g h

-- tiles_x and tiles_y
abbrev pub tile_counts : TileThresholdConfig → ℕ → ℕ → TileCounts
tile_counts g w h = record { tiles_x = tiles_x_of g w; tiles_y = tiles_y_of g h }

-- u64 workspace under 5t; threshold or skip buffer under t bytes, or count buffer under tiles_y numbers
abbrev pub grid_room : TileCounts → ℕ → ℕ → ℕ → ℕ → Conditions
grid_room n room threshold_room skip_room open_room =
    let t = n.tiles_x * n.tiles_y in
    refused_if (ltb room (5 * t)) WorkspaceTooSmall then
    refused_if (ltb threshold_room t || ltb skip_room t || ltb open_room n.tiles_y) GridBufferTooSmall

-- what a build is lent
pub record BuildLent : Type 0 where
  pub src : List ℕ
  pub source : Geometry
  pub settings : TileThresholdConfig
  pub workspace : List ℕ
  pub thresholds : List ℕ
  pub skips : List ℕ
  pub open_tiles : List ℕ

-- what is left of it
pub record BuildLeft : Type 0 where
  pub workspace : List ℕ
  pub thresholds : List ℕ
  pub skips : List ℕ
  pub open_tiles : List ℕ

-- t, the tiles of what was lent
abbrev pub tiles_lent : BuildLent → ℕ
tiles_lent lent = tile_count lent.settings lent.source.width lent.source.height

-- the threshold buffer after an accepted build: the picture's thresholds in its first t bytes
abbrev pub thresholds_over : BuildLent → List ℕ
thresholds_over lent =
    let g = lent.source in
    overwritten 0 (thresholds lent.settings g.width g.height (picture lent.src g)) lent.thresholds

-- the skip buffer after an accepted build: the picture's skips in its first t bytes
abbrev pub skips_over : BuildLent → List ℕ
skips_over lent =
    let g = lent.source in
    overwritten 0 (skips lent.settings g.width g.height (picture lent.src g)) lent.skips

-- the count buffer after an accepted build: the open tiles of each tile row in its first tiles_y numbers
abbrev pub open_tiles_over : BuildLent → List ℕ
open_tiles_over lent =
    let g = lent.source in
    overwritten 0 (open_tiles lent.settings g.width g.height (picture lent.src g)) lent.open_tiles

-- the tile counts of what was lent
abbrev pub tiles_from : BuildLent → TileCounts
tiles_from lent = tile_counts lent.settings lent.source.width lent.source.height

-- a build is refused for its layout; its settings, by a list of their own; its room
abbrev pub build_conditions_by : Conditions → BuildLent → Conditions
build_conditions_by settings lent =
    view_conditions (length lent.src) lent.source then
    settings then
    grid_room (tiles_from lent)
    (length lent.workspace) (length lent.thresholds) (length lent.skips) (length lent.open_tiles)

abbrev pub build_conditions : BuildLent → Conditions
build_conditions lent = build_conditions_by (grid_settings lent.settings) lent

-- a build by a list of conditions: the first t bytes of two buffers are the picture's thresholds and skips, the first
-- tiles_y numbers of the third count the open tiles of the tile rows, and all else is as it was
pub record BuildsBy (cs : Conditions) (lent : BuildLent) (answer : Answer TileCounts) (left : BuildLeft) : Type 0 where
  pub answers : answer ≡ answer_by (first cs) (tiles_from lent)
  pub thresholds_left : left.thresholds ≡ left_by (first cs) (thresholds_over lent) lent.thresholds
  pub skips_left : left.skips ≡ left_by (first cs) (skips_over lent) lent.skips
  pub open_tiles_left : left.open_tiles ≡ left_by (first cs) (open_tiles_over lent) lent.open_tiles
  pub workspace_left : Lent (first cs) lent.workspace left.workspace

-- the contract of `build`
abbrev pub Builds : BuildLent → Answer TileCounts → BuildLeft → Type 0
Builds lent = BuildsBy (build_conditions lent) lent

-- ---- queries

-- the sizes of a grid over a picture of w by h
abbrev pub grid_over : TileThresholdConfig → ℕ → ℕ → TileThresholdGrid
grid_over g w h = record {
  width = w;
  height = h;
  tile_width = g.tile_width;
  tile_height = g.tile_height;
  tiles_x = tiles_x_of g w;
  tiles_y = tiles_y_of g h;
}

-- a side of 0 or above the limit
abbrev pub bad_side : ℕ → Bool
bad_side n = eqb n 0 || ltb side_limit n

-- sides of 0 or above the limit, zero tile sides or tile counts that are not the ceilings
unfoldable pub bad_grid : TileThresholdGrid → Bool
bad_grid q =
    bad_side q.width ||
    bad_side q.height ||
    eqb q.tile_width 0 ||
    eqb q.tile_height 0 ||
    not (eqb q.tiles_x (ceiling q.width q.tile_width)) ||
    not (eqb q.tiles_y (ceiling q.height q.tile_height))

-- sizes that no build gives
abbrev pub grid_conditions : TileThresholdGrid → Conditions
grid_conditions q = refused_if (bad_grid q) InvalidConfiguration

-- what a grid is asked: a lent buffer that is too short; a place outside
abbrev pub asked_conditions : Bool → Bool → Conditions
asked_conditions short inside = refused_if short GridBufferTooSmall then refused_if (not inside) (Image OutsidePicture)

-- a bad grid; buffer too short; place outside
abbrev pub query_conditions : TileThresholdGrid → Bool → Bool → Conditions
query_conditions q short inside = grid_conditions q then asked_conditions short inside

-- a query about pixel (x, y), of a buffer of len bytes: under t is too short
abbrev pub pixel_conditions : TileThresholdGrid → ℕ → ℕ → ℕ → Conditions
pixel_conditions q len x y = query_conditions q (ltb len (q.tiles_x * q.tiles_y)) (ltb x q.width && ltb y q.height)

-- a query about pixel row y, of a buffer of len numbers: under tiles_y is too short
abbrev pub row_conditions : TileThresholdGrid → ℕ → ℕ → Conditions
row_conditions q len y = query_conditions q (ltb len q.tiles_y) (ltb y q.height)

-- the tile of pixel (x, y): tile column ⌊x / tile_width⌋, tile row ⌊y / tile_height⌋
abbrev pub tile_of : TileThresholdGrid → ℕ → ℕ → ℕ
tile_of q x y = y / q.tile_height * q.tiles_x + x / q.tile_width

-- the tile row of pixel row y
abbrev pub tile_row_of : TileThresholdGrid → ℕ → ℕ
tile_row_of q y = y / q.tile_height

-- each byte but 0 is skipped
abbrev pub skipped : List ℕ → ℕ → Bool
skipped d i = not (eqb (get_or d i 0) 0)

-- how many of the tx tiles of tile row j are open, by their bytes
unfoldable pub open_in : List ℕ → ℕ → ℕ → ℕ
unfolding walk
open_in d tx j = walk (λ i. not (skipped d (j * tx + i))) tx

-- these numbers, of ty tile rows
unfoldable pub open_tiles_in : List ℕ → ℕ → ℕ → List ℕ
unfolding open_in
open_tiles_in d tx ty = tabulate (open_in d tx) ty

-- the answers of the three queries: the stored threshold, the stored skip, and whether the stored number of the tile
-- row is 0
abbrev pub threshold_asked : TileThresholdGrid → List ℕ → ℕ → ℕ → Answer ℕ
threshold_asked q d x y = answer_by (first (pixel_conditions q (length d) x y)) (get_or d (tile_of q x y) 0)

abbrev pub skip_asked : TileThresholdGrid → List ℕ → ℕ → ℕ → Answer Bool
skip_asked q d x y = answer_by (first (pixel_conditions q (length d) x y)) (skipped d (tile_of q x y))

abbrev pub row_skip_asked : TileThresholdGrid → List ℕ → ℕ → Answer Bool
row_skip_asked q d y = answer_by (first (row_conditions q (length d) y)) (eqb (get_or d (tile_row_of q y) 0) 0)

-- ---- inside: the place of a tile or of a tile row, or the refusal

abbrev pub Place : Type 0
Place = Result ℕ ImgProcError

abbrev pub place_by : Check → ℕ → Place
place_by (Ok u) i = Ok i
place_by (Err e) i = Err e

abbrev pub pixel_place : TileThresholdGrid → ℕ → ℕ → ℕ → Place
pixel_place q len x y = place_by (first (pixel_conditions q len x y)) (tile_of q x y)

abbrev pub row_place : TileThresholdGrid → ℕ → ℕ → Place
row_place q len y = place_by (first (row_conditions q len y)) (tile_row_of q y)
