-- Document 01's pictures of part 5, and a few of our own for neighbours, offsets, workspaces and refusals: a part of
-- the table in Pictures. Definitions only.
use Rattle.std.specs.Prelude.{List, [], ◌∷◌, ℕ, ℤ, pos, negsuc}
use Rattle.std.specs.Float.{binary64}
use Rattle.std.specs.Float.Ieee.{of_bits}
use Rattle.imgproc.specs.declared.grid.config.TileThresholdConfig.{TileThresholdConfig}
use Rattle.imgproc.specs.declared.grid.queries.TileThresholdGrid.{TileThresholdGrid}
use Rattle.imgproc.specs.declared.grid.config.TileThresholdMethod.{TileThresholdMethod}
use Rattle.imgproc.specs.declared.grid.config.TileThresholdMethod.TheVariants.{Midrange, Sauvola}
use Rattle.imgproc.specs.Cases.{Case, ◌gives◌, geometry}
use Rattle.imgproc.specs.Grid.{thresholds, skips, open_tiles}
use Rattle.imgproc.specs.GridCalls.{grid_settings, pixel_conditions, row_conditions, tile_of, open_tiles_in}
use Rattle.imgproc.specs.Gathering.{Tiled, after_tiles}
use Rattle.imgproc.specs.Blanking.{SkipLent, tile_conditions, skips_with, open_tiles_with, all_skipped}
use Rattle.imgproc.specs.Fold.{bit}
use Rattle.imgproc.specs.Refusals.{Conditions, first, answer_by}
use Rattle.image.specs.Answers.{answer_number, bare}

-- a list of one number
abbrev pub one : ℕ → List ℕ
one n = n ∷ []

-- tiles of 16 by 16, radius 1
abbrev pub grid_of : TileThresholdMethod → ℤ → ℕ → TileThresholdConfig
grid_of method offset floor = record {
  tile_width = 16;
  tile_height = 16;
  neighborhood_radius = 1;
  method = method;
  threshold_offset = offset;
  contrast_floor = floor;
}

-- tiles of t by t with the neighbourhood radius r
abbrev pub tiles : ℕ → ℕ → TileThresholdConfig
tiles t r = record {
  tile_width = t;
  tile_height = t;
  neighborhood_radius = r;
  method = Midrange;
  threshold_offset = pos 0;
  contrast_floor = 12;
}

-- the Sauvola method, by the patterns of k and dynamic_range
abbrev pub floats : ℕ → ℕ → TileThresholdMethod
floats k range = Sauvola (record { k = of_bits binary64 k; dynamic_range = of_bits binary64 range })

-- the number of the first condition that fits, and 0 of none
unfoldable pub first_number : Conditions → ℕ
unfolding first
first_number cs = answer_number (answer_by (first cs) bare)

-- the number of settings with the given tile sides and method
unfoldable pub settings_number : ℕ → ℕ → TileThresholdMethod → ℕ
unfolding first_number grid_settings
settings_number width height method =
    first_number
    (grid_settings
    (record {
      tile_width = width;
      tile_height = height;
      neighborhood_radius = 1;
      method = method;
      threshold_offset = pos 0;
      contrast_floor = 12;
    }))

-- a grid of tiles of 16 by 8 over a picture of 40 by 20
abbrev pub asked : ℕ → ℕ → TileThresholdGrid
asked x y = record { width = 40; height = 20; tile_width = 16; tile_height = 8; tiles_x = x; tiles_y = y }

-- the skip bytes of its 3 by 3 tiles and one byte more, false numbers for its tile rows and one more, and tile (i, j)
abbrev pub lent_by : ℕ → ℕ → SkipLent
lent_by i j = record {
  grid = asked 3 3;
  skips = 0 ∷ 9 ∷ 0 ∷ 1 ∷ 1 ∷ 1 ∷ 0 ∷ 0 ∷ 255 ∷ 7 ∷ [];
  open_tiles = 8 ∷ 9 ∷ 7 ∷ 5 ∷ [];
  column = i;
  row = j;
}

-- 3 rows of 5 pixels, a byte between rows, and 3 by 2 tiles of 2 by 2, those at the right and below clipped
abbrev pub small_rows : Tiled
small_rows = record {
  src = 0 ∷ 2 ∷ 10 ∷ 3 ∷ 7 ∷ 255 ∷ 4 ∷ 6 ∷ 20 ∷ 7 ∷ 8 ∷ 255 ∷ 30 ∷ 40 ∷ 50 ∷ 1 ∷ 9 ∷ [];
  source = geometry 5 3 6;
  settings = tiles 2 0;
}

-- a workspace for the numbers of its tiles, with a number before and one after them
abbrev pub lent_workspace : List ℕ
lent_workspace =
    91 ∷ 92 ∷ 92 ∷ 92 ∷ 92 ∷ 92 ∷ 92 ∷ 92 ∷ 92 ∷ 92 ∷ 92 ∷ 92 ∷ 92 ∷ 92 ∷ 92 ∷ 92 ∷ 92 ∷ 92 ∷ 92 ∷ 92 ∷ 92 ∷
    92 ∷ 92 ∷ 92 ∷ 92 ∷ 92 ∷ 92 ∷ 92 ∷ 92 ∷ 92 ∷ 92 ∷ 93 ∷ []

-- the table
unfoldable pub grid_pictures : List Case
unfolding first_number settings_number
grid_pictures =
    -- ★ part 5
    (thresholds (grid_of Midrange (pos 0) 12) 2 1 (0 ∷ 255 ∷ []) gives one 127) ∷
    (thresholds (grid_of Midrange (negsuc 199) 12) 2 1 (0 ∷ 255 ∷ []) gives one 0) ∷
    (thresholds (grid_of Midrange (pos 200) 12) 2 1 (0 ∷ 255 ∷ []) gives one 255) ∷
    (skips (grid_of Midrange (pos 0) 12) 2 1 (0 ∷ 11 ∷ []) gives one 1) ∷
    (skips (grid_of Midrange (pos 0) 12) 2 1 (0 ∷ 12 ∷ []) gives one 0) ∷
    (skips (grid_of Midrange (pos 0) 0) 2 1 (7 ∷ 7 ∷ []) gives one 0) ∷
    -- the largest and the smallest offset: the true sum is clipped
    (thresholds (grid_of Midrange (pos 32767) 12) 2 1 (0 ∷ 255 ∷ []) gives one 255) ∷
    (thresholds (grid_of Midrange (negsuc 32767) 12) 2 1 (0 ∷ 255 ∷ []) gives one 0) ∷
    -- the grid's Sauvola with k 0, whose base is the mean rounded: 0.5 goes up, and 255 is reached
    (thresholds (grid_of (floats 0 0x4060_0000_0000_0000) (pos 0) 12) 2 1 (0 ∷ 1 ∷ []) gives one 1) ∷
    (thresholds (grid_of (floats 0 0x4060_0000_0000_0000) (pos 0) 12) 1 1 (one 255) gives one 255) ∷
    -- the grid's Sauvola: k 0.2 and range 128, then k 0 and range 2 ^ -1074
    (thresholds (grid_of (floats 0x3fc9_9999_9999_999a 0x4060_0000_0000_0000) (pos 0) 12) 2 1 (0 ∷ 200 ∷ []) gives
    one 96) ∷
    (thresholds (grid_of (floats 0 1) (pos 0) 12) 2 1 (0 ∷ 200 ∷ []) gives one 0) ∷
    -- k -4 and range 1: a value of 500 has the base 255, and only then the offset -255 is added
    (thresholds (grid_of (floats 0xc010_0000_0000_0000 0x3ff0_0000_0000_0000) (negsuc 254) 12) 2 1 (100 ∷ 100 ∷ []) gives
    one 0) ∷
    -- neighbours on every side decide a skip
    (skips (tiles 1 1) 3 3 (0 ∷ 0 ∷ 0 ∷ 0 ∷ 0 ∷ 0 ∷ 0 ∷ 0 ∷ 255 ∷ []) gives 1 ∷ 1 ∷ 1 ∷ 1 ∷ 0 ∷ 0 ∷ 1 ∷ 0 ∷ 0 ∷ []) ∷
    (skips (tiles 1 1) 3 3 (255 ∷ 0 ∷ 0 ∷ 0 ∷ 0 ∷ 0 ∷ 0 ∷ 0 ∷ 0 ∷ []) gives 0 ∷ 0 ∷ 1 ∷ 0 ∷ 0 ∷ 1 ∷ 1 ∷ 1 ∷ 1 ∷ []) ∷
    -- tiles of 2 by 2 over 3 by 3, each alone: the last row and column are clipped
    (thresholds (tiles 2 0) 3 3 (0 ∷ 2 ∷ 10 ∷ 4 ∷ 6 ∷ 20 ∷ 30 ∷ 40 ∷ 50 ∷ []) gives 3 ∷ 15 ∷ 35 ∷ 50 ∷ []) ∷
    -- settings: zero tile sides; k infinite or a NaN; a range of 0, -0, an infinity, a NaN or below 0; the smallest
    -- range and a k below 0
    (settings_number 0 16 Midrange ∷ settings_number 16 0 Midrange ∷ settings_number 1 1 Midrange ∷ [] gives
    7 ∷ 7 ∷ 0 ∷ []) ∷
    (settings_number 1 1 (floats 0x7ff0_0000_0000_0000 1) ∷
    settings_number 1 1 (floats 0xfff0_0000_0000_0000 1) ∷
    settings_number 1 1 (floats 0x7ff8_0000_0000_0000 1) ∷
    [] gives
    7 ∷ 7 ∷ 7 ∷ []) ∷
    (settings_number 1 1 (floats 0 0) ∷
    settings_number 1 1 (floats 0 0x8000_0000_0000_0000) ∷
    settings_number 1 1 (floats 0 0x7ff0_0000_0000_0000) ∷
    settings_number 1 1 (floats 0 0x7ff8_0000_0000_0000) ∷
    settings_number 1 1 (floats 0 0xbff0_0000_0000_0000) ∷
    [] gives
    7 ∷ 7 ∷ 7 ∷ 7 ∷ 7 ∷ []) ∷
    (settings_number 1 1 (floats 0xbff0_0000_0000_0000 1) ∷ [] gives one 0) ∷
    -- queries: counts that are not the ceilings before a short buffer before a place outside; 3 by 3 tiles
    (first_number (pixel_conditions (asked 3 2) 0 40 0) ∷
    first_number (pixel_conditions (asked 3 3) 8 40 0) ∷
    first_number (pixel_conditions (asked 3 3) 9 0 20) ∷
    first_number (pixel_conditions (asked 3 3) 9 39 19) ∷
    [] gives
    7 ∷ 10 ∷ 9 ∷ 0 ∷ []) ∷
    -- of a pixel row: a number for each of the 3 tile rows is enough
    (first_number (row_conditions (asked 2 3) 0 20) ∷
    first_number (row_conditions (asked 3 3) 2 20) ∷
    first_number (row_conditions (asked 3 3) 3 20) ∷
    first_number (row_conditions (asked 3 3) 3 19) ∷
    [] gives
    7 ∷ 10 ∷ 9 ∷ 0 ∷ []) ∷
    -- of a tile: either buffer short, and a tile column or a tile row that the grid has not
    (first_number (tile_conditions (asked 3 4) 0 0 3 3) ∷
    first_number (tile_conditions (asked 3 3) 8 3 3 3) ∷
    first_number (tile_conditions (asked 3 3) 9 2 3 3) ∷
    first_number (tile_conditions (asked 3 3) 9 3 3 2) ∷
    first_number (tile_conditions (asked 3 3) 9 3 2 3) ∷
    first_number (tile_conditions (asked 3 3) 9 3 2 2) ∷
    [] gives
    7 ∷ 10 ∷ 10 ∷ 9 ∷ 9 ∷ 0 ∷ []) ∷
    -- the tile of the last pixel, and of the pixel before a tile's start
    (tile_of (asked 3 3) 39 19 ∷ tile_of (asked 3 3) 31 8 ∷ [] gives 8 ∷ 4 ∷ []) ∷
    -- each byte but 0 is skipped
    (bit (all_skipped (0 ∷ 1 ∷ 255 ∷ 7 ∷ []) 1 3) ∷ bit (all_skipped (0 ∷ 1 ∷ 255 ∷ 7 ∷ []) 0 3) ∷ [] gives 1 ∷ 0 ∷ []) ∷
    -- the open tiles of the tile rows that are skipped as above, and of bytes
    (open_tiles (tiles 1 1) 3 3 (0 ∷ 0 ∷ 0 ∷ 0 ∷ 0 ∷ 0 ∷ 0 ∷ 0 ∷ 255 ∷ []) gives 0 ∷ 2 ∷ 2 ∷ []) ∷
    (open_tiles_in (0 ∷ 1 ∷ 255 ∷ 7 ∷ 2 ∷ 0 ∷ 0 ∷ 0 ∷ 9 ∷ 9 ∷ 9 ∷ 9 ∷ []) 4 3 gives 1 ∷ 3 ∷ 0 ∷ []) ∷
    -- tile (1, 2) of 3 by 3 is set to 1 and to 0: its row is counted afresh, and a false number of another row stays
    (skips_with (lent_by 1 2) 1 gives 0 ∷ 9 ∷ 0 ∷ 1 ∷ 1 ∷ 1 ∷ 0 ∷ 1 ∷ 255 ∷ 7 ∷ []) ∷
    (open_tiles_with (lent_by 1 2) 1 gives 8 ∷ 9 ∷ 1 ∷ 5 ∷ []) ∷
    (skips_with (lent_by 2 2) 0 gives 0 ∷ 9 ∷ 0 ∷ 1 ∷ 1 ∷ 1 ∷ 0 ∷ 0 ∷ 0 ∷ 7 ∷ []) ∷
    (open_tiles_with (lent_by 2 2) 0 gives 8 ∷ 9 ∷ 3 ∷ 5 ∷ []) ∷
    -- the workspace after none, 4 and all 6 tiles: the tile row above first
    (after_tiles small_rows 1 0 lent_workspace gives lent_workspace) ∷
    (after_tiles small_rows 1 4 lent_workspace gives
    91 ∷ 0 ∷ 6 ∷ 12 ∷ 56 ∷ 4 ∷ 3 ∷ 20 ∷ 40 ∷ 558 ∷ 4 ∷ 7 ∷ 8 ∷ 15 ∷ 113 ∷ 2 ∷ 30 ∷ 40 ∷ 70 ∷ 2500 ∷ 2 ∷
    92 ∷ 92 ∷ 92 ∷ 92 ∷ 92 ∷ 92 ∷ 92 ∷ 92 ∷ 92 ∷ 92 ∷ 93 ∷ []) ∷
    (after_tiles small_rows 1 6 lent_workspace gives
    91 ∷ 0 ∷ 6 ∷ 12 ∷ 56 ∷ 4 ∷ 3 ∷ 20 ∷ 40 ∷ 558 ∷ 4 ∷ 7 ∷ 8 ∷ 15 ∷ 113 ∷ 2 ∷ 30 ∷ 40 ∷ 70 ∷ 2500 ∷ 2 ∷
    1 ∷ 50 ∷ 51 ∷ 2501 ∷ 2 ∷ 9 ∷ 9 ∷ 9 ∷ 81 ∷ 1 ∷ 93 ∷ []) ∷
    []
