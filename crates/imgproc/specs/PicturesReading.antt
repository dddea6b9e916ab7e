-- The pictures of document 01's part 7, and two of our own with several rows and all three judgements: a part of the
-- table in Pictures. Definitions only.
use Rattle.std.specs.Prelude.{List, [], ◌∷◌, ℕ, pos, replicate}
use Rattle.image.specs.Plane.{picture, painted_on}
use Rattle.imgproc.specs.declared.grid.config.TileThresholdConfig.{TileThresholdConfig}
use Rattle.imgproc.specs.declared.grid.config.TileThresholdMethod.TheVariants.{Midrange}
use Rattle.imgproc.specs.declared.threshold.config.SauvolaConfig.{SauvolaConfig}
use Rattle.imgproc.specs.declared.reading.config.ReadingConfig.{ReadingConfig}
use Rattle.imgproc.specs.Sauvola.{sauvola_defaults}
use Rattle.imgproc.specs.Grid.{open_tiles}
use Rattle.imgproc.specs.Reading.{ReadingNumbers, opened_of, reading_of, marked}
use Rattle.imgproc.specs.Cases.{Case, ◌gives◌, geometry}

-- tiles of t by t with a neighbourhood radius of 1 and a contrast floor
abbrev pub tiles_of : ℕ → ℕ → TileThresholdConfig
tiles_of t floor = record {
  tile_width = t;
  tile_height = t;
  neighborhood_radius = 1;
  threshold_offset = pos 0;
  contrast_floor = floor;
  method = Midrange;
}

-- the element, m, the grid and the threshold's settings, with the Rust's target and floor
abbrev pub settings : ℕ → ℕ → TileThresholdConfig → SauvolaConfig → ReadingConfig
settings element m grid sauvola = record {
  division = record { structuring_element = element; target_luma = 200; denominator_floor = 8 };
  opening_kernel = m;
  grid = grid;
  sauvola = sauvola;
}

abbrev pub counts : ReadingNumbers → List ℕ
counts r = r.dark ∷ r.light ∷ r.skipped ∷ r.comparisons ∷ []

-- 6 by 4 at a stride of 8
abbrev pub shaded : List ℕ
shaded =
    180 ∷ 250 ∷ 20 ∷ 20 ∷ 120 ∷ 3 ∷ 77 ∷ 78 ∷
    180 ∷ 3 ∷ 20 ∷ 120 ∷ 3 ∷ 20 ∷ 77 ∷ 78 ∷
    90 ∷ 240 ∷ 20 ∷ 120 ∷ 60 ∷ 0 ∷ 77 ∷ 78 ∷
    240 ∷ 0 ∷ 250 ∷ 20 ∷ 120 ∷ 60 ∷
    []

abbrev pub shaded_settings : ReadingConfig
shaded_settings =
    settings 5 3 (tiles_of 2 12)
    (record { radius = 1; k_milli = 200; dynamic_range = 128; dark_value = 7; light_value = 9 })

unfoldable pub reading_pictures : List Case
reading_pictures =
    -- ★ row 0 200, element and m 3; and with the contrast floor 0
    (counts (reading_of (settings 3 3 (tiles_of 16 12) sauvola_defaults) 2 1 (0 ∷ 200 ∷ [])) gives 0 ∷ 0 ∷ 2 ∷ 24 ∷ []) ∷
    (counts (reading_of (settings 3 3 (tiles_of 16 0) sauvola_defaults) 2 1 (0 ∷ 200 ∷ [])) gives 2 ∷ 0 ∷ 0 ∷ 24 ∷ []) ∷
    -- the element is not m
    (counts (reading_of (settings 5 3 (tiles_of 16 0) sauvola_defaults) 4 1 (9 ∷ 9 ∷ 9 ∷ 0 ∷ [])) gives
    1 ∷ 3 ∷ 0 ∷ 52 ∷ []) ∷
    -- all three judgements
    (counts (reading_of shaded_settings 6 4 (picture shaded (geometry 6 4 8))) gives 6 ∷ 10 ∷ 8 ∷ 440 ∷ []) ∷
    -- the open tiles of its two tile rows: of 3 by 2 tiles, the last of each row is skipped
    (open_tiles shaded_settings.grid 6 4 (opened_of shaded_settings 6 4 (picture shaded (geometry 6 4 8))) gives
    2 ∷ 2 ∷ []) ∷
    -- and their bytes, in a destination of stride 7 with a row and a byte after the last
    (painted_on (replicate 36 1) (geometry 6 4 7) (marked shaded_settings 6 4 (picture shaded (geometry 6 4 8))) gives
    9 ∷ 7 ∷ 9 ∷ 9 ∷ 9 ∷ 9 ∷ 1 ∷
    9 ∷ 7 ∷ 9 ∷ 7 ∷ 9 ∷ 9 ∷ 1 ∷
    9 ∷ 7 ∷ 9 ∷ 9 ∷ 9 ∷ 9 ∷ 1 ∷
    7 ∷ 7 ∷ 9 ∷ 9 ∷ 9 ∷ 9 ∷ 1 ∷
    1 ∷ 1 ∷ 1 ∷ 1 ∷ 1 ∷ 1 ∷ 1 ∷
    1 ∷
    []) ∷
    []
