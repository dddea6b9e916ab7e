-- The starred pictures of document 01, and a few of our own for columns, both axes and borders, as one table that antt
-- evaluates. Assumes nothing.
use Rattle.std.specs.Prelude.{◌≡◌, refl, List, [], ◌∷◌, ◌++◌, ℕ, min, ◌*◌}
use Rattle.std.specs.Float.Ieee.{of_bits, lt}
use Rattle.imgproc.specs.Reach.{walk, sweep_walks, R}
use Rattle.image.specs.Plane.{packed, painted}
use Rattle.imgproc.specs.declared.illumination.BackgroundDivideConfig.{BackgroundDivideConfig}
use Rattle.imgproc.specs.Cases.{Case, ◌gives◌, wrong}
use Rattle.imgproc.specs.Division.{divided}
use Rattle.imgproc.specs.Sauvola.{threshold_at_pixel, binarized}
use Rattle.imgproc.specs.Grid.{thresholds, skips, open_tiles}
use Rattle.imgproc.specs.GridCalls.{bad_grid, open_tiles_in}
use Rattle.imgproc.specs.Gathering.{first_tiles}
use Rattle.imgproc.specs.Blanking.{all_skipped}
use Rattle.imgproc.specs.PicturesSauvola.{sauvola_pictures}
use Rattle.imgproc.specs.PicturesGrid.{grid_pictures}
use Rattle.imgproc.specs.PicturesReading.{reading_pictures}
use Rattle.imgproc.specs.Reading.{reading_of, marked}
use Rattle.imgproc.specs.Morphology.{swept_rect, eroded, dilated, opened, closed}

-- ★ part 2, with pictures of our own for columns, both axes and borders
unfoldable pub morphology_pictures : List Case
morphology_pictures =
    -- ★ part 2: a plain clipped window starts with 5; the comparisons by walks and by R
    (eroded 3 4 1 (5 ∷ 6 ∷ 1 ∷ 9 ∷ []) gives 1 ∷ 1 ∷ 1 ∷ 1 ∷ []) ∷
    (sweep_walks 3 4 1 ∷ R 3 4 1 ∷ [] gives 12 ∷ 12 ∷ []) ∷
    -- ★ opening, above the source at the border
    (opened 3 4 1 (0 ∷ 7 ∷ 7 ∷ 7 ∷ []) gives 7 ∷ 7 ∷ 7 ∷ 7 ∷ []) ∷
    (2 * sweep_walks 3 4 1 ∷ 2 * R 3 4 1 ∷ [] gives 24 ∷ 24 ∷ []) ∷
    -- the whole block counts at the right border too
    (eroded 5 5 1 (1 ∷ 9 ∷ 9 ∷ 9 ∷ 9 ∷ []) gives 1 ∷ 1 ∷ 1 ∷ 1 ∷ 1 ∷ []) ∷
    -- between blocks the reach is low..high
    (dilated 3 6 1 (0 ∷ 0 ∷ 0 ∷ 4 ∷ 0 ∷ 0 ∷ []) gives 0 ∷ 0 ∷ 4 ∷ 4 ∷ 4 ∷ 4 ∷ []) ∷
    (closed 3 6 1 (0 ∷ 0 ∷ 0 ∷ 4 ∷ 0 ∷ 0 ∷ []) gives 0 ∷ 0 ∷ 0 ∷ 4 ∷ 4 ∷ 4 ∷ []) ∷
    -- a column; both axes at once; a kernel for each axis
    (dilated 3 1 3 (1 ∷ 0 ∷ 0 ∷ []) gives 1 ∷ 1 ∷ 1 ∷ []) ∷
    (eroded 3 4 3 (9 ∷ 9 ∷ 9 ∷ 9 ∷ 9 ∷ 9 ∷ 9 ∷ 9 ∷ 9 ∷ 9 ∷ 9 ∷ 2 ∷ []) gives
    9 ∷ 9 ∷ 2 ∷ 2 ∷ 9 ∷ 9 ∷ 2 ∷ 2 ∷ 9 ∷ 9 ∷ 2 ∷ 2 ∷ []) ∷
    (swept_rect min 3 5 4 2 (9 ∷ 9 ∷ 9 ∷ 2 ∷ 9 ∷ 9 ∷ 9 ∷ 9 ∷ []) gives 9 ∷ 9 ∷ 2 ∷ 2 ∷ 9 ∷ 9 ∷ 2 ∷ 2 ∷ []) ∷
    []

-- the Rust's settings with another element
abbrev pub division : ℕ → BackgroundDivideConfig
division element = record { structuring_element = element; target_luma = 200; denominator_floor = 8 }

-- ★ part 3, with one of our own in two dimensions
unfoldable pub division_pictures : List Case
division_pictures =
    (divided (division 3) 4 1 (255 ∷ 0 ∷ 0 ∷ 0 ∷ []) gives 255 ∷ 0 ∷ 0 ∷ 0 ∷ []) ∷
    (divided (division 3) 1 1 (3 ∷ []) gives 75 ∷ []) ∷
    (divided (division 3) 1 1 (8 ∷ []) gives 200 ∷ []) ∷
    (divided (division 3) 4 4 (10 ∷ 200 ∷ 30 ∷ 60 ∷ 90 ∷ 5 ∷ 120 ∷ 8 ∷ 250 ∷ 40 ∷ 0 ∷ 77 ∷ 3 ∷ 180 ∷ 66 ∷ 20 ∷ []) gives
    11 ∷ 222 ∷ 50 ∷ 100 ∷ 100 ∷ 5 ∷ 200 ∷ 13 ∷ 255 ∷ 44 ∷ 0 ∷ 200 ∷ 3 ∷ 200 ∷ 171 ∷ 51 ∷ []) ∷
    []

pub pictures_hold :
    wrong 1 (morphology_pictures ++ (division_pictures ++ (sauvola_pictures ++ (grid_pictures ++ reading_pictures)))) ≡ []
unfolding reading_pictures reading_of marked morphology_pictures division_pictures sauvola_pictures grid_pictures
    thresholds skips open_tiles open_tiles_in all_skipped of_bits lt bad_grid swept_rect walk R divided
    threshold_at_pixel binarized packed painted first_tiles
pictures_hold = refl
