-- The pictures of document 01's part 6, and one of our own with rows, columns and clipped corners: a part of the table
-- in Pictures. Definitions only.
use Rattle.std.specs.Prelude.{List, [], ◌∷◌, ℕ, replicate}
use Rattle.image.specs.Plane.{plane, picture, painted_on}
use Rattle.imgproc.specs.declared.threshold.config.SauvolaConfig.{SauvolaConfig}
use Rattle.imgproc.specs.Sauvola.{sauvola_defaults, threshold_at_pixel, binarized}
use Rattle.imgproc.specs.SauvolaNarrow.{largest_window}
use Rattle.imgproc.specs.Cases.{Case, ◌gives◌, geometry}

-- the thresholds of the pixels of a packed picture
abbrev pub pixel_thresholds : SauvolaConfig → ℕ → ℕ → List ℕ → List ℕ
unfolding threshold_at_pixel plane
pixel_thresholds config w h p = plane w h (threshold_at_pixel config w h p)

-- the defaults with the radius r, and the values 7 and 9
abbrev pub radius_of : ℕ → SauvolaConfig
radius_of r = record { radius = r; k_milli = 200; dynamic_range = 128; dark_value = 7; light_value = 9 }

-- 3 by 4 at a stride of 5
abbrev pub mixed : List ℕ
mixed =
    10 ∷ 200 ∷ 30 ∷ 77 ∷ 78 ∷
    250 ∷ 60 ∷ 70 ∷ 77 ∷ 78 ∷
    90 ∷ 5 ∷ 255 ∷ 77 ∷ 78 ∷
    0 ∷ 33 ∷ 120 ∷
    []

unfoldable pub sauvola_pictures : List Case
sauvola_pictures =
    -- ★ one pixel 0 is dark, one pixel 1 light
    (binarized sauvola_defaults 1 1 (0 ∷ []) gives 0 ∷ []) ∷
    (binarized sauvola_defaults 1 1 (1 ∷ []) gives 255 ∷ []) ∷
    -- ★ row 0 200
    (pixel_thresholds sauvola_defaults 2 1 (0 ∷ 200 ∷ []) gives 95 ∷ 95 ∷ []) ∷
    -- ★ nine 255 and one 254, radius 9
    (pixel_thresholds (radius_of 9) 10 1 (255 ∷ 255 ∷ 255 ∷ 255 ∷ 255 ∷ 255 ∷ 255 ∷ 255 ∷ 255 ∷ 254 ∷ []) gives
    211 ∷ 211 ∷ 211 ∷ 211 ∷ 211 ∷ 211 ∷ 211 ∷ 211 ∷ 211 ∷ 211 ∷ []) ∷
    -- the root of the variance 10200 is cut to 100; a threshold is no byte
    (pixel_thresholds
    (record { radius = 8; k_milli = 1000; dynamic_range = 1; dark_value = 0; light_value = 255 })
    2 1 (0 ∷ 201 ∷ []) gives
    10000 ∷ 10000 ∷ []) ∷
    -- windows of nine, six and four pixels
    (pixel_thresholds (radius_of 1) 3 4 (picture mixed (geometry 3 4 5)) gives
    123 ∷ 96 ∷ 81 ∷
    96 ∷ 101 ∷ 97 ∷
    67 ∷ 92 ∷ 83 ∷
    27 ∷ 77 ∷ 97 ∷
    []) ∷
    -- the bytes, in a destination of stride 4 with a row and a byte after the last
    (painted_on (replicate 21 1) (geometry 3 4 4) (binarized (radius_of 1) 3 4 (picture mixed (geometry 3 4 5))) gives
    7 ∷ 9 ∷ 7 ∷ 1 ∷
    9 ∷ 7 ∷ 7 ∷ 1 ∷
    9 ∷ 7 ∷ 9 ∷ 1 ∷
    7 ∷ 7 ∷ 9 ∷ 1 ∷
    1 ∷ 1 ∷ 1 ∷ 1 ∷
    1 ∷
    []) ∷
    -- the largest windows of the narrow call: exactly its limit, one pixel more, and both axes clipped; neither axis and
    -- one axis clipped, on both sides of the limit; a radius of 2^64 - 1
    (largest_window 184 369 179 ∷ largest_window 168 196 337 ∷ largest_window 200 257 257 ∷ [] gives
    66051 ∷ 66052 ∷ 66049 ∷ []) ∷
    (largest_window 16 4096 2001 ∷ largest_window 1000 4096 33 ∷ largest_window 1000 34 4096 ∷ [] gives
    1089 ∷ 66033 ∷ 68034 ∷ []) ∷
    (largest_window 18446744073709551615 1 1 ∷ largest_window 18446744073709551615 4096 4096 ∷ [] gives
    1 ∷ 16777216 ∷ []) ∷
    []
