-- Document 01, part 6: the whole-number threshold of a pixel, by direct summation over its window, and the contract of
-- `sauvola_into`. Definitions only.
use Rattle.std.specs.Prelude.{ℕ, ◌+◌, ◌-◌, ◌*◌, ◌/◌, Bool, cond, List, leb}
use Rattle.image.specs.Answers.{Bare, bare}
use Rattle.image.specs.Plane.{pixel, plane}
use Rattle.imgproc.specs.declared.threshold.config.SauvolaConfig.{SauvolaConfig}
use Rattle.imgproc.specs.Fold.{Box, fold_box}
use Rattle.imgproc.specs.Reach.{low, high}
use Rattle.imgproc.specs.Sums.{sum, sum_squares, count}
use Rattle.imgproc.specs.WholeRoot.{whole_root}
use Rattle.imgproc.specs.Refusals.{settings_and_room}
use Rattle.imgproc.specs.Calls.{Operator}

-- the Rust's defaults
abbrev pub sauvola_defaults : SauvolaConfig
sauvola_defaults = record { radius = 8; k_milli = 200; dynamic_range = 128; dark_value = 0; light_value = 255 }

-- the window of pixel (x, y): all pixels within the radius on both axes, clipped
abbrev pub window : ℕ → ℕ → ℕ → ℕ → ℕ → Box
window r w h x y = record { left = low r x; right = high r w x; top = low r y; bottom = high r h y }

-- mean = ⌊S/c⌋
abbrev pub mean : ℕ → ℕ → ℕ
mean S c = S / c

-- variance = ⌊Q/c⌋ - mean²
abbrev pub variance : ℕ → ℕ → ℕ → ℕ
variance S Q c = Q / c - mean S c * mean S c

-- s, the largest whole number whose square is at most the variance
unfoldable pub spread : ℕ → ℕ → ℕ → ℕ
unfolding whole_root
spread S Q c = whole_root (variance S Q c)

-- scale = 1000 - k_milli + ⌊k_milli × s / dynamic_range⌋
abbrev pub scale : SauvolaConfig → ℕ → ℕ
scale config s = 1000 - config.k_milli + config.k_milli * s / config.dynamic_range

-- threshold = ⌊mean × scale / 1000⌋
unfoldable pub threshold : SauvolaConfig → ℕ → ℕ → ℕ → ℕ
unfolding spread
threshold config S Q c = mean S c * scale config (spread S Q c) / 1000

-- the threshold of pixel (x, y) of the packed picture p
unfoldable pub threshold_at_pixel : SauvolaConfig → ℕ → ℕ → List ℕ → ℕ → ℕ → ℕ
unfolding threshold fold_box
threshold_at_pixel config w h p x y =
    let b = window config.radius w h x y in threshold config (sum (pixel p w) b) (sum_squares (pixel p w) b) (count b)

-- a pixel at or below its threshold is dark
unfoldable pub at_or_below : SauvolaConfig → ℕ → ℕ → List ℕ → ℕ → ℕ → Bool
unfolding threshold_at_pixel
at_or_below config w h p x y = leb (pixel p w x y) (threshold_at_pixel config w h p x y)

-- the value that pixel (x, y) gets
unfoldable pub verdict : SauvolaConfig → ℕ → ℕ → List ℕ → ℕ → ℕ → ℕ
unfolding at_or_below
verdict config w h p x y = cond (at_or_below config w h p x y) config.dark_value config.light_value

-- the packed picture of the verdicts on the packed picture p
unfoldable pub binarized : SauvolaConfig → ℕ → ℕ → List ℕ → List ℕ
unfolding verdict
binarized config w h p = plane w h (verdict config w h p)

-- `sauvola_into`: its conditions, a bare success, and the verdicts
abbrev pub sauvola : Operator SauvolaConfig Bare
sauvola = record { own = settings_and_room; values = λ config w h. bare; make = binarized }
