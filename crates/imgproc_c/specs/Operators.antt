-- Makes the settings of the operators' exports from flat numbers. Definitions only.
use Rattle.std.specs.Prelude.{ℕ}
use Rattle.imgproc.specs.declared.illumination.BackgroundDivideConfig.{BackgroundDivideConfig}
use Rattle.imgproc.specs.declared.threshold.config.SauvolaConfig.{SauvolaConfig}

-- the settings of a division: the element, the target and the floor
abbrev pub division_from : ℕ → ℕ → ℕ → BackgroundDivideConfig
division_from element target floor =
    record { structuring_element = element; target_luma = target; denominator_floor = floor }

-- the settings of a threshold: the radius, k_milli, the range, the dark value and the light one
abbrev pub sauvola_from : ℕ → ℕ → ℕ → ℕ → ℕ → SauvolaConfig
sauvola_from radius k range dark light = record {
  radius = radius;
  k_milli = k;
  dynamic_range = range;
  dark_value = dark;
  light_value = light;
}
