-- The narrow Sauvola call, of document 02, whose tables have entries of 32 bits: the windows that it takes, what it is
-- refused for, and its contract, by the definition that `sauvola_into` has. Assumes nothing.
use Rattle.std.specs.Prelude.{ℕ, ◌+◌, ◌*◌, ◌^◌, ◌≤◌, ◌<◌, ltb, min}
use Rattle.std.proofs.Common.{arith}
use Rattle.image.specs.Answers.{Bare, bare}
use Rattle.image.specs.declared.Geometry.{Geometry}
use Rattle.imgproc.specs.declared.threshold.config.SauvolaConfig.{SauvolaConfig}
use Rattle.imgproc.specs.declared.ImgProcError.TheVariants.{WindowTooLarge}
use Rattle.imgproc.specs.Refusals.{Conditions, refused_if, ◌then◌, sauvola_settings, tables_room}
use Rattle.imgproc.specs.Sauvola.{binarized}
use Rattle.imgproc.specs.Calls.{Operator}

-- the most pixels of a window that the call takes
abbrev pub window_limit : ℕ
window_limit = 66051

-- 32 bits hold the sum of the squares of so many pixels of 255, and not of one more
pub limit_fits : window_limit * (255 * 255) < 2 ^ 32
limit_fits = omega arith

pub limit_tight : 2 ^ 32 ≤ (window_limit + 1) * (255 * 255)
limit_tight = omega arith

-- the pixels of the largest window: 2r + 1 along each axis, and no more than the picture has
abbrev pub largest_window : ℕ → ℕ → ℕ → ℕ
largest_window r w h = min (2 * r + 1) w * min (2 * r + 1) h

-- a largest window above the limit is 12
abbrev pub window_condition : ℕ → ℕ → ℕ → Conditions
window_condition r w h = refused_if (ltb window_limit (largest_window r w h)) WindowTooLarge

-- Narrow Sauvola: the settings; the window; the u32 workspace
abbrev pub narrow_settings_and_room : SauvolaConfig → Geometry → ℕ → Conditions
narrow_settings_and_room config g room =
    sauvola_settings config then window_condition config.radius g.width g.height then tables_room g room

-- `sauvola_narrow_into`: its conditions, a bare success, and the verdicts of `sauvola_into`
abbrev pub sauvola_narrow : Operator SauvolaConfig Bare
sauvola_narrow = record { own = narrow_settings_and_room; values = λ config w h. bare; make = binarized }
