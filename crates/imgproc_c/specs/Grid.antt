-- Says what the exports of the grid's build, of `blank` and of `clear` promise: the build's takes settings as flat
-- numbers, the method as one. Definitions only.
use Rattle.std.specs.Prelude.{ℕ, zero, suc, ◌≡◌, ltb, ℤ, Float}
use Rattle.image.specs.Answers.{Answer, answer_number, Bare, bare}
use Rattle.imgproc.specs.declared.ImgProcError.TheVariants.{InvalidConfiguration}
use Rattle.imgproc.specs.declared.grid.config.TileThresholdMethod.{TileThresholdMethod}
use Rattle.imgproc.specs.declared.grid.config.TileThresholdMethod.TheVariants.{Midrange, Sauvola}
use Rattle.imgproc.specs.declared.grid.config.TileThresholdConfig.{TileThresholdConfig}
use Rattle.imgproc.specs.declared.grid.queries.TileThresholdGrid.{TileThresholdGrid}
use Rattle.imgproc.specs.Grid.{nought}
use Rattle.imgproc.specs.declared.grid.TileCounts.{TileCounts}
use Rattle.imgproc.specs.GridCalls.{
  grid_settings,
  BuildLent,
  BuildLeft,
  tiles_from,
  build_conditions_by,
  BuildsBy,
}
use Rattle.imgproc.specs.Blanking.{SkipLent, SkipLeft, skip_conditions, SetsSkip}
use Rattle.imgproc.specs.Refusals.{Conditions, first, ◌then◌, refused_if, answer_by}
use Rattle.imgproc_c.specs.Exports.{Tells}

-- the method of a number: 0 is Midrange, 1 is Sauvola; every other number is refused, so nothing uses the method that
-- stands for it here
abbrev pub method_of : ℕ → Float → Float → TileThresholdMethod
method_of zero k range = Midrange
method_of (suc zero) k range = Sauvola (record { k = k; dynamic_range = range })
method_of (suc (suc n)) k range = Sauvola (record { k = nought; dynamic_range = nought })

-- any method but 0 and 1 is a setting out of range
unfoldable pub method_conditions : ℕ → Conditions
method_conditions method = refused_if (ltb 1 method) InvalidConfiguration

-- the settings of flat numbers
abbrev pub settings : ℕ → ℕ → ℕ → ℤ → ℕ → TileThresholdMethod → TileThresholdConfig
settings width height radius offset floor method = record {
  tile_width = width;
  tile_height = height;
  neighborhood_radius = radius;
  threshold_offset = offset;
  contrast_floor = floor;
  method = method;
}

-- the grid of flat numbers
abbrev pub grid : ℕ → ℕ → ℕ → ℕ → ℕ → ℕ → TileThresholdGrid
grid w h tw th x y =
    record { width = w; height = h; tile_width = tw; tile_height = th; tiles_x = x; tiles_y = y }

-- a build checks the layout; the method, before the settings; the settings; the room
abbrev pub number_conditions : ℕ → BuildLent → Conditions
number_conditions method lent = build_conditions_by (method_conditions method then grid_settings lent.settings) lent

-- the answer of a build by the method of a number
abbrev pub built_from : ℕ → BuildLent → Answer TileCounts
built_from method lent = answer_by (first (number_conditions method lent)) (tiles_from lent)

-- the export leaves what a build by those conditions leaves, and tells its answer
pub record BuildsNumber
    (method : ℕ) (lent : BuildLent) (held : TileCounts) (number : ℕ) (left : BuildLeft) (held' : TileCounts)
    : Type 0 where
  pub builds : BuildsBy (number_conditions method lent) lent (built_from method lent) left
  pub tells : Tells (built_from method lent) held number held'

-- the answer of a call that sets the skip byte of a tile
abbrev pub skip_answer : SkipLent → Answer Bare
skip_answer lent = answer_by (first (skip_conditions lent)) bare

-- an export that sets it to v returns the number of that answer, and leaves both buffers as such a call leaves them
pub record SetsSkipNumber (v : ℕ) (lent : SkipLent) (number : ℕ) (left : SkipLeft) : Type 0 where
  pub answers : number ≡ answer_number (skip_answer lent)
  pub sets : SetsSkip v lent (skip_answer lent) left

-- the contract of the export of `blank`
abbrev pub BlanksNumber : SkipLent → ℕ → SkipLeft → Type 0
BlanksNumber = SetsSkipNumber 1

-- the contract of the export of `clear`
abbrev pub ClearsNumber : SkipLent → ℕ → SkipLeft → Type 0
ClearsNumber = SetsSkipNumber 0
