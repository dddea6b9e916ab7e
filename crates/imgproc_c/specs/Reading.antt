-- Says what the export of the reading promises: it takes settings as flat numbers, the grid's method as one.
-- Definitions only.
use Rattle.std.specs.Prelude.{ℕ}
use Rattle.image.specs.Answers.{Answer}
use Rattle.imgproc.specs.declared.ImgProcError.TheVariants.{InvalidKernel}
use Rattle.imgproc.specs.declared.illumination.BackgroundDivideConfig.{BackgroundDivideConfig}
use Rattle.imgproc.specs.declared.grid.config.TileThresholdConfig.{TileThresholdConfig}
use Rattle.imgproc.specs.declared.threshold.config.SauvolaConfig.{SauvolaConfig}
use Rattle.imgproc.specs.declared.reading.config.ReadingConfig.{ReadingConfig}
use Rattle.imgproc.specs.GridCalls.{grid_settings}
use Rattle.imgproc.specs.Reading.{
  ReadingLent,
  ReadingLeft,
  ReadingNumbers,
  numbers_from,
  reading_conditions_by,
  ReadsBy,
}
use Rattle.imgproc.specs.Refusals.{
  Conditions,
  first,
  ◌then◌,
  refused_if,
  answer_by,
  bad_kernel,
  division_settings,
  sauvola_settings,
}
use Rattle.imgproc_c.specs.Exports.{Tells}
use Rattle.imgproc_c.specs.Grid.{method_conditions}

-- the settings of the parts
abbrev pub reading_from : BackgroundDivideConfig → ℕ → TileThresholdConfig → SauvolaConfig → ReadingConfig
reading_from division kernel grid sauvola =
    record { division = division; opening_kernel = kernel; grid = grid; sauvola = sauvola }

-- a reading checks the division's settings; m; the method, before the grid's settings; the threshold's
unfoldable pub number_settings : ℕ → ReadingConfig → Conditions
number_settings method s =
    division_settings s.division then
    refused_if (bad_kernel s.opening_kernel) InvalidKernel then
    (method_conditions method then grid_settings s.grid) then
    sauvola_settings s.sauvola

-- it checks the layouts; 5; those settings; the workspaces; the count buffer
abbrev pub number_conditions : ℕ → ReadingLent → Conditions
number_conditions method lent = reading_conditions_by (number_settings method lent.settings) lent

-- the answer of a reading by the method of a number
abbrev pub read_from : ℕ → ReadingLent → Answer ReadingNumbers
read_from method lent = answer_by (first (number_conditions method lent)) (numbers_from lent)

-- the export leaves what a reading by those conditions leaves, and tells its answer
pub record ReadsNumber
    (method : ℕ) (lent : ReadingLent) (held : ReadingNumbers) (number : ℕ) (left : ReadingLeft) (held' : ReadingNumbers)
    : Type 0 where
  pub reads : ReadsBy (number_conditions method lent) lent (read_from method lent) left
  pub tells : Tells (read_from method lent) held number held'
