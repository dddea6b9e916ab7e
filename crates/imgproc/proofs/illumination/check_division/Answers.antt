-- `check_division` refuses by the settings, and then by the room. Assumes nothing.
use Rattle.std.proofs.Common.{sym, ◌∙◌}
use Rattle.imgproc.specs.Refusals.{division_settings}
use Rattle.imgproc.specs.RefusalLaws.{then_refused}
use Rattle.imgproc.proofs.WaysOut.{passed}
use Rattle.imgproc.proofs.illumination.check_division.Goals as goal

pub returns-in_err-check_settings : goal.returns-in_err-check_settings
returns-in_err-check_settings c =
    passed _ c.from_residual.ensures.1
    ∙ sym (then_refused (division_settings c.args.config) _ (sym c.in_err-check_settings.ensures))
