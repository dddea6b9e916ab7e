-- `check_room` passes the settings' refusal on, and else says whether both tables fit. Assumes nothing.
use Rattle.std.proofs.Common.{sym, ◌∙◌}
use Rattle.imgproc.specs.Refusals.{sauvola_settings}
use Rattle.imgproc.specs.RefusalLaws.{then_refused}
use Rattle.imgproc.proofs.WaysOut.{passed}
use Rattle.imgproc.proofs.threshold.checks.check_room.Goals as goal

pub returns-in_err-check_settings : goal.returns-in_err-check_settings
returns-in_err-check_settings c =
    passed _ c.from_residual.ensures.1
    ∙ sym (then_refused (sauvola_settings c.args.config) _ (sym c.in_err-check_settings.ensures))
