-- `check_narrow` passes the refusals of the settings and of the window on, and else says whether both tables fit. Assumes nothing.
use Rattle.std.proofs.Common.{sym, ◌∙◌}
use Rattle.imgproc.specs.Refusals.{sauvola_settings}
use Rattle.imgproc.specs.SauvolaNarrow.{window_condition}
use Rattle.imgproc.specs.RefusalLaws.{then_refused, then_accepted}
use Rattle.imgproc.proofs.WaysOut.{passed}
use Rattle.imgproc.proofs.threshold.checks.check_narrow.Goals as goal

pub returns-in_err-check_settings : goal.returns-in_err-check_settings
returns-in_err-check_settings c =
    passed _ c.from_residual.ensures.1
    ∙ sym (then_refused (sauvola_settings c.args.config) _ (sym c.in_err-check_settings.ensures))

pub returns-in_err-check_window : goal.returns-in_err-check_window
returns-in_err-check_window c =
    let g = c.args.source.geometry in
    passed _ c.from_residual-in_err-check_window.ensures.1
    ∙ sym
    (then_accepted (sauvola_settings c.args.config) _ (sym c.in_ok-check_settings.ensures)
    ∙ then_refused (window_condition c.args.config.radius g.width g.height) _ (sym c.in_err-check_window.ensures))

pub returns : goal.returns
returns c =
    let g = c.args.source.geometry in
    c.check_tables.ensures
    ∙ sym
    (then_accepted (sauvola_settings c.args.config) _ (sym c.in_ok-check_settings.ensures)
    ∙ then_accepted (window_condition c.args.config.radius g.width g.height) _ (sym c.in_ok-check_window.ensures))
