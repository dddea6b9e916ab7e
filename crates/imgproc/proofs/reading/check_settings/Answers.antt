-- The settings one after another: each way out is one law. Assumes nothing.
use Rattle.std.specs.Prelude.{Ok}
use mathlib.Core.Path.{◌≡◌, sym, ◌∙◌}
use Rattle.imgproc.specs.declared.ImgProcError.TheVariants.{InvalidKernel}
use Rattle.imgproc.specs.declared.reading.config.ReadingConfig.{ReadingConfig}
use Rattle.imgproc.specs.Refusals.{Conditions, first, ◌then◌, refused_if, bad_kernel, division_settings, sauvola_settings}
use Rattle.imgproc.specs.Reading.{reading_settings}
use Rattle.imgproc.specs.GridCalls.{grid_settings}
use Rattle.imgproc.specs.RefusalLaws.{then_refused, then_accepted, passes}
use Rattle.imgproc.proofs.WaysOut.{passed}
use Rattle.imgproc.proofs.reading.check_settings.Goals as goal

-- what is checked after the division's settings, and after the kernel
abbrev last : ReadingConfig → Conditions
last s = grid_settings s.grid then sauvola_settings s.sauvola

abbrev rest : ReadingConfig → Conditions
rest s = refused_if (bad_kernel s.opening_kernel) InvalidKernel then last s

-- past the division's settings
past_division : (s : ReadingConfig) → first (division_settings s.division) ≡ Ok tt → first (reading_settings s) ≡ first (rest s)
unfolding reading_settings
past_division s = then_accepted (division_settings s.division) (rest s)

pub returns-in_err-check_settings : goal.returns-in_err-check_settings
unfolding reading_settings
returns-in_err-check_settings c =
    let s = c.args.config in
    passed _ c.from_residual.ensures.1
    ∙ sym (then_refused (division_settings s.division) (rest s) (sym c.in_err-check_settings.ensures))

pub returns-in_err-check_settings-2 : goal.returns-in_err-check_settings-2
returns-in_err-check_settings-2 c =
    let s = c.args.config in
    passed _ c.from_residual-in_err-check_settings-2.ensures.1
    ∙ sym (past_division s (sym c.in_ok-check_settings.ensures)
    ∙ passes (bad_kernel s.opening_kernel) InvalidKernel (last s) (sym c.if-bad_kernel.ensures)
    ∙ then_refused (grid_settings s.grid) (sauvola_settings s.sauvola) (sym c.in_err-check_settings-2.ensures))
