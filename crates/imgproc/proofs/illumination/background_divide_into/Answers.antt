-- `background_divide_into` meets its contract: it is refused by its pair, or by its settings and room, and else works.
-- Assumes nothing.
use Rattle.std.proofs.Common.{sym}
use Rattle.imgproc.specs.Division.{division}
use Rattle.imgproc.proofs.WaysOut.{passed}
use Rattle.imgproc.proofs.Serving.{refused_by_pair, refused_by_own, worked}
use Rattle.imgproc.proofs.illumination.Runs.{division_ready}
use Rattle.imgproc.proofs.illumination.background_divide_into.Goals as goal

pub returns-in_err-source : goal.returns-in_err-source
returns-in_err-source c = rw (passed _ c.from_residual.ensures.1) (refused_by_pair division _ c.in_err-source.ensures)

pub returns-in_err-check_division : goal.returns-in_err-check_division
returns-in_err-check_division c =
    rw (passed _ c.from_residual-in_err-check_division.ensures.1)
    (refused_by_own division _ c.in_ok-source.ensures.2 (sym (rw c.in_ok-source.ensures.1 at c.in_err-check_division.ensures)))

pub divide_picture-requires : goal.divide_picture-requires
divide_picture-requires c =
    let s = c.in_ok-source.ensures in
    rw (s.0, s.1) (division_ready s.2 (sym (rw c.in_ok-source.ensures.1 at c.in_ok-check_division.ensures)))

pub returns : goal.returns
returns c =
    let s = c.in_ok-source.ensures in
    worked division _ s.2 (sym (rw c.in_ok-source.ensures.1 at c.in_ok-check_division.ensures)) (rw (s.0, s.1) at c.divide_picture.ensures)
