-- `sauvola_narrow_into` refuses in document 02's order, and else binarizes. Assumes nothing.
use Rattle.std.proofs.Common.{refl, sym}
use Rattle.imgproc.specs.SauvolaNarrow.{sauvola_narrow}
use Rattle.imgproc.proofs.WaysOut.{passed}
use Rattle.imgproc.proofs.Serving.{refused_by_pair, refused_by_own, served}
use Rattle.imgproc.proofs.Answers.{narrow_room_for}
use Rattle.imgproc.proofs.threshold.sauvola_narrow_into.Goals as goal

pub returns-in_err-source : goal.returns-in_err-source
returns-in_err-source c = rw (passed _ c.from_residual.ensures.1) (refused_by_pair sauvola_narrow _ c.in_err-source.ensures)

pub returns-in_err-check_narrow : goal.returns-in_err-check_narrow
returns-in_err-check_narrow c =
    rw (passed _ c.from_residual-in_err-check_narrow.ensures.1)
    (refused_by_own sauvola_narrow _ c.in_ok-source.ensures.2 (sym (rw c.in_ok-source.ensures.1 at c.in_err-check_narrow.ensures)))

pub binarize-requires : goal.binarize-requires
binarize-requires c =
    let s = c.in_ok-source.ensures in
    let room = narrow_room_for c.args.config c.args.src_geometry _ (sym (rw c.in_ok-source.ensures.1 at c.in_ok-check_narrow.ensures)) in
    rw (s.0, s.1) (record { ready = record { pair = s.2; settings = room.0; fits = room.2 }; fits = room.1 })

pub returns : goal.returns
returns c =
    let s = c.in_ok-source.ensures in
    served sauvola_narrow _ s.2 (sym (rw c.in_ok-source.ensures.1 at c.in_ok-check_narrow.ensures)) refl
    (rw (s.0, s.1) at c.binarize.ensures) c.binarize.auto.workspace
