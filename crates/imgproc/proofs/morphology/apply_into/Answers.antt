-- `apply_into` meets its contract: it is refused by its pair, or by its kernel and room, and else works. Assumes nothing.
use Rattle.std.proofs.Common.{sym}
use Rattle.imgproc.specs.MorphologyCalls.{morphology}
use Rattle.imgproc.proofs.WaysOut.{passed}
use Rattle.imgproc.proofs.Serving.{refused_by_pair, refused_by_own, worked}
use Rattle.imgproc.proofs.morphology.Ways.{kernel_ready}
use Rattle.imgproc.proofs.morphology.apply_into.Goals as goal

pub returns-in_err-source : goal.returns-in_err-source
returns-in_err-source c = rw (passed _ c.from_residual.ensures.1) (refused_by_pair (morphology c.args.operation) _ c.in_err-source.ensures)

pub returns-in_err-check_kernel : goal.returns-in_err-check_kernel
returns-in_err-check_kernel c =
    rw (passed _ c.from_residual-in_err-check_kernel.ensures.1)
    (refused_by_own (morphology c.args.operation) _ c.in_ok-source.ensures.2 (sym (rw c.in_ok-source.ensures.1 at c.in_err-check_kernel.ensures)))

pub run-requires : goal.run-requires
run-requires c =
    let a = c.args in
    let s = c.in_ok-source.ensures in
    let k = kernel_ready a.kernel_size a.src_geometry _ (sym (rw c.in_ok-source.ensures.1 at c.in_ok-check_kernel.ensures)) in
    rw (s.0, s.1) (record { pair = s.2; kernel = k.0; fits = k.1 })

pub returns : goal.returns
returns c =
    let s = c.in_ok-source.ensures in
    worked (morphology c.args.operation) _ s.2 (sym (rw c.in_ok-source.ensures.1 at c.in_ok-check_kernel.ensures)) (rw (s.0, s.1) at c.run.ensures)
