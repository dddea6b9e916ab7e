-- What an accepted kernel and room say. Assumes nothing.
use Rattle.std.proofs.Common.{Ok, arith, ltb-false}
use Rattle.image.specs.declared.Geometry.{Geometry}
use mathlib.Core.Path.{◌≡◌}
use Prim.Native.Nat.{ℕ, ◌*◌, ◌≤◌, ◌<◌}
use lib.Dec.{ltb}
use Rattle.imgproc.specs.declared.ImgProcError.TheVariants.{InvalidKernel, WorkspaceTooSmall}
use Rattle.imgproc.specs.Refusals.{first, refused_if, bad_kernel, kernel_and_room}
use Rattle.imgproc.specs.RefusalLaws.{both_accepted, not_refused, kernel_says}

-- what an accepted kernel and room say
pub kernel_ready : (k : ℕ) (g : Geometry) (room : ℕ) → first (kernel_and_room k g room) ≡ Ok tt
    → (0 < k) × (6 * (g.width * g.height) ≤ room)
kernel_ready k g room p =
    let short = ltb room (6 * (g.width * g.height)) in
    let both = both_accepted (refused_if (bad_kernel k) InvalidKernel) (refused_if short WorkspaceTooSmall) p in (
      omega (arith, kernel_says k (not_refused (bad_kernel k) InvalidKernel both.0)),
      ltb-false room (6 * (g.width * g.height)) (not_refused short WorkspaceTooSmall both.1),
    )
