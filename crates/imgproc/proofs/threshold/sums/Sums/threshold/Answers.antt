-- `threshold` follows the definition; k is at most 1000 and the spread is a byte, so nothing wraps. Assumes nothing.
use Prim.Native.Nat.{ℕ, ◌*◌, ◌/◌}
use mathlib.Core.Path.{ap₂}
use Rattle.imgproc.specs.Sauvola.{scale, threshold}
use Rattle.imgproc.proofs.threshold.sums.Sums.threshold.Goals as goal

pub returns : goal.returns
unfolding threshold
returns c =
    rw (c.from-k.ensures, c.from-range.ensures) (ap₂ (λ (m r : ℕ). m * scale c.args.config r / 1000) c.mean.ensures.0 c.spread.ensures.0)
