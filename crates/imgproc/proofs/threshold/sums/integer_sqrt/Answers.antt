-- `integer_sqrt` is std's root. Assumes nothing.
use Rattle.std.proofs.Common.{arith, ◌∙◌}
use Rattle.imgproc.specs.WholeRoot.{root_is}
use Rattle.imgproc.proofs.threshold.sums.integer_sqrt.Goals as goal

pub returns : goal.returns
returns c =
    let r = c.isqrt.ensures in (c.from.ensures ∙ root_is _ _ (r.square_le, r.next_square_gt), omega (arith, c.from.ensures, r.bound))
