-- `divide` is the quotient by the background raised to the floor, held to 255. Assumes nothing.
use Rattle.std.proofs.Common.{arith}
use Rattle.imgproc.specs.Division.{quotient}
use Rattle.imgproc.proofs.illumination.divide.Goals as goal

pub returns : goal.returns
unfolding quotient
returns c = let e = rw (c.from.ensures, c.from-2.ensures, c.from-3.ensures, c.max-denominator.ensures) at c.min.ensures in omega (arith, e)
