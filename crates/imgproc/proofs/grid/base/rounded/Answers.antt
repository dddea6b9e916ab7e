-- `rounded` meets its contract. Assumes nothing.
use Rattle.imgproc.proofs.grid.base.Rounding.{rounded_is}
use Rattle.imgproc.proofs.grid.base.rounded.Goals as goal

pub returns : goal.returns
returns c = cc (rounded_is c.args.v)
