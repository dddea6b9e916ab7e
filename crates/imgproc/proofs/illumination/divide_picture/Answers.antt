-- `divide_picture` flattens with a tally of its own and paints; the copy is never refused. Assumes nothing.
use Rattle.imgproc.proofs.illumination.Runs.{divide_works}
use Rattle.imgproc.proofs.illumination.divide_picture.Goals as goal

pub returns : goal.returns
returns c =
    divide_works c.requires c.start.ensures c.flatten-tally.ensures c.unpack.ensures
