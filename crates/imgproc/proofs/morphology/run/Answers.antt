-- `run` meets its contract: packed, operated on, painted; neither copy is refused. Assumes nothing.
use Rattle.imgproc.proofs.morphology.Runs.{run_works}
use Rattle.imgproc.proofs.morphology.run.Goals as goal

pub returns : goal.returns
returns c =
    run_works c.requires c.pack.ensures c.count-tally.ensures c.unpack.ensures
