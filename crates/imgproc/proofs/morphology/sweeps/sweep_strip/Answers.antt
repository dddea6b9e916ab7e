-- `sweep_strip` meets its contract: transposed, swept as lanes, transposed back. Assumes nothing.
use Rattle.imgproc.proofs.morphology.Planes.{strip_swept}
use Rattle.imgproc.proofs.morphology.sweeps.sweep_strip.Goals as goal

pub returns : goal.returns
returns g c =
    strip_swept c.requires.kernel c.transpose.ensures (rw c.transposed.ensures at c.running_extremum_1d-t.ensures) c.transpose-2.ensures
