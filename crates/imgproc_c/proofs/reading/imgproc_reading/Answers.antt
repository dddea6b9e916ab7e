-- The export returns the number of the reading's answer, and stores its four counts. Assumes nothing.
use mathlib.Core.Path.{refl}
use Rattle.imgproc_c.proofs.ReadingNumbers.{reads}
use Rattle.imgproc_c.proofs.reading.imgproc_reading.Goals as goal

pub returns : goal.returns
returns c =
    let a = c.args in
    reads a.method a.k a.dynamic_range c.ranges.threshold_offset refl c.method_of.ensures c.reading-answer.ensures c.read.ensures
