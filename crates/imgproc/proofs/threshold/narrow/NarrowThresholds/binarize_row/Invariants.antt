-- `binarize_row` judges the row's pixels one after another: the first bytes are the verdicts. Assumes nothing.
use Rattle.image.specs.Plane.{picture}
use Rattle.imgproc.proofs.threshold.Verdicts.{Verdicts}
use Rattle.imgproc.proofs.threshold.narrow.NarrowThresholds.binarize_row.Given as goal

abbrev pub invariant-loop-x : goal.invariant-loop-x
invariant-loop-x l =
    let s = l.self.source in
    let g = s.geometry in
    Verdicts l.self.config g.width g.height (picture s.pixels.now g) l.y l.out l.x
