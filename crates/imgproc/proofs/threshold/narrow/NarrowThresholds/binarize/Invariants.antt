-- `binarize` paints the verdicts row by row: the first y rows of the destination are painted. Assumes nothing.
use Rattle.image.specs.Plane.{picture}
use Rattle.imgproc.specs.Sauvola.{binarized}
use Rattle.image.specs.PaintRows.{RowsPainted}
use Rattle.imgproc.proofs.threshold.narrow.NarrowThresholds.binarize.Given as goal

abbrev pub invariant-loop-y : goal.invariant-loop-y
invariant-loop-y l =
    let s = l.self.source in
    let g = s.geometry in
    RowsPainted (binarized l.self.config g.width g.height (picture s.pixels.now g)) g.width g.height l.dst_geometry.stride l.initial.dst l.dst l.y
