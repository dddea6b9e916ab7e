-- `binarize` paints one row of verdicts after another. Assumes nothing.
use Rattle.image.specs.Plane.{picture}
use Rattle.imgproc.proofs.threshold.Verdicts.{painted_none, painted_more}
use Rattle.imgproc.proofs.threshold.narrow.NarrowThresholds.binarize.Goals as goal

pub loop-y-init : goal.loop-y-init
loop-y-init c =
    let s = c.args.self.source in
    painted_none c.args.self.config s.geometry c.args.dst_geometry (picture s.pixels.now s.geometry) c.args.dst.now c.requires

pub loop-y-preserved : goal.loop-y-preserved
loop-y-preserved c =
    let s = c.args.self.source in
    painted_more c.args.self.config s.geometry c.args.dst_geometry (picture s.pixels.now s.geometry) c.args.dst.now c.requires
    c.binarize_row.new.out c.loop-y.y c.loop-y-test.true c.loop-y.invariant c.binarize_row.auto.out c.binarize_row.ensures
