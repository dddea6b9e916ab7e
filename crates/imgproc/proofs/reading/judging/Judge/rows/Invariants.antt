-- `rows` judges the rows one after another: the first y rows of the destination are painted and counted. Assumes nothing.
use Rattle.imgproc.specs.ReadingSteps.{marked_over}
use Rattle.image.specs.PaintRows.{RowsPainted}
use Rattle.imgproc.proofs.reading.judging.Judgements.{RowsCounted}
use Rattle.imgproc.proofs.reading.judging.Judge.rows.Given as goal

abbrev pub invariant-loop-y : goal.invariant-loop-y
invariant-loop-y l =
    let s = l.self.config in
    let g = l.self.opened.geometry in
    let o = l.self.opened.pixels.now in
    RowsPainted (marked_over s g.width g.height o) g.width g.height l.dst_geometry.stride l.initial.dst l.dst l.y
    × RowsCounted s g o l.counts l.y
