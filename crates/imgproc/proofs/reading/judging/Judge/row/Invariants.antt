-- `row` judges the pixels of a row one after another: the first x hold their bytes and are counted. Assumes nothing.
use Rattle.imgproc.specs.ReadingSteps.{PixelsJudged}
use Rattle.imgproc.proofs.reading.judging.Judge.row.Given as goal

abbrev pub invariant-loop-x : goal.invariant-loop-x
invariant-loop-x l =
    PixelsJudged l.initial.counts l.self.config l.self.opened.geometry l.self.opened.pixels.now l.y l.x l.counts l.out
