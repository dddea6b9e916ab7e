-- `binarize_row` writes the verdict of each pixel of the row. Assumes nothing.
use native.Mathlib.Omega.{arith}
use Prim.Native.Nat.{◌<◌}
use mathlib.Core.Path.{◌≡◌, ◌∙◌}
use lib.ListN.{get_or}
use Rattle.image.specs.Plane.{picture}
use Rattle.imgproc.specs.Tables.{pixels_of}
use Rattle.image.specs.RowLaws.{row_long, row_picture}
use Rattle.imgproc.proofs.threshold.Verdicts.{verdict_is, verdicts_more}
use Rattle.imgproc.proofs.threshold.Thresholds.binarize_row.Goals as goal
use Rattle.imgproc.proofs.threshold.Thresholds.binarize_row.Goals.{In-loop-x}

-- the row that was handed out has the width, and its byte at x is pixel (x, y)
inside : (t : In-loop-x) → t.loop-x.x < t.args.self.source.geometry.width
inside t =
    let s = t.args.self.source in
    omega (arith, row_long s.pixels.now s.geometry s.kept t.args.y t.requires.0 t.row-value-items.ensures.bytes, t.loop-x-test.true)

value-is : (t : In-loop-x)
    → let s = t.args.self.source in
    get_or t.row-value-items.result.now t.loop-x.x 0 ≡ pixels_of s.pixels.now s.geometry t.loop-x.x t.args.y
value-is t =
    let s = t.args.self.source in
    row_picture s.pixels.now s.geometry s.kept t.args.y t.requires.0 t.row-value-items.ensures.bytes t.loop-x.x (inside t)

pub at_pixel-requires : goal.at_pixel-requires
at_pixel-requires c = (inside (goal.at.at_pixel-requires c).In-loop-x, c.requires.0)

pub bounds-out-x : goal.bounds-out-x
bounds-out-x c = omega (arith, inside (goal.at.bounds-out-x c).In-loop-x)

pub loop-x-preserved : goal.loop-x-preserved
loop-x-preserved c =
    let s = c.args.self in
    let g = s.source.geometry in
    let p = picture s.source.pixels.now g in
    let t = (goal.at.loop-x-preserved c).In-loop-x in
    verdicts_more s.config g.width g.height p c.args.y c.loop-x.out c.loop-x.invariant (omega (arith, inside t))
    (c.verdict.ensures ∙ verdict_is s.config g.width g.height p c.loop-x.x c.args.y (value-is t) c.at_pixel.ensures)

pub returns : goal.returns
returns c =
    let s = c.args.self.source in
    let long = row_long s.pixels.now s.geometry s.kept c.args.y c.requires.0 c.row-value-items.ensures.bytes in
    λ x l. c.loop-x.invariant x (omega (arith, long, c.loop-x-test.false))
