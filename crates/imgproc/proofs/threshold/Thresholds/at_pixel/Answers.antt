-- `at_pixel` takes the sums of the pixel's window from four corners of each table, where nothing wraps. Assumes nothing.
use Prim.Native.Nat.{◌+◌}
use mathlib.Core.Path.{ap, ◌∙◌}
use Rattle.imgproc.specs.declared.reach.Area.{Area}
use Rattle.imgproc.proofs.threshold.Corners.{WideWindow, wide_window}
use Rattle.imgproc.proofs.threshold.Thresholds.at_pixel.Goals as goal
use Rattle.imgproc.proofs.threshold.Thresholds.at_pixel.Goals.{After-around-window}

-- the window's sums, from its corners
sums : (c : After-around-window)
    → let s = c.args.self in
    let w = c.around-window.result in
    WideWindow s.source.pixels.now s.source.geometry s.tables.now s.at s.config c.args.x c.args.y
    w.left (w.right + 1) w.top (w.bottom + 1)
sums c =
    let s = c.args.self in
    let e = c.around-window.ensures in
    wide_window s.source.pixels.now s.source.geometry s.tables.now s.at s.config s.tabled s.source.kept
    c.args.x c.args.y _ _ _ _ c.requires.0 c.requires.1
    (ap (λ (w : Area). w.left) e)
    (ap (λ (w : Area). w.right + 1) e)
    (ap (λ (w : Area). w.top) e)
    (ap (λ (w : Area). w.bottom + 1) e)

pub rect_sum-sum-requires : goal.rect_sum-sum-requires
rect_sum-sum-requires c =
    let s = sums (goal.at.rect_sum-sum-requires c).After-around-window in (s.window.sum_corners, s.sums)

pub rect_sum-sum_sq-requires : goal.rect_sum-sum_sq-requires
rect_sum-sum_sq-requires c =
    let s = sums (goal.at.rect_sum-sum_sq-requires c).After-around-window in (s.window.square_corners, s.squares)

pub invariant_of-sums : goal.invariant_of-sums
invariant_of-sums c =
    record {
      sane =
          rw c.count-count.ensures
          ((sums (goal.at.invariant_of-sums c).After-around-window).window.sane _ _ c.rect_sum-sum.ensures c.rect_sum-sum_sq.ensures);
    }

pub returns : goal.returns
returns c =
    c.threshold.ensures
    ∙ rw c.count-count.ensures
    ((sums (goal.at.returns c).After-around-window).window.threshold_is _ _ c.rect_sum-sum.ensures c.rect_sum-sum_sq.ensures)
