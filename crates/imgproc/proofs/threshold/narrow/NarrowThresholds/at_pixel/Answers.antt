-- `at_pixel` takes the sums of the pixel's window from four corners of each table, whose differences 32 bits hold. Assumes nothing.
use Prim.Native.Nat.{◌+◌}
use mathlib.Core.Path.{ap, ◌∙◌}
use Rattle.imgproc.specs.declared.reach.Area.{Area}
use Rattle.imgproc.specs.Tables.{narrow_modulus}
use Rattle.imgproc.proofs.threshold.Corners.{WindowSums, narrow_window}
use Rattle.imgproc.proofs.threshold.narrow.NarrowThresholds.at_pixel.Goals as goal
use Rattle.imgproc.proofs.threshold.narrow.NarrowThresholds.at_pixel.Goals.{After-around-window}

-- the window's sums, from its corners
sums : (c : After-around-window)
    → let s = c.args.self in
    let w = c.around-window.result in
    WindowSums narrow_modulus s.source.pixels.now s.source.geometry s.tables.now s.at s.config c.args.x c.args.y
    w.left (w.right + 1) w.top (w.bottom + 1)
sums c =
    let s = c.args.self in
    let e = c.around-window.ensures in
    narrow_window s.source.pixels.now s.source.geometry s.tables.now s.at s.config s.tabled s.fits
    c.args.x c.args.y _ _ _ _ c.requires.0 c.requires.1
    (ap (λ (w : Area). w.left) e)
    (ap (λ (w : Area). w.right + 1) e)
    (ap (λ (w : Area). w.top) e)
    (ap (λ (w : Area). w.bottom + 1) e)

pub rect_sum-requires : goal.rect_sum-requires
rect_sum-requires c = (sums (goal.at.rect_sum-requires c).After-around-window).sum_corners

pub rect_sum-requires-2 : goal.rect_sum-requires-2
rect_sum-requires-2 c = (sums (goal.at.rect_sum-requires-2 c).After-around-window).square_corners

pub invariant_of-sums : goal.invariant_of-sums
invariant_of-sums c =
    record {
      sane =
          rw c.count-count.ensures
          ((sums (goal.at.invariant_of-sums c).After-around-window).sane _ _
          (c.from-sum.ensures ∙ c.rect_sum.ensures) (c.from-sum_sq.ensures ∙ c.rect_sum-2.ensures));
    }

pub returns : goal.returns
returns c =
    c.threshold.ensures
    ∙ rw c.count-count.ensures
    ((sums (goal.at.returns c).After-around-window).threshold_is _ _
    (c.from-sum.ensures ∙ c.rect_sum.ensures) (c.from-sum_sq.ensures ∙ c.rect_sum-2.ensures))
