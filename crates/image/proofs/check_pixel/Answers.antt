-- `check_pixel` passes the layout's refusal on, and else tests the place. Assumes nothing.
use Rattle.image.proofs.Ways.{pixel_right, pixel_below, pixel_within}
use Rattle.image.proofs.check_pixel.Goals as goal

pub returns-then-g-x : goal.returns-then-g-x
returns-then-g-x c =
    let a = c.args in
    pixel_right a.len a.geometry c.validate_layout.ensures a.x a.y c.in_ok-g.was c.if-g-x.true

pub returns-then-g-y : goal.returns-then-g-y
returns-then-g-y c =
    let a = c.args in
    pixel_below a.len a.geometry c.validate_layout.ensures a.x a.y c.in_ok-g.was c.if-g-x.false c.if-g-y.true

pub returns : goal.returns
returns c =
    let a = c.args in
    pixel_within a.len a.geometry c.validate_layout.ensures a.x a.y c.in_ok-g.was c.if-g-x.false c.if-g-y.false
