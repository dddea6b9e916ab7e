-- `check_row` passes the layout's refusal on, and else tests the row. Assumes nothing.
use Rattle.image.proofs.Ways.{row_outside, row_within}
use Rattle.image.proofs.check_row.Goals as goal

pub returns-then-g-y : goal.returns-then-g-y
returns-then-g-y c =
    let a = c.args in
    row_outside a.len a.geometry c.validate_layout.ensures a.y c.in_ok-g.was c.if-g-y.true

pub returns : goal.returns
returns c =
    let a = c.args in
    row_within a.len a.geometry c.validate_layout.ensures a.y c.in_ok-g.was c.if-g-y.false
