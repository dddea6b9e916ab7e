-- `validate_layout` gives the first refusal that fits. Each way out is a law of Ways. Assumes nothing.
use Rattle.image.proofs.Ways.{no_width, no_height, short_stride, no_row, few_rows, too_wide, too_high, fits}
use Rattle.image.proofs.validate_layout.Goals as goal

pub returns-then-width-eq0 : goal.returns-then-width-eq0
returns-then-width-eq0 c = no_width c.args.len c.args.geometry c.if-width-eq0.true

pub returns-then-height-eq0 : goal.returns-then-height-eq0
returns-then-height-eq0 c = no_height c.args.len c.args.geometry c.if-width-eq0.false c.if-height-eq0.true

pub returns-then-stride-width : goal.returns-then-stride-width
returns-then-stride-width c =
    short_stride c.args.len c.args.geometry c.if-width-eq0.false c.if-height-eq0.false c.if-stride-width.true

pub returns-then-len-width : goal.returns-then-len-width
returns-then-len-width c =
    no_row c.args.len c.args.geometry c.if-width-eq0.false c.if-height-eq0.false c.if-stride-width.false c.if-len-width.true

pub returns-then-len-width-2 : goal.returns-then-len-width-2
returns-then-len-width-2 c =
    few_rows c.args.len c.args.geometry c.if-width-eq0.false c.if-height-eq0.false c.if-stride-width.false c.if-len-width.false c.if-len-width-2.true

pub returns-then-width-gt-MAX_SIDE : goal.returns-then-width-gt-MAX_SIDE
returns-then-width-gt-MAX_SIDE c =
    too_wide c.args.len c.args.geometry c.if-width-eq0.false c.if-height-eq0.false c.if-stride-width.false c.if-len-width.false c.if-len-width-2.false
    c.if-width-gt-MAX_SIDE.true

pub returns-then-height-gt-MAX_SIDE : goal.returns-then-height-gt-MAX_SIDE
returns-then-height-gt-MAX_SIDE c =
    too_high c.args.len c.args.geometry c.if-width-eq0.false c.if-height-eq0.false c.if-stride-width.false c.if-len-width.false c.if-len-width-2.false
    c.if-width-gt-MAX_SIDE.false c.if-height-gt-MAX_SIDE.true

pub returns : goal.returns
returns c =
    fits c.args.len c.args.geometry c.if-width-eq0.false c.if-height-eq0.false c.if-stride-width.false c.if-len-width.false c.if-len-width-2.false
    c.if-width-gt-MAX_SIDE.false c.if-height-gt-MAX_SIDE.false
