-- `draw` writes the line into the first part of the buffer, and then the rows of a picture after it. Assumes nothing.
use Rattle.std.proofs.Common.{arith, refl, sym, length-take-le}
use Rattle.std.specs.Prelude.{Some, None}
use Rattle.pgm.specs.Form.{values}
use Rattle.pgm.specs.ParseLaws.{parsed_as}
use Rattle.answer.specs.ProgramLaws.{line_fits}
use Rattle.column.proofs.Drawn.{lined, no_rows, undrawn, room_rows, drawn}
use Rattle.column.proofs.draw.Goals as goal

pub slice_bounds-answer_and_mark-end-2 : goal.slice_bounds-answer_and_mark-end-2
slice_bounds-answer_and_mark-end-2 c = sym (length-take-le _ c.args.out.now (omega (arith, c.requires)))

pub unwrap-length-requires : goal.unwrap-length-requires
unwrap-length-requires c =
    let made = c.answer_and_mark in
    let room = length-take-le 128 c.args.out.now (omega (arith, c.requires)) in
    rw (line_fits _ _ (omega (arith, room)) made.ensures.writes) refl

pub draw_rows-requires : goal.draw_rows-requires
draw_rows-requires c =
    let made = c.answer_and_mark in
    let input = c.args.input.now in
    let l = lined {input = input} {out = c.args.out.now} c.unwrap-length.ensures c.requires (omega arith) made.auto.out made.ensures in
    room_rows l _ _ _ _ (parsed_as input c.in-Ok.is c.parse.ensures) c.if-picture-eq0.false c.if-picture-eq0-2.false

pub returns-in_default : goal.returns-in_default
returns-in_default c =
    let made = c.answer_and_mark in
    let input = c.args.input.now in
    let l = lined {input = input} {out = c.args.out.now} c.unwrap-length.ensures c.requires (omega arith) made.auto.out made.ensures in
    undrawn l None (parsed_as input c.in_default.is c.parse.ensures) refl

pub returns-then-picture-eq0 : goal.returns-then-picture-eq0
returns-then-picture-eq0 c =
    let made = c.answer_and_mark in
    let input = c.args.input.now in
    let l = lined {input = input} {out = c.args.out.now} c.unwrap-length.ensures c.requires (omega arith) made.auto.out made.ensures in
    undrawn l (Some (values c.in-Ok.picture)) (parsed_as input c.in-Ok.is c.parse.ensures) (no_rows _ _ _ c.then-picture-eq0.either)

pub returns : goal.returns
returns c =
    let made = c.answer_and_mark in
    let input = c.args.input.now in
    let l = lined {input = input} {out = c.args.out.now} c.unwrap-length.ensures c.requires (omega arith) made.auto.out made.ensures in
    drawn l _ _ _ _ (parsed_as input c.in-Ok.is c.parse.ensures) c.if-picture-eq0.false c.if-picture-eq0-2.false _ c.draw_rows.ensures
