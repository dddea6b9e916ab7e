-- `draw_rows` writes the bytes of the rows one after another: those of the rows before y, and in row y those before the pixel. Assumes nothing.
use Rattle.std.proofs.Common.{◌+◌, ◌*◌}
use Rattle.column.proofs.Rows.{Drawing}
use Rattle.column.proofs.draw_rows.Given as goal

abbrev pub invariant-loop-y : goal.invariant-loop-y
invariant-loop-y l =
    let n = l.y * (l.width + 1) in Drawing l.pixels l.width l.at l.initial.out n (l.at + n) l.out

abbrev pub invariant-loop-x : goal.invariant-loop-x
invariant-loop-x l = Drawing l.pixels l.width l.at l.fn.out (l.y * (l.width + 1) + l.x) (l.row + l.x) l.out
