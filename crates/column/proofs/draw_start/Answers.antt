-- `draw_start` draws what was read as it would the whole input: the bytes that a buffer holds are enough. Assumes nothing.
use Rattle.answer.specs.ProgramLaws.{prints_start}
use Rattle.column.specs.Drawing.{program_drawing}
use Rattle.column.specs.DrawingLaws.{drawing_start}
use Rattle.column.proofs.draw_start.Goals as goal

pub returns : goal.returns
returns c =
    let a = c.args in
    prints_start program_drawing drawing_start a.buffer.now a.n _ a.out.now _ c.read_part.ensures c.draw.ensures
