-- `answer_start` answers what was read as it would the whole input: the bytes that a buffer holds are enough. Assumes nothing.
use Rattle.std.proofs.Common.{arith}
use Rattle.answer.specs.Program.{program_line}
use Rattle.answer.specs.ProgramLaws.{line_start, printed, prints_start}
use Rattle.answer.proofs.answer_start.Goals as goal

pub returns : goal.returns
returns c =
    let a = c.args in
    prints_start program_line line_start a.buffer.now a.n _ a.line.now _ c.read_part.ensures
    (printed _ a.line.now _ (omega arith) c.unwrap.ensures c.answer_and_mark.ensures.writes)
