-- `Counts::line` writes six fields one after another, into a buffer with room for any line. Assumes nothing.
use Rattle.std.proofs.Common.{arith, append_assoc}
use Rattle.pgm.proofs.Writing.{written, puts_join}
use Rattle.pgm.proofs.Counts.line.Goals as goal

pub returns : goal.returns
returns c =
    let room = c.if-out-lt-LINE_ROOM.false in
    let two = puts_join c.put_field-at.ensures.puts c.put_field-at-2.ensures.puts (omega arith) in
    let three = puts_join two c.put_field-at-3.ensures.puts (omega arith) in
    let four = puts_join three c.put_field-at-4.ensures.puts (omega arith) in
    let five = puts_join four c.put_field-at-5.ensures.puts (omega arith) in
    let six = puts_join five c.put_field.ensures.puts (omega arith) in
    written _ _ _ _ room (simp append_assoc at six)
