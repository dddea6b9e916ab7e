-- `put_field` writes the text of a number, which has at most 20 digits, and then one byte. Assumes nothing.
use Rattle.std.proofs.Common.{arith}
use Rattle.pgm.specs.LineLaws.{word_short}
use Rattle.pgm.proofs.Writing.{puts_then}
use Rattle.pgm.proofs.put_field.Goals as goal

pub returns-clause-puts : goal.returns-clause-puts
returns-clause-puts c =
    let short = word_short c.args.number (omega arith) in
    puts_then c.put_number-next.ensures c.args.end (omega (arith, c.requires, c.put_number-next.ensures.answers, short))
