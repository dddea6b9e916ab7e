-- `put_number` calls itself to write the digits of number / 10, and then writes the last digit. The measure is the number. Assumes nothing.
use Rattle.pgm.proofs.+put_number.Given as goal

abbrev pub decreases-put_number : goal.decreases-put_number
decreases-put_number l = l.number
