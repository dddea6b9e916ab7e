-- `table_top` writes the first row of both tables, entry by entry: the sums above the picture are 0. Assumes nothing.
use Rattle.imgproc.specs.Tables.{wide_modulus, pixels_of, Both}
use Rattle.imgproc.proofs.threshold.tables.table_top.Given as goal

abbrev pub invariant-loop-i : goal.invariant-loop-i
invariant-loop-i l =
    let g = l.source.geometry in
    Both wide_modulus (pixels_of l.source.pixels.now g) g.width g.height l.at l.i l.workspace
