-- `table_row` adds one row to both tables: the entries so far, and the sums of the row's pixels so far. Assumes nothing.
use Rattle.imgproc.specs.Tables.{narrow_modulus, pixels_of}
use Rattle.imgproc.proofs.threshold.tables.Entries.{RowSoFar}
use Rattle.imgproc.proofs.threshold.narrow.tables.table_row.Given as goal

abbrev pub invariant-loop-i : goal.invariant-loop-i
invariant-loop-i l =
    let s = l.source in
    RowSoFar narrow_modulus (pixels_of s.pixels.now s.geometry) s.geometry.width s.geometry.height l.at l.y l.workspace l.sum l.sum_sq l.i
