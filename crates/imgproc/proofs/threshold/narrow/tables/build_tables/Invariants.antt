-- `build_tables` makes the row of zeros, then a row below each row of the picture. Assumes nothing.
use Prim.Native.Nat.{◌+◌}
use Rattle.imgproc.specs.Tables.{narrow_modulus, TableRows}
use Rattle.imgproc.proofs.threshold.narrow.tables.build_tables.Given as goal

abbrev pub invariant-loop-y : goal.invariant-loop-y
invariant-loop-y l = TableRows narrow_modulus l.source.pixels.now l.source.geometry l.at (l.y + 1) l.workspace
