-- `unpack_rows` paints the rows one after another: the first y rows of the destination are painted. Assumes nothing.
use Prim.Native.Nat.{◌*◌}
use Rattle.image.specs.Plane.{part}
use Rattle.image.specs.PaintRows.{RowsPainted}
use Rattle.image.proofs.unpack_rows.Given as goal

abbrev pub invariant-loop-y : goal.invariant-loop-y
invariant-loop-y l = RowsPainted (part l.at (l.width * l.height) l.workspace) l.width l.height l.stride l.initial.dst l.dst l.y
