use Prim.Native.Nat.{◌+◌, ◌*◌, ◌≤◌}
use native.Mathlib.Nat.{mul-le-mul_right}
use native.Mathlib.Omega.{arith}
use Rattle.imgproc.specs.Sums.{squared}
use Rattle.imgproc.specs.Tables.{narrow_modulus, pixels_of}
use Rattle.imgproc.proofs.threshold.tables.Entries.{both_none, both_more, entry_top, row_top}
use Rattle.imgproc.proofs.threshold.narrow.tables.table_top.Goals as goal
use Rattle.imgproc.proofs.threshold.narrow.tables.table_top.Goals.{Start}

pub loop-i-init : goal.loop-i-init
loop-i-init c = both_none _ _ _ _ _ _ c.requires

-- the first row lies in a table
first : (c : Start) → let g = c.args.source.geometry in g.width + 1 ≤ (g.width + 1) * (g.height + 1)
first c =
    let g = c.args.source.geometry in
    omega (arith, mul-le-mul_right {m = 1} {n = g.height + 1} (g.width + 1) (omega arith))

pub loop-i-preserved : goal.loop-i-preserved
loop-i-preserved c =
    let l = c.loop-i in
    let g = c.args.source.geometry in
    let f = pixels_of c.args.source.pixels.now g in
    both_more narrow_modulus f _ _ _ l.i 0 0 l.invariant (omega (arith, first (goal.at.loop-i-preserved c).Start))
    (entry_top narrow_modulus f (g.width + 1) l.i (omega arith))
    (entry_top narrow_modulus (squared f) (g.width + 1) l.i (omega arith))

pub returns : goal.returns
returns c = row_top c.loop-i.invariant (omega arith)
