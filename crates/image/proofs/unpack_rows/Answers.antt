use Rattle.image.specs.LayoutLaws.{row_within}
use Rattle.image.specs.PaintRows.{rows_start, rows_next}
use Rattle.image.proofs.Planes.{from_long, from_pixel}
use Rattle.image.proofs.unpack_rows.Goals as goal
use Rattle.image.proofs.unpack_rows.Goals.{In-loop-y}

pub loop-y-init : goal.loop-y-init
loop-y-init c = rows_start _ _ _ _ _

pub loop-y-preserved : goal.loop-y-preserved
loop-y-preserved c =
    let a = c.args in
    let k = c.requires.0 in
    let y = c.loop-y.y in
    let t = c.loop-y-test.true in
    rows_next _ _ _ _ _ y c.loop-y.invariant k.wide k.stride (row_within k y t) c.copy_row.new.dst
    (from_long a.workspace.now a.at a.geometry.width a.geometry.height c.requires.1 y t c.copy_row.ensures)
    (from_pixel a.workspace.now a.at a.geometry.width a.geometry.height c.requires.1 y t c.copy_row.ensures)
    t
