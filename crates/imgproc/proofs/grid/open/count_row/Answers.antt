use Rattle.std.proofs.Common.{refl, arith, ◌*◌}
use Rattle.imgproc.specs.Reach.{walk}
use Rattle.imgproc.specs.GridCalls.{open_in}
use Rattle.imgproc.proofs.grid.open.Rows.{counted, counted_few, counted_all}
use Rattle.imgproc.proofs.grid.open.count_row.Goals as goal

pub loop-skip-init : goal.loop-skip-init
unfolding walk
loop-skip-init c = refl

pub overflow_add-open : goal.overflow_add-open
overflow_add-open c =
    let a = c.args in
    let few =
    counted_few a.skips.now (a.j * a.tiles_x) a.tiles_x c.requires.0 c.loop-skip.skip-index _ c.loop-skip-test.true
    c.loop-skip.invariant c.from-open.ensures in
    omega (arith, few, c.requires.1)

pub loop-skip-preserved : goal.loop-skip-preserved
loop-skip-preserved c =
    let a = c.args in
    counted a.skips.now (a.j * a.tiles_x) a.tiles_x c.requires.0 c.loop-skip.skip-index c.loop-skip-test.true
    c.loop-skip.invariant c.from-open.ensures

pub returns : goal.returns
unfolding open_in
returns c =
    let a = c.args in
    counted_all a.skips.now (a.j * a.tiles_x) a.tiles_x c.requires.0 c.loop-skip.skip-index c.loop-skip.auto.skip-index-end
    c.loop-skip-test.false c.loop-skip.invariant
