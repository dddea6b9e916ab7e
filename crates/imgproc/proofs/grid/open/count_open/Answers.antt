use Rattle.std.proofs.Common.{arith, sym, ◌∙◌, ap, ℕ, set, zero-add}
use Rattle.image.specs.Plane.{tabulate, overwritten}
use Rattle.image.specs.WriteLaws.{written_none, written_more}
use Rattle.imgproc.specs.GridCalls.{open_in, open_tiles_in}
use Rattle.imgproc.proofs.grid.open.Rows.{row_fits}
use Rattle.imgproc.proofs.grid.open.count_open.Goals as goal

pub loop-j-init : goal.loop-j-init
loop-j-init c = written_none (open_in c.args.skips.now c.args.tiles.tiles_x) 0 c.args.open_tiles.now

pub count_row-requires : goal.count_row-requires
count_row-requires c =
    (row_fits _ _ c.loop-j.j _ c.loop-j-test.true c.requires.0, c.requires.1.1)

pub loop-j-preserved : goal.loop-j-preserved
loop-j-preserved c =
    ap (λ (k : ℕ). set c.loop-j.open_tiles k c.count_row.result) (sym (zero-add c.loop-j.j))
    ∙ written_more (open_in c.args.skips.now c.args.tiles.tiles_x) 0 c.loop-j.j c.count_row.result c.args.open_tiles.now
    c.loop-j.open_tiles (omega (arith, c.requires.1.0, c.loop-j-test.true)) c.loop-j.invariant c.count_row.ensures

pub returns : goal.returns
unfolding open_tiles_in
returns c =
    let f = open_in c.args.skips.now c.args.tiles.tiles_x in
    c.loop-j.invariant
    ∙ ap (λ (n : ℕ). overwritten 0 (tabulate f n) c.args.open_tiles.now) (omega (arith, c.loop-j.auto.j-end, c.loop-j-test.false))
