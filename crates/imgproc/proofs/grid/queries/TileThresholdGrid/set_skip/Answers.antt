-- `set_skip` meets its contract: the tile and its row lie in the buffers. Assumes nothing.
use Rattle.std.proofs.Common.{arith, sym, refl, length, length-set}
use Rattle.image.specs.PlaneLaws.{in_plane}
use Rattle.imgproc.specs.Blanking.{SkipLent}
use Rattle.imgproc.proofs.WaysOut.{passed}
use Rattle.imgproc.proofs.grid.open.Rows.{row_fits}
use Rattle.imgproc.proofs.grid.queries.Grids.{TileAsked, tile_asked, few_across, few_down}
use Rattle.imgproc.proofs.grid.queries.Setting.{not_set, is_set}
use Rattle.imgproc.proofs.grid.queries.TileThresholdGrid.set_skip.Goals as goal
use Rattle.imgproc.proofs.grid.queries.TileThresholdGrid.set_skip.Goals.{Start, In_ok-t}

-- what it is lent
abbrev lent : Start → SkipLent
lent s =
    let a = s.args in
    record {
      grid = a.self;
      skips = a.skips.now;
      open_tiles = a.open_tiles.now;
      column = a.tile_column;
      row = a.tile_row;
    }

-- it was accepted
accepted : (c : In_ok-t)
    → let a = c.args in
    TileAsked a.self (length a.skips.now) (length a.open_tiles.now) a.tile_column a.tile_row c.in_ok-t.t
accepted c = tile_asked _ _ _ _ _ _ (sym c.in_ok-t.ensures)

pub returns-in_err-t : goal.returns-in_err-t
returns-in_err-t c =
    rw (passed _ c.from_residual.ensures.1)
    (not_set c.args.skip (lent (goal.at.returns-in_err-t c).Start) (sym c.in_err-t.ensures))

pub bounds-skips-t : goal.bounds-skips-t
bounds-skips-t c =
    let a = accepted (goal.at.bounds-skips-t c).In_ok-t in
    omega (arith, a.is, a.skips_fit, in_plane c.args.self.tiles_x c.args.self.tiles_y c.args.tile_column c.args.tile_row a.column a.row)

pub count_row-requires : goal.count_row-requires
count_row-requires c =
    let a = accepted (goal.at.count_row-requires c).In_ok-t in
    let q = c.args.self in
    let long = length-set c.args.skips.now c.in_ok-t.t c.args.skip in (
      row_fits q.tiles_x q.tiles_y c.args.tile_row _ a.row (omega (arith, long, a.skips_fit)),
      few_across a.grid,
    )

pub offset_bounds-open_tiles-tile_row : goal.offset_bounds-open_tiles-tile_row
offset_bounds-open_tiles-tile_row c =
    let a = accepted (goal.at.offset_bounds-open_tiles-tile_row c).In_ok-t in omega (arith, a.row, few_down a.grid)

pub bounds-open_tiles-tile_row : goal.bounds-open_tiles-tile_row
bounds-open_tiles-tile_row c =
    let a = accepted (goal.at.bounds-open_tiles-tile_row c).In_ok-t in omega (arith, a.row, a.open_tiles_fit)

pub returns : goal.returns
returns c =
    is_set c.args.skip (lent (goal.at.returns c).Start) (sym c.in_ok-t.ensures) refl c.count_row.ensures
