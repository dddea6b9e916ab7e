-- `build` is refused by its layout, its settings or its room, and else fills its buffers. Assumes nothing.
use Rattle.std.proofs.Common.{sym}
use Rattle.imgproc.specs.GridCalls.{BuildLent}
use Rattle.imgproc.proofs.WaysOut.{passed}
use Rattle.imgproc.specs.GridMeans.{room_accepted}
use Rattle.imgproc.proofs.grid.Building.{layout_refused, settings_refused, room_refused, built}
use Rattle.imgproc.proofs.grid.queries.TileThresholdGrid.build.Goals as goal
use Rattle.imgproc.proofs.grid.queries.TileThresholdGrid.build.Goals.{Start}

-- what it is lent
abbrev lent : Start → BuildLent
lent s =
    let a = s.args in
    record {
      src = a.src.now;
      source = a.geometry;
      settings = a.config;
      workspace = a.workspace.now;
      thresholds = a.thresholds.now;
      skips = a.skips.now;
      open_tiles = a.open_tiles.now;
    }

pub returns-in_err-source : goal.returns-in_err-source
returns-in_err-source c = rw (passed _ c.from_residual.ensures.1) (layout_refused (lent (goal.at.returns-in_err-source c).Start) c.in_err-source.ensures)

pub returns-in_err-tiling : goal.returns-in_err-tiling
returns-in_err-tiling c =
    rw (passed _ c.from_residual-in_err-tiling.ensures.1)
    (settings_refused (lent (goal.at.returns-in_err-tiling c).Start) c.in_ok-source.ensures.2 c.in_err-tiling.ensures)

pub returns-in_err-check_room : goal.returns-in_err-check_room
returns-in_err-check_room c =
    let s = c.in_ok-source.ensures in
    let t = c.in_ok-tiling.ensures in
    rw (passed _ c.from_residual-in_err-check_room.ensures.1)
    (room_refused (lent (goal.at.returns-in_err-check_room c).Start) s.2 t.2
    (sym (rw (t.0, t.1, s.1) at c.in_err-check_room.ensures)))

pub fill-requires : goal.fill-requires
fill-requires c =
    let s = c.in_ok-source.ensures in
    let t = c.in_ok-tiling.ensures in
    rw (t.0, t.1, s.0, s.1)
    (room_accepted (lent (goal.at.fill-requires c).Start) (sym (rw (t.0, t.1, s.1) at c.in_ok-check_room.ensures)))

pub returns : goal.returns
returns c =
    let s = c.in_ok-source.ensures in
    let t = c.in_ok-tiling.ensures in
    rw (c.counts.ensures, t.0, t.1, s.1)
    (built (lent (goal.at.returns c).Start) s.2 t.2
    (sym (rw (t.0, t.1, s.1) at c.in_ok-check_room.ensures))
    (rw (t.0, t.1, s.0, s.1) at c.fill.ensures))
