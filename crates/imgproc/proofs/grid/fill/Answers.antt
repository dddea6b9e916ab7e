-- `fill` meets its contract. Assumes nothing.
use Rattle.std.proofs.Common.{arith}
use Rattle.image.specs.Plane.{picture}
use Rattle.imgproc.specs.OpenLaws.{filled_count}
use Rattle.imgproc.specs.Gathering.{Tiled}
use Rattle.imgproc.proofs.grid.tiles.Gathering.{AllGathered, gathered_all}
use Rattle.imgproc.proofs.grid.tiles.Counts.{across}
use Rattle.imgproc.proofs.grid.bytes.Tables.{thresholds_are, skips_are}
use Rattle.imgproc.proofs.grid.fill.Goals as goal
use Rattle.imgproc.proofs.grid.fill.Goals.{After-gather}

-- the picture and its grid, and the numbers of all its tiles as `gather` leaves them
module _ (c : After-gather) where
  abbrev tiled : Tiled
  tiled = let t = c.args.tiling in record { src = t.source.pixels.now; source = t.source.geometry; settings = t.config }

  got : AllGathered tiled 0 c.gather.new.workspace
  got = let n = c.total.ensures.0 in gathered_all tiled 0 c.args.workspace.now n (omega (arith, c.requires.workspace, n)) c.gather.ensures

pub new-table-requires : goal.new-table-requires
new-table-requires c = record { picture = _; gathered = got (goal.at.new-table-requires c).After-gather }

pub count_open-requires : goal.count_open-requires
count_open-requires c =
    let z = c.args.tiling.sized in
    let long = c.write_bytes-2.auto.bytes in
    rw c.counts.ensures (
      omega (arith, long, c.requires.skips),
      (c.requires.open_tiles, across z),
    )

pub returns : goal.returns
returns c =
    let z = c.args.tiling.sized in
    let p = tiled (goal.at.returns c).After-gather in
    let g = got (goal.at.returns c).After-gather in
    let t = c.new-table.ensures in
    let bytes = rw (t.0, t.1, t.2, t.3, skips_are p 0 z g) at c.write_bytes-2.ensures in
    record {
      thresholds_left = rw (t.0, t.1, t.2, t.3, thresholds_are p 0 z g) at c.write_bytes.ensures;
      skips_left = bytes;
      open_tiles_left =
          rw (c.counts.ensures, bytes, filled_count p.settings p.source.width p.source.height (picture p.src p.source) c.args.skips.now c.requires.skips)
          at c.count_open.ensures;
      long = c.gather.auto.workspace;
    }
