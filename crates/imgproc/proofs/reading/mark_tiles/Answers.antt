-- `mark_tiles` meets its contract: the marks are the skips of the opened picture, which stays as it was, and the counts theirs. Assumes nothing.
use Rattle.std.proofs.Common.{arith, ap, ◌∙◌, ◌≡◌, ℕ, ◌+◌, ◌-◌, ◌*◌}
use Rattle.image.specs.Plane.{part}
use Rattle.image.specs.PlaneLaws.{length_part}
use Rattle.imgproc.specs.ReadingSteps.{Marks}
use Rattle.imgproc.specs.GridCalls.{tile_count}
use Rattle.imgproc.specs.OpenLaws.{skips_count}
use Rattle.imgproc.proofs.grid.tiles.Counts.{across}
use Rattle.imgproc.proofs.grid.tiles.Gathering.{AllGathered, gathered_all}
use Rattle.imgproc.proofs.reading.Runs.{tiled, sized, marked}
use Rattle.imgproc.proofs.reading.mark_tiles.Goals as goal
use Rattle.imgproc.proofs.reading.mark_tiles.Goals.{After-gather, After-write_bytes}

-- the numbers of all tiles of the opened picture, as `gather` leaves them
module _ (c : After-gather) where
  got : AllGathered (tiled c.requires.room) 0 c.gather.new.workspace
  got =
      let n = c.total-total.ensures.0 in
      gathered_all (tiled c.requires.room) 0 c.args.u64s.now n (omega (arith, c.requires.room, n)) c.gather.ensures

pub new-table-requires : goal.new-table-requires
new-table-requires c = record { picture = _; gathered = got (goal.at.new-table-requires c).After-gather }

-- the skips, as they are handed out to be counted
module _ (c : After-write_bytes) (gathered : AllGathered (tiled c.requires.room) 0 c.gather.new.workspace) where
  marks : Marks c.args.packed c.args.config c.args.marks c.args.bytes.now c.args.u64s.now c.write_bytes.new.bytes c.gather.new.workspace
  marks =
      let t = c.new-table.ensures in
      marked c.requires.room c.gather.auto.workspace gathered (rw (t.0, t.1, t.2, t.3) at c.write_bytes.ensures)

pub count_open-requires : goal.count_open-requires
count_open-requires c =
    let r = c.requires.room in
    let n = c.total-total.ensures.0 in
    let long = (marks (goal.at.count_open-requires c).After-write_bytes (got (goal.at.count_open-requires c).After-gather)).bytes_long in
    rw c.new-table.ensures.2 (
      omega (arith, length_part c.args.marks (c.args.marks + c.total-total.result - c.args.marks) c.write_bytes.new.bytes (omega (arith, n, long, r.bytes_fit)), n),
      (c.requires.rows, across (sized r)),
    )

pub returns-clause-marks : goal.returns-clause-marks
returns-clause-marks c = marks (goal.at.returns-clause-marks c).After-write_bytes (got (goal.at.returns-clause-marks c).After-gather)

pub returns-clause-counted : goal.returns-clause-counted
returns-clause-counted c =
    let s = c.args in
    let m = marks (goal.at.returns-clause-counted c).After-write_bytes (got (goal.at.returns-clause-counted c).After-gather) in
    let bytes = c.write_bytes.new.bytes in
    let count : s.marks + c.total-total.result - s.marks ≡ tile_count s.config.grid s.packed.width s.packed.height =
    omega (arith, c.total-total.ensures.0) in
    let skips = ap (λ (n : ℕ). part s.marks n bytes) count ∙ m.skips in
    let opened = part 0 (s.packed.width * s.packed.height) s.bytes.now in
    rw (c.new-table.ensures.2, skips, skips_count s.config.grid s.packed.width s.packed.height opened)
    at c.count_open.ensures
