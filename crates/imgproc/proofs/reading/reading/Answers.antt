-- `reading` meets its contract: it is refused by its pair, its settings or its room, and else reads. Assumes nothing.
use Rattle.std.proofs.Common.{sym}
use Rattle.imgproc.specs.Reading.{ReadingLent}
use Rattle.imgproc.proofs.WaysOut.{passed}
use Rattle.imgproc.proofs.reading.Ways.{refused_by_pair, refused_by_settings, refused_by_room, sized, ready, done}
use Rattle.imgproc.proofs.reading.reading.Goals as goal
use Rattle.imgproc.proofs.reading.reading.Goals.{Start}

-- what it is lent
abbrev lent : Start → ReadingLent
lent s =
    let a = s.args in
    record {
      src = a.src.now;
      source = a.src_geometry;
      dst = a.dst.now;
      target = a.dst_geometry;
      settings = a.config;
      bytes = a.bytes.now;
      u64s = a.u64s.now;
      open_tiles = a.open_tiles.now;
    }

pub returns-in_err-source : goal.returns-in_err-source
returns-in_err-source c =
    rw (passed _ c.from_residual.ensures.1) (refused_by_pair (lent (goal.at.returns-in_err-source c).Start) c.in_err-source.ensures)

pub returns-in_err-check_settings : goal.returns-in_err-check_settings
returns-in_err-check_settings c =
    rw (passed _ c.from_residual-in_err-check_settings.ensures.1)
    (refused_by_settings (lent (goal.at.returns-in_err-check_settings c).Start) c.in_ok-source.ensures.2 (sym c.in_err-check_settings.ensures))

pub invariant_of-tiling : goal.invariant_of-tiling
invariant_of-tiling c =
    let s = c.in_ok-source.ensures in
    record { sized = rw s.1 (sized (lent (goal.at.invariant_of-tiling c).Start) s.2 (sym c.in_ok-check_settings.ensures)) }

pub returns-in_err-check_room : goal.returns-in_err-check_room
returns-in_err-check_room c =
    let s = c.in_ok-source.ensures in
    rw (passed _ c.from_residual-in_err-check_room.ensures.1)
    (refused_by_room (lent (goal.at.returns-in_err-check_room c).Start) c.in_ok-source.ensures.2 (sym c.in_ok-check_settings.ensures)
    (sym (rw s.1 at c.in_err-check_room.ensures)))

pub read_picture-requires : goal.read_picture-requires
read_picture-requires c =
    let s = c.in_ok-source.ensures in
    rw (s.0, s.1)
    (ready (lent (goal.at.read_picture-requires c).Start) s.2 (sym c.in_ok-check_settings.ensures) (sym (rw s.1 at c.in_ok-check_room.ensures)))

pub returns : goal.returns
returns c =
    let s = c.in_ok-source.ensures in
    done (lent (goal.at.returns c).Start) s.2 (sym c.in_ok-check_settings.ensures) (sym (rw s.1 at c.in_ok-check_room.ensures))
    (rw (s.0, s.1) at c.read_picture.ensures)
