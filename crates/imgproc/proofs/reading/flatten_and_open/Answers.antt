-- `flatten_and_open` meets its contract: what the closing's tally hands back is what the opening is given. Assumes nothing.
use Rattle.imgproc.proofs.reading.Runs.{open_ready}
use Rattle.imgproc.proofs.reading.flatten_and_open.Goals as goal

pub morph_rect_twice-requires : goal.morph_rect_twice-requires
morph_rect_twice-requires c =
    open_ready c.args.source.kept.wide c.requires c.flatten-raised.ensures
