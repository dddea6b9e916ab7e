-- `read_picture` meets its contract: opened, marked, judged, and one tally read out. Assumes nothing.
use Rattle.imgproc.proofs.reading.Done.{read_done}
use Rattle.imgproc.proofs.reading.read_picture.Goals as goal

pub returns : goal.returns
returns c =
    read_done c.requires c.start.ensures c.flatten_and_open-tally.ensures c.mark_tiles.ensures.marks
    c.mark_tiles.ensures.counted c.judge_picture-judged.ensures c.judge_picture-judged.auto.u64s
