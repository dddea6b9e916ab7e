-- `flatten` packs, closes and divides; the copy is never refused. Assumes nothing.
use Rattle.imgproc.proofs.illumination.Runs.{flattened}
use Rattle.imgproc.proofs.illumination.flatten.Goals as goal

pub returns : goal.returns
returns c =
    flattened c.args.source.kept c.requires c.pack.ensures c.morph_rect_twice-raised.ensures c.divide_plane.ensures
