use Rattle.imgproc.specs.GatheringLaws.{none_yet, next_tile}
use Rattle.imgproc.proofs.grid.tiles.Tiling.gather.Goals as goal

pub loop-t-init : goal.loop-t-init
loop-t-init c = none_yet _ c.args.at _

pub loop-t-preserved : goal.loop-t-preserved
loop-t-preserved c = next_tile _ c.args.at c.loop-t.t c.loop-t.invariant c.gather_tile.ensures
