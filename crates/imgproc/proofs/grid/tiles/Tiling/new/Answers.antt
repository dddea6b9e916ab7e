-- `new` meets its contract: settings that were accepted have tile sides above 0. Assumes nothing.
use mathlib.Core.Path.{sym}
use Rattle.imgproc.specs.GridMeans.{sides_accepted, sized_of}
use Rattle.imgproc.proofs.grid.tiles.Tiling.new.Goals as goal

pub invariant_of-result : goal.invariant_of-result
invariant_of-result c =
    let d = sides_accepted c.args.config (sym c.in_ok-check_settings.ensures) in
    record { sized = sized_of c.args.source.kept d.0 d.1 }
