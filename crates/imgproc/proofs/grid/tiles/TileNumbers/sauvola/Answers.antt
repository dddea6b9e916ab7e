-- `sauvola` meets its contract. Assumes nothing.
use mathlib.Core.Path.{ap, ◌∙◌}
use lib.Ieee.{of_bits}
use Rattle.imgproc.specs.Grid.{count_to}
use Rattle.imgproc.proofs.grid.base.Steps.{sauvola_is}
use Rattle.imgproc.proofs.grid.tiles.TileNumbers.sauvola.Goals as goal

pub returns : goal.returns
unfolding of_bits
returns c =
    let n = c.args.self in
    c.rounded.ensures
    ∙ ap (count_to 255)
    (sauvola_is n.sum n.sum_sq n.count c.args.floats.k c.args.floats.dynamic_range _ _ _
    c.mean-m.ensures
    c.variance.ensures
    c.root-s.ensures)
