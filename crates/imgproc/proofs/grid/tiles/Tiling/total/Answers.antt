-- `total` meets its contract: no product of the two counts wraps. Assumes nothing.
use native.Mathlib.Omega.{arith}
use Prim.Native.Nat.{◌*◌, ◌≤◌}
use mathlib.Core.Path.{ap}
use Rattle.imgproc.specs.declared.grid.TileCounts.{TileCounts}
use Rattle.imgproc.specs.Grid.{tiles_limit}
use Rattle.imgproc.proofs.grid.tiles.Counts.{few}
use Rattle.imgproc.proofs.grid.tiles.Tiling.total.Goals as goal
use Rattle.imgproc.proofs.grid.tiles.Tiling.total.Goals.{After-counts-tiles}

-- the product is that of the definition's counts
within : (c : After-counts-tiles) → c.counts-tiles.result.tiles_x * c.counts-tiles.result.tiles_y ≤ tiles_limit
within c =
    let e = c.counts-tiles.ensures in
    few c.args.self.sized (ap (λ (t : TileCounts). t.tiles_x) e) (ap (λ (t : TileCounts). t.tiles_y) e)

pub overflow_mul-result : goal.overflow_mul-result
overflow_mul-result c = omega (arith, within (goal.at.overflow_mul-result c).After-counts-tiles)

pub returns : goal.returns
returns c = (ap (λ (t : TileCounts). t.tiles_x * t.tiles_y) c.counts-tiles.ensures, within (goal.at.returns c).After-counts-tiles)
