-- The tile is one of the grid's, whose tiles are few. Assumes nothing.
use Rattle.std.proofs.Common.{arith, sym, ◌∙◌, ◌+◌, ◌*◌, ◌<◌}
use Rattle.image.specs.PlaneLaws.{in_plane}
use Rattle.imgproc.specs.Grid.{tiles_limit}
use Rattle.imgproc.specs.GridMeans.{is_inside, both_inside}
use Rattle.imgproc.proofs.grid.queries.Grids.{sound_of, few_tiles}
use Rattle.imgproc.proofs.grid.queries.TileThresholdGrid.tile_place.Goals as goal
use Rattle.imgproc.proofs.grid.queries.TileThresholdGrid.tile_place.Goals.{In_ok-check_asked}

within : (c : In_ok-check_asked)
    → let a = c.args in
    a.j * a.self.tiles_x + a.i < tiles_limit
within c =
    let a = c.args in
    let z = sound_of a.self (sym c.in_ok-check_grid.ensures) in
    let i = both_inside a.i _ a.j _ (sym c.holds_tile.ensures ∙ is_inside _ _ (sym c.in_ok-check_asked.ensures)) in
    omega (arith, few_tiles z, in_plane a.self.tiles_x a.self.tiles_y a.i a.j i.0 i.1)

pub overflow_mul-self : goal.overflow_mul-self
overflow_mul-self c = omega (arith, few_tiles (sound_of _ (sym c.in_ok-check_grid.ensures)))

pub overflow_mul-result : goal.overflow_mul-result
overflow_mul-result c = omega (arith, within (goal.at.overflow_mul-result c).In_ok-check_asked)

pub overflow_add-result : goal.overflow_add-result
overflow_add-result c = omega (arith, within (goal.at.overflow_add-result c).In_ok-check_asked)
