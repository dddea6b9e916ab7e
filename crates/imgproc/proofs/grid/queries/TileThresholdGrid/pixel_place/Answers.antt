-- The tile of the pixel is one of the grid's, whose tiles are few. Assumes nothing.
use Rattle.std.proofs.Common.{arith, sym, ◌∙◌, ◌<◌}
use Rattle.imgproc.specs.Grid.{tiles_limit}
use Rattle.imgproc.specs.GridCalls.{tile_of}
use Rattle.imgproc.specs.GridMeans.{is_inside, both_inside}
use Rattle.imgproc.proofs.grid.queries.Grids.{sound_of, few_tiles, pixel_inside}
use Rattle.imgproc.proofs.grid.queries.TileThresholdGrid.pixel_place.Goals as goal
use Rattle.imgproc.proofs.grid.queries.TileThresholdGrid.pixel_place.Goals.{In_ok-check_asked}

within : (c : In_ok-check_asked)
    → let a = c.args in
    tile_of a.self a.x a.y < tiles_limit
within c =
    let a = c.args in
    let z = sound_of a.self (sym c.in_ok-check_grid.ensures) in
    let i = both_inside a.x _ a.y _ (sym c.holds_pixel.ensures ∙ is_inside _ _ (sym c.in_ok-check_asked.ensures)) in
    omega (arith, few_tiles z, pixel_inside z a.x a.y i.0 i.1)

pub overflow_mul-self : goal.overflow_mul-self
overflow_mul-self c = omega (arith, few_tiles (sound_of _ (sym c.in_ok-check_grid.ensures)))

pub nonzero_div-result : goal.nonzero_div-result
nonzero_div-result c = (sound_of _ (sym c.in_ok-check_grid.ensures)).tile_height

pub overflow_mul-result : goal.overflow_mul-result
overflow_mul-result c = omega (arith, within (goal.at.overflow_mul-result c).In_ok-check_asked)

pub nonzero_div-result-2 : goal.nonzero_div-result-2
nonzero_div-result-2 c = (sound_of _ (sym c.in_ok-check_grid.ensures)).tile_width

pub overflow_add-result : goal.overflow_add-result
overflow_add-result c = omega (arith, within (goal.at.overflow_add-result c).In_ok-check_asked)
