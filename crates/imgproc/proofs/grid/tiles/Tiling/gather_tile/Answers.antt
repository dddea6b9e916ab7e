-- `gather_tile` meets its contract. Assumes nothing.
use mathlib.Core.Path.{ap, ◌∙◌, subst}
use Prim.Native.Nat.{◌+◌, ◌*◌, ◌/◌, ◌%◌, ◌<◌}
use native.Mathlib.Omega.{arith}
use Rattle.image.specs.Plane.{pixel, overwritten}
use Rattle.imgproc.specs.declared.grid.TileCounts.{TileCounts}
use Rattle.imgproc.specs.declared.grid.tiles.TileNumbers.{TileNumbers}
use Rattle.imgproc.specs.Tiles.{numbers_in, tile}
use Rattle.imgproc.specs.Gathering.{five}
use Rattle.imgproc.specs.GatheringLaws.{this_tile}
use Rattle.imgproc.proofs.grid.tiles.Tiling.gather_tile.Goals as goal

pub returns : goal.returns
returns c =
    let s = c.args.self.source in
    let n = c.args.n in
    let f = pixel s.pixels.now s.geometry.stride in
    let own =
    c.of_area-numbers.ensures
    ∙ ap (numbers_in f) c.tile-tile.ensures.area
    ∙ ap
    (λ (k : TileCounts). numbers_in f (tile c.args.self.config s.geometry.width s.geometry.height (n % k.tiles_x) (n / k.tiles_x)))
    c.counts-tiles_x.ensures in
    this_tile _ c.args.at n c.requires.1
    (c.store.ensures ∙ ap (λ (m : TileNumbers). overwritten (c.args.at + 5 * n) (five m) c.args.workspace.now) own)
    (subst (λ (m : TileNumbers). m.maximum < 256) own (omega arith))
