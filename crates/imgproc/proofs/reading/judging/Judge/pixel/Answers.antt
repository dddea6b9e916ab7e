-- `pixel` meets its contract: the tile's mark first, then the threshold. Assumes nothing.
use native.Mathlib.Omega.{arith}
use Prim.Native.Nat.{◌+◌, ◌*◌, ◌/◌, ◌<◌}
use lib.ListN.{length}
use Rattle.imgproc.proofs.reading.judging.Judgements.{tile_within, is_skipped_lem, is_dark_lem, is_light_lem}
use Rattle.imgproc.proofs.reading.judging.Judge.pixel.Goals as goal
use Rattle.imgproc.proofs.reading.judging.Judge.pixel.Goals.{After-tiles_along-tiles_x}

-- the tile's mark stands in the skips
within : (c : After-tiles_along-tiles_x)
    → let a = c.args in
    a.y / a.self.config.grid.tile_height * c.tiles_along-tiles_x.result + a.x / a.self.config.grid.tile_width < length a.self.skips.now
within c =
    let s = c.args.self in rw c.tiles_along-tiles_x.ensures (tile_within s.opened.kept s.ready c.requires.0 c.requires.1)

pub overflow_mul-tile : goal.overflow_mul-tile
overflow_mul-tile c = omega (arith, within (goal.at.overflow_mul-tile c).After-tiles_along-tiles_x)

pub overflow_add-tile : goal.overflow_add-tile
overflow_add-tile c = omega (arith, within (goal.at.overflow_add-tile c).After-tiles_along-tiles_x)

pub bounds-self-tile : goal.bounds-self-tile
bounds-self-tile c = within (goal.at.bounds-self-tile c).After-tiles_along-tiles_x

pub returns-then-self-tile-ne0 : goal.returns-then-self-tile-ne0
returns-then-self-tile-ne0 c =
    let s = c.args.self in
    is_skipped_lem s.opened.kept s.ready c.requires.0 c.requires.1 (λ z. c.if-self-tile-ne0.true (rw c.tiles_along-tiles_x.ensures z))

pub returns-then-from-threshold : goal.returns-then-from-threshold
returns-then-from-threshold c =
    let s = c.args.self in
    is_dark_lem s.opened.kept s.ready c.requires.0 c.requires.1
    (rw c.tiles_along-tiles_x.ensures at c.if-self-tile-ne0.false) c.at_pixel-threshold.ensures (rw c.from.ensures at c.if-from-threshold.true)

pub returns-else-from-threshold : goal.returns-else-from-threshold
returns-else-from-threshold c =
    let s = c.args.self in
    is_light_lem s.opened.kept s.ready c.requires.0 c.requires.1
    (rw c.tiles_along-tiles_x.ensures at c.if-self-tile-ne0.false) c.at_pixel-threshold.ensures (rw c.from.ensures at c.if-from-threshold.false)
