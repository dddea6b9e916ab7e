-- What the checks of a build, of a query and of a call about a tile say where they accept; and that a query accepts the
-- grid over a picture. Assumes nothing.
use Rattle.std.specs.Prelude.{Ok}
use Rattle.std.specs.Prelude.{◌≡◌, refl, ℕ, ◌*◌, ◌/◌, ◌≤◌, ◌<◌, Bool, true, false, not, ◌&&◌, ◌||◌}
use Rattle.std.specs.Prelude.{List, ltb, eqb, length, get_or}
use Rattle.std.proofs.Common.{pos_of_ne-zero, arith, ap, ◌∙◌, ltb-true, ltb-false, le-ltb, lt-ltb, eq-eqb, ne_eqb}
use Rattle.std.proofs.lemmas.Bool.{eqb-false, not-false}
use Rattle.image.specs.declared.Geometry.{Geometry}
use Rattle.image.specs.declared.LumaError.TheVariants.{OutsidePicture}
use Rattle.image.specs.Answers.{accepted}
use Rattle.image.specs.Layout.{side_limit, Kept}
use Rattle.image.specs.LayoutLaws.{neither, both}
use Rattle.imgproc.specs.declared.ImgProcError.TheVariants.{
  Image,
  InvalidConfiguration,
  WorkspaceTooSmall,
  GridBufferTooSmall,
}
use Rattle.imgproc.specs.declared.grid.config.TileThresholdConfig.{TileThresholdConfig}
use Rattle.imgproc.specs.declared.grid.queries.TileThresholdGrid.{TileThresholdGrid}
use Rattle.imgproc.specs.Refusals.{Conditions, first, ◌then◌, refused_if, view_conditions}
use Rattle.imgproc.specs.RefusalLaws.{both_accepted, not_refused, view_kept, then_accepted, passes, passes_last}
use Rattle.imgproc.specs.Grid.{tiles_x_of, tiles_y_of}
use Rattle.imgproc.specs.GridLaws.{sample_tile}
use Rattle.imgproc.specs.GridCalls.{
  usable_method,
  grid_settings,
  grid_room,
  BuildLent,
  tiles_lent,
  tiles_from,
  build_conditions,
  grid_over,
  bad_side,
  bad_grid,
  grid_conditions,
  asked_conditions,
  row_conditions,
  row_skip_asked,
}
use Rattle.imgproc.specs.Blanking.{tile_conditions}
use Rattle.imgproc.specs.Tiles.{Sized, Rooms}

-- tile sides above 0
pub sides_accepted :
    (g : TileThresholdConfig) → first (grid_settings g) ≡ Ok tt → (0 < g.tile_width) × (0 < g.tile_height)
unfolding grid_settings
sides_accepted g e =
    let w = eqb g.tile_width 0 in
    let h = eqb g.tile_height 0 in
    let m = not (usable_method g.method) in
    let a = neither (w || h) m (not_refused (w || h || m) InvalidConfiguration e) in
    let b = neither w h a.0 in (pos_of_ne-zero (eqb-false _ _ b.0), pos_of_ne-zero (eqb-false _ _ b.1))

-- a picture of a valid layout, and such tile sides
pub sized_of : {n : ℕ} {v : Geometry} {g : TileThresholdConfig} → Kept n v → 0 < g.tile_width → 0 < g.tile_height
    → Sized g v.width v.height
sized_of k w h = record {
  wide = k.wide;
  high = k.high;
  small_width = k.small_width;
  small_height = k.small_height;
  tile_width = w;
  tile_height = h;
}

-- the room of what was lent: its tiles, and its four buffers
abbrev pub room_of : BuildLent → Conditions
room_of lent =
    grid_room (tiles_from lent)
    (length lent.workspace) (length lent.thresholds) (length lent.skips) (length lent.open_tiles)

-- buffers that hold its tiles, and its tile rows
pub room_accepted : (lent : BuildLent) → first (room_of lent) ≡ Ok tt → Rooms lent
room_accepted lent e =
    let t = tiles_lent lent in
    let short = ltb (length lent.workspace) (5 * t) in
    let few = ltb (length lent.thresholds) t in
    let less = ltb (length lent.skips) t in
    let rows = ltb (length lent.open_tiles) (tiles_from lent).tiles_y in
    let any = few || less || rows in
    let a = both_accepted (refused_if short WorkspaceTooSmall) (refused_if any GridBufferTooSmall) e in
    let b = neither (few || less) rows (not_refused any GridBufferTooSmall a.1) in
    let c = neither few less b.0 in
    record {
      workspace = ltb-false _ _ (not_refused short WorkspaceTooSmall a.0);
      thresholds = ltb-false _ _ c.0;
      skips = ltb-false _ _ c.1;
      open_tiles = ltb-false _ _ b.1;
    }

-- an accepted build: its picture and its tile sides, and its buffers
module _ (lent : BuildLent) (said : first (build_conditions lent) ≡ Ok tt) where
  parts : (first (view_conditions (length lent.src) lent.source) ≡ Ok tt)
      × ((first (grid_settings lent.settings) ≡ Ok tt) × (first (room_of lent) ≡ Ok tt))
  parts =
      let rest = grid_settings lent.settings then room_of lent in
      let p = both_accepted (view_conditions (length lent.src) lent.source) rest said in
      (p.0, both_accepted (grid_settings lent.settings) (room_of lent) p.1)

  pub build_sized : Sized lent.settings lent.source.width lent.source.height
  build_sized =
      let t = sides_accepted lent.settings parts.1.0 in
      sized_of (view_kept (length lent.src) lent.source parts.0) t.0 t.1

  pub build_rooms : Rooms lent
  build_rooms = room_accepted lent parts.1.1

-- ---- queries

-- what was asked of a grid and accepted has buffers that are long enough, and a place inside
module _ (short inside : Bool) (said : first (asked_conditions short inside) ≡ Ok tt) where
  asked : (first (refused_if short GridBufferTooSmall) ≡ Ok tt)
      × (first (refused_if (not inside) (Image OutsidePicture)) ≡ Ok tt)
  asked = both_accepted (refused_if short GridBufferTooSmall) (refused_if (not inside) (Image OutsidePicture)) said

  pub long_enough : short ≡ false
  long_enough = not_refused short GridBufferTooSmall asked.0

  pub is_inside : inside ≡ true
  is_inside = not-false inside (not_refused (not inside) (Image OutsidePicture) asked.1)

-- both coordinates of a place are
pub both_inside : (x w y h : ℕ) → (ltb x w && ltb y h) ≡ true → (x < w) × (y < h)
both_inside x w y h e = let b = both (ltb x w) (ltb y h) e in (ltb-true _ _ b.0, ltb-true _ _ b.1)

-- the tile that an accepted call names is one of the grid's
pub tile_named : (q : TileThresholdGrid) (len open_room i j : ℕ)
    → first (tile_conditions q len open_room i j) ≡ Ok tt → (i < q.tiles_x) × (j < q.tiles_y)
tile_named q len open_room i j said =
    let short = ltb len (q.tiles_x * q.tiles_y) || ltb open_room q.tiles_y in
    let there = ltb i q.tiles_x && ltb j q.tiles_y in
    both_inside i q.tiles_x j q.tiles_y
    (is_inside short there (both_accepted (grid_conditions q) (asked_conditions short there) said).1)

good_side : (n : ℕ) → 0 < n → n ≤ side_limit → bad_side n ≡ false
good_side n some small = rw (ne_eqb n 0 (λ (z : n ≡ 0). omega arith)) (le-ltb side_limit n small)

module _ {g : TileThresholdConfig} {w h : ℕ} (z : Sized g w h) where
  -- the grid over a picture is not refused
  good_grid : bad_grid (grid_over g w h) ≡ false
  unfolding bad_grid
  good_grid =
      rw (
        good_side w z.wide z.small_width,
        good_side h z.high z.small_height,
        ne_eqb g.tile_width 0 (λ (e : g.tile_width ≡ 0). omega (arith, z.tile_width)),
        ne_eqb g.tile_height 0 (λ (e : g.tile_height ≡ 0). omega (arith, z.tile_height)),
        eq-eqb (tiles_x_of g w) (tiles_x_of g w) refl,
        eq-eqb (tiles_y_of g h) (tiles_y_of g h) refl,
      ) refl

  -- asked about a pixel row of the picture, with a number for each tile row, it answers whether the row's number is 0
  module _ (d : List ℕ) (long : tiles_y_of g h ≤ length d) (y : ℕ) (Y : y < h) where
    pub row_inside : y / g.tile_height < tiles_y_of g h
    row_inside = sample_tile h g.tile_height y z.tile_height Y

    row_accepted : first (row_conditions (grid_over g w h) (length d) y) ≡ Ok tt
    row_accepted =
        let q = grid_over g w h in
        let short = ltb (length d) (tiles_y_of g h) in
        let inside = ltb y h in
        then_accepted (grid_conditions q) (asked_conditions short inside)
        (passes_last (bad_grid q) InvalidConfiguration good_grid)
        ∙ passes short GridBufferTooSmall (refused_if (not inside) (Image OutsidePicture))
        (le-ltb (length d) (tiles_y_of g h) long)
        ∙ passes_last (not inside) (Image OutsidePicture) (ap not (lt-ltb y h Y))

    pub row_answers : row_skip_asked (grid_over g w h) d y ≡ accepted (eqb (get_or d (y / g.tile_height) 0) 0)
    row_answers = rw row_accepted
