-- A grid that a query accepted: its sides, its tile counts, and where its tiles lie. Assumes nothing.
use Rattle.std.specs.Prelude.{Ok, Err}
use mathlib.Core.Path.{◌≡◌, refl}
use mathlib.Core.Bool.{Bool, true, false, not, ◌&&◌, ◌||◌}
use Prim.Native.Nat.{ℕ, ◌+◌, ◌*◌, ◌/◌, ◌≤◌, ◌<◌}
use native.Mathlib.Nat.{pos_of_ne-zero}
use native.Mathlib.Omega.{arith}
use lib.Dec.{ltb, eqb}
use borrow.Author.Tests.{ltb-true, ltb-false, eqb-true, eqb-false}
use Rattle.image.specs.Layout.{side_limit}
use Rattle.image.specs.LayoutLaws.{neither}
use Rattle.image.specs.PlaneLaws.{in_plane}
use Rattle.imgproc.specs.declared.ImgProcError.{ImgProcError}
use Rattle.imgproc.specs.declared.ImgProcError.TheVariants.{InvalidConfiguration}
use Rattle.imgproc.specs.declared.grid.queries.TileThresholdGrid.{TileThresholdGrid}
use Rattle.imgproc.specs.Reach.{ceiling}
use Rattle.imgproc.specs.Grid.{tiles_limit}
use Rattle.imgproc.specs.GridLaws.{sample_tile, ceiling_small, tiles_small}
use Rattle.imgproc.specs.Blanking.{tile_conditions, tile_place}
use Rattle.imgproc.specs.GridCalls.{
  bad_side,
  bad_grid,
  grid_conditions,
  asked_conditions,
  query_conditions,
  Place,
  place_by,
  tile_of,
  tile_row_of,
  pixel_place,
  row_place,
}
use Rattle.imgproc.specs.Refusals.{Check, first}
use Rattle.std.proofs.lemmas.Bool.{not-false}
use Rattle.imgproc.specs.RefusalLaws.{both_accepted, not_refused}
use Rattle.imgproc.specs.GridMeans.{long_enough, is_inside, both_inside, tile_named}

-- a grid that is one
pub record Sound (q : TileThresholdGrid) : Type 0 where
  pub small_width : q.width ≤ side_limit
  pub small_height : q.height ≤ side_limit
  pub tile_width : 0 < q.tile_width
  pub tile_height : 0 < q.tile_height
  pub across : q.tiles_x ≡ ceiling q.width q.tile_width
  pub down : q.tiles_y ≡ ceiling q.height q.tile_height

small_side : (n : ℕ) → bad_side n ≡ false → n ≤ side_limit
small_side n e = ltb-false _ _ (neither (eqb n 0) (ltb side_limit n) e).1

pub sound : (q : TileThresholdGrid) → bad_grid q ≡ false → Sound q
unfolding bad_grid
sound q e =
    let n6 = neither _ (not (eqb q.tiles_y (ceiling q.height q.tile_height))) e in
    let n5 = neither _ (not (eqb q.tiles_x (ceiling q.width q.tile_width))) n6.0 in
    let n4 = neither _ (eqb q.tile_height 0) n5.0 in
    let n3 = neither _ (eqb q.tile_width 0) n4.0 in
    let n2 = neither (bad_side q.width) (bad_side q.height) n3.0 in
    record {
      small_width = small_side q.width n2.0;
      small_height = small_side q.height n2.1;
      tile_width = pos_of_ne-zero (eqb-false _ _ n3.1);
      tile_height = pos_of_ne-zero (eqb-false _ _ n4.1);
      across = eqb-true _ _ (not-false _ n5.1);
      down = eqb-true _ _ (not-false _ n6.1);
    }

-- its tiles are within their limit
pub few_tiles : {q : TileThresholdGrid} → Sound q → q.tiles_x * q.tiles_y ≤ tiles_limit
few_tiles s = tiles_small s.across s.down s.tile_width s.tile_height s.small_width s.small_height

module _ {q : TileThresholdGrid} (s : Sound q) where
  pub tile_row : (y : ℕ) → y < q.height → y / q.tile_height < q.tiles_y
  tile_row y Y = omega (arith, s.down, sample_tile q.height q.tile_height y s.tile_height Y)

  pub tile_column : (x : ℕ) → x < q.width → x / q.tile_width < q.tiles_x
  tile_column x X = omega (arith, s.across, sample_tile q.width q.tile_width x s.tile_width X)

-- a grid that was not refused is one
pub sound_of : (q : TileThresholdGrid) → first (grid_conditions q) ≡ Ok tt → Sound q
sound_of q e = sound q (not_refused (bad_grid q) InvalidConfiguration e)

-- ---- the places

module _ {q : TileThresholdGrid} (s : Sound q) where
  -- the tiles of a row, and the tile rows, are within the limit of a side
  pub few_across : q.tiles_x ≤ side_limit
  few_across = omega (arith, s.across, ceiling_small q.width q.tile_width s.tile_width, s.small_width)

  pub few_down : q.tiles_y ≤ side_limit
  few_down = omega (arith, s.down, ceiling_small q.height q.tile_height s.tile_height, s.small_height)

  -- the tile of pixel (x, y) is one of the grid's
  pub pixel_inside : (x y : ℕ) → x < q.width → y < q.height → tile_of q x y < q.tiles_x * q.tiles_y
  pixel_inside x y X Y = in_plane q.tiles_x q.tiles_y (x / q.tile_width) (y / q.tile_height) (tile_column s x X) (tile_row s y Y)

-- a place that was handed out
module _ (c : Check) (n i : ℕ) where
  pub placed : place_by c n ≡ Ok i → (c ≡ Ok tt) × (n ≡ i)
  placed = go c
    where
      same : {a b : ℕ} → ◌≡◌ {A = Place} (Ok a) (Ok b) → a ≡ b
      same {a} {b} e = cc

      go : (k : Check) → place_by k n ≡ Ok i → (k ≡ Ok tt) × (n ≡ i)
      go (Ok u) e = (refl, same e)
      go (Err x) e = let z : ◌≡◌ {A = ℕ} 0 1 = cc in absurd (omega arith)

-- and one that was refused
pub unplaced : (c : Check) (n : ℕ) {e : ImgProcError} → place_by c n ≡ Err e → c ≡ Err e
unplaced (Ok u) n e = let z : ◌≡◌ {A = ℕ} 0 1 = cc in absurd (omega arith)
unplaced (Err x) n e = cc

-- what was accepted before a place was handed out
pub record Asked (q : TileThresholdGrid) (short inside : Bool) (n i : ℕ) : Type 0 where
  pub grid : Sound q
  pub long : short ≡ false
  pub there : inside ≡ true
  pub is : n ≡ i

asked : (q : TileThresholdGrid) (short inside : Bool) (n i : ℕ)
    → place_by (first (query_conditions q short inside)) n ≡ Ok i → Asked q short inside n i
asked q short inside n i e =
    let p = placed (first (query_conditions q short inside)) n i e in
    let a = both_accepted (grid_conditions q) (asked_conditions short inside) p.0 in
    record {
      grid = sound_of q a.0;
      long = long_enough short inside a.1;
      there = is_inside short inside a.1;
      is = p.1;
    }

pub pixel_within : (q : TileThresholdGrid) (len x y i : ℕ) → pixel_place q len x y ≡ Ok i → i < len
pixel_within q len x y i e =
    let a = asked q (ltb len (q.tiles_x * q.tiles_y)) (ltb x q.width && ltb y q.height) (tile_of q x y) i e in
    let b = both_inside x q.width y q.height a.there in
    omega (arith, a.is, ltb-false _ _ a.long, pixel_inside a.grid x y b.0 b.1)

pub row_within : (q : TileThresholdGrid) (len y i : ℕ) → row_place q len y ≡ Ok i → i < len
row_within q len y i e =
    let a = asked q (ltb len q.tiles_y) (ltb y q.height) (tile_row_of q y) i e in
    omega (arith, a.is, ltb-false _ _ a.long, tile_row a.grid y (ltb-true _ _ a.there))

pub row_small : (q : TileThresholdGrid) (len y i : ℕ) → row_place q len y ≡ Ok i → i < side_limit
row_small q len y i e =
    let a = asked q (ltb len q.tiles_y) (ltb y q.height) (tile_row_of q y) i e in
    omega (arith, a.is, few_down a.grid, tile_row a.grid y (ltb-true _ _ a.there))

-- what an accepted call about tile (i, j) says
pub record TileAsked (q : TileThresholdGrid) (len open_room i j t : ℕ) : Type 0 where
  pub grid : Sound q
  pub skips_fit : q.tiles_x * q.tiles_y ≤ len
  pub open_tiles_fit : q.tiles_y ≤ open_room
  pub column : i < q.tiles_x
  pub row : j < q.tiles_y
  pub is : j * q.tiles_x + i ≡ t

pub tile_asked : (q : TileThresholdGrid) (len open_room i j t : ℕ) → tile_place q len open_room i j ≡ Ok t
    → TileAsked q len open_room i j t
tile_asked q len open_room i j t e =
    let few = ltb len (q.tiles_x * q.tiles_y) in
    let less = ltb open_room q.tiles_y in
    let place = j * q.tiles_x + i in
    let a = asked q (few || less) (ltb i q.tiles_x && ltb j q.tiles_y) place t e in
    let n = neither few less a.long in
    let named = tile_named q len open_room i j (placed (first (tile_conditions q len open_room i j)) place t e).0 in
    record {
      grid = a.grid;
      skips_fit = ltb-false _ _ n.0;
      open_tiles_fit = ltb-false _ _ n.1;
      column = named.0;
      row = named.1;
      is = a.is;
    }
