-- The numbers of a box of tiles, joined, are those of all its pixels; so the numbers joined around a tile are those of its neighbourhood,
-- and a workspace that was gathered is small enough for every sum. Assumes nothing.
use mathlib.Core.Path.{◌≡◌, sym, ap, ap₂, ◌∙◌, subst}
use mathlib.Core.List.{List}
use Prim.Native.Nat.{ℕ, zero, suc, ◌+◌, ◌-◌, ◌≤◌, ◌<◌}
use native.Mathlib.Nat.{add-zero, add-suc, suc-mul, mul-le-mul_right, le_trans}
use native.Mathlib.Omega.{arith}
use Rattle.imgproc.specs.declared.grid.config.TileThresholdConfig.{TileThresholdConfig}
use Rattle.imgproc.specs.Fold.{Box}
use Rattle.imgproc.specs.Extremes.{Some}
use Rattle.imgproc.specs.Reach.{low, high, ceiling}
use Rattle.imgproc.specs.Grid.{tiles_x_of, tiles_y_of, tile_from, tile_to, around}
use Rattle.imgproc.specs.GridLaws.{tile_starts, tile_some, around_some}
use Rattle.imgproc.specs.Tiles.{Sized, numbers_in, joined, join_from, join_over, tile_entry, Gathered, ProperGrid, Proper, joined_around}
use Rattle.imgproc.specs.declared.grid.tiles.TileNumbers.{TileNumbers}
use Rattle.imgproc.proofs.grid.tiles.Joins.{join_maximum}
use Rattle.imgproc.proofs.grid.tiles.Numbers.{below, beside, proper}

-- ---- along an axis of n samples with tiles of t

module _ (n t : ℕ) (T : 0 < t) where
  -- the next tile starts after it
  tiles_meet : (i : ℕ) → suc i < ceiling n t → tile_to t n i + 1 ≡ tile_from t (suc i)
  tiles_meet i I = omega (arith, tile_starts n t (suc i) T I, suc-mul i t)

  -- tiles a..i start before they end, and end before the next does
  tiles_some : (a i : ℕ) → a ≤ i → i < ceiling n t → tile_from t a ≤ tile_to t n i
  tiles_some a i h I = le_trans (mul-le-mul_right t h) (tile_some n t i T I)

  tiles_grow : (i : ℕ) → suc i < ceiling n t → tile_to t n i < tile_to t n (suc i)
  tiles_grow i I = omega (arith, tile_starts n t (suc i) T I, suc-mul i t)

module _ (f : ℕ → ℕ → ℕ) (g : TileThresholdConfig) (w h at : ℕ) (ws : List ℕ) (z : Sized g w h) (G : Gathered f g w h at ws) where
  -- the pixels of the tiles a..i of the tile rows b..j
  abbrev tiles_box : ℕ → ℕ → ℕ → ℕ → Box
  tiles_box a i b j = record {
    left = tile_from g.tile_width a;
    right = tile_to g.tile_width w i;
    top = tile_from g.tile_height b;
    bottom = tile_to g.tile_height h j;
  }

  row_from : (a k j : ℕ) → a + k < tiles_x_of g w → j < tiles_y_of g h → join_from (λ i. tile_entry at (tiles_x_of g w) ws i j) a k ≡ numbers_in f (tiles_box a (a + k) j j)
  unfolding join_from
  row_from a zero j I J =
      let e : a + 0 ≡ a = add-zero a in G.each a j (omega arith) J ∙ ap (λ (i : ℕ). numbers_in f (tiles_box a i j j)) (sym e)
  row_from a (suc k) j I J =
      let e : a + suc k ≡ suc (a + k) = add-suc a k in
      let S : suc (a + k) < tiles_x_of g w = omega arith in
      let m = tile_to g.tile_width w (a + k) in
      ap₂ joined (row_from a k j (omega arith) J)
      (ap (λ (i : ℕ). tile_entry at (tiles_x_of g w) ws i j) e
      ∙ G.each (suc (a + k)) j S J
      ∙ ap
      (λ (l : ℕ). numbers_in f (record {
        left = l;
        right = tile_to g.tile_width w (suc (a + k));
        top = tile_from g.tile_height j;
        bottom = tile_to g.tile_height h j;
      }))
      (sym (tiles_meet w g.tile_width z.tile_width (a + k) S)))
      ∙ sym
      (beside f (tile_from g.tile_width a) m (tile_to g.tile_width w (suc (a + k))) (tile_from g.tile_height j) (tile_to g.tile_height h j)
      (tiles_some w g.tile_width z.tile_width a (a + k) (omega arith) (omega arith))
      (tiles_grow w g.tile_width z.tile_width (a + k) S)
      (tile_some h g.tile_height j z.tile_height J))
      ∙ ap (λ (i : ℕ). numbers_in f (tiles_box a i j j)) (sym e)

  row_is : (a i j : ℕ) → a ≤ i → i < tiles_x_of g w → j < tiles_y_of g h → join_over (λ k. tile_entry at (tiles_x_of g w) ws k j) a i ≡ numbers_in f (tiles_box a i j j)
  unfolding join_over
  row_is a i j A I J =
      let e : a + (i - a) ≡ i = omega arith in row_from a (i - a) j (omega arith) J ∙ ap (λ (k : ℕ). numbers_in f (tiles_box a k j j)) e

  rows_from : (a i b k : ℕ) → a ≤ i → i < tiles_x_of g w → b + k < tiles_y_of g h
      → join_from (λ j. join_over (λ x. tile_entry at (tiles_x_of g w) ws x j) a i) b k ≡ numbers_in f (tiles_box a i b (b + k))
  unfolding join_from
  rows_from a i b zero A I J =
      let e : b + 0 ≡ b = add-zero b in row_is a i b A I (omega arith) ∙ ap (λ (j : ℕ). numbers_in f (tiles_box a i b j)) (sym e)
  rows_from a i b (suc k) A I J =
      let e : b + suc k ≡ suc (b + k) = add-suc b k in
      let S : suc (b + k) < tiles_y_of g h = omega arith in
      let m = tile_to g.tile_height h (b + k) in
      ap₂ joined (rows_from a i b k A I (omega arith))
      (ap (λ (j : ℕ). join_over (λ x. tile_entry at (tiles_x_of g w) ws x j) a i) e
      ∙ row_is a i (suc (b + k)) A I S
      ∙ ap
      (λ (l : ℕ). numbers_in f (record {
        left = tile_from g.tile_width a;
        right = tile_to g.tile_width w i;
        top = l;
        bottom = tile_to g.tile_height h (suc (b + k));
      }))
      (sym (tiles_meet h g.tile_height z.tile_height (b + k) S)))
      ∙ sym
      (below f (tile_from g.tile_width a) (tile_to g.tile_width w i) (tile_from g.tile_height b) m (tile_to g.tile_height h (suc (b + k)))
      (tiles_some h g.tile_height z.tile_height b (b + k) (omega arith) (omega arith))
      (tiles_grow h g.tile_height z.tile_height (b + k) S))
      ∙ ap (λ (j : ℕ). numbers_in f (tiles_box a i b j)) (sym e)

  rows_are : (a i b j : ℕ) → a ≤ i → i < tiles_x_of g w → b ≤ j → j < tiles_y_of g h
      → join_over (λ y. join_over (λ x. tile_entry at (tiles_x_of g w) ws x y) a i) b j ≡ numbers_in f (tiles_box a i b j)
  unfolding join_over
  rows_are a i b j A I B J =
      let e : b + (j - b) ≡ j = omega arith in rows_from a i b (j - b) A I (omega arith) ∙ ap (λ (y : ℕ). numbers_in f (tiles_box a i b y)) e

  module _ (i j : ℕ) (I : i < tiles_x_of g w) (J : j < tiles_y_of g h) where
    -- the neighbourhood of a tile
    pub around_joined : joined_around g.neighborhood_radius (tiles_x_of g w) (tiles_y_of g h) at ws i j ≡ numbers_in f (around g w h i j)
    around_joined =
        let r = g.neighborhood_radius in
        rows_are (low r i) (high r (tiles_x_of g w) i) (low r j) (high r (tiles_y_of g h) j) (omega arith) (omega arith) (omega arith) (omega arith)

    pub some_around : Some (around g w h i j)
    some_around = around_some g w h i j z.tile_width z.tile_height I J

  pub proper_grid : ProperGrid at (tiles_x_of g w) (tiles_y_of g h) ws
  proper_grid = record {
    room = G.room;
    each = λ a b c d A B C D.
        let e = rows_are a b c d A B C D in
        let top = join_maximum _ 256 c d C (λ j p q. join_maximum _ 256 a b A (λ i s t. G.bytes i j (omega arith) (omega arith))) in
        subst Proper (sym e)
        (proper (tiles_box a b c d)
        (record {
          across = tiles_some w g.tile_width z.tile_width a b A B;
          down = tiles_some h g.tile_height z.tile_height c d C D;
        })
        (omega (arith, z.small_width))
        (omega (arith, z.small_height))
        f
        (subst (λ (n : TileNumbers). n.maximum < 256) e top));
  }
