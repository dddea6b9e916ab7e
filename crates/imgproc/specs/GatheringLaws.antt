-- What the workspace holds after the first n tiles: their own five numbers, and every other number as lent; what one
-- tile more does; which pixels a tile has; and that pictures that agree on the first n tiles leave the same. Assumes
-- nothing.
use Rattle.std.specs.Prelude.{◌≡◌, ◌↔◌, refl, ℕ, zero, suc, ◌+◌, ◌*◌, ◌/◌, ◌%◌, ◌≤◌, ◌<◌, min, max}
use Rattle.std.specs.Prelude.{List, ◌++◌, length, get_or}
use Rattle.std.proofs.Common.{sym, ap, ap₂, ◌∙◌, subst, ⊎_elim, eq-or-lt_of_le, arith, add-one, add-zero, zero-add}
use Rattle.std.proofs.Common.{length-append, length-drop, get_or-append-add}
use Rattle.std.proofs.Common.{mod-lt, div-add-mod'}
use Rattle.std.proofs.Math.Arith.{digits_div, digits_mod}
use Rattle.std.proofs.Math.ListN.{get_or-append, length-take}
use Rattle.image.specs.Plane.{pixel, overwritten}
use Rattle.image.specs.PlaneLaws.{in_plane, in_row, length-overwritten}
use Rattle.image.specs.PlaneLaws.{overwritten_none, overwritten_before, overwritten_within, overwritten_after}
use Rattle.image.specs.PaintLaws.{overwritten_more}
use Rattle.imgproc.specs.declared.grid.tiles.TileNumbers.{TileNumbers}
use Rattle.imgproc.specs.Fold.{Box}
use Rattle.imgproc.specs.FoldLaws.{box_same}
use Rattle.imgproc.specs.Extremes.{Between, Inside, Some}
use Rattle.imgproc.specs.Grid.{tiles_x_of, tiles_y_of}
use Rattle.imgproc.specs.GridCalls.{grid_over, tile_of}
use Rattle.imgproc.specs.GridLaws.{ceiling_some, sample_tile, tile_some, in_tile}
use Rattle.imgproc.specs.Tiles.{Sized, numbers_in, entry}
use Rattle.imgproc.specs.Gathering.{Tiled, tiles_of, tile_at, tile_numbers, five, first_tiles, after_tiles}
use Rattle.imgproc.specs.Gathering.{Gathers, GathersTile, AgreeOn, Agree}

-- ---- what stands where

-- five numbers that stand in two lists
entry_same : (a b : List ℕ) (i j : ℕ) → ((k : ℕ) → k < 5 → get_or a (i + k) 0 ≡ get_or b (j + k) 0)
    → entry a i ≡ entry b j
entry_same a b i j e =
    let first : get_or a i 0 ≡ get_or b j 0 =
    ap (λ (k : ℕ). get_or a k 0) (sym (add-zero i)) ∙ e 0 (omega arith) ∙ ap (λ (k : ℕ). get_or b k 0) (add-zero j) in
    rw (first, e 1 (omega arith), e 2 (omega arith), e 3 (omega arith), e 4 (omega arith))

module _ (p : Tiled) where
  -- the first n tiles have 5n numbers
  pub first_long : (n : ℕ) → length (first_tiles p n) ≡ 5 * n
  unfolding first_tiles
  first_long zero = refl
  first_long (suc n) =
      length-append (first_tiles p n) (five (tile_numbers p n)) ∙ omega (arith, first_long n)

  -- those of tile t stand behind those of the t tiles before it
  first_entry : (n t : ℕ) → t < n → entry (first_tiles p n) (5 * t) ≡ tile_numbers p t
  unfolding first_tiles
  first_entry zero t h = absurd (omega arith)
  first_entry (suc n) t h =
      ⊎_elim
      (λ (q : t ≡ n).
      entry_same (first_tiles p n ++ five (tile_numbers p n)) (five (tile_numbers p n)) (5 * t) 0
      (λ k l.
      ap (λ (x : ℕ). get_or (first_tiles p n ++ five (tile_numbers p n)) x 0) (omega (arith, first_long n))
      ∙ get_or-append-add (first_tiles p n) (five (tile_numbers p n)) k 0
      ∙ ap (λ (x : ℕ). get_or (five (tile_numbers p n)) x 0) (sym (zero-add k)))
      ∙ ap (tile_numbers p) (sym q))
      (λ (q : t < n).
      entry_same (first_tiles p n ++ five (tile_numbers p n)) (first_tiles p n) (5 * t) (5 * t)
      (λ k l. get_or-append (first_tiles p n) (five (tile_numbers p n)) 0 (5 * t + k) (omega (arith, first_long n)))
      ∙ first_entry n t q)
      (eq-or-lt_of_le {n = t} {m = n} (omega arith))

module _ (p : Tiled) (at n : ℕ) (lent : List ℕ) (room : at + 5 * n ≤ length lent) where
  fits : at + length (first_tiles p n) ≤ length lent
  fits = omega (arith, first_long p n)

  -- a number behind those of the first n tiles is as lent, and so is one before them
  pub as_lent_after : (i : ℕ) → at + 5 * n ≤ i → get_or (after_tiles p at n lent) i 0 ≡ get_or lent i 0
  as_lent_after i h = overwritten_after at (first_tiles p n) lent fits i (omega (arith, first_long p n))

  pub as_lent_before : (i : ℕ) → i < at → get_or (after_tiles p at n lent) i 0 ≡ get_or lent i 0
  as_lent_before = overwritten_before at (first_tiles p n) lent fits

  -- each of the first n tiles has its own numbers
  pub each_own : (t : ℕ) → t < n → entry (after_tiles p at n lent) (at + 5 * t) ≡ tile_numbers p t
  each_own t h =
      entry_same (after_tiles p at n lent) (first_tiles p n) (at + 5 * t) (5 * t)
      (λ k l.
      ap (λ (i : ℕ). get_or (after_tiles p at n lent) i 0) (omega arith)
      ∙ overwritten_within at (first_tiles p n) lent fits (5 * t + k) (omega (arith, first_long p n)))
      ∙ first_entry p n t h

  -- the workspace keeps its length
  pub as_long : length (after_tiles p at n lent) ≡ length lent
  as_long = length-overwritten at (first_tiles p n) lent fits

  -- one tile more stores its five numbers, and nothing else
  pub one_more :
      after_tiles p at (n + 1) lent ≡ overwritten (at + 5 * n) (five (tile_numbers p n)) (after_tiles p at n lent)
  unfolding first_tiles
  one_more =
      let own = five (tile_numbers p n) in
      ap (λ (k : ℕ). overwritten at (first_tiles p k) lent) (add-one n)
      ∙ sym (overwritten_more at (first_tiles p n) own lent fits)
      ∙ ap (λ (k : ℕ). overwritten (at + k) own (after_tiles p at n lent)) (first_long p n)

-- before the first tile nothing is gathered
pub none_yet : (p : Tiled) (at : ℕ) (lent : List ℕ) → Gathers p at 0 lent lent
unfolding first_tiles
none_yet p at lent = record {
  leaves = sym (overwritten_none at lent);
  bytes = λ t h. absurd (omega arith);
}

-- storing tile n's five numbers in their place meets the contract of `gather_tile`
pub this_tile : (p : Tiled) (at n : ℕ) {before after : List ℕ} → at + 5 * (n + 1) ≤ length before
    → after ≡ overwritten (at + 5 * n) (five (tile_numbers p n)) before → (tile_numbers p n).maximum < 256
    → GathersTile p at n before after
this_tile p at n {before} room is byte = record {
  alone = is;
  next = λ lent q.
      is
      ∙ ap (overwritten (at + 5 * n) (five (tile_numbers p n))) q
      ∙ sym (one_more p at n lent (there lent q));
  byte = byte;
}
  where
    there : (lent : List ℕ) → before ≡ after_tiles p at n lent → at + 5 * n ≤ length lent
    there lent q =
        let l : length (after_tiles p at n lent) ≡ length before = ap length (sym q) in
        let s = simp (length-append, length-take, length-drop) at l in
        omega (arith, s, first_long p n)

-- and gathering tile n after the first n meets the contract of `gather` for n + 1 tiles
pub next_tile : (p : Tiled) (at n : ℕ) {lent before after : List ℕ} → Gathers p at n lent before
    → GathersTile p at n before after → Gathers p at (n + 1) lent after
next_tile p at n {lent} done one = record {
  leaves = one.next lent done.leaves;
  bytes = λ t h. ⊎_elim
      (λ (q : t ≡ n). subst (λ (k : ℕ). (tile_numbers p k).maximum < 256) (sym q) one.byte)
      (λ (q : t < n). done.bytes t q)
      (eq-or-lt_of_le {n = t} {m = n} (omega arith));
}

-- ---- a tile's own pixels

module _ (p : Tiled) (z : Sized p.settings p.source.width p.source.height) where
  abbrev tx : ℕ
  tx = tiles_x_of p.settings p.source.width

  abbrev ty : ℕ
  ty = tiles_y_of p.settings p.source.height

  -- a tile of the grid is in one of its tile columns and tile rows
  pub tile_column : (t : ℕ) → t % tx < tx
  tile_column t = mod-lt t (ceiling_some p.source.width p.settings.tile_width z.tile_width z.wide)

  pub tile_row : (t : ℕ) → t < tiles_of p → t / tx < ty
  tile_row t h = in_row tx ty t (omega (arith, tile_column t)) h

  -- and has a pixel
  pub some_tile : (t : ℕ) → t < tiles_of p → Some (tile_at p t)
  some_tile t h = record {
    across = tile_some p.source.width p.settings.tile_width (t % tx) z.tile_width (tile_column t);
    down = tile_some p.source.height p.settings.tile_height (t / tx) z.tile_height (tile_row t h);
  }

  -- the tile that a query finds for a pixel
  abbrev found : ℕ → ℕ → ℕ
  found x y = tile_of (grid_over p.settings p.source.width p.source.height) x y

  -- it is one of the grid's tiles
  pub found_there : (x y : ℕ) → x < p.source.width → y < p.source.height → found x y < tiles_of p
  found_there x y X Y =
      in_plane tx ty (x / p.settings.tile_width) (y / p.settings.tile_height)
      (sample_tile p.source.width p.settings.tile_width x z.tile_width X)
      (sample_tile p.source.height p.settings.tile_height y z.tile_height Y)

  -- inside tile t are just the picture's pixels for which a query finds t: a tile has its own pixels alone, and each
  -- pixel is in one tile
  pub own_pixels : (t x y : ℕ) → Inside (tile_at p t) (x, y)
      ↔ ((x < p.source.width) × (y < p.source.height) × (t ≡ found x y))
  own_pixels t x y = (to, from)
    where
      across : x < p.source.width
          → Between (tile_at p t).left (tile_at p t).right x ↔ (x / p.settings.tile_width ≡ t % tx)
      across X = in_tile p.source.width p.settings.tile_width (t % tx) x z.tile_width X

      down : y < p.source.height
          → Between (tile_at p t).top (tile_at p t).bottom y ↔ (y / p.settings.tile_height ≡ t / tx)
      down Y = in_tile p.source.height p.settings.tile_height (t / tx) y z.tile_height Y

      to : Inside (tile_at p t) (x, y) → (x < p.source.width) × (y < p.source.height) × (t ≡ found x y)
      to i =
          let X : x < p.source.width = omega (arith, i.0.1, z.wide) in
          let Y : y < p.source.height = omega (arith, i.1.1, z.high) in
          let same = ap₂ (λ (j k : ℕ). j * tx + k) ((down Y).0 i.1) ((across X).0 i.0) in
          (X, Y, sym (div-add-mod' t tx) ∙ sym same)

      from : (x < p.source.width) × (y < p.source.height) × (t ≡ found x y) → Inside (tile_at p t) (x, y)
      from i =
          let within = sample_tile p.source.width p.settings.tile_width x z.tile_width i.0 in (
            (across i.0).1 (sym (ap (λ (k : ℕ). k % tx) i.2 ∙ digits_mod (y / p.settings.tile_height) within)),
            (down i.1).1 (sym (ap (λ (k : ℕ). k / tx) i.2 ∙ digits_div (y / p.settings.tile_height) within)),
          )

-- ---- pictures that agree

-- boxes that hold the same pixels have the same numbers
pub same_in : (f g : ℕ → ℕ → ℕ) (b : Box) → Some b → ((x y : ℕ) → Inside b (x, y) → f x y ≡ g x y)
    → numbers_in f b ≡ numbers_in g b
same_in f g b s e =
    rw (
      box_same min f g b s e,
      box_same max f g b s e,
      box_same ◌+◌ f g b s e,
      box_same ◌+◌ (λ x y. f x y * f x y) (λ x y. g x y * g x y) b s (λ x y i. ap (λ (k : ℕ). k * k) (e x y i)),
    )

module _ (a b : Tiled) (z : Sized a.settings a.source.width a.source.height) where
  -- pictures that agree on a tile have the same numbers there
  pub same_tile : (t : ℕ) → t < tiles_of a → AgreeOn a b t → tile_numbers a t ≡ tile_numbers b t
  same_tile t h on =
      same_in (pixel a.src a.source.stride) (pixel b.src b.source.stride) (tile_at a t) (some_tile a z t h) on.pixels
      ∙ ap (numbers_in (pixel b.src b.source.stride)) on.place

  -- so gathering tile n of the one is gathering it of the other
  pub same_step : {before after : List ℕ} (at n : ℕ) → n < tiles_of a → AgreeOn a b n
      → at + 5 * (n + 1) ≤ length before → GathersTile b at n before after → GathersTile a at n before after
  same_step {before} at n h on room one =
      let own = sym (same_tile n h on) in
      this_tile a at n room
      (one.alone ∙ ap (λ (m : TileNumbers). overwritten (at + 5 * n) (five m) before) own)
      (subst (λ (m : TileNumbers). m.maximum < 256) own one.byte)

  -- and the first n tiles have the same numbers
  same_first : (n : ℕ) → n ≤ tiles_of a → Agree a b n → first_tiles a n ≡ first_tiles b n
  unfolding first_tiles
  same_first zero h on = refl
  same_first (suc n) h on =
      ap₂ (λ (l : List ℕ) (m : TileNumbers). l ++ five m) (same_first n (omega arith) (λ t l. on t (omega arith)))
      (same_tile n h (on n (omega arith)))

  module _ (at n : ℕ) (lent : List ℕ) (h : n ≤ tiles_of a) (on : Agree a b n) where
    -- two pictures that agree on the first n tiles leave the same after n
    pub same_after : after_tiles a at n lent ≡ after_tiles b at n lent
    same_after = ap (λ (l : List ℕ). overwritten at l lent) (same_first n h on)

    -- so what was gathered of the one was gathered of the other
    pub same_gathered : {ws : List ℕ} → Gathers a at n lent ws → Gathers b at n lent ws
    same_gathered done = record {
      leaves = done.leaves ∙ same_after;
      bytes = λ t l.
          subst (λ (m : TileNumbers). m.maximum < 256) (same_tile t (omega (arith, h)) (on t l)) (done.bytes t l);
    }

    -- and the next tile may be gathered of the other
    pub next_of_other : {before after : List ℕ} → Gathers a at n lent before → GathersTile b at n before after
        → Gathers b at (n + 1) lent after
    next_of_other done one = next_tile b at n (same_gathered done) one
