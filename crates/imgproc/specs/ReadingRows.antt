-- What an accepted reading leaves in its count buffer, drawn from its contract alone: the open tiles of each tile row
-- of the opened picture, and later numbers as they were; what `row_all_skip` then says of a pixel row; and that equal
-- settings and pixels leave equal numbers. Assumes nothing.
use Rattle.std.specs.Prelude.{ℕ, ◌*◌, ◌/◌, ◌≤◌, ◌<◌, ◌≡◌, ◌↔◌, Bool, true, not, List, eqb, length, get_or}
use Rattle.std.proofs.Common.{arith, sym, ap, ◌∙◌, eqb-true, eq-eqb, mul-div_cancel}
use Rattle.std.proofs.lemmas.Bool.{not-false}
use Rattle.image.specs.Answers.{accepted}
use Rattle.image.specs.Plane.{pixel}
use Rattle.imgproc.specs.declared.reading.config.ReadingConfig.{ReadingConfig}
use Rattle.imgproc.specs.declared.reading.judging.Judgement.TheVariants.{Skipped}
use Rattle.imgproc.specs.declared.grid.queries.TileThresholdGrid.{TileThresholdGrid}
use Rattle.imgproc.specs.Reach.{walk}
use Rattle.imgproc.specs.Grid.{tiles_x_of, tiles_y_of, skip_of, open_of}
use Rattle.imgproc.specs.GridLaws.{tile_starts, sample_tile}
use Rattle.imgproc.specs.GridCalls.{grid_over, row_skip_asked}
use Rattle.imgproc.specs.GridMeans.{row_inside, row_answers}
use Rattle.imgproc.specs.OpenLaws.{stored_long, stored_number, later_number}
use Rattle.imgproc.specs.Reading.{opened_of, open_tiles_from}
use Rattle.imgproc.specs.ReadingLaws.{walk_none, no_walk}
use Rattle.imgproc.specs.ReadingMeans.{
  AcceptedReading,
  settings_of,
  wide,
  high,
  source_of,
  judged_here,
  said,
  skipped_exactly,
  tile_skipped,
  tiled,
  tile_rows_fit,
}
use Rattle.imgproc.specs.ReadingLeaves.{one_picture}

module _ (a : AcceptedReading) where
  -- the picture that its tiles stand over
  abbrev opened_here : List ℕ
  opened_here = opened_of (settings_of a) (wide a) (high a) (source_of a)

  abbrev tiles_x : ℕ
  tiles_x = tiles_x_of (settings_of a).grid (wide a)

  abbrev pub tiles_y : ℕ
  tiles_y = tiles_y_of (settings_of a).grid (high a)

  left_is : a.left.open_tiles ≡ open_tiles_from a.lent
  left_is = a.reads.open_tiles_left ∙ rw (said a).0

  -- each of the first tiles_y numbers counts the open tiles of its row
  pub number_is : (j : ℕ) → j < tiles_y
      → get_or a.left.open_tiles j 0 ≡ open_of (settings_of a).grid (wide a) (high a) opened_here j
  number_is j J =
      ap (λ (d : List ℕ). get_or d j 0) left_is
      ∙ stored_number (settings_of a).grid (wide a) (high a) opened_here a.lent.open_tiles (tile_rows_fit a) j J

  -- and each later one is as it was lent
  pub later_is : (j : ℕ) → tiles_y ≤ j → get_or a.left.open_tiles j 0 ≡ get_or a.lent.open_tiles j 0
  later_is j J =
      ap (λ (d : List ℕ). get_or d j 0) left_is
      ∙ later_number (settings_of a).grid (wide a) (high a) opened_here a.lent.open_tiles (tile_rows_fit a) j J

  -- the sizes of its grid
  abbrev pub reading_grid : TileThresholdGrid
  reading_grid = grid_over (settings_of a).grid (wide a) (high a)

  -- afterwards `row_all_skip` of a pixel row says whether its tile row has no open tile
  row_says : (y : ℕ) → y < high a
      → row_skip_asked reading_grid a.left.open_tiles y
      ≡ accepted
      (eqb (open_of (settings_of a).grid (wide a) (high a) opened_here (y / (settings_of a).grid.tile_height)) 0)
  row_says y Y =
      let room : tiles_y ≤ length a.left.open_tiles =
      omega (
        arith,
        ap length left_is,
        stored_long (settings_of a).grid (wide a) (high a) opened_here a.lent.open_tiles (tile_rows_fit a),
        tile_rows_fit a,
      ) in
      let j = row_inside (tiled a) a.left.open_tiles room y Y in
      row_answers (tiled a) a.left.open_tiles room y Y
      ∙ ap (λ (n : ℕ). accepted (eqb n 0)) (number_is (y / (settings_of a).grid.tile_height) j)

  -- it says yes exactly when every pixel of that row is judged skipped
  pub row_skipped_exactly : (y : ℕ) → y < high a
      → (row_skip_asked reading_grid a.left.open_tiles y ≡ accepted true)
      ↔ ((x : ℕ) → x < wide a → judged_here a x y ≡ Skipped)
  unfolding open_of
  row_skipped_exactly y Y =
      let g = (settings_of a).grid in
      let j = y / g.tile_height in
      let test : ℕ → Bool = λ i. not (skip_of g (wide a) (high a) opened_here i j) in
      let skips : (x : ℕ) → (judged_here a x y ≡ Skipped) ↔ (tile_skipped a x y ≡ true) =
      λ x. skipped_exactly (settings_of a) (wide a) (high a) (source_of a) x y in (
        λ yes x X.
            (skips x).1
            (not-false (tile_skipped a x y)
            (walk_none test tiles_x (none (sym (row_says y Y) ∙ yes)) (x / g.tile_width)
            (sample_tile (wide a) g.tile_width x (tiled a).tile_width X))),
        λ all.
            row_says y Y
            ∙ ap accepted
            (eq-eqb (walk test tiles_x) 0
            (no_walk test tiles_x
            (λ i I.
            ap not
            (ap (λ (k : ℕ). skip_of g (wide a) (high a) opened_here k j) (sym (mul-div_cancel i (tiled a).tile_width))
            ∙ (skips (i * g.tile_width)).0
            (all (i * g.tile_width) (tile_starts (wide a) g.tile_width i (tiled a).tile_width I)))))),
      )
    where
      none : {n : ℕ} → accepted (eqb n 0) ≡ accepted true → n ≡ 0
      none {n} e = let b : eqb n 0 ≡ true = cc in eqb-true n 0 b

-- equals for equals
open_same : {s t : ReadingConfig} {w v h k : ℕ} {p q : List ℕ} (j : ℕ) → s ≡ t → w ≡ v → h ≡ k → p ≡ q
    → open_of s.grid w h (opened_of s w h p) j ≡ open_of t.grid v k (opened_of t v k q) j
open_same j S W H P = rw (S, W, H, P)

rows_same : {s t : ReadingConfig} {h k : ℕ} → s ≡ t → h ≡ k → tiles_y_of s.grid h ≡ tiles_y_of t.grid k
rows_same S H = rw (S, H)

-- two accepted readings with equal settings, whose sources have the same pixels, leave equal first tiles_y numbers
module _ (a b : AcceptedReading) (settings : settings_of a ≡ settings_of b)
    (as_wide : wide a ≡ wide b) (as_high : high a ≡ high b)
    (same : (x y : ℕ) → x < wide a → y < high a
    → pixel a.lent.src a.lent.source.stride x y ≡ pixel b.lent.src b.lent.source.stride x y) where
  pub open_tiles_agree : (j : ℕ) → j < tiles_y a → get_or a.left.open_tiles j 0 ≡ get_or b.left.open_tiles j 0
  open_tiles_agree j J =
      number_is a j J
      ∙ open_same j settings as_wide as_high (one_picture a b settings as_wide as_high same)
      ∙ sym (number_is b j (omega (arith, rows_same settings as_high)))
