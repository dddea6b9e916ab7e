-- One pixel's judgement: where its tile's mark stands, what the mark says, and each way out of `judge`. Assumes nothing.
use mathlib.Core.Path.{◌≡◌, refl, sym, ap, ◌∙◌}
use mathlib.Core.Bool.{Bool, true, false}
use mathlib.Core.List.{List}
use Prim.Native.Nat.{ℕ, ◌+◌, ◌*◌, ◌/◌, ◌≤◌, ◌<◌}
use native.Mathlib.Nat.{ne_of_lt, mul_comm}
use native.Mathlib.Omega.{arith}
use lib.ListN.{length, get_or, set}
use lib.Seq.{get_or-set_same, get_or-set_other}
use borrow.Author.Count.{below_more}
use borrow.Author.Tests.{le-leb, lt-leb}
use Rattle.image.specs.Layout.{Kept, area_limit}
use Rattle.image.specs.declared.Geometry.{Geometry}
use Rattle.image.specs.Plane.{pixel, picture}
use Rattle.image.specs.PlaneLaws.{in_plane, pixel_plane}
use Rattle.image.specs.Views.{picture_again}
use Rattle.imgproc.specs.declared.reading.config.ReadingConfig.{ReadingConfig}
use Rattle.imgproc.specs.declared.reading.judging.Judged.{Judged}
use Rattle.imgproc.specs.declared.reading.judging.Judgement.{Judgement}
use Rattle.imgproc.specs.declared.reading.judging.Judgement.TheVariants.{Dark, Light, Skipped}
use Rattle.imgproc.specs.Fold.{bit}
use Rattle.imgproc.specs.Reach.{walk}
use Rattle.imgproc.specs.Grid.{tiles_x_of, tiles_y_of, skip_of}
use Rattle.imgproc.specs.GridLaws.{sample_tile}
use Rattle.imgproc.specs.OpenLaws.{skips_long, skip_byte}
use Rattle.imgproc.specs.Sauvola.{threshold_at_pixel, at_or_below}
use Rattle.imgproc.specs.Walks.{walk_more, walk_le}
use Rattle.imgproc.specs.Reading.{is_dark, is_light, is_skipped, byte_of, judged_over, pixels}
use Rattle.imgproc.specs.ReadingSteps.{JudgeReady, Room, Counted, PixelsJudged, marked_over}
use Rattle.imgproc.specs.ReadingLaws.{pixels_none, pixels_row, pixels_most}
use Rattle.image.specs.FillLaws.{row_in_plane}

bit_one : (b : Bool) → (bit b ≡ 0 → ⊥) → b ≡ true
bit_one true n = refl
bit_one false n = absurd (n refl)

bit_none : (b : Bool) → bit b ≡ 0 → b ≡ false
bit_none true e = absurd (omega arith)
bit_none false e = refl

module _ {o : List ℕ} {g : Geometry} {sk ws : List ℕ} {at : ℕ} {s : ReadingConfig}
    (kept : Kept (length o) g) (ready : JudgeReady o g sk ws at s) {x y : ℕ} (X : x < g.width) (Y : y < g.height) where
  -- the tile of the pixel, and whether the skip of a tile holds
  abbrev tile : ℕ
  tile = y / s.grid.tile_height * tiles_x_of s.grid g.width + x / s.grid.tile_width

  abbrev skip : ℕ → ℕ → Bool
  skip = skip_of s.grid g.width g.height o

  across : x / s.grid.tile_width < tiles_x_of s.grid g.width
  across = sample_tile g.width s.grid.tile_width x ready.tile_width X

  down : y / s.grid.tile_height < tiles_y_of s.grid g.height
  down = sample_tile g.height s.grid.tile_height y ready.tile_height Y

  inside : tile < tiles_x_of s.grid g.width * tiles_y_of s.grid g.height
  inside =
      in_plane (tiles_x_of s.grid g.width) (tiles_y_of s.grid g.height) (x / s.grid.tile_width) (y / s.grid.tile_height) across down

  -- the mark stands in the skips
  pub tile_within : tile < length sk
  tile_within = rw (ap length ready.marks ∙ skips_long s.grid g.width g.height o) inside

  -- and says whether the skip of the pixel's tile holds
  mark : get_or sk tile 0 ≡ bit (skip (x / s.grid.tile_width) (y / s.grid.tile_height))
  mark =
      ap (λ (l : List ℕ). get_or l tile 0) ready.marks
      ∙ skip_byte s.grid g.width g.height o (x / s.grid.tile_width) (y / s.grid.tile_height) across down

  pub is_skipped_lem : (get_or sk tile 0 ≡ 0 → ⊥) → Skipped ≡ judged_over s g.width g.height o x y
  unfolding judged_over
  is_skipped_lem n = rw (bit_one (skip (x / s.grid.tile_width) (y / s.grid.tile_height)) (λ e. n (mark ∙ e)))

  module _ (unmarked : get_or sk tile 0 ≡ 0) {t : ℕ} (is : t ≡ threshold_at_pixel s.sauvola g.width g.height (picture o g) x y) where
    threshold_is : t ≡ threshold_at_pixel s.sauvola g.width g.height o x y
    threshold_is =
        is
        ∙ ap (λ (p : List ℕ). threshold_at_pixel s.sauvola g.width g.height p x y)
        (picture_again o g kept.wide ready.tight ready.whole)

    goes_on : skip (x / s.grid.tile_width) (y / s.grid.tile_height) ≡ false
    goes_on = bit_none (skip (x / s.grid.tile_width) (y / s.grid.tile_height)) (sym mark ∙ unmarked)

    pub is_dark_lem : get_or o (y * g.width + x) 0 ≤ t → Dark ≡ judged_over s g.width g.height o x y
    unfolding judged_over at_or_below
    is_dark_lem l = rw (goes_on, le-leb (pixel o g.width x y) (threshold_at_pixel s.sauvola g.width g.height o x y) (omega (arith, threshold_is)))

    pub is_light_lem : t < get_or o (y * g.width + x) 0 → Light ≡ judged_over s g.width g.height o x y
    unfolding judged_over at_or_below
    is_light_lem l = rw (goes_on, lt-leb (pixel o g.width x y) (threshold_at_pixel s.sauvola g.width g.height o x y) (omega (arith, threshold_is)))

-- ---- a row, pixel after pixel

-- the count of one kind is raised where the next pixel is judged so
raised : (test : ℕ → Bool) (n b : ℕ) {c d : ℕ} → c ≡ b + walk test n → d ≡ c + bit (test n) → d ≡ b + walk test (n + 1)
raised test n b p q = omega (arith, walk_more test n)

module _ {before : Judged} {s : ReadingConfig} {g : Geometry} {o : List ℕ} {y : ℕ} where
  pub none_judged : {out : List ℕ} → PixelsJudged before s g o y 0 before out
  unfolding walk
  none_judged = record { each = λ x l. absurd (omega arith); dark = omega arith; light = omega arith; skipped = omega arith }

  pub next_judged : {c d : Judged} {out : List ℕ} {n v : ℕ} (j : Judgement)
      → PixelsJudged before s g o y n c out
      → n < length out
      → j ≡ judged_over s g.width g.height o n y
      → Counted c j d
      → v ≡ byte_of s.sauvola j
      → PixelsJudged before s g o y (n + 1) d (set out n v)
  next_judged {c} {d} {out} {n} {v} j p t is k bytes =
      let at : ℕ → Judgement = λ x. judged_over s g.width g.height o x y in
      record {
        each =
            below_more _ n (λ x l. get_or-set_other out n x _ 0 (ne_of_lt l) ∙ p.each x l) (get_or-set_same out n _ 0 t ∙ bytes ∙ ap (byte_of s.sauvola) is);
        dark = raised (λ x. is_dark (at x)) n before.dark p.dark (k.dark ∙ ap (λ (k : Judgement). c.dark + bit (is_dark k)) is);
        light = raised (λ x. is_light (at x)) n before.light p.light (k.light ∙ ap (λ (k : Judgement). c.light + bit (is_light k)) is);
        skipped = raised (λ x. is_skipped (at x)) n before.skipped p.skipped (k.skipped ∙ ap (λ (k : Judgement). c.skipped + bit (is_skipped k)) is);
      }

  -- a count is at most what it was and the pixels judged, so there is room for one more
  pub room_for_one : {c : Judged} {out : List ℕ} {n m : ℕ} → n < m → PixelsJudged before s g o y n c out → Room before m → Room c 1
  room_for_one {n = n} l p r = record {
    dark = omega (arith, p.dark, r.dark, walk_le (λ x. is_dark (judged_over s g.width g.height o x y)) n);
    light = omega (arith, p.light, r.light, walk_le (λ x. is_light (judged_over s g.width g.height o x y)) n);
    skipped = omega (arith, p.skipped, r.skipped, walk_le (λ x. is_skipped (judged_over s g.width g.height o x y)) n);
  }

-- ---- the picture, row after row

-- the counts of the first y rows
pub record RowsCounted (s : ReadingConfig) (g : Geometry) (o : List ℕ) (c : Judged) (y : ℕ) : Type 0 where
  pub dark : c.dark ≡ pixels g.width y (λ x y. is_dark (judged_over s g.width g.height o x y))
  pub light : c.light ≡ pixels g.width y (λ x y. is_light (judged_over s g.width g.height o x y))
  pub skipped : c.skipped ≡ pixels g.width y (λ x y. is_skipped (judged_over s g.width g.height o x y))

module _ {s : ReadingConfig} {g : Geometry} {o : List ℕ} (W : 0 < g.width) where
  pub none_counted : {c : Judged} → c.dark ≡ 0 → c.light ≡ 0 → c.skipped ≡ 0 → RowsCounted s g o c 0
  none_counted a b d = record {
    dark = a ∙ sym (pixels_none g.width (λ x y. is_dark (judged_over s g.width g.height o x y)));
    light = b ∙ sym (pixels_none g.width (λ x y. is_light (judged_over s g.width g.height o x y)));
    skipped = d ∙ sym (pixels_none g.width (λ x y. is_skipped (judged_over s g.width g.height o x y)));
  }

  pub next_counted : {c d : Judged} {out : List ℕ} {y : ℕ} → RowsCounted s g o c y → PixelsJudged c s g o y g.width d out → RowsCounted s g o d (y + 1)
  next_counted {y = y} r p = record {
    dark = omega (arith, p.dark, r.dark, pixels_row g.width y (λ x y. is_dark (judged_over s g.width g.height o x y)) W);
    light = omega (arith, p.light, r.light, pixels_row g.width y (λ x y. is_light (judged_over s g.width g.height o x y)) W);
    skipped = omega (arith, p.skipped, r.skipped, pixels_row g.width y (λ x y. is_skipped (judged_over s g.width g.height o x y)) W);
  }

  -- no count passes the pixels of its rows, so there is room for one row more
  pub room_for_row : {c : Judged} {y : ℕ} → RowsCounted s g o c y → y < g.height → g.width * g.height ≤ area_limit → Room c g.width
  room_for_row {y = y} r t a =
      let n : g.width * y + g.width ≤ g.width * g.height = omega (arith, row_in_plane g.width g.height y t, mul_comm g.width y) in
      record {
        dark = omega (arith, r.dark, pixels_most g.width y (λ x y. is_dark (judged_over s g.width g.height o x y)));
        light = omega (arith, r.light, pixels_most g.width y (λ x y. is_light (judged_over s g.width g.height o x y)));
        skipped = omega (arith, r.skipped, pixels_most g.width y (λ x y. is_skipped (judged_over s g.width g.height o x y)));
      }

-- the bytes of a row are those of the marked picture
pub marked_pixel : (s : ReadingConfig) (w h : ℕ) (o : List ℕ) (x y : ℕ) → x < w → y < h
    → pixel (marked_over s w h o) w x y ≡ byte_of s.sauvola (judged_over s w h o x y)
unfolding marked_over
marked_pixel s w h o x y X Y = pixel_plane w h (λ x y. byte_of s.sauvola (judged_over s w h o x y)) x y X Y
