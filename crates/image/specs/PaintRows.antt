-- For a loop that paints a destination row by row, through parts that are lent to a call: its invariant `RowsPainted`,
-- and one law for each need of its proof. Assumes nothing.
use Rattle.std.specs.Prelude.{ℕ, ◌+◌, ◌-◌, ◌*◌, ◌≤◌, ◌<◌, ◌≡◌, List, length, get_or, take, drop}
use Rattle.std.proofs.Common.{arith, sym, ap, ◌∙◌}
use borrow.Rule.Slice.PartMut.{put_mid}
use Rattle.image.specs.declared.Geometry.{Geometry}
use Rattle.image.specs.Layout.{Kept}
use Rattle.image.specs.LayoutLaws.{row_within}
use Rattle.image.specs.Plane.{pixel, painted, overwritten}
use Rattle.image.specs.PaintLaws.{length-painted, painted_none, painted_row}
use Rattle.image.specs.FillLaws.{put_row, lent_row}

-- the first y rows of the packed picture p, of w by h, stand in the destination l, which was d
pub record RowsPainted (p : List ℕ) (w h st : ℕ) (d l : List ℕ) (y : ℕ) : Type 0 where
  pub upto : y ≤ h
  pub is : l ≡ painted p w y st d

module _ (p : List ℕ) (w h st : ℕ) (d : List ℕ) where
  -- the invariant holds before the first row
  pub rows_start : RowsPainted p w h st d d 0
  rows_start = record { upto = omega arith; is = sym (painted_none p w st d) }

  module _ {l : List ℕ} (y : ℕ) (o : RowsPainted p w h st d l y) where
    -- the destination keeps its length
    pub rows_same : length l ≡ length d
    rows_same = ap length o.is ∙ length-painted p w y st d

    -- after the last row all of it is painted
    pub rows_done : h ≤ y → l ≡ painted p w h st d
    rows_done t =
        let u = o.upto in
        let e : y ≡ h = omega arith in
        o.is ∙ ap (λ (n : ℕ). painted p w n st d) e

    module _ (wide : 0 < w) (ws : w ≤ st) (fits : y * st + w ≤ length d) where
      -- row y lies in the destination
      pub row_fits : y * st + w ≤ length l
      row_fits = omega (arith, rows_same)

      -- the part that is lent for it has the width
      pub part_long : length (take (y * st + w - y * st) (drop (y * st) l)) ≡ w
      part_long = lent_row (y * st) w l row_fits

      -- a row r of the picture's pixels, written as row y, carries the invariant on
      pub rows_next :
          (r : List ℕ)
          → length r ≡ w
          → ((x : ℕ) → x < w → get_or r x 0 ≡ pixel p w x y)
          → y < h
          → RowsPainted p w h st d (put_mid (y * st) (y * st + w - y * st) l r) (y + 1)
      rows_next r long is t = record {
        upto = omega arith;
        is =
            put_row (y * st) w l r long
            ∙ ap (overwritten (y * st) r) o.is
            ∙ painted_row p w st y d r ws (omega arith) fits long is;
      }

-- row y lies in a destination whose sides are the picture's
pub row_within_as : {len w h : ℕ} {g : Geometry} → Kept len g → g.width ≡ w → g.height ≡ h → (y : ℕ) → y < h
    → y * g.stride + w ≤ len
row_within_as k a b y t = rw (← a) (row_within k y (rw (← b) at t))
