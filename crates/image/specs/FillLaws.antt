-- For a loop that writes a packed plane of a workspace row by row: its invariant `Filled`, and one law for each need of
-- its proof. Assumes nothing.
use Rattle.std.specs.Prelude.{ℕ, ◌+◌, ◌-◌, ◌*◌, ◌≤◌, ◌<◌, ◌≡◌, List, length, get_or}
use Rattle.std.proofs.Common.{mul_comm, mul-le-mul_right, suc-mul, arith, sym, ap, ◌∙◌}
use Rattle.std.proofs.Math.Nat.{add-sub_cancel_left}
use borrow.Rule.Slice.PartMut.{put_mid}
use Rattle.image.specs.Plane.{plane, part, overwritten}
use Rattle.image.specs.PlaneLaws.{length-plane, length_part, length-overwritten}
use Rattle.image.specs.PaintLaws.{put_part, plane_start, plane_more}

-- row y of a packed plane lies in it
pub row_in_plane : (w h y : ℕ) → y < h → y * w + w ≤ w * h
row_in_plane w h y t = omega (arith, mul-le-mul_right w t, suc-mul y w, mul_comm w h)

-- a row that was lent as a part from a on, and came back as r, is r written at a
pub put_row : (a w : ℕ) (l r : List ℕ) → length r ≡ w → put_mid a (a + w - a) l r ≡ overwritten a r l
put_row a w l r long = put_part a (a + w) l r (omega arith) (long ∙ sym (add-sub_cancel_left a w))

-- the part that is lent for a row has the width
pub lent_row : (a w : ℕ) (l : List ℕ) → a + w ≤ length l → length (part a (a + w - a) l) ≡ w
lent_row a w l fits = rw (add-sub_cancel_left a w) (length_part a w l fits)

-- the workspace l holds the first y rows of the plane of f from `at` on, and every other number as in d
pub record Filled (w h : ℕ) (f : ℕ → ℕ → ℕ) (at : ℕ) (d l : List ℕ) (y : ℕ) : Type 0 where
  pub upto : y ≤ h
  pub is : l ≡ overwritten at (plane w y f) d

module _ (w h : ℕ) (f : ℕ → ℕ → ℕ) (at : ℕ) (d : List ℕ) where
  -- the invariant holds before the first row
  pub fill_start : Filled w h f at d d 0
  fill_start = record { upto = omega arith; is = sym (plane_start w f at d) }

  module _ (room : at + w * h ≤ length d) {l : List ℕ} (y : ℕ) (o : Filled w h f at d l y) where
    -- what is written lies in the workspace
    written : at + length (plane w y f) ≤ length d
    written =
        let u = o.upto in
        omega (arith, length-plane w y f, mul_comm w y, mul_comm w h, mul-le-mul_right {m = y} {n = h} w u)

    -- the workspace keeps its length
    pub fill_same : length l ≡ length d
    fill_same = ap length o.is ∙ length-overwritten at (plane w y f) d written

    -- after the last row it holds the whole plane
    pub fill_done : h ≤ y → l ≡ overwritten at (plane w h f) d
    fill_done t =
        let u = o.upto in
        let e : y ≡ h = omega arith in
        o.is ∙ ap (λ (n : ℕ). overwritten at (plane w n f) d) e

    module _ (t : y < h) where
      -- row y lies in the workspace
      pub fill_fits : at + y * w + w ≤ length l
      fill_fits = omega (arith, fill_same, row_in_plane w h y t)

      -- a row r of f's numbers, written as row y, carries the invariant on
      pub fill_next : (r : List ℕ) → 0 < w → length r ≡ w → ((x : ℕ) → x < w → get_or r x 0 ≡ f x y)
          → Filled w h f at d (put_mid (at + y * w) (at + y * w + w - (at + y * w)) l r) (y + 1)
      fill_next r W long each = record {
        upto = omega arith;
        is =
            put_row (at + y * w) w l r long
            ∙ ap (overwritten (at + y * w) r) o.is
            ∙ plane_more w f y at d r W (omega (arith, row_in_plane w h y t)) long each;
      }
