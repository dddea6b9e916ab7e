-- The bytes of the rows by number, and what is written of them. Assumes nothing.
use Rattle.std.proofs.Common.{◌≡◌, refl, ℕ, ◌+◌, ◌*◌, ◌-◌, ◌/◌, ◌%◌, ◌≤◌, ◌<◌, List, length, get_or, set, take, drop, arith, ap₂, ◌∙◌, eq-eqb, ne_eqb, mul-le-mul_right, mul_comm, length-take-le, length-drop}
use Rattle.image.specs.Plane.{pixel, tabulate, overwritten}
use Rattle.std.proofs.Math.Arith.{digits_mod, digits_div}
use Rattle.std.proofs.Math.Seq.{get_or-take, get_or-drop}
use Rattle.image.specs.WriteLaws.{written_none, written_more}
use Rattle.column.specs.Drawing.{row_byte}
use Rattle.column.specs.Steps.{ink_of}

-- byte i of all rows of w marks and a line feed
abbrev pub laid : List ℕ → ℕ → ℕ → ℕ
laid pixels w i = row_byte (λ x y. ink_of (pixel pixels w x y)) w (i % (w + 1)) (i / (w + 1))

-- it is byte x of row y
laid_at : (pixels : List ℕ) (w x y : ℕ) → x < w + 1 → laid pixels w (y * (w + 1) + x) ≡ row_byte (λ x y. ink_of (pixel pixels w x y)) w x y
laid_at pixels w x y X = ap₂ (row_byte (λ x y. ink_of (pixel pixels w x y)) w) (digits_mod y X) (digits_div y X)

pub laid_mark : (pixels : List ℕ) (w x y : ℕ) → x < w → ink_of (pixel pixels w x y) ≡ laid pixels w (y * (w + 1) + x)
laid_mark pixels w x y X = rw (laid_at pixels w x y (omega arith), ne_eqb x w (λ e. omega arith)) refl

pub laid_end : (pixels : List ℕ) (w y : ℕ) → 10 ≡ laid pixels w (y * (w + 1) + w)
laid_end pixels w y = rw (laid_at pixels w w y (omega arith), eq-eqb w w refl) refl

-- row y of the pixels, as the code takes it
abbrev pub row : List ℕ → ℕ → ℕ → List ℕ
row pixels w y = take ((y + 1) * w - y * w) (drop (y * w) pixels)

pub row_long : (pixels : List ℕ) (w h y : ℕ) → w * h ≤ length pixels → y < h → length (row pixels w y) ≡ w
row_long pixels w h y r Y =
    let n : (y + 1) * w ≡ y * w + w = omega arith in
    let m : y * w + w ≤ length pixels = omega (arith, r, mul-le-mul_right w Y, mul_comm w h, n) in
    let k : (y + 1) * w - y * w ≡ w = omega (arith, n) in
    length-take-le _ (drop (y * w) pixels) (omega (arith, length-drop (y * w) pixels)) ∙ k

-- its number x is the pixel there
pub row_pixel : (pixels : List ℕ) (w x y : ℕ) → x < w → get_or (row pixels w y) x 0 ≡ pixel pixels w x y
row_pixel pixels w x y X =
    let n : (y + 1) * w ≡ y * w + w = omega arith in
    get_or-take ((y + 1) * w - y * w) (drop (y * w) pixels) x 0 (omega (arith, n)) ∙ get_or-drop (y * w) pixels x 0

-- the first t bytes of the rows are written from `at` on, and `next` is the place after them
pub record Drawing (pixels : List ℕ) (w at : ℕ) (before : List ℕ) (t next : ℕ) (after : List ℕ) : Type 0 where
  pub place : next ≡ at + t
  pub written : after ≡ overwritten at (tabulate (laid pixels w) t) before

pub none_drawn : (pixels : List ℕ) (w at : ℕ) (before : List ℕ) → Drawing pixels w at before 0 at before
none_drawn pixels w at before = record { place = omega arith; written = written_none (laid pixels w) at before }

module _ {pixels : List ℕ} {w at : ℕ} {before : List ℕ} {t next : ℕ} {after : List ℕ} (d : Drawing pixels w at before t next after) where
  -- one more byte is written
  pub drawing_more : {v : ℕ} → next < length before → v ≡ laid pixels w t → Drawing pixels w at before (t + 1) (next + 1) (set after next v)
  drawing_more {v} h e = record {
    place = omega (arith, d.place);
    written = rw (d.place) (written_more (laid pixels w) at t v before after (omega (arith, d.place)) d.written e);
  }
