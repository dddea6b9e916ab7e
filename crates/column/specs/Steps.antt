-- What the private functions promise: they draw the bytes of a destination. Definitions only.
use Rattle.std.specs.Prelude.{ℕ, ◌+◌, ◌*◌, ◌≤◌, ◌≡◌, cond, List, eqb, length}
use Rattle.image.specs.Plane.{pixel, overwritten}
use Rattle.pgm.specs.Form.{side_limit}
use Rattle.answer.specs.Answer.{settings}
use Rattle.column.specs.Drawing.{rows_of}

-- the mark of a destination's byte: '#' for the byte that the settings mark a dark pixel with, '.' for every other
abbrev pub ink_of : ℕ → ℕ
ink_of value = cond (eqb value settings.sauvola.dark_value) 35 46

-- what `draw_rows` asks: the pixels are there, and the buffer has room for the rows from `at` on
pub record Room (pixels : List ℕ) (w h : ℕ) (out : List ℕ) (at : ℕ) : Type 0 where
  pub small : w ≤ side_limit
  pub holds : w * h ≤ length pixels
  pub fits : at + (w + 1) * h ≤ length out

-- the contract of `draw_rows`: the rows of the bytes' marks are written from `at` on, and the answer is the place after
-- them
pub record DrawsRows (pixels : List ℕ) (w h : ℕ) (out : List ℕ) (at answer : ℕ) (out' : List ℕ) : Type 0 where
  pub answers : answer ≡ at + (w + 1) * h
  pub leaves : out' ≡ overwritten at (rows_of w h (λ x y. ink_of (pixel pixels w x y))) out
