-- The one fold that gives every minimum, maximum, sum and count, along a line and over a box of pixels.
-- Definitions only.
use Rattle.std.specs.Prelude.{ℕ, zero, suc, ◌+◌, ◌-◌, Bool, true, false}
use Rattle.imgproc.specs.declared.reach.Area.{Area}

-- 1 where a test holds, else 0
abbrev pub bit : Bool → ℕ
bit true = 1
bit false = 0

-- f a joined by op with the n numbers after it
unfoldable pub fold_from : (ℕ → ℕ → ℕ) → (ℕ → ℕ) → ℕ → ℕ → ℕ
fold_from op f a zero = f a
fold_from op f a (suc n) = op (fold_from op f a n) (f (a + suc n))

-- f a, .., f b joined by op, both ends among them
unfoldable pub fold_over : (ℕ → ℕ → ℕ) → (ℕ → ℕ) → ℕ → ℕ → ℕ
unfolding fold_from
fold_over op f a b = fold_from op f a (b - a)

-- the columns left..right and the rows top..bottom of a picture: the code's `Area`
abbrev pub Box : Type 0
Box = Area

-- f over the pixels of a box, joined by op: `min` and `max` make it an extreme, `◌+◌` a sum
unfoldable pub fold_box : (ℕ → ℕ → ℕ) → (ℕ → ℕ → ℕ) → Box → ℕ
unfolding fold_over
fold_box op f b = fold_over op (λ y. fold_over op (λ x. f x y) b.left b.right) b.top b.bottom
