-- Document 01, parts 5 and 6: sum S, sum of squares Q and count c of the pixels in a box, by direct summation; and the
-- sums that tables hold. Definitions only.
use Rattle.std.specs.Prelude.{ℕ, zero, suc, ◌+◌, ◌*◌}
use Rattle.imgproc.specs.Fold.{Box, fold_box}

-- the square of each pixel
abbrev pub squared : (ℕ → ℕ → ℕ) → ℕ → ℕ → ℕ
squared f x y = f x y * f x y

-- S, the sum of the pixels f in a box
abbrev pub sum : (ℕ → ℕ → ℕ) → Box → ℕ
sum f b = fold_box ◌+◌ f b

-- Q, the sum of their squares
abbrev pub sum_squares : (ℕ → ℕ → ℕ) → Box → ℕ
sum_squares f b = fold_box ◌+◌ (squared f) b

-- c, their count
abbrev pub count : Box → ℕ
count b = fold_box ◌+◌ (λ x y. 1) b

-- f 0 + .. + f (n - 1)
unfoldable pub sum_to : (ℕ → ℕ) → ℕ → ℕ
sum_to f zero = 0
sum_to f (suc n) = sum_to f n + f n

-- the sum of f over the pixels left of x and above y
abbrev pub box_sum : (ℕ → ℕ → ℕ) → ℕ → ℕ → ℕ
box_sum f x y = sum_to (λ j. sum_to (λ i. f i j) x) y

-- the sum of f over the m by n pixels whose first is (x, y)
abbrev pub rect_sum : (ℕ → ℕ → ℕ) → ℕ → ℕ → ℕ → ℕ → ℕ
rect_sum f x y m n = box_sum (λ i j. f (x + i) (y + j)) m n
