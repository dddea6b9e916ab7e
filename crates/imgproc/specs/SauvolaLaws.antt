-- Laws of part 6: a window holds just the pixels within the radius, and its sums keep to bounds; no subtraction is cut
-- off; and the spread is the largest number whose square is at most the variance. Assumes nothing.
use Rattle.std.specs.Prelude.{ℕ, ◌+◌, ◌-◌, ◌*◌, ◌/◌, ◌≤◌, ◌<◌, ◌↔◌}
use Rattle.std.proofs.Common.{mul-pos, mul-le-mul, arith, sym, subst}
use Rattle.image.specs.Layout.{side_limit}
use Rattle.imgproc.specs.Fold.{Box, fold_box}
use Rattle.imgproc.specs.Extremes.{Near, Inside, Some}
use Rattle.imgproc.specs.Sums.{sum, sum_squares, count, squared}
use Rattle.imgproc.specs.SumLaws.{box_le, fold_box_sum, count_is, mean_square}
use Rattle.imgproc.specs.WholeRoot.{IsRoot, whole_root_is}
use Rattle.imgproc.specs.Tables.{entries_limit}
use Rattle.imgproc.specs.Sauvola.{window, mean, variance, spread}

-- the entries of a table of a picture within the side limit are within theirs
pub entries_small : (w h : ℕ) → w ≤ side_limit → h ≤ side_limit → (w + 1) * (h + 1) ≤ entries_limit
entries_small w h W H = mul-le-mul {n₂ = side_limit + 1} {m₂ = side_limit + 1} (omega arith) (omega arith)

module _ (r w h x y : ℕ) (X : x < w) (Y : y < h) where
  -- the window of (x, y) holds just the pixels of the picture within the radius on both axes
  pub window_is : (i j : ℕ) → Inside (window r w h x y) (i, j) ↔ ((Near r x i × Near r y j) × ((i < w) × (j < h)))
  window_is i j = (λ p. omega arith, λ p. omega arith)

  -- it has a pixel
  pub window_some : Some (window r w h x y)
  window_some = record { across = omega arith; down = omega arith }

  -- the sum over it of numbers of at most `most` each
  pub window_sum_le : (e : ℕ → ℕ → ℕ) (most : ℕ) → ((i j : ℕ) → i < w → j < h → e i j ≤ most)
      → fold_box ◌+◌ e (window r w h x y) ≤ count (window r w h x y) * most
  window_sum_le e most le =
      let b = window r w h x y in
      let m = b.right + 1 - b.left in
      let n = b.bottom + 1 - b.top in
      rw (fold_box_sum e b window_some, count_is b window_some)
      (omega (
        arith,
        box_le (λ i j. e (b.left + i) (b.top + j)) most m n (λ i j l k. le _ _ (omega arith) (omega arith)),
      ))

  -- and of the squares of bytes
  pub squares_le : (f : ℕ → ℕ → ℕ) → ((i j : ℕ) → i < w → j < h → f i j ≤ 255)
      → sum_squares f (window r w h x y) ≤ count (window r w h x y) * 65025
  squares_le f bytes = window_sum_le (squared f) 65025 (λ i j l m. mul-le-mul (bytes i j l m) (bytes i j l m))

-- a box that has a pixel counts one at least
pub count_some : (b : Box) → Some b → 0 < count b
count_some b s =
    let l = s.across in
    let m = s.down in
    subst (λ (n : ℕ). 0 < n) (sym (count_is b s)) (mul-pos (omega arith) (omega arith))

-- ⌊Q/c⌋ is never below mean²: the variance's subtraction is not cut off
pub mean_square_le : (f : ℕ → ℕ → ℕ) (b : Box) → Some b
    → mean (sum f b) (count b) * mean (sum f b) (count b) ≤ sum_squares f b / count b
mean_square_le f b s =
    rw (fold_box_sum f b s, fold_box_sum (squared f) b s, count_is b s)
    (mean_square (λ i j. f (b.left + i) (b.top + j)) (b.right + 1 - b.left) (b.bottom + 1 - b.top)
    (rw (count_is b s) at (count_some b s)))

-- s² is at most the variance, and (s + 1)² is not
pub spread_is : (S Q c : ℕ) → IsRoot (variance S Q c) (spread S Q c)
unfolding spread
spread_is S Q c = whole_root_is (variance S Q c)
