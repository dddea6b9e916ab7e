-- What the limit of the narrow Sauvola call says of windows: the largest one is that of some pixel, and within the limit
-- 32 bits hold the sums of each. Assumes nothing.
use Rattle.std.specs.Prelude.{ℕ, ◌+◌, ◌-◌, ◌*◌, ◌^◌, ◌≤◌, ◌<◌, ◌≡◌, min}
use Rattle.std.proofs.Common.{arith, sym, ap₂, ◌∙◌, subst, mul-le-mul, mul-le-mul_right, lt_of_le_of_lt}
use Rattle.imgproc.specs.Reach.{low, high}
use Rattle.imgproc.specs.Sums.{sum, sum_squares, count}
use Rattle.imgproc.specs.SumLaws.{count_is}
use Rattle.imgproc.specs.Sauvola.{window}
use Rattle.imgproc.specs.SauvolaLaws.{window_some, window_sum_le, squares_le}
use Rattle.imgproc.specs.SauvolaNarrow.{window_limit, limit_fits, largest_window}

-- n pixels within the limit have squares whose sum is below 2^32
pub within_fits : (n : ℕ) → n ≤ window_limit → n * 65025 < 2 ^ 32
within_fits n l = lt_of_le_of_lt (mul-le-mul_right 65025 l) limit_fits

module _ (r w h : ℕ) where
  -- no pixel's window has more pixels than the largest
  pub window_at_most : (x y : ℕ) → x < w → y < h → count (window r w h x y) ≤ largest_window r w h
  window_at_most x y X Y =
      subst (λ (n : ℕ). n ≤ largest_window r w h) (sym (count_is (window r w h x y) (window_some r w h x y X Y)))
      (mul-le-mul {n₂ = min (2 * r + 1) w} {m₂ = min (2 * r + 1) h} (omega arith) (omega arith))

  -- and one has as many
  pub window_reaches : 0 < w → 0 < h → count (window r w h (min r (w - 1)) (min r (h - 1))) ≡ largest_window r w h
  window_reaches W H =
      let x = min r (w - 1) in
      let y = min r (h - 1) in
      count_is (window r w h x y) (window_some r w h x y (omega arith) (omega arith))
      ∙ ap₂ (λ (m n : ℕ). m * n) (side_reaches w W) (side_reaches h H)
    where
      side_reaches : (n : ℕ) → 0 < n → high r n (min r (n - 1)) + 1 - low r (min r (n - 1)) ≡ min (2 * r + 1) n
      side_reaches n N = omega arith

  -- a bound above 65025 times the largest window is above the sum over each window of bytes, and over their squares
  pub sums_below : (bound : ℕ) → largest_window r w h * 65025 < bound
      → (f : ℕ → ℕ → ℕ) → ((i j : ℕ) → i < w → j < h → f i j ≤ 255) → (x y : ℕ) → x < w → y < h
      → (sum f (window r w h x y) < bound) × (sum_squares f (window r w h x y) < bound)
  sums_below bound fits f bytes x y X Y =
      let few = window_at_most x y X Y in (
        omega (arith, fits, few, window_sum_le r w h x y X Y f 255 bytes),
        omega (arith, fits, few, squares_le r w h x y X Y f bytes),
      )

  -- so within the limit 32 bits hold them
  pub sums_fit : largest_window r w h ≤ window_limit
      → (f : ℕ → ℕ → ℕ) → ((i j : ℕ) → i < w → j < h → f i j ≤ 255) → (x y : ℕ) → x < w → y < h
      → (sum f (window r w h x y) < 2 ^ 32) × (sum_squares f (window r w h x y) < 2 ^ 32)
  sums_fit fits = sums_below (2 ^ 32) (within_fits (largest_window r w h) fits)
