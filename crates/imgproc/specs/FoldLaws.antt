-- Folds over equal samples are equal, along a line and over a box: one law over the joining operation serves minima,
-- maxima and sums. Assumes nothing.
use Rattle.std.specs.Prelude.{◌≡◌, ℕ, zero, suc, ◌+◌, ◌-◌, ◌≤◌}
use Rattle.std.proofs.Common.{ap₂, arith}
use Rattle.imgproc.specs.Fold.{fold_from, fold_over, Box, fold_box}
use Rattle.imgproc.specs.Extremes.{Inside, Some}

module _ (op : ℕ → ℕ → ℕ) where
  -- a sample and the n after it
  pub from_same : (f g : ℕ → ℕ) (a n : ℕ) → ((i : ℕ) → a ≤ i → i ≤ a + n → f i ≡ g i)
      → fold_from op f a n ≡ fold_from op g a n
  unfolding fold_from
  from_same f g a zero e = e a (omega arith) (omega arith)
  from_same f g a (suc n) e =
      ap₂ op (from_same f g a n (λ i p q. e i p (omega arith))) (e (a + suc n) (omega arith) (omega arith))

  -- those from a to b
  pub fold_same : (f g : ℕ → ℕ) (a b : ℕ) → a ≤ b → ((i : ℕ) → a ≤ i → i ≤ b → f i ≡ g i)
      → fold_over op f a b ≡ fold_over op g a b
  unfolding fold_over
  fold_same f g a b t e = from_same f g a (b - a) (λ i p q. e i p (omega arith))

  -- those of a box
  pub box_same : (f g : ℕ → ℕ → ℕ) (b : Box) → Some b → ((x y : ℕ) → Inside b (x, y) → f x y ≡ g x y)
      → fold_box op f b ≡ fold_box op g b
  unfolding fold_box
  box_same f g b s e =
      fold_same _ _ b.top b.bottom s.down
      (λ y p q. fold_same (λ x. f x y) (λ x. g x y) b.left b.right s.across (λ x u v. e x y ((u, v), (p, q))))
