-- Mean, variance, value and base of `specs/Grid.antt`, as the code's steps meet them. Assumes nothing.
use mathlib.Core.Path.{◌≡◌, sym, ap, ◌∙◌}
use Prim.Native.Nat.{ℕ, ◌+◌, ◌/◌}
use mathlib.Core.Bool.{false}
use lib.IntN.{pos}
use lib.Ieee.{Float, fin, binary64, add, sub, mul, div}
use Rattle.imgproc.specs.declared.grid.config.SauvolaFloats.{SauvolaFloats}
use Rattle.imgproc.specs.declared.grid.config.TileThresholdMethod.{TileThresholdMethod}
use Rattle.imgproc.specs.declared.grid.config.TileThresholdMethod.TheVariants.{Midrange, Sauvola}
use Rattle.imgproc.specs.declared.grid.tiles.TileNumbers.{TileNumbers}
use Rattle.imgproc.specs.Root.{root_of}
use Rattle.imgproc.specs.Grid.{whole, mean_of, at_least_zero, variance_of, sauvola_of, count_to, base_of}

pub variance_is : (s q c : ℕ) (m : Float) → m ≡ mean_of s c → at_least_zero (sub binary64 (div binary64 (whole q) (whole c)) (mul binary64 m m)) ≡ variance_of s q c
unfolding variance_of
variance_is s q c m e = ap (λ (x : Float). at_least_zero (sub binary64 (div binary64 (whole q) (whole c)) (mul binary64 x x))) e

pub sauvola_is : (s q c : ℕ) (k range m v r : Float) → m ≡ mean_of s c → v ≡ variance_of s q c → r ≡ root_of v
    → mul binary64 m (add binary64 (fin false 1 (pos 0)) (mul binary64 k (sub binary64 (div binary64 r range) (fin false 1 (pos 0))))) ≡ sauvola_of s q c k range
unfolding sauvola_of
sauvola_is s q c k range m v r e f g =
    ap (λ (x : Float). mul binary64 x (add binary64 (fin false 1 (pos 0)) (mul binary64 k (sub binary64 (div binary64 r range) (fin false 1 (pos 0)))))) e
    ∙ ap
    (λ (x : Float). mul binary64 (mean_of s c) (add binary64 (fin false 1 (pos 0)) (mul binary64 k (sub binary64 (div binary64 x range) (fin false 1 (pos 0))))))
    (g ∙ ap root_of f)

-- the base by its method
module _ {method : TileThresholdMethod} {r : ℕ} (n : TileNumbers) where
  pub midrange_is : method ≡ Midrange → r ≡ (n.minimum + n.maximum) / 2 → r ≡ base_of method n.minimum n.maximum n.sum n.sum_sq n.count
  unfolding base_of
  midrange_is e f = f ∙ ap (λ (m : TileThresholdMethod). base_of m n.minimum n.maximum n.sum n.sum_sq n.count) (sym e)

  pub floats_are : {s : SauvolaFloats} → method ≡ Sauvola s → r ≡ count_to 255 (sauvola_of n.sum n.sum_sq n.count s.k s.dynamic_range)
      → r ≡ base_of method n.minimum n.maximum n.sum n.sum_sq n.count
  unfolding base_of
  floats_are e f = f ∙ ap (λ (m : TileThresholdMethod). base_of m n.minimum n.maximum n.sum n.sum_sq n.count) (sym e)
