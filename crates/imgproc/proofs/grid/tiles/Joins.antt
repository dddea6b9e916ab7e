-- Numbers joined one after another: one more, a bound on their maximum, and the tiles of a table. Assumes nothing.
use mathlib.Core.Path.{◌≡◌, sym, ap, ◌∙◌, subst}
use mathlib.Core.List.{List}
use Prim.Native.Nat.{ℕ, zero, suc, ◌+◌, ◌-◌, ◌≤◌, ◌<◌}
use native.Mathlib.Nat.{sub_self, le_refl}
use native.Mathlib.Omega.{arith}
use Rattle.imgproc.specs.declared.grid.tiles.TileNumbers.{TileNumbers}
use Rattle.imgproc.specs.Tiles.{joined, join_from, join_over, tile_entry, Proper, ProperGrid}

pub join_one : (n : ℕ → TileNumbers) (a : ℕ) → n a ≡ join_over n a a
unfolding join_over join_from
join_one n a = ap (join_from n a) (sym (sub_self a))

pub join_next : (n : ℕ → TileNumbers) (a i : ℕ) → a < i → joined (join_over n a (i - 1)) (n i) ≡ join_over n a i
unfolding join_over join_from
join_next n a i t =
    let e : a + suc (i - 1 - a) ≡ i = omega arith in
    let k : i - a ≡ suc (i - 1 - a) = omega arith in ap (λ (j : ℕ). joined (join_from n a (i - 1 - a)) (n j)) (sym e) ∙ ap (join_from n a) (sym k)

from_maximum : (n : ℕ → TileNumbers) (K a k : ℕ) → ((i : ℕ) → a ≤ i → i ≤ a + k → (n i).maximum < K) → (join_from n a k).maximum < K
unfolding join_from
from_maximum n K a zero h = h a (omega arith) (omega arith)
from_maximum n K a (suc k) h =
    omega (arith, from_maximum n K a k (λ i p q. h i p (omega arith)), h (a + suc k) (omega arith) (omega arith))

-- a bound on each maximum
pub join_maximum : (n : ℕ → TileNumbers) (K a b : ℕ) → a ≤ b → ((i : ℕ) → a ≤ i → i ≤ b → (n i).maximum < K) → (join_over n a b).maximum < K
unfolding join_over
join_maximum n K a b t h = from_maximum n K a (b - a) (λ i p q. h i p (omega arith))

-- the numbers of a run of tiles of one row, and those of one tile
module _ {at tx ty : ℕ} {ws : List ℕ} (G : ProperGrid at tx ty ws) where
  pub row_proper : (a b j : ℕ) → a ≤ b → b < tx → j < ty → Proper (join_over (λ i. tile_entry at tx ws i j) a b)
  row_proper a b j p q r =
      subst Proper (sym (join_one (λ y. join_over (λ x. tile_entry at tx ws x y) a b) j)) (G.each a b j j p q (le_refl j) r)

  pub tile_proper : (i j : ℕ) → i < tx → j < ty → Proper (tile_entry at tx ws i j)
  tile_proper i j I J = subst Proper (sym (join_one (λ x. tile_entry at tx ws x j) i)) (row_proper i i j (le_refl i) I J)
