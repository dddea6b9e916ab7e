-- What erosion and dilation are, without a fold: at each pixel THE extreme of its reach, and nothing else is.
-- Assumes nothing.
use Rattle.std.specs.Prelude.{◌≡◌, Bool, true, false, cond, List, ℕ, ◌+◌, ◌-◌, ◌*◌, ◌/◌, ◌≤◌, ◌<◌, min, length}
use Rattle.std.proofs.Common.{ap, arith}
use Rattle.std.proofs.Math.Nat.{div-add-mod}
use Rattle.image.specs.Plane.{pixel}
use Rattle.image.specs.PlaneLaws.{length-plane, pixel_plane, is_plane}
use Rattle.imgproc.specs.Fold.{fold_box}
use Rattle.imgproc.specs.Extremes.{Extreme, Order, Inside, Some, fold_box_extreme, is_fold_box}
use Rattle.imgproc.specs.Reach.{low, high, radius, one_block, reach_from, reach_to, reach_box}
use Rattle.imgproc.specs.Walks.{sweep_walks_lem}
use Rattle.imgproc.specs.Morphology.{swept_rect}
use Rattle.imgproc.specs.declared.morphology.Operation.{Operation}
use Rattle.imgproc.specs.declared.morphology.Operation.TheVariants.{Erode, Dilate, Open, Close}
use Rattle.imgproc.specs.MorphologyCalls.{operated, operation_walks, operation_r}

-- a reach has a sample
pub reach_some : (k n i : ℕ) → 0 < k → i < n → reach_from k n i ≤ reach_to k n i
unfolding reach_from reach_to
reach_some k n i K h = go (one_block k n i)
  where
    go : (b : Bool)
        → cond b (k * (low (radius k) i / k)) (low (radius k) i)
        ≤ cond b (min (k * (low (radius k) i / k) + k - 1) (n - 1)) (high (radius k) n i)
    go true = omega (arith, div-add-mod (low (radius k) i) k)
    go false = omega arith

-- and ends within the line
pub reach_in : (k n i : ℕ) → 0 < k → i < n → reach_to k n i < n
unfolding reach_to
reach_in k n i pos l = go (one_block k n i)
  where
    go : (b : Bool) → cond b (min (k * (low (radius k) i / k) + k - 1) (n - 1)) (high (radius k) n i) < n
    go true = omega arith
    go false = omega arith

pub length-swept : (op : ℕ → ℕ → ℕ) (kw kh w h : ℕ) (p : List ℕ) → length (swept_rect op kw kh w h p) ≡ w * h
unfolding swept_rect
length-swept op kw kh w h p = length-plane w h (λ x y. fold_box op (pixel p w) (reach_box kw kh w h x y))

pub length-operated : (operation : Operation) (k w h : ℕ) (p : List ℕ) → length (operated operation k w h p) ≡ w * h
length-operated Erode k w h p = length-swept _ _ _ w h _
length-operated Dilate k w h p = length-swept _ _ _ w h _
length-operated Open k w h p = length-swept _ _ _ w h _
length-operated Close k w h p = length-swept _ _ _ w h _

module _ {R : ℕ → ℕ → Type 0} {op : ℕ → ℕ → ℕ} (o : Order R op)
    (kw kh w h : ℕ) (X : 0 < kw) (Y : 0 < kh) (p : List ℕ) where
  some : (x y : ℕ) → x < w → y < h → Some (reach_box kw kh w h x y)
  some x y l m = record { across = reach_some kw w x X l; down = reach_some kh h y Y m }

  -- what erosion (`lowest`) and dilation (`highest`) are: at each pixel a bound of its reach that is attained there
  pub swept_extreme : (x y : ℕ) → x < w → y < h
      → Extreme R (Inside (reach_box kw kh w h x y)) (λ q. pixel p w q.0 q.1)
      (pixel (swept_rect op kw kh w h p) w x y)
  unfolding swept_rect
  swept_extreme x y l m =
      rw (pixel_plane w h (λ x y. fold_box op (pixel p w) (reach_box kw kh w h x y)) x y l m)
      (fold_box_extreme o (pixel p w) (reach_box kw kh w h x y) (some x y l m))

  -- and nothing else is
  pub is_swept : (q : List ℕ) → 0 < w → length q ≡ w * h
      → ((x y : ℕ) → x < w → y < h
      → Extreme R (Inside (reach_box kw kh w h x y)) (λ q. pixel p w q.0 q.1) (pixel q w x y))
      → q ≡ swept_rect op kw kh w h p
  unfolding swept_rect
  is_swept q W l each =
      is_plane w h (λ x y. fold_box op (pixel p w) (reach_box kw kh w h x y)) q W l
      (λ x y a b. is_fold_box o (pixel p w) (reach_box kw kh w h x y) (some x y a b) (each x y a b))

-- the comparisons of each call are R(k), or twice that
pub operation_walks_lem : (operation : Operation) (k w h : ℕ) → 0 < k
    → operation_walks operation k w h ≡ operation_r operation k w h
operation_walks_lem Erode k w h K = sweep_walks_lem k K w h
operation_walks_lem Dilate k w h K = sweep_walks_lem k K w h
operation_walks_lem Open k w h K = ap (λ (n : ℕ). 2 * n) (sweep_walks_lem k K w h)
operation_walks_lem Close k w h K = ap (λ (n : ℕ). 2 * n) (sweep_walks_lem k K w h)
