-- Laws of the grid: its tile counts, and which pixels a tile and a neighbourhood hold. Assumes nothing.
use Rattle.std.specs.Prelude.{◌≡◌, ◌↔◌, ℕ, suc, ◌+◌, ◌-◌, ◌*◌, ◌/◌, ◌%◌, ◌≤◌, ◌<◌, false, List}
use Rattle.std.proofs.Common.{sym, ap, ◌∙◌, ext_get_or, arith, le-ltb}
use Rattle.std.proofs.Common.{le-div_iff_mul-le, div-lt_iff_lt-mul, suc-mul, div-mul-le_self, mul-div_cancel}
use Rattle.std.proofs.Common.{div-add-mod', mod-lt, mul-le-mul_left}
use Rattle.std.proofs.Math.Nat.{div-eq_of_lt-le}
use Rattle.image.specs.Layout.{side_limit}
use Rattle.image.specs.LayoutLaws.{sides_small}
use Rattle.image.specs.Plane.{tabulate, pixel}
use Rattle.image.specs.PlaneLaws.{length-tabulate, get_d_tabulate}
use Rattle.imgproc.specs.declared.grid.config.TileThresholdConfig.{TileThresholdConfig}
use Rattle.imgproc.specs.Reach.{low, high, ceiling}
use Rattle.imgproc.specs.Grid.{tiles_x_of, tiles_y_of, tiles_limit, tile_from, tile_to, around, least, most, skip_of}
use Rattle.imgproc.specs.Extremes.{Near, Between, Inside, Some}

-- ---- tile counts

-- ⌈n / k⌉ is n / k, and one more if a remainder is left
pub ceiling_part : (n k : ℕ) → 0 < k → 0 < n % k → n / k + 1 ≡ ceiling n k
ceiling_part n k K r =
    sym (div-eq_of_lt-le k (omega (arith, div-add-mod' n k)) (omega (arith, div-add-mod' n k, mod-lt n K)))

pub ceiling_whole : (n k : ℕ) → 0 < k → n % k ≡ 0 → n / k ≡ ceiling n k
ceiling_whole n k K r = sym (div-eq_of_lt-le k (omega (arith, div-add-mod' n k)) (omega (arith, div-add-mod' n k)))

-- so nothing wraps
pub quotient_small : (n k : ℕ) → 0 < k → 0 < n % k → n / k < n
quotient_small n k K r = omega (arith, div-add-mod' n k, mul-le-mul_left (n / k) K)

-- a tile starts within the line
pub tile_starts : (n t i : ℕ) → 0 < t → i < ceiling n t → i * t < n
tile_starts n t i T I = omega (arith, (le-div_iff_mul-le {k = t} {x = suc i} {y = n + t - 1} T).0 I, suc-mul i t)

-- it has a sample
pub tile_some : (n t i : ℕ) → 0 < t → i < ceiling n t → tile_from t i ≤ tile_to t n i
tile_some n t i T I = omega (arith, tile_starts n t i T I)

-- tile a holds just the samples whose tile is a
pub in_tile : (n t a i : ℕ) → 0 < t → i < n → Between (tile_from t a) (tile_to t n a) i ↔ (i / t ≡ a)
in_tile n t a i T I = (
  λ p. div-eq_of_lt-le t (omega (arith, p.0)) (omega (arith, p.1, suc-mul a t)),
  λ e. let whole : i / t * t ≡ a * t = ap (λ (k : ℕ). k * t) e in
      (omega (arith, whole, div-mul-le_self i t), omega (arith, whole, div-add-mod' i t, mod-lt i T)),
)

-- the tile of a sample is one of its line's
pub sample_tile : (n t i : ℕ) → 0 < t → i < n → i / t < ceiling n t
sample_tile n t i T I =
    (le-div_iff_mul-le {k = t} {x = suc (i / t)} {y = n + t - 1} T).1
    (omega (arith, suc-mul (i / t) t, div-mul-le_self i t))

-- there are no more tiles than samples, and some where there is one
pub ceiling_small : (n t : ℕ) → 0 < t → ceiling n t ≤ n
ceiling_small n t T =
    omega (
      arith,
      (div-lt_iff_lt-mul {k = t} {x = n + t - 1} {y = suc n} T).1 (omega (arith, suc-mul n t, mul-le-mul_left n T)),
    )

pub ceiling_some : (n t : ℕ) → 0 < t → 0 < n → 0 < ceiling n t
ceiling_some n t T N = (le-div_iff_mul-le {k = t} {x = 1} {y = n + t - 1} T).1 (omega arith)

-- a picture within the side limit has no more tiles than the limit
pub tiles_small : {w h s t tx ty : ℕ} → tx ≡ ceiling w s → ty ≡ ceiling h t → 0 < s → 0 < t → w ≤ side_limit
    → h ≤ side_limit
    → tx * ty ≤ tiles_limit
tiles_small {w} {h} {s} {t} {tx} {ty} X Y S T W H =
    sides_small tx ty (omega (arith, X, W, ceiling_small w s S)) (omega (arith, Y, H, ceiling_small h t T))

-- ---- skips

-- a contrast floor of 0 never skips, whatever the picture
pub floor_0 : (g : TileThresholdConfig) (w h : ℕ) (p : List ℕ) (i j : ℕ) → g.contrast_floor ≡ 0
    → skip_of g w h p i j ≡ false
unfolding skip_of
floor_0 g w h p i j z =
    rw z (le-ltb (most (pixel p w) (around g w h i j) - least (pixel p w) (around g w h i j)) 0 (omega arith))

-- ---- which pixels

-- the neighbourhood of a tile holds, along an axis of n with tiles of t, just the samples whose tile is within the
-- radius of tile a
pub near_tiles : (r n t a i : ℕ) → 0 < t → i < n
    → Between (tile_from t (low r a)) (tile_to t n (high r (ceiling n t) a)) i ↔ Near r a (i / t)
near_tiles r n t a i T I =
    let top = high r (ceiling n t) a in
    let room : suc (i / t) * t ≤ n + t - 1 = omega (arith, suc-mul (i / t) t, div-mul-le_self i t) in
    let last : i / t ≤ ceiling n t - 1 = omega (
      arith,
      (le-div_iff_mul-le {k = t} {x = suc (i / t)} {y = n + t - 1} T).1 room,
    ) in (
      λ p. omega (
        arith,
        (le-div_iff_mul-le {k = t} {x = low r a} {y = i} T).1 p.0,
        (div-lt_iff_lt-mul {k = t} {x = i} {y = suc top} T).1 (omega (arith, suc-mul top t)),
      ),
      λ p. omega (
        arith,
        (le-div_iff_mul-le {k = t} {x = low r a} {y = i} T).0 (omega arith),
        (div-lt_iff_lt-mul {k = t} {x = i} {y = suc top} T).0 (omega arith),
        suc-mul top t,
      ),
    )

-- the neighbourhood of tile (a, b) holds just the pixels whose tile is within the radius on both axes
pub around_is : (g : TileThresholdConfig) (w h a b i j : ℕ) → 0 < g.tile_width → 0 < g.tile_height → i < w → j < h
    → Inside (around g w h a b) (i, j)
    ↔ (Near g.neighborhood_radius a (i / g.tile_width)
    × Near g.neighborhood_radius b (j / g.tile_height))
around_is g w h a b i j W H I Z =
    let x = near_tiles g.neighborhood_radius w g.tile_width a i W I in
    let y = near_tiles g.neighborhood_radius h g.tile_height b j H Z in
    (λ p. (x.0 p.0, y.0 p.1), λ p. (x.1 p.0, y.1 p.1))

-- it has a pixel, so that its minimum and maximum are extremes
axis_some : (r n t a : ℕ) → 0 < t → a < ceiling n t → tile_from t (low r a) ≤ tile_to t n (high r (ceiling n t) a)
axis_some r n t a T A =
    let e : a * t / t ≡ a = mul-div_cancel a T in
    let b = (near_tiles r n t a (a * t) T (tile_starts n t a T A)).1 (omega arith) in omega arith

pub around_some : (g : TileThresholdConfig) (w h a b : ℕ) → 0 < g.tile_width → 0 < g.tile_height → a < tiles_x_of g w
    → b < tiles_y_of g h → Some (around g w h a b)
around_some g w h a b W H A B = record {
  across = axis_some g.neighborhood_radius w g.tile_width a W A;
  down = axis_some g.neighborhood_radius h g.tile_height b H B;
}

-- ---- lists, one number for each tile

-- functions that agree on the places of a list make the same list
pub tabulate_same : (f g : ℕ → ℕ) (n : ℕ) → ((i : ℕ) → i < n → f i ≡ g i) → tabulate f n ≡ tabulate g n
tabulate_same f g n e =
    ext_get_or 0 _ _ (length-tabulate f n ∙ sym (length-tabulate g n))
    (λ i h.
    let t : i < n = omega (arith, length-tabulate f n) in
    get_d_tabulate f n i t ∙ e i t ∙ sym (get_d_tabulate g n i t))
