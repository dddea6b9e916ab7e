-- IEEE 754's square root at binary64, over the values of `lib.Ieee`: the value nearest to the real root, a tie to the
-- even one. There are no real numbers here, so the root is compared with the points half way between two values by
-- their squares. That no finite f64 is nearer to the real root of x than `root_of x` is the law `best` of RootBest.
-- Definitions only.
use Prim.Native.Nat.{ℕ, zero, suc, ◌+◌, ◌-◌, ◌*◌, ◌/◌, ◌^◌, ◌<◌, compare}
use Rattle.std.specs.Prelude.{Bool, true, false, T, pos, Float}
use Rattle.std.specs.Float.{nan, inf, fin, binary64}
use Rattle.std.specs.Float.Ieee.{low, prec, up, down, size, nearest, units, fits, le}
use Rattle.std.specs.Float.Ieee.Scale.{finite}
use Rattle.imgproc.specs.WholeRoot.{whole_root}

-- The value nearest to √n times the format's smallest value, for an n above 0. The format keeps the `prec` leading
-- digits q of the whole root w, and drops k. So √n lies from q * 2 ^ k up to (q + 1) * 2 ^ k, and half way between them
-- is (2 * q + 1) * 2 ^ k / 2: which of the two is nearer, or that neither is, is how 4 * n compares with the square of
-- (2 * q + 1) * 2 ^ k. As in `round`, a tie goes to the even one.
unfoldable pub nearest_root : ℕ → Float
unfolding whole_root size units
nearest_root n =
    let w = whole_root n in
    let k = size w - prec binary64 in
    let q = w / 2 ^ k in
    units binary64 false (nearest q (compare (4 * n) ((2 * q + 1) * 2 ^ k * ((2 * q + 1) * 2 ^ k)))) k

-- The square root of each value of binary64: of zero that zero, sign and all, of a value below zero `nan`.
-- A value above zero is m * 2 ^ e, so in units of the smallest value, 2 ^ -low, its root is √(m * 2 ^ e * 2 ^ low * 2 ^
-- low). The division by `down e` is exact.
unfoldable pub root_of : Float → Float
unfolding nearest_root
root_of nan = nan
root_of (inf true) = nan
root_of (inf false) = inf false
root_of (fin s zero e) = fin s zero e
root_of (fin true (suc m) e) = nan
root_of (fin false (suc m) e) = nearest_root (suc m * up e * 2 ^ low binary64 * 2 ^ low binary64 / down e)

-- ---- what `best` says

-- x is a finite f64: no NaN, no infinity
abbrev pub FiniteF64 : Float → Type 0
FiniteF64 x = T (fits binary64 x) × T (finite x)

-- x is not below zero, by IEEE 754's comparison: -0.0 is not
abbrev pub NotBelowZero : Float → Type 0
NotBelowZero x = T (le (fin false 0 (pos 0)) x)

-- a finite f64's sign: true is minus
abbrev pub minus_of : Float → Bool
minus_of nan = false
minus_of (inf s) = s
minus_of (fin s m e) = s

-- the size of a finite f64, without its sign, in units of the smallest value above zero, 2 ^ -low
-- (a whole number of them: the division is exact, `in_units` of RootBest)
abbrev pub units_of : Float → ℕ
units_of nan = 0
units_of (inf s) = 0
units_of (fin s m e) = m * up e * 2 ^ low binary64 / down e

-- √n is nearer to R than to u, or u is R: where u is above R, √n is below the point half way between them, (R + u) / 2,
-- and where u is below R, above it; both sides are doubled and squared
abbrev pub Nearer : ℕ → ℕ → ℕ → Type 0
Nearer n R u = (R < u → 4 * n < (R + u) * (R + u)) × (u < R → (R + u) * (R + u) < 4 * n)

-- the same for a value of size u and sign s: of one below zero, -u, half way is (R - u) / 2, and √n is above that
-- (where u is R or more there is nothing to ask: half way is then not above zero)
abbrev pub NearerThan : ℕ → ℕ → Bool → ℕ → Type 0
NearerThan n R false u = Nearer n R u
NearerThan n R true u = u < R → (R - u) * (R - u) < 4 * n

-- the real root of x is nearer to `root_of x` than to y, or y is that value: of a units the root is √(a * 2 ^ low)
abbrev pub RootNearerThan : Float → Float → Type 0
RootNearerThan x y = NearerThan (units_of x * 2 ^ low binary64) (units_of (root_of x)) (minus_of y) (units_of y)
