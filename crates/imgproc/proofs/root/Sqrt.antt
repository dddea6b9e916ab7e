-- std's square root is `root_of`: both round the real root once. std takes it to 2271 binary places and half a place more where it goes
-- on; `root_of` compares squares. Assumes nothing.
use mathlib.Core.Path.{◌≡◌, refl, sym, ap, ap₂, ◌∙◌, subst}
use mathlib.Core.Bool.{Bool, true, false, cond}
use mathlib.Core.Logic.{◌⊎◌, inl, inr}
use Prim.Native.Nat.{ℕ, zero, suc, ◌+◌, ◌-◌, ◌*◌, ◌/◌, ◌%◌, ◌^◌, ◌≤◌, ◌<◌, compare, Ordering}
use native.Mathlib.Omega.{arith}
use native.Mathlib.Nat.{
  lt_irrefl,
  le_of_eq,
  lt_of_lt_of_le,
  lt_of_le_of_lt,
  zero-mul,
  zero-lt-suc,
  mul_assoc,
  mul_right_comm,
  mul-pos,
  mul-le-mul,
  mul-le-mul_right,
  mul-lt-mul_of_pos_right,
  lt_of_mul-lt-mul_right,
  eq_of_mul-eq-mul_right,
  pow-suc,
  mul-div_cancel,
  div-eq_of_lt-le,
  div-div-eq-div-mul,
  div-mul-le_self,
  div-add-mod',
  lt-div-mul-add,
}
use lib.Arith.{lt_of_le-ne}
use lib.Dec.{T, eqb, eqb→eq, eqb_refl}
use lib.IntN.{ℤ, pos, negsuc}
use lib.Pow.{pow_pos}
use lib.Ieee.{Float, nan, inf, fin, binary64, up, down, size, nearest, units, round, root_below, root_twice, sqrt, fits}
use lib.Ieee.Fits.{core, round_is, up_pos, down_pos}
use lib.Ieee.Root.{whole_part}
use Rattle.imgproc.specs.WholeRoot.{IsRoot, whole_root, whole_root_is}
use Rattle.imgproc.specs.Root.{nearest_root, root_of, units_of}
use Rattle.imgproc.specs.RootLaws.{Cmp, cmp, nearest_root_eq, root_at}
use Rattle.imgproc.specs.RootBest.{in_units}
use Rattle.imgproc.proofs.root.Whole.{root_one, root_drop}

-- comparisons that say the same
same_order : (o p : Ordering) (a b x y : ℕ) → Cmp o a b → Cmp p x y → (a < b → x < y) → (a ≡ b → x ≡ y) → (b < a → y < x) → o ≡ p
same_order Ordering.lt Ordering.lt a b x y h k f g i = refl
same_order Ordering.lt Ordering.eq a b x y h k f g i = let l = f h in absurd (omega arith)
same_order Ordering.lt Ordering.gt a b x y h k f g i = let l = f h in absurd (omega arith)
same_order Ordering.eq Ordering.lt a b x y h k f g i = let l = g h in absurd (omega arith)
same_order Ordering.eq Ordering.eq a b x y h k f g i = refl
same_order Ordering.eq Ordering.gt a b x y h k f g i = let l = g h in absurd (omega arith)
same_order Ordering.gt Ordering.lt a b x y h k f g i = let l = i h in absurd (omega arith)
same_order Ordering.gt Ordering.eq a b x y h k f g i = let l = i h in absurd (omega arith)
same_order Ordering.gt Ordering.gt a b x y h k f g i = refl

-- c says whether the root r of N is whole
abbrev Goes : ℕ → ℕ → ℕ → Type 0
Goes N r c = ((c ≡ 0) × (r * r ≡ N)) ⊎ ((c ≡ 1) × (r * r < N))

-- how 2 * r + c compares with 2 * t is how N compares with t * t
module _ (N r c : ℕ) (h : IsRoot N r) (goes : Goes N r c) (t : ℕ) where
  under : 2 * r + c < 2 * t → N < t * t
  under l = let k : r + 1 ≤ t = omega arith in lt_of_lt_of_le h.1 (mul-le-mul k k)

  level : 2 * r + c ≡ 2 * t → N ≡ t * t
  level e = go goes
    where
      go : Goes N r c → N ≡ t * t
      go (inl p) = let k : r ≡ t = omega (arith, p.0, e) in sym p.1 ∙ ap₂ ◌*◌ k k
      go (inr p) = absurd (omega (arith, p.0, e))

  over : 2 * t < 2 * r + c → t * t < N
  over l = go goes
    where
      go : Goes N r c → t * t < N
      go (inl p) = let k : t + 1 ≤ r = omega (arith, p.0, l) in omega (arith, mul-le-mul k k, h.0)
      go (inr p) = let k : t ≤ r = omega (arith, p.0, l) in lt_of_le_of_lt (mul-le-mul k k) p.1

-- A root of N = n * X * X, where X = 2 * Y: in units of D = L * 2 * X the number (2 * r + c) * L has the whole root w of n as its whole
-- part, and is above half way between two multiples of K exactly where the root of n is.
module _ (L Y n r c : ℕ) (l_pos : 0 < L) (y_pos : 0 < Y) (h : IsRoot (n * (2 * Y * (2 * Y))) r) (goes : Goes (n * (2 * Y * (2 * Y))) r c) where
  abbrev D : ℕ
  D = L * (2 * (2 * Y))

  c_small : c ≤ 1
  c_small = go goes
    where
      go : Goes (n * (2 * Y * (2 * Y))) r c → c ≤ 1
      go (inl p) = omega (arith, p.0)
      go (inr p) = omega (arith, p.0)

  whole_is : (w : ℕ) → w ≡ r / (2 * Y) → (2 * r + c) * L / D ≡ w
  whole_is w e =
      let lo : w * (2 * Y) ≤ r = rw e (div-mul-le_self r (2 * Y)) in
      let hi : r < w * (2 * Y) + 2 * Y = rw e (lt-div-mul-add {a = r} {b = 2 * Y} (omega arith)) in
      let a : w * (2 * (2 * Y)) ≤ 2 * r + c = omega arith in
      let b : 2 * r + c < (w + 1) * (2 * (2 * Y)) = omega (arith, c_small) in
      div-eq_of_lt-le D
      (omega (arith, mul-le-mul_right L a))
      (omega (arith, mul-lt-mul_of_pos_right b l_pos))

  module _ (K q : ℕ) (k_pos : 0 < K) (is : (2 * r + c) * L / (D * K) ≡ q) where
    abbrev u : ℕ
    u = D * K

    abbrev rest : ℕ
    rest = (2 * r + c) * L % u

    -- half way, and what is compared with it
    abbrev half : ℕ
    half = (2 * q + 1) * K

    parts : q * u + rest ≡ (2 * r + c) * L
    parts = ap (λ (x : ℕ). x * u + rest) (sym is) ∙ div-add-mod' ((2 * r + c) * L) u

    square : half * Y * (half * Y) ≡ half * half * (Y * Y)
    square = omega arith

    times : n * (2 * Y * (2 * Y)) ≡ 4 * n * (Y * Y)
    times = omega arith

    scale : (2 * q + 1) * u ≡ 2 * (half * Y) * (2 * L)
    scale = omega arith

    double : 0 < 2 * L
    double = omega (arith, l_pos)

    tie : compare (rest * 2) u ≡ compare (4 * n) (half * half)
    tie =
        same_order _ _ (rest * 2) u (4 * n) (half * half) (cmp (rest * 2) u) (cmp (4 * n) (half * half))
        (λ l.
        let k : (2 * r + c) * (2 * L) < 2 * (half * Y) * (2 * L) = omega (arith, parts, scale, l) in
        let m = under (n * (2 * Y * (2 * Y))) r c h goes (half * Y) (lt_of_mul-lt-mul_right (2 * L) k) in
        lt_of_mul-lt-mul_right (Y * Y) (omega (arith, m, square, times)))
        (λ l.
        let k : (2 * r + c) * (2 * L) ≡ 2 * (half * Y) * (2 * L) = omega (arith, parts, scale, l) in
        let m = level (n * (2 * Y * (2 * Y))) r c h goes (half * Y) (eq_of_mul-eq-mul_right (2 * L) double _ _ k) in
        eq_of_mul-eq-mul_right (Y * Y) (mul-pos y_pos y_pos) _ _ (omega (arith, m, square, times)))
        (λ l.
        let k : 2 * (half * Y) * (2 * L) < (2 * r + c) * (2 * L) = omega (arith, parts, scale, l) in
        let m = over (n * (2 * Y * (2 * Y))) r c h goes (half * Y) (lt_of_mul-lt-mul_right (2 * L) k) in
        lt_of_mul-lt-mul_right (Y * Y) (omega (arith, m, square, times)))

-- ---- std's square root

goes_of : (N r : ℕ) → IsRoot N r → Goes N r (cond (eqb (r * r) N) 0 1)
goes_of N r h = go (eqb (r * r) N) (eqb→eq (r * r) N) (λ (e : r * r ≡ N). subst (λ (x : ℕ). T (eqb (r * r) x)) e (eqb_refl (r * r)))
  where
    go : (b : Bool) → (T b → r * r ≡ N) → (r * r ≡ N → T b) → Goes N r (cond b 0 1)
    go true f g = inl (refl, f tt)
    go false f g = inr (refl, lt_of_le-ne h.0 g)

-- 2 ^ 1196
abbrev Y : ℕ
Y = 2 ^ 1196

rounded : (n : ℕ) → round binary64 false (root_twice (n * (2 * Y * (2 * Y)))) (2 ^ 2272) ≡ nearest_root n
unfolding root_twice
rounded n =
    let N = n * (2 * Y * (2 * Y)) in
    let r = root_below (size N) N in
    let c = cond (eqb (r * r) N) 0 1 in
    let h = whole_part N in
    let goes = goes_of N r h in
    let w = whole_root n in
    let k = size w - 53 in
    let is : w ≡ r / (2 * Y) = root_one n w (r / (2 * Y)) (whole_root_is n) (root_drop n (2 * Y) r (pow_pos 1197) h) in
    let whole : (2 * r + c) * 2 ^ 1074 / 2 ^ 2272 ≡ w = whole_is (2 ^ 1074) Y n r c (pow_pos 1074) (pow_pos 1196) h goes w is in
    let q : (2 * r + c) * 2 ^ 1074 / (2 ^ 2272 * 2 ^ k) ≡ w / 2 ^ k =
    sym (div-div-eq-div-mul ((2 * r + c) * 2 ^ 1074) (2 ^ 2272) (2 ^ k)) ∙ ap (λ (x : ℕ). x / 2 ^ k) whole in
    round_is binary64 false (2 * r + c) (2 ^ 2272)
    ∙ ap (λ (x : ℕ). core binary64 false ((2 * r + c) * 2 ^ 1074) (2 ^ 2272) (size x - 53)) whole
    ∙ ap₂ (λ (x : ℕ) (o : Ordering). units binary64 false (nearest x o) k) q
    (tie (2 ^ 1074) Y n r c (pow_pos 1074) (pow_pos 1196) h goes (2 ^ k) (w / 2 ^ k) (pow_pos k) q)
    ∙ sym (nearest_root_eq n)

scaled : (u d a P Q Z : ℕ) → P ≡ Q * Z → u * Q ≡ a * d → 0 < d → u * P / d ≡ a * Z
scaled u d a P Q Z e f p =
    ap (λ (x : ℕ). x / d) (ap (λ (x : ℕ). u * x) e ∙ sym (mul_assoc u Q Z) ∙ ap (λ (x : ℕ). x * Z) f ∙ mul_right_comm a d Z)
    ∙ mul-div_cancel (a * Z) p

some : (a d : ℕ) → 0 < a * d → 0 < a
some zero d h = absurd (lt_irrefl 0 (lt_of_lt_of_le h (le_of_eq (zero-mul d))))
some (suc a) d h = zero-lt-suc a

-- zero is written in one way
zero_at : (s : Bool) (e : ℤ) → T (fits binary64 (fin s zero e)) → fin s 0 (pos 0) ≡ fin s zero e
unfolding fits
zero_at s (pos zero) f = refl
zero_at s (pos (suc k)) f = absurd (omega (arith, eqb→eq (2 ^ suc k * 1) 1 f, pow-suc 2 k, pow_pos k))
zero_at s (negsuc k) f = absurd (omega (arith, eqb→eq (1 * 2 ^ suc k) 1 f, pow-suc 2 k, pow_pos k))

pub sqrt_is : (x : Float) → T (fits binary64 x) → sqrt binary64 x ≡ root_of x
unfolding sqrt root_of
sqrt_is nan f = refl
sqrt_is (inf true) f = refl
sqrt_is (inf false) f = refl
sqrt_is (fin s zero e) f = zero_at s e f
sqrt_is (fin true (suc m) e) f = refl
sqrt_is (fin false (suc m) e) f =
    let x = fin false (suc m) e in
    let a = units_of x in
    let v = in_units false (suc m) e f in
    let A = some a (down e) (subst (λ (y : ℕ). 0 < y) v.1 (mul-pos (mul-pos (zero-lt-suc m) (up_pos e)) (pow_pos 1074))) in
    ap (λ (y : ℕ). round binary64 false (root_twice y) (2 ^ 2272))
    (scaled (suc m * up e) (down e) a (2 ^ 4542) (2 ^ 1074) (2 ^ 1074 * (2 * Y * (2 * Y))) refl v.1 (down_pos e)
    ∙ sym (mul_assoc a (2 ^ 1074) (2 * Y * (2 * Y))))
    ∙ rounded (a * 2 ^ 1074)
    ∙ sym (root_at x a A v)
