-- The proof behind `best` of RootBest. A finite f64 has at most 53 digits, so none lies between q * 2 ^ k and
-- (q + 1) * 2 ^ k where q has 53. The root lies between two such neighbours and never half way, and `nearest_root` is
-- the one on its side of half way. All numbers are in units of the smallest value, 2 ^ -1074. Assumes nothing.
use Rattle.std.specs.Prelude.{◌≡◌, Bool, true, false, ◌&&◌, ℤ, pos, negsuc, T, eqb, ltb, leb, Float}
use Rattle.std.proofs.Math.Path.{refl}
use Rattle.std.proofs.Common.{sym, ap, ◌∙◌, subst, inl, inr, arith, le_trans, le_of_eq, le_of_lt, le_refl, le_of_suc-le-suc, lt_of_not-le, not-le_of_lt, lt_of_le_of_lt, lt_of_lt_of_le, mul-le-mul, mul-le-mul_left, mul-le-mul_right, pow-suc, mul-lt-mul_of_pos_right, lt_of_mul-lt-mul_right, mul_assoc, mul-one, eq-zero-or-pos, div-mul-le_self, le-div_iff_mul-le, add-one, true≢false, ltb→lt, leb→le, lit<, pow_pos, pow-add, pow_mono}
use Prim.Native.Nat.{
  ℕ,
  zero,
  suc,
  ◌+◌,
  ◌-◌,
  ◌*◌,
  ◌/◌,
  ◌%◌,
  ◌^◌,
  ◌≤◌,
  ◌<◌,
  compare,
  Ordering,
}
use Rattle.std.proofs.Math.Nat.{mul-mul-mul_comm, eq_of_mul-eq-mul_right, lt-div-mul-add}
use Rattle.std.proofs.Math.Decide.{dec_le}
use Rattle.std.proofs.Math.Pow.{pow-lt}
use Rattle.std.specs.Float.{nan, inf, fin, binary64}
use Rattle.std.specs.Float.Ieee.{up, down, size, nearest, units, fits}
use Rattle.std.specs.Float.Ieee.Digits.{size-lt, size-le, size_reaches}
use Rattle.std.specs.Float.Ieee.Fits.{and_l, and_r, nearest-le, kept-lt}
use Rattle.std.specs.Float.Ieee.Exact.{HasValue, units_val}
use Rattle.imgproc.specs.WholeRoot.{IsRoot, whole_root, whole_root_is}
use Rattle.imgproc.specs.Root.{nearest_root, Nearer}
use Rattle.imgproc.specs.RootLaws.{Cmp, cmp, nearest_root_eq, no_size, in_range}

-- ---- a value of the format has at most 53 digits: in units it is m * 2 ^ t with m below 2 ^ 53
abbrev pub Short : ℕ → Type 0
Short u = (m : ℕ) × (t : ℕ) × (u ≡ m * 2 ^ t) × (m < 9007199254740992)

-- the tests of `fits`, one by one
digits_lt : (m : ℕ) (e : ℤ) → T (fits binary64 (fin false (suc m) e)) → suc m < 9007199254740992
unfolding fits
digits_lt m e f =
    let a = eqb (suc m % 2) 1 in
    let b = ltb (suc m) (2 ^ 53) in
    let c = leb (down e) (2 ^ 1074) in
    let d = ltb (suc m * up e) (2 ^ 1024 * down e) in
    ltb→lt (suc m) (2 ^ 53) (and_r a b (and_l (a && b) c (and_l (a && b && c) d f)))

pub down_le : (s : Bool) (m : ℕ) (e : ℤ) → T (fits binary64 (fin s (suc m) e)) → down e ≤ 2 ^ 1074
unfolding fits
down_le s m e f =
    let a = eqb (suc m % 2) 1 in
    let b = ltb (suc m) (2 ^ 53) in
    let c = leb (down e) (2 ^ 1074) in
    let d = ltb (suc m * up e) (2 ^ 1024 * down e) in
    leb→le (down e) (2 ^ 1074) (and_r (a && b) c (and_l (a && b && c) d f))

pub pow_back : (i j : ℕ) → 2 ^ i ≤ 2 ^ j → i ≤ j
pow_back i j h = le_of_suc-le-suc (lt_of_not-le (λ (g : suc j ≤ i). not-le_of_lt (pow-lt g) h))

pub fill : (a b : ℕ) → b ≤ a → a ≡ a - b + b
fill a b h = omega arith

pub short : (y : Float) (u : ℕ) → T (fits binary64 y) → HasValue y false u (2 ^ 1074) → Short u
short nan u f h = absurd h
short (inf s) u f h = absurd h
short (fin true m e) u f h = absurd (true≢false h.0)
short (fin false zero e) u f h =
    elim (eq-zero-or-pos u) [
      | inl z ↦ (0, 0, z, lit< tt)
      | inr p ↦ absurd (no_size u e p h.1)
    ]
short (fin false (suc m) (pos p)) u f h =
    let z = mul_assoc (suc m) (2 ^ p) (2 ^ 1074) ∙ ap (λ (x : ℕ). suc m * x) (sym (pow-add 2 p 1074)) in
    (suc m, p + 1074, sym (mul-one u) ∙ sym h.1 ∙ z, digits_lt m (pos p) f)
short (fin false (suc m) (negsuc p)) u f h =
    let k : suc p ≤ 1074 = pow_back (suc p) 1074 (down_le false m (negsuc p) f) in
    let t = 1074 - suc p in
    let e : 2 ^ 1074 ≡ 2 ^ t * 2 ^ suc p = ap (λ (x : ℕ). 2 ^ x) (fill 1074 (suc p) k) ∙ pow-add 2 t (suc p) in (
      suc m,
      t,
      eq_of_mul-eq-mul_right (2 ^ suc p) (pow_pos (suc p)) u (suc m * 2 ^ t)
          (sym h.1
          ∙ ap (λ (x : ℕ). x * 2 ^ 1074) (mul-one (suc m))
          ∙ ap (λ (x : ℕ). suc m * x) e
          ∙ sym (mul_assoc (suc m) (2 ^ t) (2 ^ suc p))),
      digits_lt m (negsuc p) f,
    )

-- so from 2 ^ (52 + k) units on it is a multiple of 2 ^ k
multiple : (u k : ℕ) → Short u → 2 ^ (52 + k) ≤ u → (v : ℕ) × (u ≡ v * 2 ^ k)
multiple u k (m, t, e, l) h =
    let c : m * 2 ^ t < 2 ^ (53 + t) =
    lt_of_lt_of_le (mul-lt-mul_of_pos_right l (pow_pos t)) (le_of_eq (sym (pow-add 2 53 t))) in
    let a : 2 ^ (52 + k) < 2 ^ (53 + t) = lt_of_le_of_lt h (lt_of_le_of_lt (le_of_eq e) c) in
    let b : 52 + k < 53 + t = lt_of_not-le (λ (g : 53 + t ≤ 52 + k). not-le_of_lt a (pow_mono g)) in
    let d : t ≡ t - k + k = omega arith in
    let f = ap (λ (x : ℕ). m * 2 ^ x) d ∙ ap (λ (x : ℕ). m * x) (pow-add 2 (t - k) k) in
    (m * 2 ^ (t - k), e ∙ f ∙ sym (mul_assoc m (2 ^ (t - k)) (2 ^ k)))

-- ---- the next value above q * 2 ^ k, and the next below (q + 1) * 2 ^ k, for a q of 53 digits
module _ (q k u : ℕ) (s : Short u) (Q : 4503599627370496 ≤ q) where
  floor : 2 ^ (52 + k) ≤ q * 2 ^ k
  floor = le_trans (le_of_eq (pow-add 2 52 k)) (mul-le-mul_right (2 ^ k) Q)

  next_above : q * 2 ^ k < u → (q + 1) * 2 ^ k ≤ u
  next_above h =
      let z = multiple u k s (le_trans floor (le_of_lt h)) in
      let l : q < z.0 = lt_of_mul-lt-mul_right (2 ^ k) (lt_of_lt_of_le h (le_of_eq z.1)) in
      le_trans (mul-le-mul_right (2 ^ k) (omega arith)) (le_of_eq (sym z.1))

  next_below : u < (q + 1) * 2 ^ k → u ≤ q * 2 ^ k
  next_below h = either (dec_le (2 ^ (52 + k)) u)
    where
      either : Dec (2 ^ (52 + k) ≤ u) → u ≤ q * 2 ^ k
      either (yes g) =
          let z = multiple u k s g in
          let l : z.0 < q + 1 = lt_of_mul-lt-mul_right (2 ^ k) (lt_of_le_of_lt (le_of_eq (sym z.1)) h) in
          le_trans (le_of_eq z.1) (mul-le-mul_right (2 ^ k) (omega arith))
      either (no g) = le_trans (le_of_lt (lt_of_not-le g)) floor

-- ---- every other value is farther
pub square : (a b : ℕ) → a ≤ b → a * a ≤ b * b
square a b h = mul-le-mul h h

square_lt : (a b : ℕ) → a < b → a * a < b * b
square_lt a b h = lt_of_le_of_lt (mul-le-mul_left a (le_of_lt h)) (mul-lt-mul_of_pos_right h (omega arith))

-- The point half way is no root: the square of 2 * q + 1 is odd and has more than 53 digits, so it is no m * 2 ^ i with
-- an m below 2 ^ 53, nor is a multiple of it by a power of two.
odd_square : (q m i j : ℕ) → 4503599627370496 ≤ q → m < 9007199254740992
    → m * 2 ^ i ≡ (2 * q + 1) * (2 * q + 1) * 2 ^ j → ⊥
odd_square q m i j Q M e = either (dec_le i j)
  where
    large : 9007199254740992 < (2 * q + 1) * (2 * q + 1)
    large = let h : 9007199254740993 ≤ 2 * q + 1 = omega arith in omega (arith, mul-le-mul h h)

    one : (a d : ℕ) → a ≤ a * 2 ^ d
    one a d = le_trans (le_of_eq (sym (mul-one a))) (mul-le-mul_left a (pow_pos d))

    -- m is a multiple of the square
    few : (d : ℕ) → m ≡ (2 * q + 1) * (2 * q + 1) * 2 ^ d → ⊥
    few d f = omega (arith, large, one ((2 * q + 1) * (2 * q + 1)) d)

    -- the square is a multiple of m, and with a factor 2 it would be even
    even : (d : ℕ) → m * 2 ^ d ≡ (2 * q + 1) * (2 * q + 1) → ⊥
    even zero f = omega (arith, large)
    even (suc d) f =
        let g : m * 2 ^ suc d ≡ m * 2 ^ d * 2 = ap (λ (x : ℕ). m * x) (pow-suc 2 d) ∙ sym (mul_assoc m (2 ^ d) 2) in
        omega arith

    split : (a b c : ℕ) → c ≤ b → a * 2 ^ b ≡ a * 2 ^ (b - c) * 2 ^ c
    split a b c h =
        ap (λ (x : ℕ). a * 2 ^ x) (fill b c h)
        ∙ ap (λ (x : ℕ). a * x) (pow-add 2 (b - c) c)
        ∙ sym (mul_assoc a (2 ^ (b - c)) (2 ^ c))

    either : Dec (i ≤ j) → ⊥
    either (yes h) =
        few (j - i)
        (eq_of_mul-eq-mul_right (2 ^ i) (pow_pos i) m ((2 * q + 1) * (2 * q + 1) * 2 ^ (j - i))
        (e ∙ split ((2 * q + 1) * (2 * q + 1)) j i h))
    either (no g) =
        let h : j ≤ i = omega arith in
        even (i - j)
        (eq_of_mul-eq-mul_right (2 ^ j) (pow_pos j) (m * 2 ^ (i - j)) ((2 * q + 1) * (2 * q + 1))
        (sym (split m i j h) ∙ e))

pub no_tie : (a l q k : ℕ) → 4503599627370496 ≤ q → Short a
    → 4 * (a * 2 ^ l) ≡ (2 * q + 1) * 2 ^ k * ((2 * q + 1) * 2 ^ k) → ⊥
no_tie a l q k Q (m, t, f, M) e =
    odd_square q m (2 + (t + l)) (k + k) Q M
    (ap (λ (x : ℕ). m * x) (pow-add 2 2 (t + l) ∙ ap (λ (x : ℕ). 4 * x) (pow-add 2 t l))
    ∙ regroup (2 ^ t) (2 ^ l)
    ∙ ap (λ (x : ℕ). 4 * (x * 2 ^ l)) (sym f)
    ∙ e
    ∙ mul-mul-mul_comm (2 * q + 1) (2 ^ k) (2 * q + 1) (2 ^ k)
    ∙ ap (λ (x : ℕ). (2 * q + 1) * (2 * q + 1) * x) (sym (pow-add 2 k k)))
  where
    regroup : (x y : ℕ) → m * (4 * (x * y)) ≡ 4 * (m * x * y)
    regroup x y = omega arith

module _ (n q k u : ℕ) (s : Short u) (Q : 4503599627370496 ≤ q) (lo : q * 2 ^ k * (q * 2 ^ k) ≤ n)
    (hi : n < (q + 1) * 2 ^ k * ((q + 1) * 2 ^ k)) where
  down_best : 4 * n < (2 * q + 1) * 2 ^ k * ((2 * q + 1) * 2 ^ k) → Nearer n (q * 2 ^ k) u
  down_best h = (
    λ g. lt_of_lt_of_le h (square ((2 * q + 1) * 2 ^ k) (q * 2 ^ k + u) (omega (arith, next_above q k u s Q g))),
    λ g. lt_of_lt_of_le (square_lt (q * 2 ^ k + u) (2 * (q * 2 ^ k)) (omega arith)) (omega arith),
  )

  up_best : (2 * q + 1) * 2 ^ k * ((2 * q + 1) * 2 ^ k) < 4 * n → Nearer n ((q + 1) * 2 ^ k) u
  up_best h = (
    λ g. lt_of_lt_of_le (omega arith) (square (2 * ((q + 1) * 2 ^ k)) ((q + 1) * 2 ^ k + u) (omega arith)),
    λ g. lt_of_le_of_lt (square ((q + 1) * 2 ^ k + u) ((2 * q + 1) * 2 ^ k) (omega (arith, next_below q k u s Q g))) h,
  )

  nearest_best : (4 * n ≡ (2 * q + 1) * 2 ^ k * ((2 * q + 1) * 2 ^ k) → ⊥) → (o : Ordering)
      → Cmp o (4 * n) ((2 * q + 1) * 2 ^ k * ((2 * q + 1) * 2 ^ k)) → Nearer n (nearest q o * 2 ^ k) u
  nearest_best z Ordering.lt c = down_best c
  nearest_best z Ordering.eq c = absurd (z c)
  nearest_best z Ordering.gt c = subst (λ (x : ℕ). Nearer n (x * 2 ^ k) u) (add-one q) (up_best c)

-- ---- `nearest_root` of n, from 2 ^ 106 up and below 2 ^ 3172
below_square : (w b n : ℕ) → w * w ≤ n → n < b * b → w < b
below_square w b n h k =
    lt_of_not-le (λ (g : b ≤ w). not-le_of_lt (lt_of_le_of_lt (square b w g) (lt_of_le_of_lt h k)) (le_refl (b * b)))

above_square : (w b n : ℕ) → b * b ≤ n → n < (w + 1) * (w + 1) → b ≤ w
above_square w b n h k =
    le_of_suc-le-suc (lt_of_not-le (λ (g : suc w ≤ b). not-le_of_lt k (le_trans (square (w + 1) b (omega arith)) h)))

module _ (n : ℕ) (least : 2 ^ 53 * 2 ^ 53 ≤ n) (most : n < 2 ^ 1586 * 2 ^ 1586)
    (tie : (q k : ℕ) → 4503599627370496 ≤ q → 4 * n ≡ (2 * q + 1) * 2 ^ k * ((2 * q + 1) * 2 ^ k) → ⊥) where
  w : ℕ
  w = whole_root n

  k : ℕ
  k = size (whole_root n) - 53

  q : ℕ
  q = whole_root n / 2 ^ (size (whole_root n) - 53)

  o : Ordering
  o = compare (4 * n) ((2 * q + 1) * 2 ^ k * ((2 * q + 1) * 2 ^ k))

  w_root : IsRoot n w
  unfolding w
  w_root = whole_root_is n

  k_is : k ≡ size w - 53
  unfolding k w
  k_is = refl

  q_is : q ≡ w / 2 ^ k
  unfolding q k w
  q_is = refl

  w_lo : 9007199254740992 ≤ w
  w_lo = above_square w 9007199254740992 n least w_root.1

  many : 53 < size w
  many = lt_of_not-le (λ (g : size w ≤ 53). not-le_of_lt (lt_of_lt_of_le (size-lt w) (pow_mono g)) w_lo)

  few : size w ≤ 1586
  few = size-le w 1586 (below_square w (2 ^ 1586) n w_root.0 most)

  k_le : k ≤ 2000
  k_le = omega (arith, k_is, few)

  q_down : q * 2 ^ k ≤ w
  q_down = le_trans (le_of_eq (ap (λ (x : ℕ). x * 2 ^ k) q_is)) (div-mul-le_self w (2 ^ k))

  q_up : w + 1 ≤ (q + 1) * 2 ^ k
  q_up =
      omega (
        arith,
        subst (λ (x : ℕ). w < x * 2 ^ k + 2 ^ k) (sym q_is) (lt-div-mul-add {a = w} {b = 2 ^ k} (pow_pos k)),
      )

  q_lo : 4503599627370496 ≤ q
  q_lo =
      subst (λ (x : ℕ). 4503599627370496 ≤ x) (sym q_is)
      ((le-div_iff_mul-le {k = 2 ^ k} {x = 4503599627370496} {y = w} (pow_pos k)).1
      (le_trans (le_of_eq (sym (pow-add 2 52 k))) (size_reaches w (52 + k) (omega (arith, k_is, many)))))

  h_le : nearest q o ≤ 9007199254740992
  h_le =
      le_trans (nearest-le q o)
      (subst (λ (x : ℕ). x < 9007199254740992) (sym (q_is ∙ ap (λ (x : ℕ). w / 2 ^ x) k_is)) (kept-lt 53 w))

  is_units : nearest_root n ≡ units binary64 false (nearest q o) k
  unfolding o q k
  is_units = nearest_root_eq n

  value : HasValue (nearest_root n) false (nearest q o * 2 ^ k) (2 ^ 1074)
  value =
      subst (λ (x : Float). HasValue x false (nearest q o * 2 ^ k) (2 ^ 1074)) (sym is_units)
      (units_val binary64 false (nearest q o) k (in_range (nearest q o) k h_le k_le))

  all_best : (u : ℕ) → Short u → Nearer n (nearest q o * 2 ^ k) u
  unfolding o
  all_best u s =
      nearest_best n q k u s q_lo
      (le_trans (square (q * 2 ^ k) w q_down) w_root.0)
      (lt_of_lt_of_le w_root.1 (square (w + 1) ((q + 1) * 2 ^ k) q_up))
      (tie q k q_lo)
      (compare (4 * n) ((2 * q + 1) * 2 ^ k * ((2 * q + 1) * 2 ^ k)))
      (cmp (4 * n) ((2 * q + 1) * 2 ^ k * ((2 * q + 1) * 2 ^ k)))

  pub nearest_of_all : (R : ℕ) × HasValue (nearest_root n) false R (2 ^ 1074) × ((u : ℕ) → Short u → Nearer n R u)
  nearest_of_all = (nearest q o * 2 ^ k, value, all_best)
