-- A value rounded to the nearest whole number, and cut to a byte, is the number of i below 255 with v ≥ i + 0.5; a sum above 255 is cut to it. Assumes nothing.
use mathlib.Core.Path.{◌≡◌, refl, sym, ap, ◌∙◌, subst}
use mathlib.Core.Bool.{Bool, true, false, cond, ◌&&◌, ◌||◌, true≢false}
use mathlib.Core.Logic.{⊎_elim}
use Prim.Native.Nat.{ℕ, zero, suc, ◌+◌, ◌*◌, ◌/◌, ◌^◌, ◌≤◌, ◌<◌, min}
use native.Mathlib.Nat.{
  eq-or-lt_of_le,
  mul-pos,
  mul-div_cancel,
  le-div_iff_mul-le,
  div-lt_iff_lt-mul,
  le_of_mul-le-mul_right,
  mul_right_comm,
  le_trans,
  le_of_eq,
}
use native.Mathlib.Decide.{dec_le, dec_lt}
use native.Mathlib.Omega.{arith}
use lib.Dec.{T, ltb, eqb, ltb→lt}
use lib.IntN.{ℤ, pos, negsuc}
use lib.Signed.{lt_z}
use lib.Ieee.{Float, nan, inf, fin, binary64, up, down, odd, units, round, lt, eq, le, to_unsigned}
use lib.Ieee.Back.{round_whole}
use lib.Ieee.Exact.{HasValue}
use lib.Ieee.Fits.{up_pos, down_pos, round_is}
use lib.Ieee.Order.{round_mono}
use borrow.Author.Tests.{lt-ltb, le-ltb, eq-eqb, ne_eqb}
use Rattle.std.specs.Float.{float_round, round_with, ratio_round_half_up}
use Rattle.imgproc.specs.Fold.{bit}
use Rattle.imgproc.specs.Grid.{half_past, count_to, clipped}

-- ---- tests of two sizes

-- a ≤ b as the comparison has it
at_most : (a b : ℕ) → a ≤ b → (ltb a b || (eqb a b && true)) ≡ true
at_most a b h = ⊎_elim (λ (e : a ≡ b). simp (eq-eqb a b e, le-ltb a b (omega arith))) (λ (l : a < b). simp (lt-ltb a b l)) (eq-or-lt_of_le h)

exceeds : (a b : ℕ) → b < a → (ltb a b || (eqb a b && true)) ≡ false
exceeds a b h = simp (le-ltb a b (omega arith), ne_eqb a b (λ q. omega arith))

not_above : (a b : ℕ) → (ltb a b || (eqb a b && true)) ≡ true → a ≤ b
not_above a b e = go (dec_le a b)
  where
    go : Dec (a ≤ b) → a ≤ b
    go (yes h) = h
    go (no n) =
        let f : (ltb a b || (eqb a b && true)) ≡ false = simp (le-ltb a b (omega (arith, n)), ne_eqb a b (λ q. n (omega arith))) in
        absurd (true≢false (sym e ∙ f))

-- no half is at most a value below zero
minus : (a b : ℕ) → 0 < a → (false || (eqb a b && (false || eqb a 0))) ≡ false
minus a b h = ap (λ (k : Bool). eqb a b && k) (ne_eqb a 0 (λ e. omega arith)) ∙ none (eqb a b)
  where
    none : (k : Bool) → (k && false) ≡ false
    none true = refl
    none false = refl

-- ---- a whole number cut to a byte

value_cut : (y : Float) (h : ℕ) → HasValue y false h 1 → to_unsigned 8 y ≡ min h 255
unfolding to_unsigned
value_cut nan h v = absurd v
value_cut (inf s) h v = absurd v
value_cut (fin true m e) h v = absurd (true≢false v.0)
value_cut (fin false m e) h v =
    let k : m * up e ≡ h * down e = omega (arith, v.1) in
    ap (λ (x : ℕ). min (x / down e) 255) k ∙ ap (λ (x : ℕ). min x 255) (mul-div_cancel h (down_pos e))

-- what is at least 256 is cut to 255
large_cut : (x y : Float) → HasValue x false 256 1 → le x y ≡ true → to_unsigned 8 y ≡ 255
unfolding to_unsigned le lt eq
large_cut nan y v h = absurd v
large_cut (inf s) y v h = absurd v
large_cut (fin true m e) y v h = absurd (true≢false v.0)
large_cut (fin false m e) nan v h = absurd (true≢false (sym h))
large_cut (fin false m e) (inf true) v h = absurd (true≢false (sym h))
large_cut (fin false m e) (inf false) v h = refl
large_cut (fin false m e) (fin true n d) v h =
    let k : 0 < m * up e = omega (arith, v.1, down_pos e) in
    absurd (true≢false (sym h ∙ minus (m * up e * down d) (n * up d * down e) (mul-pos k (down_pos d))))
large_cut (fin false m e) (fin false n d) v h =
    let a : m * up e * down d ≤ n * up d * down e = not_above (m * up e * down d) (n * up d * down e) h in
    let k : m * up e ≡ 256 * down e = omega (arith, v.1) in
    let b : 256 * down d * down e ≤ n * up d * down e = le_trans (le_of_eq (mul_right_comm 256 (down d) (down e) ∙ ap (λ (z : ℕ). z * down d) (sym k))) a in
    let c : 256 ≤ n * up d / down d = (le-div_iff_mul-le {k = down d} {x = 256} {y = n * up d} (down_pos d)).1 (le_of_mul-le-mul_right b (down_pos e)) in
    omega arith

is_true : (b : Bool) → T b → b ≡ true
is_true true t = refl
is_true false t = absurd t

cut : (h : ℕ) → to_unsigned 8 (round binary64 false h 1) ≡ min h 255
cut h = go (dec_le h 255)
  where
    go : Dec (h ≤ 255) → to_unsigned 8 (round binary64 false h 1) ≡ min h 255
    go (yes k) = value_cut (round binary64 false h 1) h (round_whole binary64 false h (omega arith))
    go (no k) =
        let e : min h 255 ≡ 255 = omega (arith, k) in
        large_cut (round binary64 false 256 1) (round binary64 false h 1) (round_whole binary64 false 256 (omega arith))
        (is_true _ (round_mono binary64 256 1 h 1 (omega arith) (omega arith) (omega (arith, k))))
        ∙ sym e

below_zero : (q k : ℕ) → to_unsigned 8 (units binary64 true q k) ≡ 0
unfolding units odd to_unsigned
below_zero q k = go (ltb (q * 2 ^ k) (2 ^ (1074 + 1024)))
  where
    digits : (q : ℕ) → to_unsigned 8 (odd 54 true q k 1074) ≡ 0
    digits zero = refl
    digits (suc q) = refl

    go : (b : Bool) → to_unsigned 8 (cond b (odd 54 true q k 1074) (inf true)) ≡ 0
    go true = digits q
    go false = refl

-- ---- the number of i below 255

-- the count where the first n have it and the others not
count_to_lem : (v : Float) (n k : ℕ) → ((i : ℕ) → i < n → le (half_past i) v ≡ true) → ((i : ℕ) → n ≤ i → i < k → le (half_past i) v ≡ false)
    → count_to k v ≡ min n k
unfolding count_to
count_to_lem v n zero yes-es no-es = omega arith
count_to_lem v n (suc k) yes-es no-es =
    let c : count_to k v ≡ min n k = count_to_lem v n k yes-es (λ i p q. no-es i p (omega arith)) in go c (dec_lt k n)
  where
    go : count_to k v ≡ min n k → Dec (k < n) → count_to k v + bit (le (half_past k) v) ≡ min n (suc k)
    go c (yes l) = let t : bit (le (half_past k) v) ≡ 1 = ap (λ (q : Bool). bit q) (yes-es k l) in omega arith
    go c (no l) = let t : bit (le (half_past k) v) ≡ 0 = ap (λ (q : Bool). bit q) (no-es k (omega (arith, l)) (omega arith)) in omega (arith, l)

count_is : (v : Float) (n : ℕ) → n ≤ 255 → ((i : ℕ) → i < n → le (half_past i) v ≡ true) → ((i : ℕ) → n ≤ i → i < 255 → le (half_past i) v ≡ false)
    → n ≡ count_to 255 v
count_is v n s yes-es no-es = omega (arith, count_to_lem v n 255 yes-es no-es)

none_below : (n : ℕ) (d : ℤ) (i : ℕ) → le (half_past i) (fin true n d) ≡ false
unfolding le lt eq
none_below n d i =
    minus ((2 * i + 1) * up (negsuc 0) * down d) (n * up d * down (negsuc 0)) (mul-pos (mul-pos (omega arith) (up_pos (negsuc 0))) (down_pos d))

module _ (n : ℕ) (d : ℤ) where
  -- the size with a half more, rounded down
  abbrev half_up : ℕ
  half_up = (2 * (n * up d) + down d) / (2 * down d)

  twice : 0 < 2 * down d
  twice = omega (arith, down_pos d)

  reached : (i : ℕ) → i < half_up → le (half_past i) (fin false n d) ≡ true
  unfolding le lt eq
  reached i h =
      let k : suc i * (2 * down d) ≤ 2 * (n * up d) + down d = (le-div_iff_mul-le {k = 2 * down d} {x = suc i} twice).0 h in
      at_most ((2 * i + 1) * up (negsuc 0) * down d) (n * up d * down (negsuc 0)) (omega arith)

  passed : (i : ℕ) → half_up ≤ i → le (half_past i) (fin false n d) ≡ false
  unfolding le lt eq
  passed i h =
      let k : 2 * (n * up d) + down d < suc i * (2 * down d) = (div-lt_iff_lt-mul {k = 2 * down d} {y = suc i} twice).0 (omega arith) in
      exceeds ((2 * i + 1) * up (negsuc 0) * down d) (n * up d * down (negsuc 0)) (omega arith)

pub rounded_is : (v : Float) → to_unsigned 8 (float_round binary64 v) ≡ count_to 255 v
unfolding round_with
rounded_is nan = unfold to_unsigned le lt eq in count_is nan 0 (omega arith) (λ i p. absurd (omega arith)) (λ i p q. refl)
rounded_is (inf true) = unfold to_unsigned le lt eq in count_is (inf true) 0 (omega arith) (λ i p. absurd (omega arith)) (λ i p q. refl)
rounded_is (inf false) = unfold to_unsigned le lt eq in count_is (inf false) 255 (omega arith) (λ i p. refl) (λ i p q. absurd (omega arith))
rounded_is (fin true n d) =
    ap (to_unsigned 8) (round_is binary64 true (ratio_round_half_up (n * up d) (down d)) 1)
    ∙ below_zero _ _
    ∙ count_is (fin true n d) 0 (omega arith) (λ i p. absurd (omega arith)) (λ i p q. none_below n d i)
rounded_is (fin false n d) =
    let h = half_up n d in
    cut h
    ∙ count_is (fin false n d) (min h 255) (omega arith) (λ i p. reached n d i (omega arith)) (λ i p q. passed n d i (omega arith))

-- a sum above 255 is clipped to 255
pub high : (s : ℤ) → lt_z (pos 255) s ≡ true → 255 ≡ clipped s
high (pos n) h = let l = ltb→lt 255 n (subst T (sym h) tt) in omega arith
high (negsuc n) h = absurd (true≢false (sym h))
