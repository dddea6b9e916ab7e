-- That `root_of` is what IEEE 754 asks for: of all finite f64s it is the nearest to the real root. Assumes nothing.
use Rattle.std.specs.Prelude.{◌≡◌, refl, ℕ, zero, suc, ◌+◌, ◌-◌, ◌*◌, ◌/◌, ◌%◌, ◌^◌, ◌≤◌, ◌<◌, Bool, true, false, ◌&&◌, ◌||◌, ℤ, pos, negsuc, T, eqb, ltb, leb, Float}
use Rattle.std.proofs.Common.{sym, ap, ◌∙◌, subst, arith, le_trans, le_of_eq, lt_of_le_of_lt, lt_of_lt_of_le, mul-le-mul_right, mul-lt-mul_of_pos_right, lt_of_mul-lt-mul_right, mul-pos, mul_assoc, mul-one, mul_right_comm, zero-mul, mul-div_cancel, zero-lt-suc, true≢false, ltb→lt, eqb→eq, lit<, lit≤, pow_pos, pow-add}
use Rattle.std.specs.Float.{nan, inf, fin, binary64}
use Rattle.std.specs.Float.Ieee.{up, down, fits, lt, eq, le}
use Rattle.std.specs.Float.Ieee.Fits.{and_l, and_r, down_pos, up_pos}
use Rattle.std.specs.Float.Ieee.Exact.{HasValue}
use Rattle.std.specs.Float.Ieee.Order.{le_of_values}
use Rattle.std.specs.Float.Ieee.Positive.{first_pos}
use Rattle.std.specs.Float.Ieee.Scale.{finite}
use Rattle.imgproc.specs.Root.{root_of, FiniteF64, NotBelowZero, units_of, Nearer, NearerThan, RootNearerThan}
use Rattle.imgproc.specs.RootLaws.{zero_size, no_size, root_at, nearest_fits}
use Rattle.imgproc.specs.RootNear.{Short, down_le, pow_back, fill, short, square, no_tie, nearest_of_all}

-- ---- units
exact : (a d k : ℕ) → 0 < d → a ≡ k * d → a ≡ a / d * d
exact a d k D e = e ∙ ap (λ (x : ℕ). x * d) (sym (ap (λ (x : ℕ). x / d) e ∙ mul-div_cancel k D))

-- a finite f64 is a whole number of units
pub in_units : (s : Bool) (m : ℕ) (e : ℤ) → T (fits binary64 (fin s m e))
    → HasValue (fin s m e) s (units_of (fin s m e)) (2 ^ 1074)
in_units s zero e f =
    (refl, exact (0 * up e * 2 ^ 1074) (down e) 0 (down_pos e) (zero_size e ∙ sym (zero-mul (down e))))
in_units s (suc m) (pos p) f = let a = suc m * 2 ^ p * 2 ^ 1074 in (refl, exact a 1 a (lit< tt) (sym (mul-one a)))
in_units s (suc m) (negsuc p) f =
    let k : suc p ≤ 1074 = pow_back (suc p) 1074 (down_le s m (negsuc p) f) in
    let t = 1074 - suc p in
    let e : 2 ^ 1074 ≡ 2 ^ t * 2 ^ suc p = ap (λ (x : ℕ). 2 ^ x) (fill 1074 (suc p) k) ∙ pow-add 2 t (suc p) in
    let q = ap (λ (x : ℕ). suc m * 1 * x) e ∙ sym (mul_assoc (suc m * 1) (2 ^ t) (2 ^ suc p)) in
    (refl, exact (suc m * 1 * 2 ^ 1074) (2 ^ suc p) (suc m * 1 * 2 ^ t) (pow_pos (suc p)) q)

units_are : (x : Float) (s : Bool) (a : ℕ) → HasValue x s a (2 ^ 1074) → units_of x ≡ a
units_are nan s a h = absurd h
units_are (inf t) s a h = absurd h
units_are (fin t m e) s a h = ap (λ (x : ℕ). x / down e) h.1 ∙ mul-div_cancel a (down_pos e)

-- a value of sign plus is not below zero
value_not_below : (x : Float) (a : ℕ) → HasValue x false a (2 ^ 1074) → NotBelowZero x
value_not_below x a h =
    le_of_values (fin false 0 (pos 0)) x 0 1 a (2 ^ 1074) (lit< tt) (pow_pos 1074) (refl, refl) h
    (le_trans (le_of_eq (zero-mul (2 ^ 1074))) (omega arith))

value_finite : (x : Float) (s : Bool) (a : ℕ) → HasValue x s a (2 ^ 1074) → T (finite x)
value_finite nan s a h = absurd h
value_finite (inf t) s a h = absurd h
value_finite (fin t m e) s a h = tt

-- a value above zero is below 2 ^ 2098 units
top_of : (x : Float) (a : ℕ) → 0 < a → T (fits binary64 x) → HasValue x false a (2 ^ 1074) → a < 2 ^ 2098
unfolding fits
top_of nan a A f h = absurd h
top_of (inf s) a A f h = absurd h
top_of (fin true m e) a A f h = absurd (true≢false h.0)
top_of (fin false zero e) a A f h = absurd (no_size a e A h.1)
top_of (fin false (suc m) e) a A f h =
    let t = eqb (suc m % 2) 1 && ltb (suc m) (2 ^ 53) && leb (down e) (2 ^ 1074) in
    let o = ltb (suc m * up e) (2 ^ 1024 * down e) in
    let l : suc m * up e < 2 ^ 1024 * down e = ltb→lt (suc m * up e) (2 ^ 1024 * down e) (and_r t o f) in
    let q = mul_right_comm (2 ^ 1024) (down e) (2 ^ 1074) ∙ ap (λ (x : ℕ). x * down e) (sym (pow-add 2 1024 1074)) in
    lt_of_mul-lt-mul_right (down e)
    (lt_of_le_of_lt (le_of_eq (sym h.1)) (lt_of_lt_of_le (mul-lt-mul_of_pos_right l (pow_pos 1074)) (le_of_eq q)))

-- ---- the root of a value above zero
abbrev AllFarther : Float → ℕ → Type 0
AllFarther x a = (R : ℕ) × HasValue (root_of x) false R (2 ^ 1074) × ((u : ℕ) → Short u → Nearer (a * 2 ^ 1074) R u)

above : (x : Float) (a : ℕ) → 0 < a → T (fits binary64 x) → HasValue x false a (2 ^ 1074) → AllFarther x a
above x a A f h =
    let least = le_trans (lit≤ {m = 2 ^ 53 * 2 ^ 53} {n = 1 * 2 ^ 1074} tt) (mul-le-mul_right (2 ^ 1074) A) in
    let most =
    lt_of_lt_of_le (mul-lt-mul_of_pos_right (top_of x a A f h) (pow_pos 1074))
    (lit≤ {m = 2 ^ 2098 * 2 ^ 1074} {n = 2 ^ 1586 * 2 ^ 1586} tt) in
    let z = nearest_of_all (a * 2 ^ 1074) least most (λ q k Q e. no_tie a 1074 q k Q (short x a f h) e) in
    (z.0, subst (λ (v : Float). HasValue v false z.0 (2 ^ 1074)) (sym (root_at x a A h)) z.1, z.2)

-- and of a value below zero: zero is nearer than it, and the root is nearer than zero
beyond_zero : (n R u : ℕ) → Nearer n R 0 → u < R → (R - u) * (R - u) < 4 * n
beyond_zero n R u z h = lt_of_le_of_lt (square (R - u) (R + 0) (omega arith)) (z.1 (omega arith))

-- the root of zero is that zero, and nothing else is nearer
at_zero : (n R : ℕ) → n ≡ 0 → R ≡ 0 → (s : Bool) (u : ℕ) → NearerThan n R s u
at_zero n R N Z false u = (λ h. over (omega arith), λ h. absurd (none h))
  where
    over : 0 < u → 4 * n < (R + u) * (R + u)
    over h =
        lt_of_le_of_lt
        (le_of_eq (ap (λ (x : ℕ). 4 * x) N))
        (lt_of_lt_of_le (mul-pos h h) (square u (R + u) (omega arith)))

    none : u < R → ⊥
    none h = omega (arith, Z)
at_zero n R N Z true u = λ h. absurd (none h)
  where
    none : u < R → ⊥
    none h = omega (arith, Z)

zero_units : (s : Bool) (e : ℤ) → units_of (fin s 0 e) ≡ 0
zero_units s e = units_are (fin s 0 e) s 0 (refl, zero_size e ∙ sym (zero-mul (down e)))

zero_best : (s : Bool) (e : ℤ) (t : Bool) (u : ℕ)
    → NearerThan (units_of (fin s 0 e) * 2 ^ 1074) (units_of (fin s 0 e)) t u
zero_best s e =
    let a = units_of (fin s 0 e) in
    at_zero (a * 2 ^ 1074) a (ap (λ (x : ℕ). x * 2 ^ 1074) (zero_units s e) ∙ zero-mul (2 ^ 1074)) (zero_units s e)

-- a value of either sign
of_sign : (n R : ℕ) → ((u : ℕ) → Short u → Nearer n R u) → (s : Bool) (k : ℕ) (d : ℤ) → T (fits binary64 (fin s k d))
    → NearerThan n R s (units_of (fin s k d))
of_sign n R z false k d g =
    let u = units_of (fin false k d) in
    z u (short (fin false k d) u g (in_units false k d g))
of_sign n R z true k d g = beyond_zero n R (units_of (fin true k d)) (z 0 (0, 0, refl, lit< tt))

module _ (m : ℕ) (e : ℤ) (f : T (fits binary64 (fin false (suc m) e))) where
  some : 0 < units_of (fin false (suc m) e)
  some =
      first_pos (units_of (fin false (suc m) e)) (down e)
      (subst (λ (x : ℕ). 0 < x) (in_units false (suc m) e f).1
      (mul-pos (mul-pos (zero-lt-suc m) (up_pos e)) (pow_pos 1074)))

  far : AllFarther (fin false (suc m) e) (units_of (fin false (suc m) e))
  far = above (fin false (suc m) e) (units_of (fin false (suc m) e)) some f (in_units false (suc m) e f)

not_minus : (m : ℕ) (e : ℤ) → T (le (fin false 0 (pos 0)) (fin true (suc m) e)) → ⊥
unfolding le lt eq
not_minus m e h =
    let a = 0 * 1 * down e in
    let b = suc m * up e * 1 in
    let q = eqb→eq a b (and_l (eqb a b) (false || eqb a 0) h) in
    none (suc m * up e) (mul-pos (zero-lt-suc m) (up_pos e)) (sym (mul-one (suc m * up e)) ∙ sym q ∙ zero-mul (down e))
  where
    none : (a : ℕ) → 0 < a → a ≡ 0 → ⊥
    none a A q = omega arith

-- ---- the law

-- The root of a finite f64 that is not below zero is one too. Subnormal values are in, and so are both zeros.
-- Of the others, `root_of` says itself: NaN of a NaN and of what is below zero, and +∞ of +∞.
pub root_finite : (x : Float) → FiniteF64 x → NotBelowZero x → FiniteF64 (root_of x) × NotBelowZero (root_of x)
unfolding root_of
root_finite nan f h = absurd f.1
root_finite (inf s) f h = absurd f.1
root_finite (fin true zero e) f h = (f, h)
root_finite (fin false zero e) f h = (f, h)
root_finite (fin true (suc m) e) f h = absurd (not_minus m e h)
root_finite (fin false (suc m) e) f h =
    let x = fin false (suc m) e in
    let a = units_of x in
    let is = root_at x a (some m e f.0) (in_units false (suc m) e f.0) in
    let z = far m e f.0 in (
      (
        subst (λ (v : Float). T (fits binary64 v)) (sym is) (nearest_fits (a * 2 ^ 1074)),
        value_finite (root_of x) false z.0 z.1,
      ),
      value_not_below (root_of x) z.0 z.1,
    )

-- For every finite f64 x that is not below zero, and every finite f64 y of either sign: `root_of x` lies nearer to the
-- real root of x than y does, or y is that value. So no f64 is nearer, and there is never a tie.
pub best : (x y : Float) → FiniteF64 x → NotBelowZero x → FiniteF64 y → RootNearerThan x y
unfolding root_of
best x nan f h g = absurd g.1
best x (inf s) f h g = absurd g.1
best x (fin s k d) f h g = go x f h
  where
    go : (x : Float) → FiniteF64 x → NotBelowZero x → RootNearerThan x (fin s k d)
    go nan f h = absurd f.1
    go (inf t) f h = absurd f.1
    go (fin true zero e) f h = zero_best true e s (units_of (fin s k d))
    go (fin false zero e) f h = zero_best false e s (units_of (fin s k d))
    go (fin true (suc m) e) f h = absurd (not_minus m e h)
    go (fin false (suc m) e) f h =
        let x = fin false (suc m) e in
        let z = far m e f.0 in
        subst (λ (r : ℕ). NearerThan (units_of x * 2 ^ 1074) r s (units_of (fin s k d)))
        (sym (units_are (root_of x) false z.0 z.1))
        (of_sign (units_of x * 2 ^ 1074) z.0 z.2 s k d g.0)
