-- The whole-number root by binary digits, so that it computes, and that it is the largest whole number whose square is
-- at most n. Assumes nothing.
use Rattle.std.specs.Prelude.{ℕ, zero, suc, ◌+◌, ◌*◌, ◌/◌, ◌^◌, ◌≤◌, ◌<◌, ◌≡◌, refl, Bool, true, false, not, cond, T, leb}
use Rattle.std.proofs.Common.{pow-suc, lt_of_lt_of_le, mul-le-mul, le_antisymm, lt_irrefl, arith, sym, subst, leb→le, lit≤}
use Rattle.std.proofs.Math.Nat.{pow-le-pow_left}
use Rattle.std.proofs.Math.Decide.{dec_le}
use Rattle.std.proofs.Math.Dec.{nleb→lt}
use Rattle.std.specs.Float.Ieee.{size}
use Rattle.std.specs.Float.Ieee.Digits.{size-lt}

-- from the root r of n / 4: twice r, or one more where its square is still at most n
abbrev pub grow : ℕ → ℕ → ℕ
grow n r = cond (leb ((2 * r + 1) * (2 * r + 1)) n) (2 * r + 1) (2 * r)

-- the root of an n below 4 ^ d, by d digits
unfoldable pub root_on : ℕ → ℕ → ℕ
root_on zero n = 0
root_on (suc d) n = grow n (root_on d (n / 4))

-- the largest whole number whose square is at most n (`whole_root_is`)
unfoldable pub whole_root : ℕ → ℕ
unfolding root_on size
whole_root n = root_on (size n) n

-- the square of r is at most n, and the next square is not
abbrev pub IsRoot : ℕ → ℕ → Type 0
IsRoot n r = (r * r ≤ n) × (n < (r + 1) * (r + 1))

grow_is : (n r : ℕ) → IsRoot (n / 4) r → IsRoot n (grow n r)
grow_is n r h =
    go
    (leb ((2 * r + 1) * (2 * r + 1)) n)
    (leb→le ((2 * r + 1) * (2 * r + 1)) n)
    (nleb→lt ((2 * r + 1) * (2 * r + 1)) n)
  where
    go : (b : Bool) → (T b → (2 * r + 1) * (2 * r + 1) ≤ n) → (T (not b) → n < (2 * r + 1) * (2 * r + 1))
        → IsRoot n (cond b (2 * r + 1) (2 * r))
    go true p q = let k = p tt in (k, omega arith)
    go false p q = let k = q tt in (omega arith, k)

root_on_is : (d n : ℕ) → n < 4 ^ d → IsRoot n (root_on d n)
unfolding root_on
root_on_is zero n h = (omega arith, omega arith)
root_on_is (suc d) n h =
    grow_is n (root_on d (n / 4)) (root_on_is d (n / 4) (quarter (4 ^ d) (subst (λ (x : ℕ). n < x) (pow-suc 4 d) h)))
  where
    quarter : (x : ℕ) → n < x * 4 → n / 4 < x
    quarter x k = omega arith

by_digits : (n : ℕ) → whole_root n ≡ root_on (size n) n
unfolding whole_root
by_digits n = refl

pub whole_root_is : (n : ℕ) → IsRoot n (whole_root n)
whole_root_is n =
    subst (IsRoot n) (sym (by_digits n))
    (root_on_is (size n) n (lt_of_lt_of_le (size-lt n) (pow-le-pow_left (lit≤ tt) (size n))))

-- a root is at most every other: there is one
at_most : (n r s : ℕ) → IsRoot n r → IsRoot n s → r ≤ s
at_most n r s p q = go (dec_le r s)
  where
    go : Dec (r ≤ s) → r ≤ s
    go (yes l) = l
    go (no m) =
        absurd
        (lt_irrefl n
        (lt_of_lt_of_le q.1
        (lt_le (mul-le-mul {n₁ = s + 1} {m₁ = s + 1} {n₂ = r} {m₂ = r} (omega (arith, m)) (omega (arith, m))))))
      where
        lt_le : (s + 1) * (s + 1) ≤ r * r → (s + 1) * (s + 1) ≤ n
        lt_le h = omega (arith, p.0, h)

pub root_is : (n r : ℕ) → IsRoot n r → r ≡ whole_root n
root_is n r p =
    le_antisymm (at_most n r (whole_root n) p (whole_root_is n)) (at_most n (whole_root n) r (whole_root_is n) p)
