-- Whole roots: there is only one, and dropping j binary digits of a root drops 2 × j of its square. Assumes nothing.
use mathlib.Core.Path.{◌≡◌, sym}
use Prim.Native.Nat.{ℕ, suc, ◌+◌, ◌*◌, ◌/◌, ◌≤◌, ◌<◌}
use native.Mathlib.Omega.{arith}
use native.Mathlib.Nat.{
  le_antisymm,
  le_trans,
  le_of_eq,
  le_of_suc-le-suc,
  lt_of_not-le,
  not-le_of_lt,
  lt_of_lt_of_le,
  mul-le-mul,
  le_of_mul-le-mul_right,
  lt_of_mul-lt-mul_right,
  mul-pos,
  mul-mul-mul_comm,
  div-mul-le_self,
  lt-div-mul-add,
}
use Rattle.imgproc.specs.WholeRoot.{IsRoot}

root_le : (n r s : ℕ) → IsRoot n r → IsRoot n s → r ≤ s
root_le n r s p q = le_of_suc-le-suc (lt_of_not-le (λ (g : suc s ≤ r). not-le_of_lt q.1 (le_trans (over g) p.0)))
  where
    over : suc s ≤ r → (s + 1) * (s + 1) ≤ r * r
    over g = let k : s + 1 ≤ r = omega arith in mul-le-mul k k

-- there is only one
pub root_one : (n r s : ℕ) → IsRoot n r → IsRoot n s → r ≡ s
root_one n r s p q = le_antisymm (root_le n r s p q) (root_le n s r q p)

-- the root of M * 4 ^ j, without its last j digits, is the root of M
pub root_drop : (M x w : ℕ) → 0 < x → IsRoot (M * (x * x)) w → IsRoot M (w / x)
root_drop M x w X h =
    let v = w / x in
    let lo : v * x ≤ w = div-mul-le_self w x in
    let hi : w + 1 ≤ (v + 1) * x = omega (arith, lt-div-mul-add {a = w} {b = x} X) in (
      le_of_mul-le-mul_right (le_trans (le_of_eq (mul-mul-mul_comm v v x x)) (le_trans (mul-le-mul lo lo) h.0)) (mul-pos X X),
      lt_of_mul-lt-mul_right (x * x) (lt_of_lt_of_le h.1 (le_trans (mul-le-mul hi hi) (le_of_eq (sym (mul-mul-mul_comm (v + 1) (v + 1) x x))))),
    )
