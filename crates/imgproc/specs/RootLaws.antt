-- `nearest_root` and `root_of` opened, for the laws about them: their values in units of the smallest value, 2 ^ -1074,
-- and that the format holds them. Assumes nothing.
use Rattle.std.specs.Prelude.{◌≡◌, refl, Bool, true, false, not, cond, ℤ, T, eqb, ltb, Float}
use Rattle.std.proofs.Common.{sym, ap, ◌∙◌, subst, arith, le_trans, lt_of_lt_of_le, lt_of_le_of_lt, zero-mul, mul_right_comm, mul-pos, mul-div_cancel, true≢false, leb→le, eqb→eq, ltb→lt, lit<, pow_mono, shl_lt}
use Prim.Native.Nat.{
  ℕ,
  zero,
  suc,
  ◌+◌,
  ◌-◌,
  ◌*◌,
  ◌/◌,
  ◌^◌,
  ◌≤◌,
  ◌<◌,
  compare,
  Ordering,
}
use Rattle.std.proofs.Math.Dec.{is_le, compare_is_eq, nleb→lt, eqb_refl}
use Rattle.std.proofs.Math.Arith.{lt_of_le-ne}
use Rattle.std.specs.Float.{nan, inf, fin, binary64}
use Rattle.std.specs.Float.Ieee.{up, down, size, nearest, odd, units, fits}
use Rattle.std.specs.Float.Ieee.Fits.{down_pos, odd-fits, nearest-le, kept-lt}
use Rattle.std.specs.Float.Ieee.Exact.{HasValue}
use Rattle.imgproc.specs.WholeRoot.{whole_root}
use Rattle.imgproc.specs.Root.{nearest_root, root_of}

-- ---- what `compare` says
abbrev pub Cmp : Ordering → ℕ → ℕ → Type 0
Cmp Ordering.lt a b = a < b
Cmp Ordering.eq a b = a ≡ b
Cmp Ordering.gt a b = b < a

pub cmp : (a b : ℕ) → Cmp (compare a b) a b
cmp a b =
    go (compare a b) (leb→le a b) (nleb→lt a b) (eqb→eq a b)
    (λ (e : a ≡ b). subst (λ (x : ℕ). T (eqb a x)) e (eqb_refl a))
  where
    go : (o : Ordering) → (T (is_le o) → a ≤ b) → (T (not (is_le o)) → b < a) → (T (compare_is_eq o) → a ≡ b)
        → (a ≡ b → T (compare_is_eq o))
        → Cmp o a b
    go Ordering.lt h k e n = lt_of_le-ne (h tt) n
    go Ordering.eq h k e n = e tt
    go Ordering.gt h k e n = k tt

-- ---- `nearest_root`, from its w and its k on
abbrev pub from : ℕ → ℕ → ℕ → Float
from n w k =
    units binary64 false
    (nearest (w / 2 ^ k) (compare (4 * n) ((2 * (w / 2 ^ k) + 1) * 2 ^ k * ((2 * (w / 2 ^ k) + 1) * 2 ^ k))))
    k

pub nearest_root_eq : (n : ℕ) → nearest_root n ≡ from n (whole_root n) (size (whole_root n) - 53)
unfolding nearest_root
nearest_root_eq n = refl

-- ---- `root_of` of a value that is a units
pub zero_size : (e : ℤ) → 0 * up e * 2 ^ 1074 ≡ 0
zero_size e = ap (λ (x : ℕ). x * 2 ^ 1074) (zero-mul (up e)) ∙ zero-mul (2 ^ 1074)

pub no_size : (a : ℕ) (e : ℤ) → 0 < a → 0 * up e * 2 ^ 1074 ≡ a * down e → ⊥
no_size a e A q = none (a * down e) (mul-pos A (down_pos e)) (sym q ∙ zero_size e)
  where
    none : (a : ℕ) → 0 < a → a ≡ 0 → ⊥
    none a A q = omega arith

pub root_at : (x : Float) (a : ℕ) → 0 < a → HasValue x false a (2 ^ 1074) → root_of x ≡ nearest_root (a * 2 ^ 1074)
unfolding root_of
root_at nan a A h = absurd h
root_at (inf s) a A h = absurd h
root_at (fin true zero e) a A h = absurd (true≢false h.0)
root_at (fin true (suc m) e) a A h = absurd (true≢false h.0)
root_at (fin false zero e) a A h = absurd (no_size a e A h.1)
root_at (fin false (suc m) e) a A h =
    ap nearest_root
    (ap (λ (x : ℕ). x / down e) (ap (λ (x : ℕ). x * 2 ^ 1074) h.1 ∙ mul_right_comm a (down e) (2 ^ 1074))
    ∙ mul-div_cancel (a * 2 ^ 1074) (down_pos e))

-- ---- the nearest root is a value of the format
pub in_range : (h k : ℕ) → h ≤ 9007199254740992 → k ≤ 2000 → h * 2 ^ k < 2 ^ (1074 + 1024)
in_range h k hi K =
    lt_of_lt_of_le (shl_lt {a = h} 54 k (lt_of_le_of_lt hi (lit< tt)))
    (pow_mono {i = 54 + k} {j = 1074 + 1024} (omega arith))

pub units_fits : (h k : ℕ) → h ≤ 9007199254740992 → T (fits binary64 (units binary64 false h k))
unfolding units
units_fits q k a = go (ltb (q * 2 ^ k) (2 ^ (1074 + 1024))) (ltb→lt (q * 2 ^ k) (2 ^ (1074 + 1024)))
  where
    go : (b : Bool) → (T b → q * 2 ^ k < 2 ^ (1074 + 1024))
        → T (fits binary64 (cond b (odd 54 false q k 1074) (inf false)))
    go true h = odd-fits binary64 54 false q k (lt_of_le_of_lt a (lit< tt)) a (h tt)
    go false h = unfold fits in tt

pub nearest_fits : (n : ℕ) → T (fits binary64 (nearest_root n))
nearest_fits n =
    let w = whole_root n in
    let k = size w - 53 in
    let o = compare (4 * n) ((2 * (w / 2 ^ k) + 1) * 2 ^ k * ((2 * (w / 2 ^ k) + 1) * 2 ^ k)) in
    subst (λ (x : Float). T (fits binary64 x)) (sym (nearest_root_eq n))
    (units_fits (nearest (w / 2 ^ k) o) k (le_trans (nearest-le (w / 2 ^ k) o) (kept-lt 53 w)))
