-- One tile row's open tiles, counted over the part of the skip bytes that was handed out. Assumes nothing.
use Rattle.std.proofs.Common.{◌≡◌, refl, sym, ap, ap₂, ◌∙◌, ℕ, ◌+◌, ◌-◌, ◌*◌, ◌≤◌, ◌<◌, Bool, true, false, not, List}
use Rattle.std.proofs.Common.{eqb, length, get_or, take, drop, arith, mul-le-mul_right, suc-mul, mul_comm}
use mir.Val.{bool_byte}
use Rattle.image.specs.PlaneLaws.{length_part, get_d_part}
use Rattle.imgproc.specs.Fold.{bit}
use Rattle.imgproc.specs.Reach.{walk}
use Rattle.imgproc.specs.Walks.{walk_more, walk_le}
use Rattle.imgproc.specs.GridCalls.{skipped}

-- the tile rows of a grid lie in its bytes
pub row_fits : (tx ty j n : ℕ) → j < ty → tx * ty ≤ n → j * tx + tx ≤ n
row_fits tx ty j n J h = omega (arith, mul-le-mul_right tx J, suc-mul j tx, mul_comm tx ty)

-- a byte of 0 counts, and no other does
counts : (b : Bool) → bool_byte b ≡ bit (not (not b))
counts true = refl
counts false = refl

-- a byte counts once at most
one_at_most : (b : Bool) → bool_byte b ≤ 1
one_at_most true = omega arith
one_at_most false = omega arith

module _ (d : List ℕ) (at n : ℕ) (fits : at + n ≤ length d) where
  -- the bytes of the row
  abbrev row : List ℕ
  row = take (at + n - at) (drop at d)

  row_long : length row ≡ n
  row_long = length_part at (at + n - at) d (omega (arith, fits)) ∙ omega arith

  -- the byte at hand
  pub counted : (k : ℕ) {c r : ℕ} → k < length row → c ≡ walk (λ i. not (skipped d (at + i))) k
      → r ≡ bool_byte (eqb (get_or row k 0) 0)
      → c + r ≡ walk (λ i. not (skipped d (at + i))) (k + 1)
  counted k K e f =
      let here = get_d_part at (at + n - at) d (omega (arith, fits)) k (omega (arith, row_long)) in
      ap₂ ◌+◌ e (f ∙ ap (λ (b : ℕ). bool_byte (eqb b 0)) here ∙ counts (eqb (get_or d (at + k) 0) 0))
      ∙ sym (walk_more (λ i. not (skipped d (at + i))) k)

  -- no number is above the row's length, whatever is asked of the byte at hand
  pub counted_few : (k : ℕ) {c r : ℕ} (b : Bool) → k < length row → c ≡ walk (λ i. not (skipped d (at + i))) k
      → r ≡ bool_byte b
      → c + r ≤ n
  counted_few k b K e f =
      omega (arith, row_long, e, f, one_at_most b, walk_le (λ i. not (skipped d (at + i))) k)

  -- all of it
  pub counted_all : (k : ℕ) {c : ℕ} → k ≤ length row → length row ≤ k
      → c ≡ walk (λ i. not (skipped d (at + i))) k → c ≡ walk (λ i. not (skipped d (at + i))) n
  counted_all k K L e = e ∙ ap (walk (λ i. not (skipped d (at + i)))) (omega (arith, row_long))
