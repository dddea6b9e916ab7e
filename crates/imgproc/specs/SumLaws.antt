-- Sums of pixels: a fold by + is a sum, sums of boxes side by side, the sum of a rectangle by four boxes, whole or modulo
-- a number, and the mean of squares against the square of the mean. Assumes nothing.
use Prim.Native.Nat.{ℕ, zero, suc, ◌+◌, ◌-◌, ◌*◌, ◌/◌, ◌%◌, ◌≤◌, ◌<◌}
use Rattle.std.proofs.Math.Decide.{dec_le}
use Rattle.std.proofs.Math.Nat.{mod-lt, mod-eq_of_lt, div-add-mod, add-mul-mod_self_left}
use Rattle.std.proofs.Common.{add-sub_of_le, le_of_lt, lt_of_not-le, le-div_iff_mul-le, mul-le-mul_left, div-mul-le_self, mul_assoc, add-zero, add-suc, mul-suc, arith, add-one, ap, sym, ◌∙◌, subst}
use Rattle.std.specs.Prelude.{◌≡◌}
use Rattle.std.proofs.Math.Path.{refl}
use Rattle.imgproc.specs.Fold.{Box, fold_from, fold_over, fold_box}
use Rattle.imgproc.specs.Sums.{squared, count, sum_to, box_sum, rect_sum}
use Rattle.imgproc.specs.Extremes.{Some}

-- ---- sums along a line

pub sum_none : (f : ℕ → ℕ) → sum_to f 0 ≡ 0
unfolding sum_to
sum_none f = refl

pub sum_more : (f : ℕ → ℕ) (n : ℕ) → sum_to f (n + 1) ≡ sum_to f n + f n
unfolding sum_to
sum_more f n = rw (add-one n)

pub sum_le : (f : ℕ → ℕ) (b n : ℕ) → ((i : ℕ) → i < n → f i ≤ b) → sum_to f n ≤ b * n
unfolding sum_to
sum_le f b zero h = omega arith
sum_le f b (suc n) h = rw mul-suc (omega (arith, sum_le f b n (λ i l. h i (omega arith)), h n (omega arith)))

pub sum_ext : (f g : ℕ → ℕ) (n : ℕ) → ((i : ℕ) → i < n → f i ≡ g i) → sum_to f n ≡ sum_to g n
unfolding sum_to
sum_ext f g zero h = refl
sum_ext f g (suc n) h = omega (arith, sum_ext f g n (λ i l. h i (omega arith)), h n (omega arith))

pub sum_const : (b n : ℕ) → sum_to (λ i. b) n ≡ b * n
unfolding sum_to
sum_const b zero = omega arith
sum_const b (suc n) = rw mul-suc (omega (arith, sum_const b n))

pub sum_split : (f : ℕ → ℕ) (a n : ℕ) → sum_to f (a + n) ≡ sum_to f a + sum_to (λ i. f (a + i)) n
unfolding sum_to
sum_split f a zero = rw (add-zero a, add-zero (sum_to f a))
sum_split f a (suc n) = rw add-suc (omega (arith, sum_split f a n))

-- ---- sums over a box

module _ (f : ℕ → ℕ → ℕ) where
  pub box_top : (x : ℕ) → box_sum f x 0 ≡ 0
  box_top x = sum_none (λ j. sum_to (λ i. f i j) x)

  pub box_left : (y : ℕ) → box_sum f 0 y ≡ 0
  unfolding sum_to
  box_left zero = refl
  box_left (suc y) = rw (box_left y)

  pub box_down : (x y : ℕ) → box_sum f x (y + 1) ≡ box_sum f x y + sum_to (λ i. f i y) x
  box_down x y = sum_more (λ j. sum_to (λ i. f i j) x) y

  pub box_le : (b x y : ℕ) → ((i j : ℕ) → i < x → j < y → f i j ≤ b) → box_sum f x y ≤ b * x * y
  box_le b x y h = sum_le (λ j. sum_to (λ i. f i j) x) (b * x) y (λ j m. sum_le (λ i. f i j) b x (λ i l. h i j l m))

  -- two parts of a box side by side
  pub box_beside : (x m y : ℕ) → box_sum f (x + m) y ≡ box_sum f x y + box_sum (λ i j. f (x + i) j) m y
  unfolding sum_to
  box_beside x m zero = refl
  box_beside x m (suc y) = omega (arith, box_beside x m y, sum_split (λ i. f i y) x m)

-- the sum of a rectangle by the sums of the four boxes at its corners
pub corners : (f : ℕ → ℕ → ℕ) (x y m n : ℕ)
    → box_sum f (x + m) (y + n) + box_sum f x y ≡ box_sum f x (y + n) + box_sum f (x + m) y + rect_sum f x y m n
corners f x y m n =
    omega (
      arith,
      sum_split (λ j. sum_to (λ i. f i j) (x + m)) y n,
      sum_split (λ j. sum_to (λ i. f i j) x) y n,
      box_beside (λ i j. f i (y + j)) x m n,
    )

-- two sums less two others, all taken modulo `modulus`, come to the difference if that is below it
residues : (modulus a b c d r : ℕ) → a + b ≡ c + d + r → r < modulus
    → (a % modulus + b % modulus + 2 * modulus - (c % modulus + d % modulus)) % modulus ≡ r
residues modulus a b c d r h l =
    let m = a % modulus + b % modulus + 2 * modulus - (c % modulus + d % modulus) in
    let small : (n : ℕ) → n % modulus < modulus = λ n. mod-lt n (omega arith) in
    let e : m + modulus * (a / modulus) + modulus * (b / modulus)
    ≡ r + modulus * 2 + modulus * (c / modulus) + modulus * (d / modulus) =
    omega (
      arith,
      h,
      small c,
      small d,
      div-add-mod a modulus,
      div-add-mod b modulus,
      div-add-mod c modulus,
      div-add-mod d modulus,
    ) in
    sym (add-mul-mod_self_left m modulus (a / modulus))
    ∙ sym (add-mul-mod_self_left (m + modulus * (a / modulus)) modulus (b / modulus))
    ∙ ap (λ (n : ℕ). n % modulus) e
    ∙ add-mul-mod_self_left (r + modulus * 2 + modulus * (c / modulus)) modulus (d / modulus)
    ∙ add-mul-mod_self_left (r + modulus * 2) modulus (c / modulus)
    ∙ add-mul-mod_self_left r modulus 2
    ∙ mod-eq_of_lt l

-- the sum of a rectangle by the sums of these four boxes, all taken modulo `modulus`, if it is below that
pub corners_modulo : (modulus : ℕ) (f : ℕ → ℕ → ℕ) (x y m n : ℕ) → rect_sum f x y m n < modulus
    → (box_sum f (x + m) (y + n) % modulus + box_sum f x y % modulus + 2 * modulus
    - (box_sum f x (y + n) % modulus + box_sum f (x + m) y % modulus)) % modulus
    ≡ rect_sum f x y m n
corners_modulo modulus f x y m n l =
    residues modulus (box_sum f (x + m) (y + n)) (box_sum f x y) (box_sum f x (y + n)) (box_sum f (x + m) y)
    (rect_sum f x y m n) (corners f x y m n) l

-- ---- a fold by + is a sum

fold_from_sum : (f : ℕ → ℕ) (a n : ℕ) → fold_from ◌+◌ f a n ≡ sum_to (λ i. f (a + i)) (suc n)
unfolding fold_from sum_to
fold_from_sum f a zero = let e : f a ≡ f (a + 0) = ap f (sym (add-zero a)) in omega arith
fold_from_sum f a (suc n) = omega (arith, fold_from_sum f a n)

pub fold_sum : (f : ℕ → ℕ) (a b : ℕ) → a ≤ b → fold_over ◌+◌ f a b ≡ sum_to (λ i. f (a + i)) (b + 1 - a)
unfolding fold_over
fold_sum f a b h = let e : suc (b - a) ≡ b + 1 - a = omega arith in rw e at (fold_from_sum f a (b - a))

-- the sum over a box is the sum of its rectangle
pub fold_box_sum : (f : ℕ → ℕ → ℕ) (b : Box) → Some b
    → fold_box ◌+◌ f b ≡ rect_sum f b.left b.top (b.right + 1 - b.left) (b.bottom + 1 - b.top)
unfolding fold_box
fold_box_sum f b s =
    fold_sum (λ y. fold_over ◌+◌ (λ x. f x y) b.left b.right) b.top b.bottom s.down
    ∙ sum_ext _ _ (b.bottom + 1 - b.top) (λ j l. fold_sum (λ x. f x (b.top + j)) b.left b.right s.across)

-- the count of a box is its columns times its rows
pub count_is : (b : Box) → Some b → count b ≡ (b.right + 1 - b.left) * (b.bottom + 1 - b.top)
count_is b s =
    fold_box_sum (λ x y. 1) b s
    ∙ sum_ext _ (λ j. b.right + 1 - b.left) (b.bottom + 1 - b.top)
    (λ j l. sum_const 1 (b.right + 1 - b.left) ∙ omega arith)
    ∙ sum_const (b.right + 1 - b.left) (b.bottom + 1 - b.top)

-- ---- the square of the mean is at most the mean of the squares

young : (a b : ℕ) → 2 * (a * b) ≤ b * b + a * a
young a b = go (dec_le a b)
  where
    up : (a k : ℕ) → 2 * (a * (a + k)) ≤ (a + k) * (a + k) + a * a
    up a k = omega arith

    down : (b k : ℕ) → 2 * ((b + k) * b) ≤ b * b + (b + k) * (b + k)
    down b k = omega arith

    go : Dec (a ≤ b) → 2 * (a * b) ≤ b * b + a * a
    go (yes l) = subst (λ (z : ℕ). 2 * (a * z) ≤ z * z + a * a) (add-sub_of_le l) (up a (b - a))
    go (no n) =
        subst (λ (z : ℕ). 2 * (z * b) ≤ b * b + z * z) (add-sub_of_le (le_of_lt (lt_of_not-le n))) (down b (a - b))

young_sum : (f : ℕ → ℕ) (a n : ℕ) → 2 * (a * sum_to f n) ≤ sum_to (λ i. f i * f i) n + a * a * n
unfolding sum_to
young_sum f a zero = omega arith
young_sum f a (suc n) = omega (arith, young_sum f a n, young a (f n))

young_box : (f : ℕ → ℕ → ℕ) (a m n : ℕ) → 2 * (a * box_sum f m n) ≤ box_sum (squared f) m n + a * a * (m * n)
unfolding sum_to
young_box f a m zero = omega arith
young_box f a m (suc n) = omega (arith, young_box f a m n, young_sum (λ i. f i n) a m)

pub mean_square : (f : ℕ → ℕ → ℕ) (m n : ℕ) → 0 < m * n
    → box_sum f m n / (m * n) * (box_sum f m n / (m * n)) ≤ box_sum (squared f) m n / (m * n)
mean_square f m n p =
    let a = box_sum f m n / (m * n) in
    (le-div_iff_mul-le {k = m * n} {x = a * a} {y = box_sum (squared f) m n} p).1
    (omega (
      arith,
      young_box f a m n,
      mul-le-mul_left a (div-mul-le_self (box_sum f m n) (m * n)),
      mul_assoc a a (m * n),
    ))
