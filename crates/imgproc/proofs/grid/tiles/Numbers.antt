-- The five numbers of pixels: of a line while it is scanned, of two neighbouring boxes, and how large they get. Assumes nothing.
use mathlib.Core.Path.{◌≡◌, refl, sym, ap, ap₂, ◌∙◌, subst}
use Prim.Native.Nat.{ℕ, zero, suc, ◌+◌, ◌-◌, ◌*◌, ◌≤◌, ◌<◌, min, max}
use native.Mathlib.Nat.{le_trans, mul-le-mul, mul-le-mul_right}
use native.Mathlib.Omega.{arith}
use Rattle.image.specs.Layout.{side_limit}
use Rattle.imgproc.specs.declared.grid.tiles.TileNumbers.{TileNumbers}
use Rattle.imgproc.specs.Fold.{fold_from, fold_over, Box, fold_box}
use Rattle.imgproc.specs.FoldLaws.{fold_same}
use Rattle.imgproc.specs.Extremes.{Some, Inside, lowest, highest, fold_box_extreme}
use Rattle.imgproc.specs.Tiles.{numbers_in, line_numbers, joined, Proper}
use Rattle.imgproc.proofs.grid.tiles.Folds.{
  Joining,
  running,
  running_none,
  running_more,
  running_all,
  running_small,
  fold_one,
  fold_shift,
  box_below,
  box_beside,
}

-- numbers are equal field by field
pub same : (a b : TileNumbers) → a.minimum ≡ b.minimum → a.maximum ≡ b.maximum → a.sum ≡ b.sum → a.sum_sq ≡ b.sum_sq → a.count ≡ b.count → a ≡ b
same a b p q r s t =
    let e : numbers a.minimum a.maximum a.sum a.sum_sq a.count ≡ numbers b.minimum b.maximum b.sum b.sum_sq b.count = cc in
    e
  where
    numbers : ℕ → ℕ → ℕ → ℕ → ℕ → TileNumbers
    numbers m M s q c = record { minimum = m; maximum = M; sum = s; sum_sq = q; count = c }

-- how many samples a line has
count_from : (a n : ℕ) → fold_from ◌+◌ (λ i. 1) a n ≡ suc n
unfolding fold_from
count_from a zero = refl
count_from a (suc n) = omega (arith, count_from a n)

line_count : (a b : ℕ) → a ≤ b → fold_over ◌+◌ (λ i. 1) a b ≡ suc (b - a)
unfolding fold_over
line_count a b t = count_from a (b - a)

-- ---- a line while it is scanned

-- the four numbers of f 0, .., f (n - 1), from nothing
pub record Scanned (f : ℕ → ℕ) (n m M s q : ℕ) : Type 0 where
  pub minimum : m ≡ running min 255 f n
  pub maximum : M ≡ running max 0 f n
  pub sum : s ≡ running ◌+◌ 0 f n
  pub sum_sq : q ≡ running ◌+◌ 0 (λ k. f k * f k) n

pub scanned_none : (f : ℕ → ℕ) → Scanned f 0 255 0 0 0
scanned_none f = record {
  minimum = running_none min 255 f;
  maximum = running_none max 0 f;
  sum = running_none ◌+◌ 0 f;
  sum_sq = running_none ◌+◌ 0 (λ k. f k * f k);
}

module _ {f : ℕ → ℕ} {n m M s q : ℕ} (c : Scanned f n m M s q) where
  pub scanned_more : {m' M' v : ℕ} → m' ≡ min m (f n) → M' ≡ max M (f n) → v ≡ f n → Scanned f (n + 1) m' M' (s + v) (q + v * v)
  scanned_more e E V = record {
    minimum = e ∙ ap (λ (k : ℕ). min k (f n)) c.minimum ∙ running_more min 255 f n;
    maximum = E ∙ ap (λ (k : ℕ). max k (f n)) c.maximum ∙ running_more max 0 f n;
    sum = ap₂ ◌+◌ c.sum V ∙ running_more ◌+◌ 0 f n;
    sum_sq = ap₂ (λ (k u : ℕ). k + u * u) c.sum_sq V ∙ running_more ◌+◌ 0 (λ k. f k * f k) n;
  }

  module _ (bytes : (k : ℕ) → f k < 256) where
    -- the sums so far, and the next square
    pub sums_small : {v : ℕ} → v ≡ f n → (s ≤ n * 255) × (q ≤ n * 65025) × (v < 256) × (v * v ≤ 65025)
    sums_small V = (
      omega (arith, c.sum, running_small 255 f (λ k. omega (arith, bytes k)) n),
      omega (arith, c.sum_sq, running_small 65025 (λ k. f k * f k) square n),
      omega (arith, bytes n),
      rw V (square n),
    )
      where
        square : (k : ℕ) → f k * f k ≤ 65025
        square k = let a : f k ≤ 255 = omega (arith, bytes k) in mul-le-mul a a

    -- at the end of the line they are the line's
    pub scanned_all : {s' q' end : ℕ} → s' ≡ s → q' ≡ q → end ≡ n → 0 < end
        → record { minimum = m; maximum = M; sum = s'; sum_sq = q'; count = end } ≡ line_numbers f 0 (end - 1)
    scanned_all {end = k} S Q e t =
        let n_is = sym e in
        same _ _
        (c.minimum ∙ ap (running min 255 f) n_is ∙ running_all min 255 f (omega (arith, bytes 0)) k t)
        (c.maximum ∙ ap (running max 0 f) n_is ∙ running_all max 0 f (omega arith) k t)
        (S ∙ c.sum ∙ ap (running ◌+◌ 0 f) n_is ∙ running_all ◌+◌ 0 f (omega arith) k t)
        (Q ∙ c.sum_sq ∙ ap (running ◌+◌ 0 (λ i. f i * f i)) n_is ∙ running_all ◌+◌ 0 (λ i. f i * f i) (omega arith) k t)
        (omega (arith, line_count 0 (k - 1) (omega arith)))

-- ---- neighbouring boxes

least_joins : Joining min
least_joins = record { assoc = λ a b c. omega arith; comm = λ a b. omega arith }

most_joins : Joining max
most_joins = record { assoc = λ a b c. omega arith; comm = λ a b. omega arith }

sums_join : Joining ◌+◌
sums_join = record { assoc = λ a b c. omega arith; comm = λ a b. omega arith }

-- a line of samples that a longer line has from l to r
pub same_line : (f g : ℕ → ℕ) (l r : ℕ) → l ≤ r → ((i : ℕ) → i ≤ r - l → f i ≡ g (l + i)) → line_numbers f 0 (r - l) ≡ line_numbers g l r
same_line f g l r t e =
    let h : ℕ → ℕ = λ i. g (l + i) in
    same _ _
    (fold_same min f h 0 (r - l) (omega arith) (λ i p q. e i q) ∙ fold_shift min g l r t)
    (fold_same max f h 0 (r - l) (omega arith) (λ i p q. e i q) ∙ fold_shift max g l r t)
    (fold_same ◌+◌ f h 0 (r - l) (omega arith) (λ i p q. e i q) ∙ fold_shift ◌+◌ g l r t)
    (fold_same ◌+◌ (λ i. f i * f i) (λ i. h i * h i) 0 (r - l) (omega arith) (λ i p q. ap (λ (k : ℕ). k * k) (e i q))
    ∙ fold_shift ◌+◌ (λ i. g i * g i) l r t)
    (fold_shift ◌+◌ (λ i. 1) l r t)

-- a box of one row
pub one_row : (f : ℕ → ℕ → ℕ) (l r y : ℕ) → line_numbers (λ x. f x y) l r ≡ numbers_in f (record { left = l; right = r; top = y; bottom = y })
unfolding fold_box
one_row f l r y =
    same _ _
    (sym (fold_one min (λ k. fold_over min (λ x. f x k) l r) y))
    (sym (fold_one max (λ k. fold_over max (λ x. f x k) l r) y))
    (sym (fold_one ◌+◌ (λ k. fold_over ◌+◌ (λ x. f x k) l r) y))
    (sym (fold_one ◌+◌ (λ k. fold_over ◌+◌ (λ x. f x k * f x k) l r) y))
    (sym (fold_one ◌+◌ (λ k. fold_over ◌+◌ (λ x. 1) l r) y))

pub below : (f : ℕ → ℕ → ℕ) (l r t m b : ℕ) → t ≤ m → m < b
    → numbers_in f (record { left = l; right = r; top = t; bottom = b })
    ≡ joined (numbers_in f (record { left = l; right = r; top = t; bottom = m })) (numbers_in f (record { left = l; right = r; top = m + 1; bottom = b }))
below f l r t m b p q =
    same _ _
    (box_below min least_joins f l r t m b p q)
    (box_below max most_joins f l r t m b p q)
    (box_below ◌+◌ sums_join f l r t m b p q)
    (box_below ◌+◌ sums_join (λ x y. f x y * f x y) l r t m b p q)
    (box_below ◌+◌ sums_join (λ x y. 1) l r t m b p q)

pub beside : (f : ℕ → ℕ → ℕ) (l m r t b : ℕ) → l ≤ m → m < r → t ≤ b
    → numbers_in f (record { left = l; right = r; top = t; bottom = b })
    ≡ joined (numbers_in f (record { left = l; right = m; top = t; bottom = b })) (numbers_in f (record { left = m + 1; right = r; top = t; bottom = b }))
beside f l m r t b p q s =
    same _ _
    (box_beside min least_joins f l m r t b p q s)
    (box_beside max most_joins f l m r t b p q s)
    (box_beside ◌+◌ sums_join f l m r t b p q s)
    (box_beside ◌+◌ sums_join (λ x y. f x y * f x y) l m r t b p q s)
    (box_beside ◌+◌ sums_join (λ x y. 1) l m r t b p q s)

-- ---- how large

from_small : (K : ℕ) (f : ℕ → ℕ) (a n : ℕ) → ((i : ℕ) → a ≤ i → i ≤ a + n → f i ≤ K) → fold_from ◌+◌ f a n ≤ suc n * K
unfolding fold_from
from_small K f a zero s = omega (arith, s a (omega arith) (omega arith))
from_small K f a (suc n) s =
    omega (arith, from_small K f a n (λ i p q. s i p (omega arith)), s (a + suc n) (omega arith) (omega arith))

-- a box of at most as many pixels as a picture has
module _ (b : Box) (s : Some b) (p : b.right < b.left + side_limit) (q : b.bottom < b.top + side_limit) where
  box_small : (K : ℕ) (f : ℕ → ℕ → ℕ) → ((x y : ℕ) → Inside b (x, y) → f x y ≤ K) → fold_box ◌+◌ f b ≤ side_limit * (side_limit * K)
  unfolding fold_box fold_over
  box_small K f k =
      let row : (y : ℕ) → b.top ≤ y → y ≤ b.top + (b.bottom - b.top) → fold_from ◌+◌ (λ x. f x y) b.left (b.right - b.left) ≤ side_limit * K = λ y t u.
      le_trans
      (from_small K (λ x. f x y) b.left (b.right - b.left) (λ x l r. k x y ((l, omega (arith, s.across)), (t, omega (arith, s.down)))))
      (mul-le-mul_right K (omega arith)) in
      le_trans (from_small (side_limit * K) _ b.top (b.bottom - b.top) row) (mul-le-mul_right (side_limit * K) (omega arith))

  -- where the maximum is a byte, each pixel is one, and the sums are small
  pub proper : (f : ℕ → ℕ → ℕ) → (numbers_in f b).maximum < 256 → Proper (numbers_in f b)
  proper f top =
      let m = fold_box_extreme lowest f b s in
      let M = fold_box_extreme highest f b s in
      let byte : (x y : ℕ) → Inside b (x, y) → f x y ≤ 255 = λ x y h. omega (arith, M.bound (x, y) h, top) in
      let ordered : (numbers_in f b).minimum ≤ (numbers_in f b).maximum = subst (λ (v : ℕ). (numbers_in f b).minimum ≤ v) M.is (m.bound M.at M.within) in
      record {
        small = record {
          minimum = omega (arith, ordered, top);
          maximum = top;
          sum = box_small 255 f byte;
          sum_sq = box_small 65025 (λ x y. f x y * f x y) (λ x y h. mul-le-mul (byte x y h) (byte x y h));
          count = box_small 1 (λ x y. 1) (λ x y h. omega arith);
        };
        ordered = ordered;
      }

-- so the sums of two such boxes do not wrap
pub sums_fit : {a b : TileNumbers} → Proper a → Proper b
    → (a.sum + b.sum < 18446744073709551616) × (a.sum_sq + b.sum_sq < 18446744073709551616) × (a.count + b.count < 18446744073709551616)
sums_fit u v =
    (omega (arith, u.small.sum, v.small.sum), omega (arith, u.small.sum_sq, v.small.sum_sq), omega (arith, u.small.count, v.small.count))
