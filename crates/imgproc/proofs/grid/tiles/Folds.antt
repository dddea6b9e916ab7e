-- Folds: one sample more, two neighbouring ranges, two neighbouring boxes, samples counted from another place, a fold that starts from a
-- neutral number, and how large a sum can get. One law over the joining operation serves minima, maxima and sums. Assumes nothing.
use mathlib.Core.Path.{◌≡◌, refl, sym, ap, ap₂, ◌∙◌}
use Prim.Native.Nat.{ℕ, zero, suc, ◌+◌, ◌-◌, ◌*◌, ◌≤◌, ◌<◌}
use native.Mathlib.Nat.{add-zero, add-suc, sub_self, suc-mul}
use native.Mathlib.Numerals.{add-one}
use native.Mathlib.Omega.{arith}
use Rattle.imgproc.specs.Fold.{fold_from, fold_over, fold_box}
use Rattle.imgproc.specs.FoldLaws.{from_same}

-- an operation in any order
pub record Joining (op : ℕ → ℕ → ℕ) : Type 0 where
  pub assoc : (a b c : ℕ) → op (op a b) c ≡ op a (op b c)
  pub comm : (a b : ℕ) → op a b ≡ op b a

module _ (op : ℕ → ℕ → ℕ) where
  pub fold_one : (f : ℕ → ℕ) (a : ℕ) → fold_over op f a a ≡ f a
  unfolding fold_over
  fold_one f a = ap (fold_from op f a) (sub_self a)

-- two neighbouring ranges
module _ (op : ℕ → ℕ → ℕ) (j : Joining op) where
  from_split : (f : ℕ → ℕ) (a k n : ℕ) → fold_from op f a (suc (k + n)) ≡ op (fold_from op f a k) (fold_from op f (a + suc k) n)
  unfolding fold_from
  from_split f a k zero = ap (λ (i : ℕ). op (fold_from op f a i) (f (a + suc i))) (add-zero k)
  from_split f a k (suc n) =
      let e : a + suc (suc (k + n)) ≡ a + suc k + suc n = omega arith in
      ap (λ (i : ℕ). op (fold_from op f a i) (f (a + suc i))) (add-suc k n)
      ∙ ap₂ op (from_split f a k n) (ap f e)
      ∙ j.assoc (fold_from op f a k) (fold_from op f (a + suc k) n) (f (a + suc k + suc n))

  pub fold_split : (f : ℕ → ℕ) (a m b : ℕ) → a ≤ m → m < b → fold_over op f a b ≡ op (fold_over op f a m) (fold_over op f (m + 1) b)
  unfolding fold_over
  fold_split f a m b p q =
      let n : b - a ≡ suc (m - a + (b - (m + 1))) = omega arith in
      let s : a + suc (m - a) ≡ m + 1 = omega arith in
      ap (fold_from op f a) n
      ∙ from_split f a (m - a) (b - (m + 1))
      ∙ ap (λ (i : ℕ). op (fold_from op f a (m - a)) (fold_from op f i (b - (m + 1)))) s

  -- (a b) (c d) = (a c) (b d)
  four : (a b c d : ℕ) → op (op a b) (op c d) ≡ op (op a c) (op b d)
  four a b c d =
      j.assoc a b (op c d)
      ∙ ap (op a) (sym (j.assoc b c d) ∙ ap (λ (x : ℕ). op x d) (j.comm b c) ∙ j.assoc c b d)
      ∙ sym (j.assoc a c (op b d))

  from_pairs : (f g : ℕ → ℕ) (a n : ℕ) → fold_from op (λ i. op (f i) (g i)) a n ≡ op (fold_from op f a n) (fold_from op g a n)
  unfolding fold_from
  from_pairs f g a zero = refl
  from_pairs f g a (suc n) =
      ap (λ (x : ℕ). op x (op (f (a + suc n)) (g (a + suc n)))) (from_pairs f g a n)
      ∙ four (fold_from op f a n) (fold_from op g a n) (f (a + suc n)) (g (a + suc n))

  -- two boxes, one below the other, and one beside the other
  pub box_below : (f : ℕ → ℕ → ℕ) (l r t m b : ℕ) → t ≤ m → m < b
      → fold_box op f (record { left = l; right = r; top = t; bottom = b })
      ≡ op (fold_box op f (record { left = l; right = r; top = t; bottom = m })) (fold_box op f (record { left = l; right = r; top = m + 1; bottom = b }))
  unfolding fold_box
  box_below f l r t m b p q = fold_split (λ y. fold_over op (λ x. f x y) l r) t m b p q

  pub box_beside : (f : ℕ → ℕ → ℕ) (l m r t b : ℕ) → l ≤ m → m < r → t ≤ b
      → fold_box op f (record { left = l; right = r; top = t; bottom = b })
      ≡ op (fold_box op f (record { left = l; right = m; top = t; bottom = b })) (fold_box op f (record { left = m + 1; right = r; top = t; bottom = b }))
  unfolding fold_box fold_over
  box_beside f l m r t b p q s =
      from_same op _ (λ y. op (fold_over op (λ x. f x y) l m) (fold_over op (λ x. f x y) (m + 1) r)) t (b - t) (λ y u v. fold_split (λ x. f x y) l m r p q)
      ∙ from_pairs (λ y. fold_over op (λ x. f x y) l m) (λ y. fold_over op (λ x. f x y) (m + 1) r) t (b - t)

-- the same samples, counted from another place
module _ (op : ℕ → ℕ → ℕ) (f : ℕ → ℕ) (a : ℕ) where
  from_shift : (n : ℕ) → fold_from op (λ i. f (a + i)) 0 n ≡ fold_from op f a n
  unfolding fold_from
  from_shift zero = ap f (add-zero a)
  from_shift (suc n) = let e : 0 + suc n ≡ suc n = omega arith in ap₂ op (from_shift n) (ap (λ (i : ℕ). f (a + i)) e)

  pub fold_shift : (b : ℕ) → a ≤ b → fold_over op (λ i. f (a + i)) 0 (b - a) ≡ fold_over op f a b
  unfolding fold_over
  fold_shift b t = let e : b - a - 0 ≡ b - a = omega arith in ap (fold_from op (λ i. f (a + i)) 0) e ∙ from_shift (b - a)

-- ---- a fold that starts from e

-- e joined with f 0, f 1, .., n of them
unfoldable pub running : (ℕ → ℕ → ℕ) → ℕ → (ℕ → ℕ) → ℕ → ℕ
running op e f zero = e
running op e f (suc n) = op (running op e f n) (f n)

module _ (op : ℕ → ℕ → ℕ) (e : ℕ) (f : ℕ → ℕ) where
  pub running_none : e ≡ running op e f 0
  unfolding running
  running_none = refl

  pub running_more : (n : ℕ) → op (running op e f n) (f n) ≡ running op e f (n + 1)
  unfolding running
  running_more n = ap (running op e f) (sym (add-one n))

  from_running : op e (f 0) ≡ f 0 → (n : ℕ) → running op e f (suc n) ≡ fold_from op f 0 n
  unfolding running fold_from
  from_running h zero = h
  from_running h (suc n) = let k : suc n ≡ 0 + suc n = omega arith in ap₂ op (from_running h n) (ap f k)

  -- where e changes nothing, that is the fold
  pub running_all : op e (f 0) ≡ f 0 → (n : ℕ) → 0 < n → running op e f n ≡ fold_over op f 0 (n - 1)
  unfolding fold_over
  running_all h n t = let k : n ≡ suc (n - 1 - 0) = omega arith in ap (running op e f) k ∙ from_running h (n - 1 - 0)

-- ---- how large

pub running_small : (K : ℕ) (f : ℕ → ℕ) → ((i : ℕ) → f i ≤ K) → (n : ℕ) → running ◌+◌ 0 f n ≤ n * K
unfolding running
running_small K f s zero = omega arith
running_small K f s (suc n) = omega (arith, running_small K f s n, s n, suc-mul n K)
