-- A fold is THE extreme of its range, under either order: one law over the order serves minima and maxima.
-- Assumes nothing.
use Rattle.std.specs.Prelude.{◌≡◌, refl, ◌⊎◌}
use Rattle.std.proofs.Math.Path.{sym, subst}
use Rattle.std.proofs.Common.{◌∙◌, inl, inr, le_refl, le_trans, le_antisymm, eq-or-lt_of_le}
use Rattle.std.proofs.Math.Logic.{⊎_elim}
use Rattle.std.proofs.lemmas.Bool.{cases_lt}
use Prim.Native.Nat.{ℕ, zero, suc, ◌+◌, ◌-◌, ◌≤◌, min, max}
use Rattle.std.proofs.Math.Nat.{min-le_left, min-le_right, le-max_left, le-max_right}
use native.Mathlib.Omega.{arith}
use Rattle.imgproc.specs.Fold.{fold_from, fold_over, Box, fold_box}

-- v is the extreme, under the order R, of the samples f at the indices S: it stands before each of them, and is one of
-- them
pub record Extreme {I : Type 0} (R : ℕ → ℕ → Type 0) (S : I → Type 0) (f : I → ℕ) (v : ℕ) : Type 0 where
  pub bound : (i : I) → S i → R v (f i)
  pub at : I
  pub within : S at
  pub is : f at ≡ v

-- R orders samples, and op chooses the first of two under it
pub record Order (R : ℕ → ℕ → Type 0) (op : ℕ → ℕ → ℕ) : Type 0 where
  pub same : (a : ℕ) → R a a
  pub trans : {a b c : ℕ} → R a b → R b c → R a c
  pub anti : {a b : ℕ} → R a b → R b a → a ≡ b
  pub left : (a b : ℕ) → R (op a b) a
  pub right : (a b : ℕ) → R (op a b) b
  pub one : (a b : ℕ) → (op a b ≡ a) ⊎ (op a b ≡ b)

abbrev pub Low : ℕ → ℕ → Type 0
Low a b = a ≤ b

abbrev pub High : ℕ → ℕ → Type 0
High a b = b ≤ a

-- of two samples one is at most the other
le_or : (a b : ℕ) → (a ≤ b) ⊎ (b ≤ a)
le_or a b = ⊎_elim (λ p. inl (omega arith)) (λ q. inr q) (cases_lt a b)

pub lowest : Order Low min
lowest = record {
  same = le_refl;
  trans = λ p q. le_trans p q;
  anti = λ p q. le_antisymm p q;
  left = min-le_left;
  right = min-le_right;
  one = λ a b. ⊎_elim (λ p. inl (omega arith)) (λ q. inr (omega arith)) (le_or a b);
}

pub highest : Order High max
highest = record {
  same = le_refl;
  trans = λ p q. le_trans q p;
  anti = λ p q. le_antisymm q p;
  left = le-max_left;
  right = le-max_right;
  one = λ a b. ⊎_elim (λ p. inr (omega arith)) (λ q. inl (omega arith)) (le_or a b);
}

-- i lies from a to b, both ends among them; and p in a box
abbrev pub Between : ℕ → ℕ → ℕ → Type 0
Between a b i = (a ≤ i) × (i ≤ b)

abbrev pub Inside : Box → ℕ × ℕ → Type 0
Inside b p = Between b.left b.right p.0 × Between b.top b.bottom p.1

-- a and b are at most r apart
abbrev pub Near : ℕ → ℕ → ℕ → Type 0
Near r a b = (a ≤ b + r) × (b ≤ a + r)

-- the box has a pixel
pub record Some (b : Box) : Type 0 where
  pub across : b.left ≤ b.right
  pub down : b.top ≤ b.bottom

module _ {R : ℕ → ℕ → Type 0} {op : ℕ → ℕ → ℕ} (o : Order R op) where
  -- an extreme is unique
  pub unique : {I : Type 0} {S : I → Type 0} {f : I → ℕ} {v w : ℕ} → Extreme R S f v → Extreme R S f w → v ≡ w
  unique {v} {w} x y =
      o.anti
      (subst (λ (n : ℕ). R v n) y.is (x.bound y.at y.within))
      (subst (λ (n : ℕ). R w n) x.is (y.bound x.at x.within))

  -- the fold over a..a + n is the extreme there
  fold_from_lem : (f : ℕ → ℕ) (a n : ℕ) → Extreme R (Between a (a + n)) f (fold_from op f a n)
  unfolding fold_from
  fold_from_lem f a zero = record {
    bound = λ i h. subst (λ (j : ℕ). R (f a) (f j)) (omega arith) (o.same (f a));
    at = a;
    within = (omega arith, omega arith);
    is = refl;
  }
  fold_from_lem f a (suc n) =
      let x = fold_from_lem f a n in
      let v = fold_from op f a n in
      let z = f (a + suc n) in
      let below : (i : ℕ) → Between a (a + suc n) i → R (op v z) (f i) = λ i h.
      ⊎_elim
      (λ e. subst (λ (j : ℕ). R (op v z) (f j)) (sym e) (o.right v z))
      (λ l. o.trans (o.left v z) (x.bound i (omega arith)))
      (eq-or-lt_of_le h.1) in
      ⊎_elim
      (λ e. record { bound = below; at = x.at; within = (x.within.0, omega arith); is = x.is ∙ sym e })
      (λ e. record { bound = below; at = a + suc n; within = (omega arith, omega arith); is = sym e })
      (o.one v z)

  pub fold_extreme : (f : ℕ → ℕ) (a b : ℕ) → a ≤ b → Extreme R (Between a b) f (fold_over op f a b)
  unfolding fold_over
  fold_extreme f a b h = let e : a + (b - a) ≡ b = omega arith in rw e at (fold_from_lem f a (b - a))

  -- and of a box: the extreme of its rows' extremes
  pub fold_box_extreme : (f : ℕ → ℕ → ℕ) (b : Box) → Some b
      → Extreme R (Inside b) (λ p. f p.0 p.1) (fold_box op f b)
  unfolding fold_box
  fold_box_extreme f b s =
      let row : (y : ℕ)
      → Extreme R (Between b.left b.right) (λ x. f x y) (fold_over op (λ x. f x y) b.left b.right) = λ y.
      fold_extreme (λ x. f x y) b.left b.right s.across in
      let all = fold_extreme (λ y. fold_over op (λ x. f x y) b.left b.right) b.top b.bottom s.down in
      record {
        bound = λ p h. o.trans (all.bound p.1 h.1) ((row p.1).bound p.0 h.0);
        at = ((row all.at).at, all.at);
        within = ((row all.at).within, all.within);
        is = (row all.at).is ∙ all.is;
      }

  -- so whatever is an extreme there is the fold
  pub is_fold : {f : ℕ → ℕ} {v : ℕ} (a b : ℕ) → a ≤ b → Extreme R (Between a b) f v → v ≡ fold_over op f a b
  is_fold {f} a b h x = unique x (fold_extreme f a b h)

  pub is_fold_box : (f : ℕ → ℕ → ℕ) {v : ℕ} (b : Box) → Some b → Extreme R (Inside b) (λ p. f p.0 p.1) v
      → v ≡ fold_box op f b
  is_fold_box f b s x = unique x (fold_box_extreme f b s)
