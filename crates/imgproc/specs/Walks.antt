-- The three walks of a line of n samples sum to 3n - 2⌈n/k⌉. Assumes nothing.
use Rattle.std.specs.Prelude.{◌≡◌, Bool, true, false, not, eqb}
use Rattle.std.proofs.Math.Path.{refl}
use Rattle.std.proofs.Common.{ap, ◌∙◌, ⊎_elim, mod-lt, le-div_iff_mul-le, mul-le-mul_left, add-one}
use Prim.Native.Nat.{ℕ, zero, suc, ◌+◌, ◌-◌, ◌*◌, ◌/◌, ◌%◌, ◌≤◌, ◌<◌}
use Rattle.std.proofs.lemmas.Bool.{cases_order}
use Rattle.std.proofs.Math.Nat.{zero-mod, div-add-mod, div-eq_of_lt-le}
use native.Mathlib.Omega.{arith}
use borrow.Author.Tests.{eq-eqb, ne_eqb}
use Rattle.imgproc.specs.Fold.{bit}
use Rattle.imgproc.specs.Reach.{walk, forward_at, backward_at, join_at, ceiling, line_walks, sweep_walks, R}

-- compares two numbers, and goes on by their order
pub cases : (a b : ℕ) {C : Type 0} → (a ≡ b → C) → (a < b → C) → (b < a → C) → C
cases a b e l g = ⊎_elim e (⊎_elim l g) (cases_order a b)

-- i lies in the block that starts at k * q
pub quotient : (k q i : ℕ) → k * q ≤ i → i < k * q + k → i / k ≡ q
quotient k q i l h = div-eq_of_lt-le k (omega arith) (omega arith)

-- finds an index's place in its block
pub place : (k i : ℕ) → 0 < k → (k * (i / k) + i % k ≡ i) × (i % k < k)
place k i p = (div-add-mod i k, mod-lt i p)

-- tests that agree below n make the same walk
pub same_walk : (p q : ℕ → Bool) (n : ℕ) → ((i : ℕ) → i < n → p i ≡ q i) → walk p n ≡ walk q n
unfolding walk
same_walk p q zero h = refl
same_walk p q (suc n) h =
    let e : walk p n ≡ walk q n = same_walk p q n (λ i l. h i (omega arith)) in
    let t : bit (p n) ≡ bit (q n) = ap (λ (b : Bool). bit b) (h n (omega arith)) in
    omega arith

-- a walk starts one further on
shift_walk : (p : ℕ → Bool) (n : ℕ) → walk p (suc n) ≡ bit (p 0) + walk (λ (i : ℕ). p (suc i)) n
unfolding walk
shift_walk p zero = omega arith
shift_walk p (suc n) = let h = shift_walk p n in omega arith

pub walk_more : (p : ℕ → Bool) (i : ℕ) → walk p (i + 1) ≡ walk p i + bit (p i)
unfolding walk
walk_more p i = rw (add-one i)

-- a walk counts no more than the line has
pub walk_le : (p : ℕ → Bool) (n : ℕ) → walk p n ≤ n
unfolding walk
walk_le p zero = omega arith
walk_le p (suc n) = let h = walk_le p n in one (p n) h
  where
    one : (b : Bool) → walk p n ≤ n → walk p n + bit b ≤ suc n
    one true h = omega arith
    one false h = omega arith

pub line_walks_le : (k n : ℕ) → line_walks k n ≤ 3 * n
line_walks_le k n = omega (arith, walk_le (forward_at k) n, walk_le (backward_at k n) n, walk_le join_at n)

-- so do b lines of a
pub lines_walks_le : (k a b : ℕ) → b * line_walks k a ≤ 3 * (a * b)
lines_walks_le k a b = let h : b * line_walks k a ≤ b * (3 * a) = mul-le-mul_left b (line_walks_le k a) in omega arith

join_walk : (n : ℕ) → walk join_at n ≡ n
unfolding walk
join_walk zero = refl
join_walk (suc n) = let h = join_walk n in omega arith

module _ (k : ℕ) (pos : 0 < k) where
  -- a forward pass makes a comparison at every index but the first of each block
  forward_walk : (n : ℕ) → walk (forward_at k) n + ceiling n k ≡ n
  unfolding walk
  forward_walk zero = omega (arith, quotient k 0 (0 + k - 1) (omega arith) (omega arith))
  forward_walk (suc n) =
      let h = forward_walk n in
      let at = place k n pos in
      let next : ceiling (suc n) k ≡ n / k + 1 = quotient k (n / k + 1) (suc n + k - 1) (omega arith) (omega arith) in
      let first : n % k ≡ 0 → walk (forward_at k) n + bit (forward_at k n) + ceiling (suc n) k ≡ suc n = λ z.
      let now : ceiling n k ≡ n / k = quotient k (n / k) (n + k - 1) (omega arith) (omega arith) in
      let t : bit (forward_at k n) ≡ 0 = simp (eq-eqb _ _ z) in
      omega arith in
      let other : 0 < n % k → walk (forward_at k) n + bit (forward_at k n) + ceiling (suc n) k ≡ suc n = λ nz.
      let now : ceiling n k ≡ n / k + 1 = quotient k (n / k + 1) (n + k - 1) (omega arith) (omega arith) in
      let t : bit (forward_at k n) ≡ 1 = simp (ne_eqb (n % k) 0 (λ e. omega arith)) in
      omega arith in
      cases (n % k) 0 first (λ l. absurd (omega arith)) other

  -- i is the last of its block where the next index is the first of one
  turns : (i : ℕ) → not (eqb (i % k) (k - 1)) ≡ forward_at k (suc i)
  turns i =
      let at = place k i pos in
      let nx = place k (suc i) pos in
      let last : i % k ≡ k - 1 → not (eqb (i % k) (k - 1)) ≡ forward_at k (suc i) = λ e.
      let e' : suc i / k ≡ i / k + 1 = quotient k (i / k + 1) (suc i) (omega arith) (omega arith) in
      let q : k * (suc i / k) ≡ k * (i / k) + k = ap (λ (z : ℕ). k * z) e' ∙ omega arith in
      simp (eq-eqb _ _ e, eq-eqb (suc i % k) 0 (omega arith)) in
      let within : i % k < k - 1 → not (eqb (i % k) (k - 1)) ≡ forward_at k (suc i) = λ l.
      let e' : suc i / k ≡ i / k = quotient k (i / k) (suc i) (omega arith) (omega arith) in
      let q : k * (suc i / k) ≡ k * (i / k) = ap (λ (z : ℕ). k * z) e' in
      simp (ne_eqb (i % k) (k - 1) (λ e. omega arith), ne_eqb (suc i % k) 0 (λ e. omega arith)) in
      cases (i % k) (k - 1) last within (λ g. absurd (omega arith))

  -- so a backward pass makes as many as a forward one
  backward_walk : (n : ℕ) → walk (backward_at k n) n ≡ walk (forward_at k) n
  unfolding walk
  backward_walk zero = refl
  backward_walk (suc m) =
      let inner : walk (backward_at k (suc m)) m ≡ walk (λ (i : ℕ). forward_at k (suc i)) m =
      same_walk _ _ m (λ i l. simp (turns i, ne_eqb i (suc m - 1) (λ e. omega arith))) in
      let last : bit (backward_at k (suc m) m) ≡ 0 = simp (eq-eqb m (suc m - 1) (omega arith)) in
      let none : bit (forward_at k 0) ≡ 0 = simp (zero-mod k) in
      let s = shift_walk (forward_at k) m in
      omega arith

  pub line_walks_lem : (n : ℕ) → line_walks k n ≡ 3 * n - 2 * ceiling n k
  line_walks_lem n = omega (arith, join_walk n, forward_walk n, backward_walk n)

  pub sweep_walks_lem : (w h : ℕ) → sweep_walks k w h ≡ R k w h
  unfolding R
  sweep_walks_lem w h = rw (line_walks_lem w, line_walks_lem h)

-- b lines of a, each with at least 2 fewer than 3a, have 2b fewer than 3ab
fewer : (a b p : ℕ) → p + 2 ≤ 3 * a → b * p + 2 * b ≤ 3 * (a * b)
fewer a b p l = let h : b * (p + 2) ≤ b * (3 * a) = mul-le-mul_left b l in omega arith

-- R(k) is below 6wh, so that a closing with k and an opening with m make fewer than 24wh comparisons
module _ (w h : ℕ) (wide : 0 < w) (tall : 0 < h) where
  pub sweep_below : (k : ℕ) → 0 < k → R k w h < 6 * (w * h)
  unfolding R
  sweep_below k pos =
      let across : 1 ≤ ceiling w k = (le-div_iff_mul-le {k = k} {x = 1} {y = w + k - 1} pos).1 (omega arith) in
      let down : 1 ≤ ceiling h k = (le-div_iff_mul-le {k = k} {x = 1} {y = h + k - 1} pos).1 (omega arith) in
      let rows = fewer w h (3 * w - 2 * ceiling w k) (omega arith) in
      let columns = fewer h w (3 * h - 2 * ceiling h k) (omega arith) in
      omega arith

  pub reading_below : (k m : ℕ) → 0 < k → 0 < m → 2 * R k w h + 2 * R m w h < 24 * (w * h)
  reading_below k m K M = omega (arith, sweep_below k K, sweep_below m M)
