-- Extremes of stretches of a line, and how the forward and backward extremes of blocks join to the extreme of a reach: one law over the order. Assumes nothing.
use mathlib.Core.Path.{◌≡◌, refl, sym, ap, ◌∙◌, subst}
use mathlib.Core.Bool.{Bool, true, false, cond, not, and-false}
use mathlib.Core.Logic.{◌⊎◌, inl, inr, ⊎_elim}
use Prim.Native.Nat.{ℕ, zero, suc, ◌+◌, ◌-◌, ◌*◌, ◌/◌, ◌%◌, ◌≤◌, ◌<◌, min}
use native.Mathlib.Nat.{zero-mod}
use native.Mathlib.Omega.{arith}
use lib.Dec.{eqb}
use borrow.Author.Tests.{eq-eqb, eqb-true, eqb-false}
use Rattle.imgproc.specs.Extremes.{Extreme, Order, Between, lowest, highest}
use Rattle.imgproc.specs.Reach.{low, high, radius, one_block, reach_from, reach_to, backward_at}
use Rattle.imgproc.specs.Walks.{cases, quotient, place}
use Rattle.imgproc.specs.Compared.{Before, extreme}
use Rattle.imgproc.specs.Sweeps.{Forwards, Backwards, Reached, Joins}

-- a const parameter that is a flag stands as a number in a proof
abbrev pub flag : ℕ → Bool
flag n = not (eqb n 0)

-- each least is an order
pub order : (least : Bool) → Order (Before least) (extreme least)
order true = lowest
order false = highest

-- an extreme is one of what it sees alone
pub seen : {I : Type 0} {R : ℕ → ℕ → Type 0} {S : I → Type 0} {f g : I → ℕ} {v : ℕ} → ((i : I) → S i → f i ≡ g i) → Extreme R S f v → Extreme R S g v
seen {I} {R} {S} {f} {g} {v} e x = record {
  bound = λ i s. subst (λ (z : ℕ). R v z) (e i s) (x.bound i s);
  at = x.at;
  within = x.within;
  is = sym (e x.at x.within) ∙ x.is;
}

module _ {R : ℕ → ℕ → Type 0} {op : ℕ → ℕ → ℕ} (o : Order R op) where
  -- the extreme of two sets' union is the first of theirs
  join : {S T U : ℕ → Type 0} {f : ℕ → ℕ} {v w : ℕ} → Extreme R S f v → Extreme R T f w
      → ((i : ℕ) → U i → S i ⊎ T i) → ((i : ℕ) → S i → U i) → ((i : ℕ) → T i → U i) → Extreme R U f (op v w)
  join {S} {T} {U} {f} {v} {w} x y split s t =
      ⊎_elim
      (λ e. record { bound = below; at = x.at; within = s x.at x.within; is = x.is ∙ sym e })
      (λ e. record { bound = below; at = y.at; within = t y.at y.within; is = y.is ∙ sym e })
      (o.one v w)
    where
      below : (i : ℕ) → U i → R (op v w) (f i)
      below i u = ⊎_elim (λ m. o.trans (o.left v w) (x.bound i m)) (λ m. o.trans (o.right v w) (y.bound i m)) (split i u)

  -- of one index
  single : (f : ℕ → ℕ) (a b i : ℕ) → a ≡ i → b ≡ i → Extreme R (Between a b) f (f i)
  single f a b i p q = record {
    bound = λ j h. subst (λ (n : ℕ). R (f i) (f n)) (omega arith) (o.same (f i));
    at = i;
    within = (omega arith, omega arith);
    is = refl;
  }

  -- of two stretches that meet or overlap
  stretch : {f : ℕ → ℕ} {v w : ℕ} (a b c d : ℕ) → a ≤ c → c ≤ b + 1 → b ≤ d → Extreme R (Between a b) f v → Extreme R (Between c d) f w
      → Extreme R (Between a d) f (op v w)
  stretch a b c d p q r x y =
      join x y (λ i h. cases i b (λ e. inl (omega arith)) (λ l. inl (omega arith)) (λ g. inr (omega arith))) (λ i h. omega arith) (λ i h. omega arith)

module _ {R : ℕ → ℕ → Type 0} {op : ℕ → ℕ → ℕ} (o : Order R op) (k : ℕ) (pos : 0 < k) (f : ℕ → ℕ) where
  -- ---- forward: the first index of a block, and each other
  pub forward_first : (i : ℕ) → i % k ≡ 0 → Forwards R k f i (f i)
  forward_first i z = let h = place k i pos in single o f (k * (i / k)) i i (omega arith) refl

  pub forward_next : (i : ℕ) {v : ℕ} → (i % k ≡ 0 → ⊥) → Forwards R k f (i - 1) v → Forwards R k f i (op v (f i))
  forward_next i {v} nz x =
      let h = place k i pos in
      let same : (i - 1) / k ≡ i / k = quotient k (i / k) (i - 1) (omega arith) (omega arith) in
      let y : Extreme R (Between (k * (i / k)) (i - 1)) f v = rw same at x in
      stretch o (k * (i / k)) (i - 1) i i (omega arith) (omega arith) (omega arith) y (single o f i i i refl refl)

  module _ (n : ℕ) where
    -- ---- backward in a line of n: the last index of the line or of a block, and each other
    pub backward_first : (i : ℕ) → i < n → (i % k ≡ k - 1) ⊎ (i ≡ n - 1) → Backwards R k n f i (f i)
    backward_first i l (inl e) = let h = place k i pos in single o f i (min (k * (i / k) + k - 1) (n - 1)) i refl (omega arith)
    backward_first i l (inr e) = let h = place k i pos in single o f i (min (k * (i / k) + k - 1) (n - 1)) i refl (omega arith)

    pub backward_next : (i : ℕ) {v : ℕ} → i < n → (i % k ≡ k - 1 → ⊥) → (i ≡ n - 1 → ⊥) → Backwards R k n f (i + 1) v → Backwards R k n f i (op v (f i))
    backward_next i {v} l nk nn x =
        let h = place k i pos in
        let same : (i + 1) / k ≡ i / k = quotient k (i / k) (i + 1) (omega arith) (omega arith) in
        let y : Extreme R (Between (i + 1) (min (k * (i / k) + k - 1) (n - 1))) f v = rw same at x in
        join o y (single o f i i i refl refl)
        (λ j b. cases j i (λ e. inr (omega arith)) (λ g. inr (omega arith)) (λ g. inl (omega arith)))
        (λ j b. omega arith)
        (λ j b. omega arith)

    -- ---- joining: where low and high lie in one block the whole block is seen, else low..high
    reaches : (b : Bool) (lo hi v w : ℕ) → lo ≤ hi → hi < n → hi < lo + k → eqb (lo / k) (hi / k) ≡ b → Backwards R k n f lo v → Forwards R k f hi w
        → Extreme R (Between (cond b (k * (lo / k)) lo) (cond b (min (k * (lo / k) + k - 1) (n - 1)) hi)) f (op v w)
    reaches true lo hi v w l m d t x y =
        let a = place k lo pos in
        let z = place k hi pos in
        let same : k * (hi / k) ≡ k * (lo / k) = ap (λ (q : ℕ). k * q) (sym (eqb-true _ _ t)) in
        join o x y (λ j u. cases j hi (λ e. inr (omega arith)) (λ g. inr (omega arith)) (λ g. inl (omega arith))) (λ j u. omega arith) (λ j u. omega arith)
    reaches false lo hi v w l m d t x y =
        let a = place k lo pos in
        let z = place k hi pos in
        let past : k * (lo / k) + k ≤ hi =
        cases hi (k * (lo / k) + k) (λ e. omega arith) (λ g. absurd (eqb-false _ _ t (sym (quotient k (lo / k) hi (omega arith) g)))) (λ g. omega arith) in
        let next : k * (hi / k) ≡ k * (lo / k) + k = ap (λ (q : ℕ). k * q) (quotient k (lo / k + 1) hi (omega arith) (omega arith)) ∙ omega arith in
        stretch o lo (min (k * (lo / k) + k - 1) (n - 1)) (k * (hi / k)) hi (omega arith) (omega arith) (omega arith) x y

    pub reached : (s p : ℕ → ℕ) → ((j : ℕ) → j < n → Backwards R k n f j (s j)) → ((j : ℕ) → j < n → Forwards R k f j (p j)) → (i v : ℕ) → i < n
        → Joins op k n s p i v → Reached R k n f i v
    unfolding reach_from reach_to
    reached s p back forth i v l e =
        rw e
        (reaches (one_block k n i) (low (radius k) i) (high (radius k) n i) (s (low (radius k) i)) (p (high (radius k) n i))
        (omega arith) (omega arith) (omega arith) refl
        (back (low (radius k) i) (omega arith)) (forth (high (radius k) n i) (omega arith)))

-- an index that is no multiple of k has one before it
pub after : (k i : ℕ) → (i % k ≡ 0 → ⊥) → 0 < i
after k zero h = absurd (h (zero-mod k))
after k (suc i) h = omega arith

pub backward_none : (k n i : ℕ) → (i % k ≡ k - 1) ⊎ (i ≡ n - 1) → backward_at k n i ≡ false
backward_none k n i (inl y) = simp (eq-eqb _ _ y, and-false)
backward_none k n i (inr y) = simp (eq-eqb _ _ y)
