-- The steps of the loops that build both tables, whatever an entry's width: one entry more, a row begun, one pixel further, a row
-- ended. Sums are taken modulo `modulus`. Assumes nothing.
use Prim.Native.Nat.{ℕ, ◌+◌, ◌*◌, ◌/◌, ◌%◌, ◌≤◌, ◌<◌}
use native.Mathlib.Nat.{mul-le-mul_right, mul-le-mul, le_trans, add_assoc, div-eq_of_lt, mod-le, mod-add-mod, add-mod-mod, zero-mod}
use native.Mathlib.Omega.{arith}
use mathlib.Core.Path.{◌≡◌, ap, sym, ◌∙◌, subst}
use mathlib.Core.List.{List}
use lib.Arith.{digits_div, digits_mod}
use lib.ListN.{length, set, get_or, length-set}
use lib.Seq.{get_or-set_same, get_or-set_other}
use borrow.Author.Count.{below_more}
use Rattle.image.specs.declared.Geometry.{Geometry}
use Rattle.image.specs.Layout.{side_limit}
use Rattle.imgproc.specs.Refusals.{table_entries}
use Rattle.imgproc.specs.Sums.{squared, sum_to, box_sum}
use Rattle.imgproc.specs.SumLaws.{sum_none, sum_more, sum_le, box_top, box_left, box_down, box_le}
use Rattle.imgproc.specs.Tables.{pixels_of, Holds, Both, TableRows}

-- ---- entries

module _ (modulus : ℕ) (f : ℕ → ℕ → ℕ) where
  -- entry (x, y) of a table by its place
  pub entry : (wide x y : ℕ) → x < wide → box_sum f ((y * wide + x) % wide) ((y * wide + x) / wide) % modulus ≡ box_sum f x y % modulus
  entry wide x y l = rw (digits_mod y l, digits_div y l)

  pub entry_top : (wide k : ℕ) → k < wide → 0 ≡ box_sum f (k % wide) (k / wide) % modulus
  entry_top wide k l = rw (div-eq_of_lt l, box_top f (k % wide), zero-mod modulus)

  entry_left : (wide y : ℕ) → 0 < wide → 0 ≡ box_sum f ((y * wide + 0) % wide) ((y * wide + 0) / wide) % modulus
  entry_left wide y l = sym (entry wide 0 y l ∙ rw (box_left f y, zero-mod modulus))

-- no sum of squares of bytes passes 64 bits
pub box_small : (f : ℕ → ℕ → ℕ) (w h x y : ℕ) → ((i j : ℕ) → i < w → j < h → f i j ≤ 65025) → x ≤ w → y ≤ h → w ≤ side_limit → h ≤ side_limit
    → box_sum f x y ≤ 65025 * side_limit * side_limit
box_small f w h x y small X Y W H =
    le_trans (box_le f 65025 x y (λ i j l m. small i j (omega arith) (omega arith)))
    (mul-le-mul {n₁ = 65025 * x} {m₁ = y} {n₂ = 65025 * side_limit} {m₂ = side_limit} (omega arith) (omega arith))

module _ (modulus : ℕ) (f : ℕ → ℕ → ℕ) (wide base n : ℕ) (ws : List ℕ) (v : ℕ) where
  holds_more :
      Holds modulus ws base f wide n
      → base + n < length ws
      → v ≡ box_sum f (n % wide) (n / wide) % modulus
      → Holds modulus (set ws (base + n) v) base f wide (n + 1)
  holds_more h l e =
      below_more (λ k. get_or (set ws (base + n) v) (base + k) 0 ≡ box_sum f (k % wide) (k / wide) % modulus) n
      (λ k m. get_or-set_other ws (base + n) (base + k) v 0 (λ p. omega arith) ∙ h k m)
      (get_or-set_same ws (base + n) v 0 l ∙ e)

  holds_other : (j : ℕ) → ((k : ℕ) → k < n → base + k ≡ j → ⊥) → Holds modulus ws base f wide n → Holds modulus (set ws j v) base f wide n
  holds_other j o h k m = get_or-set_other ws j (base + k) v 0 (o k m) ∙ h k m

module _ (modulus : ℕ) (f : ℕ → ℕ → ℕ) (w h base : ℕ) where
  -- no entry of either
  pub both_none : (ws : List ℕ) → base + table_entries w h ≤ length ws → Both modulus f w h base 0 ws
  both_none ws r = record { sums = λ k l. absurd (omega arith); squares = λ k l. absurd (omega arith); room = r }

  -- one entry more of both tables
  pub both_more :
      (n : ℕ) {ws : List ℕ} (u v : ℕ)
      → Both modulus f w h base n ws
      → n < (w + 1) * (h + 1)
      → u ≡ box_sum f (n % (w + 1)) (n / (w + 1)) % modulus
      → v ≡ box_sum (squared f) (n % (w + 1)) (n / (w + 1)) % modulus
      → Both modulus f w h base (n + 1) (set (set ws (base + n) u) (base + (w + 1) * (h + 1) + n) v)
  both_more n {ws} u v b l p q =
      let r = b.room in
      record {
        sums =
            holds_other modulus f (w + 1) base (n + 1) (set ws (base + n) u) v (base + (w + 1) * (h + 1) + n) (λ k m e. omega arith)
            (holds_more modulus f (w + 1) base n ws u b.sums (omega arith) p);
        squares =
            holds_more modulus (squared f) (w + 1) (base + (w + 1) * (h + 1)) n (set ws (base + n) u) v
            (holds_other modulus (squared f) (w + 1) (base + (w + 1) * (h + 1)) n ws u (base + n) (λ k m e. omega arith) b.squares) (rw length-set (omega arith)) q;
        room = simp length-set r;
      }

  -- what stands at entry (x, y) of each table
  module _ (n : ℕ) (ws : List ℕ) (b : Both modulus f w h base n ws) (x y : ℕ) (l : x ≤ w) (m : y * (w + 1) + x < n) where
    pub both_sum : get_or ws (base + (y * (w + 1) + x)) 0 ≡ box_sum f x y % modulus
    both_sum = b.sums (y * (w + 1) + x) m ∙ entry modulus f (w + 1) x y (omega arith)

    pub both_square : get_or ws (base + (w + 1) * (h + 1) + (y * (w + 1) + x)) 0 ≡ box_sum (squared f) x y % modulus
    both_square = b.squares (y * (w + 1) + x) m ∙ entry modulus (squared f) (w + 1) x y (omega arith)

-- ---- a row of the tables, below row y of the picture

-- after x of the picture's pixels, whose sums are s and q
pub record RowSoFar (modulus : ℕ) (f : ℕ → ℕ → ℕ) (w h base y : ℕ) (ws : List ℕ) (s q x : ℕ) : Type 0 where
  pub upto : x ≤ w
  pub sum : s ≡ sum_to (λ i. f i y) x % modulus
  pub square : q ≡ sum_to (λ i. squared f i y) x % modulus
  pub bytes : (i : ℕ) → i < x → f i y ≤ 255
  pub both : Both modulus f w h base (y * (w + 1) + (w + 1) + (x + 1)) ws

-- the two rows of a table beside row y lie in it
pub rows_fit : (w h y : ℕ) → y < h → y * (w + 1) + (w + 1) + (w + 1) ≤ (w + 1) * (h + 1)
rows_fit w h y l = omega (arith, mul-le-mul_right {m = y + 2} {n = h + 1} (w + 1) (omega arith))

-- a sum that goes on by g n
next_sum : (modulus : ℕ) (g : ℕ → ℕ) (n s t : ℕ) → s ≡ sum_to g n % modulus → t ≡ (s + g n) % modulus → t ≡ sum_to g (n + 1) % modulus
next_sum modulus g n s t p e = e ∙ rw (p, mod-add-mod (sum_to g n) modulus (g n), sum_more g n)

module _ (modulus : ℕ) (f : ℕ → ℕ → ℕ) where
  -- the entry below `top` and right of what s sums
  next_entry :
      (w x y top s u : ℕ)
      → x < w
      → top ≡ box_sum f (x + 1) y % modulus
      → s ≡ sum_to (λ i. f i y) (x + 1) % modulus
      → u ≡ (top + s) % modulus
      → u ≡ box_sum f ((y * (w + 1) + (w + 1) + (x + 1)) % (w + 1)) ((y * (w + 1) + (w + 1) + (x + 1)) / (w + 1)) % modulus
  next_entry w x y top s u l p q e =
      let n : (y + 1) * (w + 1) + (x + 1) ≡ y * (w + 1) + (w + 1) + (x + 1) = omega arith in
      let above = box_sum f (x + 1) y in
      let beside = sum_to (λ i. f i y) (x + 1) in
      let both : (top + s) % modulus ≡ (above + beside) % modulus = rw (p, q, mod-add-mod above modulus (beside % modulus), add-mod-mod above beside modulus) in
      e
      ∙ both
      ∙ ap (λ (k : ℕ). k % modulus) (sym (box_down f (x + 1) y))
      ∙ sym (entry modulus f (w + 1) (x + 1) (y + 1) (omega arith))
      ∙ ap (λ (k : ℕ). box_sum f (k % (w + 1)) (k / (w + 1)) % modulus) n

module _ (modulus : ℕ) (f : ℕ → ℕ → ℕ) (w h base y : ℕ) (m : y < h) where
  -- a row begins with a zero in its first column
  pub row_start :
      (ws : List ℕ)
      → Both modulus f w h base ((y + 1) * (w + 1)) ws
      → RowSoFar modulus f w h base y
      (set (set ws (base + (y * (w + 1) + (w + 1))) 0) (base + (w + 1) * (h + 1) + (y * (w + 1) + (w + 1))) 0)
      0 0 0
  row_start ws b =
      let n : (y + 1) * (w + 1) + 0 ≡ y * (w + 1) + (w + 1) = omega arith in
      let n' : (y + 1) * (w + 1) ≡ y * (w + 1) + (w + 1) = omega arith in
      record {
        upto = omega arith;
        sum = rw (sum_none (λ i. f i y), zero-mod modulus);
        square = rw (sum_none (λ i. squared f i y), zero-mod modulus);
        bytes = λ i l. absurd (omega arith);
        both =
            both_more modulus f w h base (y * (w + 1) + (w + 1)) 0 0 (subst (λ (k : ℕ). Both modulus f w h base k ws) n' b) (omega (arith, rows_fit w h y m))
            (entry_left modulus f (w + 1) (y + 1) (omega arith) ∙ ap (λ (k : ℕ). box_sum f (k % (w + 1)) (k / (w + 1)) % modulus) n)
            (entry_left modulus (squared f) (w + 1) (y + 1) (omega arith) ∙ ap (λ (k : ℕ). box_sum (squared f) (k % (w + 1)) (k / (w + 1)) % modulus) n);
      }

  module _ (ws : List ℕ) (s q x : ℕ) (r : RowSoFar modulus f w h base y ws s q x) (l : x < w) where
    pub above_sum : get_or ws (base + (y * (w + 1) + (x + 1))) 0 ≡ box_sum f (x + 1) y % modulus
    above_sum = both_sum modulus f w h base (y * (w + 1) + (w + 1) + (x + 1)) ws r.both (x + 1) y (omega arith) (omega arith)

    pub above_square : get_or ws (base + (w + 1) * (h + 1) + (y * (w + 1) + (x + 1))) 0 ≡ box_sum (squared f) (x + 1) y % modulus
    above_square = both_square modulus f w h base (y * (w + 1) + (w + 1) + (x + 1)) ws r.both (x + 1) y (omega arith) (omega arith)

    -- one pixel further, v: s' and q' are the row's sums with it, and u' and v' go into the tables
    pub row_step :
        (v s' q' u' v' : ℕ)
        → v ≡ f x y
        → v ≤ 255
        → s' ≡ (s + v) % modulus
        → q' ≡ (q + v * v) % modulus
        → u' ≡ (get_or ws (base + (y * (w + 1) + (x + 1))) 0 + s') % modulus
        → v' ≡ (get_or ws (base + (w + 1) * (h + 1) + (y * (w + 1) + (x + 1))) 0 + q') % modulus
        → RowSoFar modulus f w h base y
        (set (set ws (base + (y * (w + 1) + (w + 1) + (x + 1))) u') (base + (w + 1) * (h + 1) + (y * (w + 1) + (w + 1) + (x + 1))) v')
        s' q' (x + 1)
    row_step v s' q' u' v' e b es eq eu ev =
        let n = y * (w + 1) + (w + 1) + (x + 1) in
        let e2 : v * v ≡ f x y * f x y = ap (λ (k : ℕ). k * k) e in
        let sum = next_sum modulus (λ i. f i y) x s s' r.sum (es ∙ ap (λ (k : ℕ). (s + k) % modulus) e) in
        let square = next_sum modulus (λ i. squared f i y) x q q' r.square (eq ∙ ap (λ (k : ℕ). (q + k) % modulus) e2) in
        record {
          upto = omega arith;
          sum = sum;
          square = square;
          bytes = below_more (λ i. f i y ≤ 255) x r.bytes (rw e at b);
          both =
              subst (λ (k : ℕ). Both modulus f w h base k (set (set ws (base + n) u') (base + (w + 1) * (h + 1) + n) v')) (add_assoc _ _ _)
              (both_more modulus f w h base n _ _ r.both (omega (arith, rows_fit w h y m))
              (next_entry modulus f w x y _ s' u' l above_sum sum eu)
              (next_entry modulus (squared f) w x y _ q' v' l above_square square ev));
        }

    -- the row's sums are small
    pub s_small : s ≤ 255 * x
    s_small = rw r.sum (le_trans (mod-le _ modulus) (sum_le (λ i. f i y) 255 x r.bytes))

    pub q_small : q ≤ 65025 * x
    q_small = rw r.square (le_trans (mod-le _ modulus) (sum_le (λ i. squared f i y) 65025 x (λ i k. mul-le-mul (r.bytes i k) (r.bytes i k))))

-- a row ends after the picture's width
pub row_end :
    {modulus : ℕ} {d : List ℕ} {g : Geometry} {base y s q x : ℕ} {before ws : List ℕ}
    → TableRows modulus d g base (y + 1) before
    → RowSoFar modulus (pixels_of d g) g.width g.height base y ws s q x
    → x ≡ g.width
    → TableRows modulus d g base (y + 2) ws
row_end {modulus} {d} {g} {base} {y} {x = x} {ws = ws} t r e =
    let n : y * (g.width + 1) + (g.width + 1) + (x + 1) ≡ (y + 2) * (g.width + 1) = omega arith in
    record {
      both = subst (λ (k : ℕ). Both modulus (pixels_of d g) g.width g.height base k ws) n r.both;
      bytes = λ i j l m. below_more (λ j. pixels_of d g i j ≤ 255) y (λ j k. t.bytes i j l (omega arith)) (r.bytes i (omega arith)) j (omega arith);
    }

-- the row above the picture is whole
pub row_top :
    {modulus : ℕ} {d : List ℕ} {g : Geometry} {base n : ℕ} {ws : List ℕ}
    → Both modulus (pixels_of d g) g.width g.height base n ws
    → n ≡ g.width + 1
    → TableRows modulus d g base 1 ws
row_top {modulus} {d} {g} {base} {n} {ws} b e = record {
  both = subst (λ (k : ℕ). Both modulus (pixels_of d g) g.width g.height base k ws) (omega arith) b;
  bytes = λ x y l m. absurd (omega arith);
}
