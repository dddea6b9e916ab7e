-- Rows written one after another: a destination whose first y rows are painted, and a workspace that holds the first y
-- rows packed. Assumes nothing.
use Rattle.std.specs.Prelude.{ℕ, zero, suc, ◌+◌, ◌-◌, ◌*◌, ◌/◌, ◌%◌, ◌≤◌, ◌<◌, ◌≡◌, refl, Bool, true, false, cond, ◌&&◌, List, [], ◌∷◌, ◌++◌, ◌⊎◌, ltb, get_or, take, drop}
use Rattle.std.proofs.Common.{div-add-mod', mod-lt, suc-mul, mul-le-mul_right, mul_comm, zero-add, eq-or-lt_of_le, mul-zero, arith, add-one, ◌∙◌, append_assoc, inl, inr, ⊎_elim, length-append, get_or-append-add, take_at, drop_at, drop-drop, length-take-le, lt-ltb, le-ltb}
use Rattle.std.proofs.Math.Decide.{dec_lt, ℕ_discrete}
use Rattle.std.proofs.Math.Path.{ap, sym}
use Rattle.std.proofs.Math.Arith.{digits_div, digits_mod}
use Rattle.std.proofs.Math.ListN.{length, get_or-append}
use Rattle.std.proofs.Math.Seq.{ext_get_or}
use borrow.Rule.Slice.PartMut.{put_mid}
use Rattle.image.specs.Plane.{pixel, plane, map_from, painted_at, painted, overwritten}
use Rattle.image.specs.PlaneLaws.{
  length-plane,
  pixel_plane,
  is_plane,
  length-overwritten,
  overwritten_before,
  overwritten_within,
  overwritten_after,
  overwritten_none,
}

-- a part from a to e that was lent to a call, and came back as r, is r written at a
pub put_part : (a e : ℕ) (d r : List ℕ) → a ≤ e → length r ≡ e - a → put_mid a (e - a) d r ≡ overwritten a r d
put_part a e d r t l =
    ap (λ (k : List ℕ). take a d ++ (r ++ k)) (drop-drop (e - a) a d ∙ ap (λ (n : ℕ). drop (a + n) d) (sym l))

-- ---- painted destinations

get_d_map_from : (g : ℕ → ℕ → ℕ) (d : List ℕ) (k i : ℕ) → i < length d → get_or (map_from g k d) i 0 ≡ g (k + i) (get_or d i 0)
unfolding map_from
get_d_map_from g [] k i l = absurd (omega arith)
get_d_map_from g (b ∷ bs) k zero l = ap (λ (n : ℕ). g n b) (omega arith)
get_d_map_from g (b ∷ bs) k (suc i) l =
    get_d_map_from g bs (suc k) i (omega arith) ∙ ap (λ (n : ℕ). g n (get_or bs i 0)) (omega arith)

length-map_from : (g : ℕ → ℕ → ℕ) (d : List ℕ) (k : ℕ) → length (map_from g k d) ≡ length d
unfolding map_from
length-map_from g [] k = refl
length-map_from g (b ∷ bs) k = ap suc (length-map_from g bs (suc k))

module _ (p : List ℕ) (w h st : ℕ) (d : List ℕ) where
  pub length-painted : length (painted p w h st d) ≡ length d
  unfolding painted
  length-painted = length-map_from (painted_at p w h st) d 0

  -- each byte after the call, by its place
  pub painted_byte : (i : ℕ) → i < length d → get_or (painted p w h st d) i 0 ≡ painted_at p w h st i (get_or d i 0)
  unfolding painted
  painted_byte i l =
      get_d_map_from (painted_at p w h st) d 0 i l ∙ ap (λ (n : ℕ). painted_at p w h st n (get_or d i 0)) (zero-add i)

  -- pixel (x, y) holds the picture's
  pub painted_pixel : (x y : ℕ) → x < w → y < h → w ≤ st → y * st + x < length d
      → get_or (painted p w h st d) (y * st + x) 0 ≡ pixel p w x y
  painted_pixel x y a b c l =
      let xs : x < st = omega arith in
      painted_byte (y * st + x) l ∙ simp (digits_mod y xs, digits_div y xs, lt-ltb x w a, lt-ltb y h b)

-- painting no rows changes nothing
pub painted_none : (p : List ℕ) (w st : ℕ) (d : List ℕ) → painted p w 0 st d ≡ d
painted_none p w st d =
    ext_get_or 0 _ _ (length-painted p w 0 st d)
    (λ i l.
    painted_byte p w 0 st d i (rw length-painted at l)
    ∙ none _ _ (ltb (i % st) w) (ltb (i / st) 0) (le-ltb (i / st) 0 (omega arith)))
  where
    none : (a b : ℕ) (s t : Bool) → t ≡ false → cond (s && t) a b ≡ b
    none a b true t e = rw e
    none a b false t e = refl

-- row y, written into a destination whose first y rows are painted, makes y + 1 painted rows
module _ (p : List ℕ) (w st y : ℕ) (d r : List ℕ) (ws : w ≤ st) (sp : 0 < st) (fits : y * st + w ≤ length d)
    (long : length r ≡ w) (is : (x : ℕ) → x < w → get_or r x 0 ≡ pixel p w x y) where
  before : List ℕ
  before = painted p w y st d

  size : length before ≡ length d
  unfolding before
  size = length-painted p w y st d

  -- a byte outside the row is as it was
  outside : (i : ℕ) → (i < y * st) ⊎ (y * st + w ≤ i) → get_or (overwritten (y * st) r before) i 0 ≡ get_or before i 0
  outside i (inl t) = overwritten_before (y * st) r before (omega (arith, size)) i t
  outside i (inr t) = overwritten_after (y * st) r before (omega (arith, size)) i (omega arith)

  module _ (i : ℕ) (t : i < length d) where
    old : (i < y * st) ⊎ (y * st + w ≤ i) → get_or (overwritten (y * st) r before) i 0 ≡ painted_at p w y st i (get_or d i 0)
    unfolding before
    old o = outside i o ∙ painted_byte p w y st d i t

    place : i / st * st + i % st ≡ i
    place = div-add-mod' i st

    -- byte i, by whether it lies in a column of the picture, and before, in or after row y
    byte : Dec (i % st < w) → Dec (i / st < y) → Dec (i / st ≡ y)
        → get_or (overwritten (y * st) r before) i 0 ≡ painted_at p w (y + 1) st i (get_or d i 0)
    byte (no a) b c =
        let side : (i < y * st) ⊎ (y * st + w ≤ i) = side_of b in
        old side ∙ simp (le-ltb (i % st) w (omega (arith, a)))
      where
        side_of : Dec (i / st < y) → (i < y * st) ⊎ (y * st + w ≤ i)
        side_of (yes q) = inl (omega (arith, place, mod-lt i sp, suc-mul (i / st) st, mul-le-mul_right st q))
        side_of (no q) = inr (omega (arith, place, a, mul-le-mul_right {m = y} {n = i / st} st (omega (arith, q))))
    byte (yes a) (yes b) c =
        old (inl (omega (arith, place, mod-lt i sp, suc-mul (i / st) st, mul-le-mul_right st b)))
        ∙ simp (lt-ltb _ _ a, lt-ltb (i / st) y b, lt-ltb (i / st) (y + 1) (omega arith))
    byte (yes a) (no b) (yes c) =
        let e : y * st + i % st ≡ i = ap (λ (n : ℕ). n * st + i % st) (sym c) ∙ place in
        ap (λ (n : ℕ). get_or (overwritten (y * st) r before) n 0) (sym e)
        ∙ overwritten_within (y * st) r before (omega (arith, size)) (i % st) (omega arith)
        ∙ is (i % st) a
        ∙ ap (λ (n : ℕ). pixel p w (i % st) n) (sym c)
        ∙ simp (lt-ltb _ _ a, lt-ltb (i / st) (y + 1) (omega arith))
    byte (yes a) (no b) (no c) =
        let q : y < i / st =
        ⊎_elim (λ e. absurd (c (sym e))) (λ l. l) (eq-or-lt_of_le {n = y} {m = i / st} (omega (arith, b))) in
        old (inr (omega (arith, place, suc-mul y st, mul-le-mul_right st q)))
        ∙ simp (lt-ltb _ _ a, le-ltb (i / st) y (omega arith), le-ltb (i / st) (y + 1) (omega arith))

  pub painted_row : overwritten (y * st) r (painted p w y st d) ≡ painted p w (y + 1) st d
  unfolding before
  painted_row =
      ext_get_or 0 _ _
      (length-overwritten (y * st) r before (omega (arith, size)) ∙ size ∙ sym (length-painted p w (y + 1) st d))
      (λ i l.
      let t : i < length d = omega (arith, length-overwritten (y * st) r before (omega (arith, size)), size) in
      byte i t (dec_lt (i % st) w) (dec_lt (i / st) y) (ℕ_discrete (i / st) y) ∙ sym (painted_byte p w (y + 1) st d i t))

-- ---- packed rows

-- a plane of no rows is empty
plane_none : (w : ℕ) (f : ℕ → ℕ → ℕ) → plane w 0 f ≡ []
plane_none w f =
    ext_get_or 0 _ _ (length-plane w 0 f ∙ mul-zero w) (λ i l. absurd (omega (arith, length-plane w 0 f, mul-zero w)))

-- a plane of y rows, and row y after it, is a plane of y + 1 rows
plane_row : (w : ℕ) (f : ℕ → ℕ → ℕ) (y : ℕ) (r : List ℕ) → 0 < w → length r ≡ w
    → ((x : ℕ) → x < w → get_or r x 0 ≡ f x y) → plane w y f ++ r ≡ plane w (y + 1) f
plane_row w f y r W long is =
    is_plane w (y + 1) f (plane w y f ++ r) W
    (length-append (plane w y f) r
    ∙ omega (arith, length-plane w y f, mul_comm w y, mul_comm w (y + 1), suc-mul y w, add_one_mul))
    each
  where
    add_one_mul : (y + 1) * w ≡ suc y * w
    add_one_mul = ap (λ (n : ℕ). n * w) (add-one y)

    size : length (plane w y f) ≡ y * w
    size = length-plane w y f ∙ mul_comm w y

    each : (x q : ℕ) → x < w → q < y + 1 → pixel (plane w y f ++ r) w x q ≡ f x q
    each x q X Q =
        ⊎_elim
        (λ e.
        ap (λ (n : ℕ). get_or (plane w y f ++ r) (n + x) 0) (ap (λ (n : ℕ). n * w) e ∙ sym size)
        ∙ get_or-append-add (plane w y f) r x 0
        ∙ is x X
        ∙ ap (λ (n : ℕ). f x n) (sym e))
        (λ l.
        get_or-append (plane w y f) r 0 (q * w + x) (omega (arith, size, suc-mul q w, mul-le-mul_right w l))
        ∙ pixel_plane w y f x q X l)
        (eq-or-lt_of_le {n = q} {m = y} (omega arith))

-- writing p, and then r right after it, is writing both at once
pub overwritten_more : (at : ℕ) (p r d : List ℕ) → at + length p ≤ length d
    → overwritten (at + length p) r (overwritten at p d) ≡ overwritten at (p ++ r) d
overwritten_more at p r d fits =
    let f = length-take-le at d (omega arith) in
    let total : at + length p + length r ≡ at + length (p ++ r) = omega (arith, length-append p r) in
    let n : length (take at d ++ p) ≡ at + length p = length-append (take at d) p ∙ omega arith in
    let s : overwritten at p d ≡ (take at d ++ p) ++ drop (at + length p) d =
    sym (append_assoc (take at d) p (drop (at + length p) d)) in
    let front : take (at + length p) (overwritten at p d) ≡ take at d ++ p =
    ap (take (at + length p)) s ∙ take_at (take at d ++ p) (drop (at + length p) d) (at + length p) n in
    let back : drop (at + length p + length r) (overwritten at p d) ≡ drop (at + length (p ++ r)) d =
    sym (drop-drop (length r) (at + length p) (overwritten at p d))
    ∙ ap (drop (length r))
    (ap (drop (at + length p)) s ∙ drop_at (take at d ++ p) (drop (at + length p) d) (at + length p) n)
    ∙ drop-drop (length r) (at + length p) d
    ∙ ap (λ (k : ℕ). drop k d) total in
    rw (front, back) (append_assoc (take at d) p _ ∙ ap (λ (k : List ℕ). take at d ++ k) (sym (append_assoc p r _)))

-- writing a plane of no rows changes nothing
pub plane_start : (w : ℕ) (f : ℕ → ℕ → ℕ) (at : ℕ) (d : List ℕ) → overwritten at (plane w 0 f) d ≡ d
plane_start w f at d = rw plane_none (overwritten_none at d)

-- writing row y right after the first y rows of a plane is writing y + 1 rows
pub plane_more : (w : ℕ) (f : ℕ → ℕ → ℕ) (y at : ℕ) (d r : List ℕ) → 0 < w → at + (y * w + w) ≤ length d → length r ≡ w
    → ((x : ℕ) → x < w → get_or r x 0 ≡ f x y)
    → overwritten (at + y * w) r (overwritten at (plane w y f) d) ≡ overwritten at (plane w (y + 1) f) d
plane_more w f y at d r W fits long is =
    let size : length (plane w y f) ≡ y * w = length-plane w y f ∙ mul_comm w y in
    ap (λ (n : ℕ). overwritten (at + n) r (overwritten at (plane w y f) d)) (sym size)
    ∙ overwritten_more at (plane w y f) r d (omega arith)
    ∙ ap (λ (p : List ℕ). overwritten at p d) (plane_row w f y r W long is)
