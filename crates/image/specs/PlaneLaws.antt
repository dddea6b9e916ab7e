-- Laws of tabulated lists, of packed pictures and of parts: how long each is, and what it holds at each place. Assumes
-- nothing.
use Rattle.std.specs.Prelude.{◌≡◌, refl, List, [], ◌++◌, ℕ, zero, suc, ◌+◌, ◌-◌, ◌*◌, ◌/◌, ◌%◌, ◌≤◌, ◌<◌, length, get_or, take, drop}
use Rattle.std.proofs.Common.{sym, ap, ap₂, ◌∙◌, le_of_suc-le-suc, not-suc-le-zero, add-zero, zero-add, mod-lt, div-add-mod', div-lt_iff_lt-mul, mul_comm, mul-le-mul_right, suc-mul, arith, length-append, length-take, length-drop, take-append-drop, ext_get_or, length-take-le, get_or-append-add, get_or-take, get_or-drop}
use Rattle.std.proofs.Math.ListN.{get_or-append}
use Rattle.std.proofs.Math.Arith.{digits_mod, digits_div}
use Rattle.image.specs.Plane.{tabulate_from, tabulate, plane, pixel, packed, part, overwritten}

-- ---- tabulated lists

length-tabulate_from : (f : ℕ → ℕ) (i n : ℕ) → length (tabulate_from f i n) ≡ n
unfolding tabulate_from
length-tabulate_from f i zero = refl
length-tabulate_from f i (suc n) = ap suc (length-tabulate_from f (suc i) n)

get_d_tabulate_from : (f : ℕ → ℕ) (i n j : ℕ) → j < n → get_or (tabulate_from f i n) j 0 ≡ f (i + j)
unfolding tabulate_from
get_d_tabulate_from f i zero j h = absurd (not-suc-le-zero h)
get_d_tabulate_from f i (suc n) zero h = ap f (sym (add-zero i))
get_d_tabulate_from f i (suc n) (suc j) h = get_d_tabulate_from f (suc i) n j (le_of_suc-le-suc h) ∙ ap f (omega arith)

pub length-tabulate : (f : ℕ → ℕ) (n : ℕ) → length (tabulate f n) ≡ n
unfolding tabulate
length-tabulate f n = length-tabulate_from f 0 n

pub get_d_tabulate : (f : ℕ → ℕ) (n i : ℕ) → i < n → get_or (tabulate f n) i 0 ≡ f i
unfolding tabulate
get_d_tabulate f n i h = get_d_tabulate_from f 0 n i h ∙ ap f (zero-add i)

-- ---- packed pictures

-- pixel (x, y) lies in a packed picture
pub in_plane : (w h x y : ℕ) → x < w → y < h → y * w + x < w * h
in_plane w h x y X Y = omega (arith, mul-le-mul_right w Y, suc-mul y w, mul_comm w h)

-- the number at i lies in one of its rows
pub in_row : (w h i : ℕ) → 0 < w → i < w * h → i / w < h
in_row w h i W t = (div-lt_iff_lt-mul W).1 (omega (arith, mul_comm w h))

pub length-plane : (w h : ℕ) (f : ℕ → ℕ → ℕ) → length (plane w h f) ≡ w * h
unfolding plane
length-plane w h f = length-tabulate (λ i. f (i % w) (i / w)) (w * h)

-- a packed picture is tabulated, place by place
pub plane_tabulated : (w h : ℕ) (f : ℕ → ℕ → ℕ) → plane w h f ≡ tabulate (λ i. f (i % w) (i / w)) (w * h)
unfolding plane
plane_tabulated w h f = refl

-- the number at i of a packed picture is its pixel there
pub get_d_plane : (w h : ℕ) (f : ℕ → ℕ → ℕ) (i : ℕ) → i < w * h → get_or (plane w h f) i 0 ≡ f (i % w) (i / w)
unfolding plane
get_d_plane w h f i t = get_d_tabulate (λ i. f (i % w) (i / w)) (w * h) i t

-- its pixel (x, y) is f x y
pub pixel_plane : (w h : ℕ) (f : ℕ → ℕ → ℕ) (x y : ℕ) → x < w → y < h → pixel (plane w h f) w x y ≡ f x y
pixel_plane w h f x y X Y =
    get_d_plane w h f (y * w + x) (in_plane w h x y X Y) ∙ ap₂ f (digits_mod y X) (digits_div y X)

-- a list of w × h numbers whose pixels are f's is the packed picture of f
pub is_plane : (w h : ℕ) (f : ℕ → ℕ → ℕ) (q : List ℕ) → 0 < w → length q ≡ w * h
    → ((x y : ℕ) → x < w → y < h → pixel q w x y ≡ f x y) → q ≡ plane w h f
is_plane w h f q W l each = ext_get_or 0 q (plane w h f) (l ∙ sym (length-plane w h f)) at
  where
    at : (i : ℕ) → i < length q → get_or q i 0 ≡ get_or (plane w h f) i 0
    at i b =
        let c : i < w * h = omega arith in
        ap (λ (n : ℕ). get_or q n 0) (sym (div-add-mod' i w))
        ∙ each (i % w) (i / w) (mod-lt i W) (in_row w h i W c)
        ∙ sym (get_d_plane w h f i c)

-- two packed pictures with the same pixels are the same
pub plane_same : (w h : ℕ) (f g : ℕ → ℕ → ℕ) → 0 < w → ((x y : ℕ) → x < w → y < h → f x y ≡ g x y)
    → plane w h f ≡ plane w h g
plane_same w h f g W each =
    is_plane w h g (plane w h f) W (length-plane w h f) (λ x y X Y. pixel_plane w h f x y X Y ∙ each x y X Y)

pub length-packed : (d : List ℕ) (w h stride : ℕ) → length (packed d w h stride) ≡ w * h
unfolding packed
length-packed d w h stride = length-plane w h (pixel d stride)

pub pixel_packed : (d : List ℕ) (w h stride x y : ℕ) → x < w → y < h
    → pixel (packed d w h stride) w x y ≡ pixel d stride x y
unfolding packed
pixel_packed d w h stride x y X Y = pixel_plane w h (pixel d stride) x y X Y

-- w × h numbers that are the pixels of a strided picture are the packed picture
pub packed_is : (d : List ℕ) (w h stride : ℕ) (p : List ℕ) → 0 < w → length p ≡ w * h
    → ((x y : ℕ) → x < w → y < h → pixel p w x y ≡ pixel d stride x y) → packed d w h stride ≡ p
unfolding packed
packed_is d w h stride p W l each = sym (is_plane w h (pixel d stride) p W l each)

-- packing a packed picture changes nothing
pub packed_again : (p : List ℕ) (w h : ℕ) → 0 < w → length p ≡ w * h → packed p w h w ≡ p
packed_again p w h W l = packed_is p w h w p W l (λ x y X Y. refl)

-- two strided pictures with the same pixels are the same when packed, whatever their strides, padding and tails
pub same_pixels : (w h : ℕ) (a b : List ℕ) (sa sb : ℕ) → 0 < w
    → ((x y : ℕ) → x < w → y < h → pixel a sa x y ≡ pixel b sb x y) → packed a w h sa ≡ packed b w h sb
unfolding packed
same_pixels w h a b sa sb W each = plane_same w h (pixel a sa) (pixel b sb) W each

-- ---- parts of a list, and a list that is written over a part

module _ (at n : ℕ) (d : List ℕ) (fits : at + n ≤ length d) where
  pub length_part : length (part at n d) ≡ n
  length_part = simp (length-take, length-drop) (omega arith)

  pub get_d_part : (i : ℕ) → i < n → get_or (part at n d) i 0 ≡ get_or d (at + i) 0
  get_d_part i t = get_or-take n (drop at d) i 0 t ∙ get_or-drop at d i 0

module _ (at : ℕ) (p d : List ℕ) (fits : at + length p ≤ length d) where
  front : length (take at d) ≡ at
  front = length-take-le at d (omega arith)

  pub length-overwritten : length (overwritten at p d) ≡ length d
  length-overwritten = simp (length-append, length-take, length-drop) (omega arith)

  -- a number before `at` is as it was
  pub overwritten_before : (i : ℕ) → i < at → get_or (overwritten at p d) i 0 ≡ get_or d i 0
  overwritten_before i t = get_or-append (take at d) _ 0 i (omega (arith, front)) ∙ get_or-take at d i 0 t

  -- and so is a part that ends there
  pub part_before : (a n : ℕ) → a + n ≤ at → part a n (overwritten at p d) ≡ part a n d
  part_before a n t =
      let long = length-overwritten in
      let size = length_part a n (overwritten at p d) (omega arith) in
      ext_get_or 0 (part a n (overwritten at p d)) (part a n d) (size ∙ sym (length_part a n d (omega arith)))
      (λ i l.
      get_d_part a n (overwritten at p d) (omega arith) i (omega arith)
      ∙ overwritten_before (a + i) (omega arith)
      ∙ sym (get_d_part a n d (omega arith) i (omega arith)))

  -- from `at` on stand the numbers of p
  pub overwritten_within : (i : ℕ) → i < length p → get_or (overwritten at p d) (at + i) 0 ≡ get_or p i 0
  overwritten_within i t =
      ap (λ (k : ℕ). get_or (overwritten at p d) (k + i) 0) (sym front)
      ∙ get_or-append-add (take at d) _ i 0
      ∙ get_or-append p _ 0 i t

  behind : (i : ℕ) → get_or (overwritten at p d) (at + length p + i) 0 ≡ get_or d (at + length p + i) 0
  behind i =
      ap (λ (k : ℕ). get_or (overwritten at p d) k 0) (omega (arith, front))
      ∙ get_or-append-add (take at d) _ (length p + i) 0
      ∙ get_or-append-add p _ i 0
      ∙ get_or-drop (at + length p) d i 0

  -- a number after them is as it was
  pub overwritten_after : (i : ℕ) → at + length p ≤ i → get_or (overwritten at p d) i 0 ≡ get_or d i 0
  overwritten_after i t =
      let e : at + length p + (i - (at + length p)) ≡ i = omega arith in rw e at (behind (i - (at + length p)))

-- writing no numbers changes nothing
pub overwritten_none : (at : ℕ) (d : List ℕ) → overwritten at [] d ≡ d
overwritten_none at d = ap (λ (k : ℕ). take at d ++ drop k d) (add-zero at) ∙ take-append-drop at d

-- the part that was written is p
pub part_overwritten : (at : ℕ) (p d : List ℕ) → at + length p ≤ length d → part at (length p) (overwritten at p d) ≡ p
part_overwritten at p d fits =
    let l = length-overwritten at p d fits in
    let s = length_part at (length p) (overwritten at p d) (omega arith) in
    ext_get_or 0 (part at (length p) (overwritten at p d)) p s
    (λ i t.
    get_d_part at (length p) (overwritten at p d) (omega arith) i (omega arith)
    ∙ overwritten_within at p d fits i (omega arith))
