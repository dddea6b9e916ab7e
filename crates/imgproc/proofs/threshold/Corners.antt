-- Four corners of each table give the sums of a pixel's window, these are sane, and so its threshold is the definition's; at either
-- width of an entry. Assumes nothing.
use Prim.Native.Nat.{ℕ, ◌+◌, ◌-◌, ◌*◌, ◌%◌, ◌≤◌, ◌<◌}
use native.Mathlib.Nat.{mul-le-mul, mul-le-mul_right, add-sub_of_le, le_trans, mod-eq_of_lt}
use native.Mathlib.Omega.{arith}
use mathlib.Core.Path.{◌≡◌, sym, ◌∙◌}
use mathlib.Core.List.{List}
use lib.ListN.{length}
use Rattle.image.specs.declared.Geometry.{Geometry}
use Rattle.image.specs.Layout.{Kept, side_limit}
use Rattle.image.specs.Plane.{picture}
use Rattle.imgproc.specs.declared.threshold.config.SauvolaConfig.{SauvolaConfig}
use Rattle.imgproc.specs.Fold.{Box, fold_box}
use Rattle.imgproc.specs.Reach.{low, high}
use Rattle.imgproc.specs.Sums.{squared, sum, sum_squares, count, box_sum, rect_sum}
use Rattle.imgproc.specs.SumLaws.{corners, corners_modulo, fold_box_sum, count_is}
use Rattle.imgproc.specs.Sauvola.{window, threshold, threshold_at_pixel}
use Rattle.imgproc.specs.SauvolaLaws.{window_some, window_sum_le, squares_le, count_some, mean_square_le}
use Rattle.imgproc.specs.SauvolaNarrow.{window_limit, largest_window}
use Rattle.imgproc.specs.SauvolaNarrowLaws.{within_fits, sums_below}
use Rattle.imgproc.specs.Tables.{wide_modulus, narrow_modulus, pixels_of, Holds, Tables, entry_at, Corners, Unwrapped, corner_sum, Sane}
use Rattle.imgproc.proofs.threshold.tables.Entries.{entry, box_small}

-- a rectangle from x0 to x1 and from y0 to y1, the ends left out
module _ (f : ℕ → ℕ → ℕ) (x0 x1 y0 y1 : ℕ) (a : x0 ≤ x1) (b : y0 ≤ y1) where
  corners_plain : box_sum f x1 y1 + box_sum f x0 y0 ≡ box_sum f x0 y1 + box_sum f x1 y0 + rect_sum f x0 y0 (x1 - x0) (y1 - y0)
  corners_plain =
      rw (add-sub_of_le a, add-sub_of_le b) at (corners f x0 y0 (x1 - x0) (y1 - y0))

  corners_to : (modulus : ℕ) → rect_sum f x0 y0 (x1 - x0) (y1 - y0) < modulus
      → (box_sum f x1 y1 % modulus + box_sum f x0 y0 % modulus + 2 * modulus - (box_sum f x0 y1 % modulus + box_sum f x1 y0 % modulus)) % modulus
      ≡ rect_sum f x0 y0 (x1 - x0) (y1 - y0)
  corners_to modulus l = rw (add-sub_of_le a, add-sub_of_le b) at (corners_modulo modulus f x0 y0 (x1 - x0) (y1 - y0) l)

-- ---- of a table that stands whole at base
module _
    (modulus : ℕ) (f : ℕ → ℕ → ℕ) (ws : List ℕ) (base w h x0 x1 y0 y1 : ℕ)
    (t : Holds modulus ws base f (w + 1) ((h + 1) * (w + 1)))
    (a : x0 ≤ x1) (a1 : x1 ≤ w) (b : y0 ≤ y1) (b1 : y1 ≤ h)
  where
    entry_is : (x y : ℕ) → x ≤ w → y ≤ h → entry_at ws base (w + 1) x y ≡ box_sum f x y % modulus
    entry_is x y l m = t (y * (w + 1) + x) (omega (arith, mul-le-mul_right (w + 1) m)) ∙ entry modulus f (w + 1) x y (omega arith)

    -- its corners lie in it
    in_table : base + (w + 1) * (h + 1) ≤ length ws → Corners ws base (w + 1) x0 y0 x1 y1
    in_table room = record { across = a; down = b; inside = omega (arith, room, mul-le-mul_right (w + 1) b1) }

    -- and give its sum, if that is below the modulus
    difference : rect_sum f x0 y0 (x1 - x0) (y1 - y0) < modulus → corner_sum modulus ws base (w + 1) x0 y0 x1 y1 ≡ rect_sum f x0 y0 (x1 - x0) (y1 - y0)
    difference l =
        rw (entry_is x1 y1 a1 b1, entry_is x0 y0 (le_trans a a1) (le_trans b b1), entry_is x0 y1 (le_trans a a1) b1, entry_is x1 y0 a1 (le_trans b b1))
        (corners_to f x0 x1 y0 y1 a b modulus l)

-- where 64 bits hold the sums, nothing wraps
module _
    (f : ℕ → ℕ → ℕ) (ws : List ℕ) (base w h x0 x1 y0 y1 : ℕ)
    (t : Holds wide_modulus ws base f (w + 1) ((h + 1) * (w + 1)))
    (small : (i j : ℕ) → i < w → j < h → f i j ≤ 65025)
    (W : w ≤ side_limit) (H : h ≤ side_limit)
    (a : x0 ≤ x1) (a1 : x1 ≤ w) (b : y0 ≤ y1) (b1 : y1 ≤ h)
  where
    exact : (x y : ℕ) → x ≤ w → y ≤ h → entry_at ws base (w + 1) x y ≡ box_sum f x y
    exact x y l m =
        entry_is wide_modulus f ws base w h x0 x1 y0 y1 t a a1 b b1 x y l m
        ∙ mod-eq_of_lt (omega (arith, box_small f w h x y small l m W H))

    unwrapped : Unwrapped ws base (w + 1) x0 y0 x1 y1
    unwrapped =
        let x0w = le_trans a a1 in
        let y0h = le_trans b b1 in
        let e11 = exact x1 y1 a1 b1 in
        let e00 = exact x0 y0 x0w y0h in
        let s1 = box_small f w h x1 y1 small a1 b1 W H in
        let s0 = box_small f w h x0 y0 small x0w y0h W H in
        record {
          small = omega (arith, e11, e00, s1, s0);
          order = omega (arith, e11, e00, exact x0 y1 x0w b1, exact x1 y0 a1 y0h, corners_plain f x0 x1 y0 y1 a b);
        }

-- what the loops ask of a window from x0 to x1 and from y0 to y1, the ends left out: its corners, and the sums that its corners give
pub record WindowSums (modulus : ℕ) (d : List ℕ) (g : Geometry) (ws : List ℕ) (base : ℕ) (config : SauvolaConfig) (x y x0 x1 y0 y1 : ℕ) : Type 0 where
  pub sum_corners : Corners ws base (g.width + 1) x0 y0 x1 y1
  pub square_corners : Corners ws (base + (g.width + 1) * (g.height + 1)) (g.width + 1) x0 y0 x1 y1
  pub sane : (S Q : ℕ) → S ≡ corner_sum modulus ws base (g.width + 1) x0 y0 x1 y1
      → Q ≡ corner_sum modulus ws (base + (g.width + 1) * (g.height + 1)) (g.width + 1) x0 y0 x1 y1 → Sane S Q ((x1 - x0) * (y1 - y0))
  pub threshold_is :
      (S Q : ℕ)
      → S ≡ corner_sum modulus ws base (g.width + 1) x0 y0 x1 y1
      → Q ≡ corner_sum modulus ws (base + (g.width + 1) * (g.height + 1)) (g.width + 1) x0 y0 x1 y1
      → threshold config S Q ((x1 - x0) * (y1 - y0)) ≡ threshold_at_pixel config g.width g.height (picture d g) x y

-- the window of pixel (x, y), from x0 to x1 and from y0 to y1, the ends left out
module _
    (modulus : ℕ) (d : List ℕ) (g : Geometry) (ws : List ℕ) (base : ℕ) (config : SauvolaConfig)
    (T : Tables modulus d g base ws)
    (x y x0 x1 y0 y1 : ℕ) (a : x < g.width) (b : y < g.height)
    (p0 : x0 ≡ low config.radius x) (p1 : x1 ≡ high config.radius g.width x + 1)
    (q0 : y0 ≡ low config.radius y) (q1 : y1 ≡ high config.radius g.height y + 1)
  where
    f : ℕ → ℕ → ℕ
    f = pixels_of d g

    box : Box
    box = window config.radius g.width g.height x y

    bytes : (i j : ℕ) → i < g.width → j < g.height → f i j ≤ 255
    unfolding f
    bytes i j l m = T.bytes i j l (omega arith)

    spans : ((x0 ≤ x1) × (x1 ≤ g.width)) × ((y0 ≤ y1) × (y1 ≤ g.height))
    spans = ((omega arith, omega arith), (omega arith, omega arith))

    -- the rectangle is the window
    window_count : (x1 - x0) * (y1 - y0) ≡ count box
    unfolding box
    window_count = rw (p0, p1, q0, q1) (sym (count_is box (window_some config.radius g.width g.height x y a b)))

    window_sum : (e : ℕ → ℕ → ℕ) → rect_sum e x0 y0 (x1 - x0) (y1 - y0) ≡ fold_box ◌+◌ e box
    unfolding box
    window_sum e =
        rw (p0, p1, q0, q1) (sym (fold_box_sum e box (window_some config.radius g.width g.height x y a b)))

    sum_le : sum f box ≤ count box * 255
    unfolding box
    sum_le = window_sum_le config.radius g.width g.height x y a b f 255 bytes

    square_le : sum_squares f box ≤ count box * 65025
    unfolding box
    square_le = squares_le config.radius g.width g.height x y a b f bytes

    -- the modulus is above the sums of the largest window
    module _ (fits : largest_window config.radius g.width g.height * 65025 < modulus) where
      -- and so above this one's
      below : (sum f box < modulus) × (sum_squares f box < modulus)
      unfolding box
      below = sums_below config.radius g.width g.height modulus fits f bytes x y a b

      -- the sums that `rect_sum` gave
      module _ (S Q : ℕ) (s : S ≡ corner_sum modulus ws base (g.width + 1) x0 y0 x1 y1)
          (q : Q ≡ corner_sum modulus ws (base + (g.width + 1) * (g.height + 1)) (g.width + 1) x0 y0 x1 y1) where
        S_is : S ≡ sum f box
        unfolding f
        S_is =
            s
            ∙ difference modulus f ws base g.width g.height x0 x1 y0 y1 T.both.sums spans.0.0 spans.0.1 spans.1.0 spans.1.1
            (omega (arith, window_sum f, below))
            ∙ window_sum f

        Q_is : Q ≡ sum_squares f box
        unfolding f
        Q_is =
            q
            ∙ difference modulus (squared f) ws (base + (g.width + 1) * (g.height + 1)) g.width g.height x0 x1 y0 y1 T.both.squares
            spans.0.0 spans.0.1 spans.1.0 spans.1.1
            (omega (arith, window_sum (squared f), below))
            ∙ window_sum (squared f)

        sums_sane : Sane S Q ((x1 - x0) * (y1 - y0))
        unfolding box
        sums_sane =
            let some = window_some config.radius g.width g.height x y a b in
            rw (S_is, Q_is, window_count)
            (record { some = count_some box some; bright = sum_le; squares = square_le; above = mean_square_le f box some })

        same_threshold : threshold config S Q ((x1 - x0) * (y1 - y0)) ≡ threshold_at_pixel config g.width g.height (picture d g) x y
        unfolding threshold_at_pixel f box
        same_threshold = rw (S_is, Q_is, window_count)

      pub window_sums : WindowSums modulus d g ws base config x y x0 x1 y0 y1
      unfolding f
      window_sums = record {
        sum_corners =
            in_table modulus f ws base g.width g.height x0 x1 y0 y1 T.both.sums spans.0.0 spans.0.1 spans.1.0 spans.1.1 (omega (arith, T.both.room));
        square_corners =
            in_table modulus (squared f) ws (base + (g.width + 1) * (g.height + 1)) g.width g.height x0 x1 y0 y1 T.both.squares
            spans.0.0 spans.0.1 spans.1.0 spans.1.1 (omega (arith, T.both.room));
        sane = sums_sane;
        threshold_is = same_threshold;
      }

-- ---- entries of 64 bits hold the sums of every window, and nothing wraps
pub record WideWindow (d : List ℕ) (g : Geometry) (ws : List ℕ) (base : ℕ) (config : SauvolaConfig) (x y x0 x1 y0 y1 : ℕ) : Type 0 where
  pub window : WindowSums wide_modulus d g ws base config x y x0 x1 y0 y1
  pub sums : Unwrapped ws base (g.width + 1) x0 y0 x1 y1
  pub squares : Unwrapped ws (base + (g.width + 1) * (g.height + 1)) (g.width + 1) x0 y0 x1 y1

module _
    (d : List ℕ) (g : Geometry) (ws : List ℕ) (base : ℕ) (config : SauvolaConfig)
    (T : Tables wide_modulus d g base ws) (K : Kept (length d) g)
    (x y x0 x1 y0 y1 : ℕ) (a : x < g.width) (b : y < g.height)
    (p0 : x0 ≡ low config.radius x) (p1 : x1 ≡ high config.radius g.width x + 1)
    (q0 : y0 ≡ low config.radius y) (q1 : y1 ≡ high config.radius g.height y + 1)
  where
    unwrapped_at : (f : ℕ → ℕ → ℕ) (at : ℕ) → Holds wide_modulus ws at f (g.width + 1) ((g.height + 1) * (g.width + 1))
        → ((i j : ℕ) → i < g.width → j < g.height → f i j ≤ 65025)
        → Unwrapped ws at (g.width + 1) x0 y0 x1 y1
    unwrapped_at f at t small =
        unwrapped f ws at g.width g.height x0 x1 y0 y1 t small K.small_width K.small_height (omega arith) (omega arith) (omega arith) (omega arith)

    byte : (i j : ℕ) → i < g.width → j < g.height → pixels_of d g i j ≤ 255
    byte i j l m = T.bytes i j l (omega arith)

    pub wide_window : WideWindow d g ws base config x y x0 x1 y0 y1
    wide_window =
        let area : largest_window config.radius g.width g.height ≤ side_limit * side_limit =
        mul-le-mul {n₂ = side_limit} {m₂ = side_limit} (omega (arith, K.small_width)) (omega (arith, K.small_height)) in
        record {
          window = window_sums wide_modulus d g ws base config T x y x0 x1 y0 y1 a b p0 p1 q0 q1 (omega (arith, area));
          sums = unwrapped_at (pixels_of d g) base T.both.sums (λ i j l m. le_trans (byte i j l m) (omega arith));
          squares =
              unwrapped_at (squared (pixels_of d g)) (base + (g.width + 1) * (g.height + 1)) T.both.squares
              (λ i j l m. mul-le-mul (byte i j l m) (byte i j l m));
        }

-- ---- entries of 32 bits hold those of a window within the limit
pub narrow_window :
    (d : List ℕ) (g : Geometry) (ws : List ℕ) (base : ℕ) (config : SauvolaConfig)
    → Tables narrow_modulus d g base ws
    → largest_window config.radius g.width g.height ≤ window_limit
    → (x y x0 x1 y0 y1 : ℕ)
    → x < g.width
    → y < g.height
    → x0 ≡ low config.radius x
    → x1 ≡ high config.radius g.width x + 1
    → y0 ≡ low config.radius y
    → y1 ≡ high config.radius g.height y + 1
    → WindowSums narrow_modulus d g ws base config x y x0 x1 y0 y1
narrow_window d g ws base config T fits x y x0 x1 y0 y1 a b p0 p1 q0 q1 =
    window_sums narrow_modulus d g ws base config T x y x0 x1 y0 y1 a b p0 p1 q0 q1
    (within_fits (largest_window config.radius g.width g.height) fits)
