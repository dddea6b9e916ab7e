-- One law for each way out of `validate_layout`, `check_pixel` and `check_row`: the tests that were passed, and the one that was met, give the layout.
-- Assumes nothing.
use Prim.Native.Nat.{ℕ, ◌-◌, ◌/◌, ◌≤◌, ◌<◌}
use native.Mathlib.Nat.{div-lt_iff_lt-mul, le-div_iff_mul-le, mul_comm, pos_of_ne-zero}
use native.Mathlib.Omega.{arith}
use mathlib.Core.Path.{◌≡◌, sym, ap, ◌∙◌}
use mathlib.Core.Bool.{Bool, true, false, ◌&&◌}
use lib.Dec.{ltb}
use borrow.Author.Tests.{eq-eqb, ne_eqb, lt-ltb, le-ltb}
use Rattle.image.specs.declared.Geometry.{Geometry}
use Rattle.image.specs.declared.LumaError.TheVariants.{EmptyDimensions, StrideTooSmall, BufferTooSmall, SideTooLarge, OutsidePicture}
use Rattle.image.specs.declared.LumaError.{LumaError}
use Rattle.std.specs.Prelude.{Ok, Err}
use Rattle.image.specs.LayoutLaws.{kept_as}
use Rattle.image.specs.Layout.{Layout, layout_of, needed_length, side_limit, asked_for, pixel_layout, row_layout}

module _ (len : ℕ) (g : Geometry) where
  pub no_width : g.width ≡ 0 → Err EmptyDimensions ≡ layout_of len g
  unfolding layout_of
  no_width a = simp (eq-eqb g.width 0 a)

  module _ (a : g.width ≡ 0 → ⊥) where
    pub no_height : g.height ≡ 0 → Err EmptyDimensions ≡ layout_of len g
    unfolding layout_of
    no_height b = simp (ne_eqb g.width 0 a, eq-eqb g.height 0 b)

    module _ (b : g.height ≡ 0 → ⊥) where
      pub short_stride : g.stride < g.width → Err StrideTooSmall ≡ layout_of len g
      unfolding layout_of
      short_stride s = simp (ne_eqb g.width 0 a, ne_eqb g.height 0 b, lt-ltb g.stride g.width s)

      module _ (s : g.width ≤ g.stride) where
        short : len < needed_length g → Err BufferTooSmall ≡ layout_of len g
        unfolding layout_of
        short l = simp (ne_eqb g.width 0 a, ne_eqb g.height 0 b, le-ltb g.stride g.width s, lt-ltb len (needed_length g) l)

        pub no_row : len < g.width → Err BufferTooSmall ≡ layout_of len g
        no_row l = short (omega arith)

        -- the code tests the needed length by a quotient, so that nothing wraps
        module _ (l : g.width ≤ len) where
          some : 0 < g.stride
          some = omega (arith, pos_of_ne-zero a)

          pub few_rows : (len - g.width) / g.stride < g.height - 1 → Err BufferTooSmall ≡ layout_of len g
          few_rows q =
              short (omega (arith, (div-lt_iff_lt-mul {k = g.stride} {x = len - g.width} {y = g.height - 1} some).0 q, mul_comm g.stride (g.height - 1)))

          module _ (q : g.height - 1 ≤ (len - g.width) / g.stride) where
            enough : needed_length g ≤ len
            enough =
                omega (arith, (le-div_iff_mul-le {k = g.stride} {x = g.height - 1} {y = len - g.width} some).0 q, mul_comm g.stride (g.height - 1))

            pub too_wide : side_limit < g.width → Err SideTooLarge ≡ layout_of len g
            unfolding layout_of
            too_wide w =
                simp (
                  ne_eqb g.width 0 a,
                  ne_eqb g.height 0 b,
                  le-ltb g.stride g.width s,
                  le-ltb len (needed_length g) enough,
                  lt-ltb side_limit g.width w,
                )

            pub too_high : g.width ≤ side_limit → side_limit < g.height → Err SideTooLarge ≡ layout_of len g
            unfolding layout_of
            too_high w h =
                simp (
                  ne_eqb g.width 0 a,
                  ne_eqb g.height 0 b,
                  le-ltb g.stride g.width s,
                  le-ltb len (needed_length g) enough,
                  le-ltb side_limit g.width w,
                  lt-ltb side_limit g.height h,
                )

            pub fits : g.width ≤ side_limit → g.height ≤ side_limit → Ok g ≡ layout_of len g
            unfolding layout_of
            fits w h =
                simp (
                  ne_eqb g.width 0 a,
                  ne_eqb g.height 0 b,
                  le-ltb g.stride g.width s,
                  le-ltb len (needed_length g) enough,
                  le-ltb side_limit g.width w,
                  le-ltb side_limit g.height h,
                )

-- `check_pixel` and `check_row`, where l is the layout that the code holds
module _ (len : ℕ) (g : Geometry) {l : Layout} (is : l ≡ layout_of len g) where
  asked_refused : (b : Bool) {e : LumaError} → l ≡ Err e → l ≡ asked_for (layout_of len g) b
  asked_refused b i = i ∙ ap (λ (k : Layout). asked_for k b) (sym i ∙ is)

  same : {v : Geometry} → l ≡ Ok v → g ≡ v
  same {v} i = (kept_as len g v (sym is ∙ i)).1

  asked_outside : (b : Bool) {v : Geometry} → l ≡ Ok v → b ≡ false → Err OutsidePicture ≡ asked_for (layout_of len g) b
  asked_outside b {v} i o = ap (asked_for (Ok v)) (sym o) ∙ ap (λ (k : Layout). asked_for k b) (sym i ∙ is)

  asked_within : (b : Bool) {v : Geometry} → l ≡ Ok v → b ≡ true → Ok v ≡ asked_for (layout_of len g) b
  asked_within b {v} i o = ap (asked_for (Ok v)) (sym o) ∙ ap (λ (k : Layout). asked_for k b) (sym i ∙ is)

  module _ (y : ℕ) where
    pub row_refused : {e : LumaError} → l ≡ Err e → l ≡ row_layout len g y
    row_refused i = asked_refused (ltb y g.height) i

    pub row_outside : {v : Geometry} → l ≡ Ok v → v.height ≤ y → Err OutsidePicture ≡ row_layout len g y
    row_outside i t = let h = ap (λ (k : Geometry). k.height) (same i) in asked_outside (ltb y g.height) i (le-ltb y g.height (omega arith))

    pub row_within : {v : Geometry} → l ≡ Ok v → y < v.height → Ok v ≡ row_layout len g y
    row_within i t = let h = ap (λ (k : Geometry). k.height) (same i) in asked_within (ltb y g.height) i (lt-ltb y g.height (omega arith))

  module _ (x y : ℕ) where
    pub pixel_right : {v : Geometry} → l ≡ Ok v → v.width ≤ x → Err OutsidePicture ≡ pixel_layout len g x y
    pixel_right i t =
        let w = ap (λ (k : Geometry). k.width) (same i) in
        asked_outside (ltb x g.width && ltb y g.height) i (rw (le-ltb x g.width (omega arith)))

    module _ {v : Geometry} (i : l ≡ Ok v) (t : x < v.width) where
      inside : ltb x g.width ≡ true
      inside = let w = ap (λ (k : Geometry). k.width) (same i) in lt-ltb x g.width (omega arith)

      pub pixel_below : v.height ≤ y → Err OutsidePicture ≡ pixel_layout len g x y
      pixel_below u =
          let h = ap (λ (k : Geometry). k.height) (same i) in
          asked_outside (ltb x g.width && ltb y g.height) i (rw (inside, le-ltb y g.height (omega arith)))

      pub pixel_within : y < v.height → Ok v ≡ pixel_layout len g x y
      pixel_within u =
          let h = ap (λ (k : Geometry). k.height) (same i) in
          asked_within (ltb x g.width && ltb y g.height) i (rw (inside, lt-ltb y g.height (omega arith)))
