-- Laws of `picture` and `painted_on`: how long each is, and what it holds at each place. Assumes nothing.
use Rattle.std.specs.Prelude.{ℕ, ◌*◌, ◌<◌, ◌≡◌, List, length, get_or}
use Rattle.std.proofs.Common.{arith, sym, ap, ap₂, ◌∙◌}
use Rattle.image.specs.declared.Geometry.{Geometry}
use Rattle.image.specs.Layout.{Kept}
use Rattle.image.specs.LayoutLaws.{row_within}
use Rattle.image.specs.Plane.{pixel, packed, painted, painted_at, picture, painted_on}
use Rattle.image.specs.PlaneLaws.{length-packed, pixel_packed, packed_is, packed_again}
use Rattle.image.specs.PaintLaws.{length-painted, painted_byte, painted_pixel}

-- the picture of a geometry: its length, and each pixel
module _ (d : List ℕ) (g : Geometry) where
  pub length-picture : length (picture d g) ≡ g.width * g.height
  length-picture = length-packed d g.width g.height g.stride

  pub pixel_picture : (x y : ℕ) → x < g.width → y < g.height
      → pixel (picture d g) g.width x y ≡ pixel d g.stride x y
  pixel_picture = pixel_packed d g.width g.height g.stride

  -- the picture of a slice without padding is the slice
  pub picture_again : 0 < g.width → g.stride ≡ g.width → length d ≡ g.width * g.height → picture d g ≡ d
  picture_again W tight n =
      ap (packed d g.width g.height) tight ∙ packed_again d g.width g.height W n

-- a painted destination: its length, and each byte by its place
module _ (d : List ℕ) (g : Geometry) (p : List ℕ) where
  pub length-painted_on : length (painted_on d g p) ≡ length d
  length-painted_on = length-painted p g.width g.height g.stride d

  pub painted_on_byte : (i : ℕ) → i < length d
      → get_or (painted_on d g p) i 0 ≡ painted_at p g.width g.height g.stride i (get_or d i 0)
  painted_on_byte = painted_byte p g.width g.height g.stride d

  -- pixel (x, y) of a destination with a valid layout is the picture's
  pub painted_on_pixel : Kept (length d) g → (x y : ℕ) → x < g.width → y < g.height
      → pixel (painted_on d g p) g.stride x y ≡ pixel p g.width x y
  painted_on_pixel k x y X Y =
      painted_pixel p g.width g.height g.stride d x y X Y k.stride (omega (arith, row_within k y Y))

  -- the picture of what was painted is the picture that was painted
  pub picture_painted_on : Kept (length d) g → length p ≡ g.width * g.height → picture (painted_on d g p) g ≡ p
  picture_painted_on k n = packed_is (painted_on d g p) _ _ _ p k.wide n (λ x y X Y. sym (painted_on_pixel k x y X Y))

-- painting with sides w and h that are the geometry's is `painted_on`
pub painted_sides : (d : List ℕ) (g : Geometry) (p : List ℕ) {w h : ℕ} → g.width ≡ w → g.height ≡ h
    → painted p w h g.stride d ≡ painted_on d g p
painted_sides d g p a b = sym (ap₂ (λ (w h : ℕ). painted p w h g.stride d) a b)
