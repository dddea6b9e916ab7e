-- Document 01, parts 2 and 4: erosion, dilation, opening and closing, from packed picture to packed picture.
-- Definitions only.
use Rattle.std.specs.Prelude.{ℕ, min, max, List}
use Rattle.image.specs.Plane.{plane, pixel}
use Rattle.imgproc.specs.Fold.{fold_box}
use Rattle.imgproc.specs.Reach.{reach_from, reach_to, reach_box}

-- each pixel gets the extreme over the reach of x times the reach of y, with a kernel for the rows and one for the
-- columns
unfoldable pub swept_rect : (ℕ → ℕ → ℕ) → ℕ → ℕ → ℕ → ℕ → List ℕ → List ℕ
unfolding fold_box reach_from reach_to
swept_rect op kw kh w h p = plane w h (λ x y. fold_box op (pixel p w) (reach_box kw kh w h x y))

-- the kernel k serves rows and columns
abbrev pub swept : (ℕ → ℕ → ℕ) → ℕ → ℕ → ℕ → List ℕ → List ℕ
swept op k w h p = swept_rect op k k w h p

-- erosion takes the minimum
abbrev pub eroded : ℕ → ℕ → ℕ → List ℕ → List ℕ
eroded k w h p = swept min k w h p

-- dilation takes the maximum
abbrev pub dilated : ℕ → ℕ → ℕ → List ℕ → List ℕ
dilated k w h p = swept max k w h p

-- opening erodes, then dilates
abbrev pub opened : ℕ → ℕ → ℕ → List ℕ → List ℕ
opened k w h p = dilated k w h (eroded k w h p)

-- closing dilates, then erodes
abbrev pub closed : ℕ → ℕ → ℕ → List ℕ → List ℕ
closed k w h p = eroded k w h (dilated k w h p)
