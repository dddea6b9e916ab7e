-- Laws of open tiles: the stored skip bytes count to what the definition says, and a row has none exactly when all its
-- tiles are skipped. Assumes nothing.
use Rattle.std.specs.Prelude.{◌≡◌, refl, ℕ, zero, suc, ◌+◌, ◌*◌, ◌/◌, ◌%◌, ◌≤◌, ◌<◌, List, length, get_or}
use Rattle.std.specs.Prelude.{Bool, true, false, not, ◌&&◌, eqb}
use Rattle.std.proofs.Common.{sym, ap, ap₂, ◌∙◌, arith, ne_eqb, zero-add}
use Rattle.std.proofs.Math.Arith.{digits_mod, digits_div}
use Rattle.image.specs.Plane.{overwritten}
use Rattle.image.specs.PlaneLaws.{length-tabulate, get_d_tabulate, in_plane}
use Rattle.image.specs.PlaneLaws.{length-overwritten, overwritten_within, overwritten_after}
use Rattle.imgproc.specs.declared.grid.config.TileThresholdConfig.{TileThresholdConfig}
use Rattle.imgproc.specs.Fold.{bit}
use Rattle.imgproc.specs.Reach.{walk}
use Rattle.imgproc.specs.Walks.{same_walk}
use Rattle.imgproc.specs.Grid.{tiles_x_of, tiles_y_of, skip_of, skips, open_of, open_tiles}
use Rattle.imgproc.specs.GridLaws.{tabulate_same}
use Rattle.imgproc.specs.GridCalls.{skipped, open_in, open_tiles_in}
use Rattle.imgproc.specs.Blanking.{all_skipped}

-- ---- by the bytes, and by the definition

-- a byte of 0 or 1 says what its bit says
bit_says : (b : Bool) → not (eqb (bit b) 0) ≡ b
bit_says true = refl
bit_says false = refl

module _ (g : TileThresholdConfig) (w h : ℕ) (p : List ℕ) where
  abbrev tx : ℕ
  tx = tiles_x_of g w

  abbrev ty : ℕ
  ty = tiles_y_of g h

  pub skips_long : length (skips g w h p) ≡ tx * ty
  unfolding skips
  skips_long = length-tabulate (λ t. bit (skip_of g w h p (t % tx) (t / tx))) (tx * ty)

  pub skip_byte : (i j : ℕ) → i < tx → j < ty → get_or (skips g w h p) (j * tx + i) 0 ≡ bit (skip_of g w h p i j)
  unfolding skips
  skip_byte i j I J =
      get_d_tabulate (λ t. bit (skip_of g w h p (t % tx) (t / tx))) (tx * ty) (j * tx + i) (in_plane tx ty i j I J)
      ∙ ap₂ (λ (a b : ℕ). bit (skip_of g w h p a b)) (digits_mod j I) (digits_div j I)

  -- bytes that hold the skips of a picture's tiles
  module _ (d : List ℕ) (same : (t : ℕ) → t < tx * ty → get_or d t 0 ≡ get_or (skips g w h p) t 0) where
    says : (i j : ℕ) → i < tx → j < ty → skipped d (j * tx + i) ≡ skip_of g w h p i j
    says i j I J =
        ap (λ (b : ℕ). not (eqb b 0)) (same (j * tx + i) (in_plane tx ty i j I J) ∙ skip_byte i j I J)
        ∙ bit_says (skip_of g w h p i j)

    open_is : (j : ℕ) → j < ty → open_in d tx j ≡ open_of g w h p j
    unfolding open_in open_of
    open_is j J =
        same_walk (λ i. not (skipped d (j * tx + i))) (λ i. not (skip_of g w h p i j)) tx
        (λ i I. ap not (says i j I J))

    open_tiles_are : open_tiles_in d tx ty ≡ open_tiles g w h p
    unfolding open_tiles_in open_tiles
    open_tiles_are = tabulate_same (open_in d tx) (open_of g w h p) ty open_is

  pub skips_count : open_tiles_in (skips g w h p) tx ty ≡ open_tiles g w h p
  skips_count = open_tiles_are (skips g w h p) (λ t T. refl)

  -- they are the first bytes of a buffer that a build filled
  module _ (d : List ℕ) (fits : tx * ty ≤ length d) where
    filled : (t : ℕ) → t < tx * ty → get_or (overwritten 0 (skips g w h p) d) t 0 ≡ get_or (skips g w h p) t 0
    filled t T =
        ap (λ (k : ℕ). get_or (overwritten 0 (skips g w h p) d) k 0) (sym (zero-add t))
        ∙ overwritten_within 0 (skips g w h p) d (omega (arith, skips_long)) t (omega (arith, skips_long))

    pub filled_row : (j : ℕ) → j < ty → open_in (overwritten 0 (skips g w h p) d) tx j ≡ open_of g w h p j
    filled_row = open_is (overwritten 0 (skips g w h p) d) filled

    pub filled_count : open_tiles_in (overwritten 0 (skips g w h p) d) tx ty ≡ open_tiles g w h p
    filled_count = open_tiles_are (overwritten 0 (skips g w h p) d) filled

  -- ---- the numbers that a build stores

  open_tiles_long : length (open_tiles g w h p) ≡ ty
  unfolding open_tiles
  open_tiles_long = length-tabulate (open_of g w h p) ty

  module _ (d : List ℕ) (room : ty ≤ length d) where
    pub stored_long : length (overwritten 0 (open_tiles g w h p) d) ≡ length d
    stored_long = length-overwritten 0 (open_tiles g w h p) d (omega (arith, open_tiles_long))

    pub stored_number : (j : ℕ) → j < ty → get_or (overwritten 0 (open_tiles g w h p) d) j 0 ≡ open_of g w h p j
    unfolding open_tiles
    stored_number j J =
        ap (λ (k : ℕ). get_or (overwritten 0 (open_tiles g w h p) d) k 0) (sym (zero-add j))
        ∙ overwritten_within 0 (open_tiles g w h p) d (omega (arith, open_tiles_long)) j
        (omega (arith, open_tiles_long))
        ∙ get_d_tabulate (open_of g w h p) ty j J

    -- the numbers after them stay
    pub later_number : (j : ℕ) → ty ≤ j → get_or (overwritten 0 (open_tiles g w h p) d) j 0 ≡ get_or d j 0
    later_number j J =
        overwritten_after 0 (open_tiles g w h p) d (omega (arith, open_tiles_long)) j (omega (arith, open_tiles_long))

-- ---- no tile is open exactly when all are skipped

-- a test more
add_test : (w : ℕ) (b : Bool) → (eqb w 0 && b) ≡ eqb (w + bit (not b)) 0
add_test zero true = refl
add_test zero false = refl
add_test (suc w) b =
    ap (λ (a : Bool). a && b) (ne_eqb (suc w) 0 (λ (z : suc w ≡ 0). omega arith))
    ∙ sym (ne_eqb (suc w + bit (not b)) 0 (λ (z : suc w + bit (not b) ≡ 0). omega arith))

pub none_open : (d : List ℕ) (at n : ℕ) → all_skipped d at n ≡ eqb (walk (λ i. not (skipped d (at + i))) n) 0
unfolding all_skipped walk
none_open d at zero = refl
none_open d at (suc n) =
    ap (λ (b : Bool). b && skipped d (at + n)) (none_open d at n)
    ∙ add_test (walk (λ i. not (skipped d (at + i))) n) (skipped d (at + n))
