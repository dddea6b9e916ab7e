-- Laws of a row that was handed out: its length, its pixels, and which bytes of the slice it is. Assumes nothing.
use Rattle.std.specs.Prelude.{ℕ, ◌+◌, ◌*◌, ◌<◌, ◌≡◌, List, length, get_or}
use Rattle.std.proofs.Common.{arith, sym, ap, ◌∙◌}
use Rattle.std.specs.Borrow.{Bor}
use Rattle.image.specs.declared.Geometry.{Geometry}
use Rattle.image.specs.Layout.{Layout, Kept, row_layout}
use Rattle.image.specs.LayoutLaws.{row_within, row_asked}
use Rattle.image.specs.Plane.{pixel, part, picture}
use Rattle.image.specs.PlaneLaws.{length_part, get_d_part}
use Rattle.image.specs.Views.{pixel_picture}
use Rattle.image.specs.Row.{row_in, row_at, Hands}

-- row y of a valid layout, where r are its bytes
module _ (d : List ℕ) (g : Geometry) (k : Kept (length d) g) (y : ℕ) (t : y < g.height)
    {r : List ℕ} (e : r ≡ row_in (row_layout (length d) g y) d y) where
  row_is : r ≡ part (y * g.stride) g.width d
  row_is = e ∙ ap (λ (l : Layout). row_in l d y) (row_asked k y t)

  pub row_long : length r ≡ g.width
  row_long = ap length row_is ∙ length_part (y * g.stride) g.width d (row_within k y t)

  pub row_pixel : (x : ℕ) → x < g.width → get_or r x 0 ≡ pixel d g.stride x y
  row_pixel x u =
      ap (λ (z : List ℕ). get_or z x 0) row_is ∙ get_d_part (y * g.stride) g.width d (row_within k y t) x u

  -- each of its bytes is a pixel of the packed picture
  pub row_picture : (x : ℕ) → x < g.width → get_or r x 0 ≡ pixel (picture d g) g.width x y
  row_picture x u = row_pixel x u ∙ sym (pixel_picture d g x y u t)

-- byte x of the row is the slice's own byte y × stride + x: whoever writes it writes pixel (x, y), and no other byte
module _ {d r : Bor (List ℕ)} {g : Geometry} {y : ℕ} (k : Kept (length d.now) g) (t : y < g.height)
    (h : Hands d g y r) where
  at : r.ref_ptr ≡ (d.ref_ptr.0, y * g.stride + d.ref_ptr.1)
  at = h.place ∙ ap (λ (l : Layout). row_at l d.ref_ptr y) (row_asked k y t)

  pub row_block : r.ref_ptr.0 ≡ d.ref_ptr.0
  row_block = ap (λ (p : ℕ × ℕ). p.0) at

  pub row_offset : (x : ℕ) → r.ref_ptr.1 + x ≡ d.ref_ptr.1 + (y * g.stride + x)
  row_offset x = let e : r.ref_ptr.1 ≡ y * g.stride + d.ref_ptr.1 = ap (λ (p : ℕ × ℕ). p.1) at in omega arith
