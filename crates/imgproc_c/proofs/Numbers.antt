-- Derives the contract of a row's export from those of the row and of the copy. Assumes nothing.
use Rattle.std.specs.Prelude.{Ok}
use Prim.Native.Nat.{ℕ}
use native.Mathlib.Nat.{mul-one}
use native.Mathlib.Omega.{arith}
use mathlib.Core.Path.{◌≡◌, refl, sym, ap, ◌∙◌}
use mathlib.Core.List.{List}
use lib.ListN.{length}
use borrow.Author.Tests.{ltb-true}
use Rattle.image.specs.declared.Geometry.{Geometry}
use Rattle.image.specs.Answers.{Answer, accepted, refused, answer_number, Bare}
use Rattle.image.specs.Layout.{Layout, Kept, layout_of, row_layout}
use Rattle.image.specs.LayoutLaws.{row_inside, kept_valid}
use Rattle.image.specs.Plane.{overwritten}
use Rattle.image.specs.PlaneLaws.{packed_again}
use Rattle.image.specs.RowLaws.{row_long}
use Rattle.image.specs.Row.{row_in}
use Rattle.image.specs.Copy.{copied_in, packed_in, Packs}
use Rattle.imgproc_c.specs.Picture.{geometry, row_room, row_out, RowCopied}

-- a row that is not refused is packed as a picture of one row
module _ (d : List ℕ) (g : Geometry) (y : ℕ) (before : List ℕ) {l : Layout} (is : l ≡ row_layout (length d) g y) where
  module _ {v : Geometry} (i : l ≡ Ok v) {row : List ℕ} (own : row ≡ row_in (row_layout (length d) g y) d y) where
    found : row_layout (length d) g y ≡ Ok v
    found = sym is ∙ i

    kept : Kept (length d) g
    kept = (row_inside (length d) g v y found).0.0

    wide : g.width ≡ v.width
    wide = ap (λ (u : Geometry). u.width) (row_inside (length d) g v y found).0.1

    long : length row ≡ g.width
    long = row_long d g kept y (ltb-true y g.height (row_inside (length d) g v y found).1) own

    line : layout_of (length row) (geometry g.width 1 g.width) ≡ Ok (geometry g.width 1 g.width)
    line = kept_valid (record {
      wide = kept.wide;
      high = omega arith;
      stride = omega arith;
      fits = omega (arith, long);
      small_width = kept.small_width;
      small_height = omega arith;
    })

    room : copied_in (layout_of (length row) (geometry g.width 1 g.width)) 0 (length before) ≡ row_room (row_layout (length d) g y) (length before)
    room =
        ap (λ (k : Layout). copied_in k 0 (length before)) line
        ∙ ap (λ (w : ℕ). copied_in (Ok (geometry w 1 w)) 0 (length before)) wide
        ∙ ap (λ (k : Layout). row_room k (length before)) (sym found)

    whole : (c : Answer Bare) → packed_in c (geometry g.width 1 g.width) row 0 before ≡ row_out c row before
    whole (accepted v) = ap (λ (p : List ℕ). overwritten 0 p before) (packed_again row g.width 1 kept.wide (long ∙ sym (mul-one g.width)))
    whole (refused n) = refl

    pub row_copied : {c : Answer Bare} {n : ℕ} {after : List ℕ}
        → Packs row (geometry g.width 1 g.width) 0 before c after → n ≡ answer_number c → RowCopied d g y before n after
    row_copied {c} p q = record {
      answers = q ∙ ap answer_number (p.answers ∙ room);
      leaves =
          p.leaves
          ∙ whole (copied_in (layout_of (length row) (geometry g.width 1 g.width)) 0 (length before))
          ∙ ap (λ (k : Answer Bare). row_out k row before) room
          ∙ ap (λ (b : List ℕ). row_out (row_room (row_layout (length d) g y) (length before)) b before) own;
    }
