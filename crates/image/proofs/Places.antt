-- A pixel or row that is not refused lies in the slice; and what a row hands out is the row's, where l is the layout that the code holds.
-- Assumes nothing.
use Prim.Native.Nat.{ℕ, ◌+◌, ◌-◌, ◌*◌, ◌≤◌, ◌<◌}
use native.Mathlib.Nat.{add-sub_cancel_left}
use native.Mathlib.Omega.{arith}
use mathlib.Core.Path.{◌≡◌, sym, ap, ◌∙◌}
use mathlib.Core.List.{List}
use lib.ListN.{length}
use denote.Ref.{Bor}
use borrow.Author.Tests.{ltb-true}
use Rattle.image.specs.declared.Geometry.{Geometry}
use Rattle.std.specs.Prelude.{Ok}
use Rattle.image.specs.Layout.{Layout, pixel_layout, row_layout}
use Rattle.image.specs.LayoutLaws.{row_within, row_inside, pixel_inside}
use Rattle.image.specs.Plane.{part}
use Rattle.image.specs.Row.{row_in, row_at, Hands}

module _ (len : ℕ) (g : Geometry) {v : Geometry} {l : Layout} where
  pub row_place_lem : (y : ℕ) → l ≡ row_layout len g y → l ≡ Ok v → y * v.stride + v.width ≤ len
  row_place_lem y is i =
      let k = row_inside len g v y (sym is ∙ i) in
      let e = ap (λ (u : Geometry). y * u.stride + u.width) k.0.1 in
      omega (arith, row_within k.0.0 y (ltb-true _ _ k.1))

  pub pixel_place_lem : (x y : ℕ) → l ≡ pixel_layout len g x y → l ≡ Ok v → y * v.stride + x < len
  pixel_place_lem x y is i =
      let k = pixel_inside len g v x y (sym is ∙ i) in
      let e = ap (λ (u : Geometry). y * u.stride + x) k.0.1 in
      let t = ltb-true x g.width k.1.0 in
      omega (arith, row_within k.0.0 y (ltb-true y g.height k.1.1))

-- r, which `row` hands out: its bytes and its place are the row's
module _ (d : Bor (List ℕ)) (g : Geometry) (y : ℕ) {l : Layout} (is : l ≡ row_layout (length d.now) g y) {r : Bor (List ℕ)} where
  pub row_found :
      {v : Geometry}
      → l ≡ Ok v
      → r.now ≡ part (y * v.stride) (y * v.stride + v.width - y * v.stride) d.now
      → r.ref_ptr ≡ (d.ref_ptr.0, y * v.stride + d.ref_ptr.1)
      → Hands d g y r
  row_found {v} i b p =
      let e = add-sub_cancel_left (y * v.stride) v.width in
      record {
        bytes = b ∙ ap (λ (n : ℕ). part (y * v.stride) n d.now) e ∙ ap (λ (k : Layout). row_in k d.now y) (sym i ∙ is);
        place = p ∙ ap (λ (k : Layout). row_at k d.ref_ptr y) (sym i ∙ is);
      }
