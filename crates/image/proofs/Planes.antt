-- Row y of a packed plane of a workspace, from which `unpack_rows` paints. Assumes nothing.
use Prim.Native.Nat.{ℕ, ◌+◌, ◌-◌, ◌*◌, ◌≤◌, ◌<◌}
use native.Mathlib.Nat.{add-sub_cancel_left}
use native.Mathlib.Omega.{arith}
use mathlib.Core.Path.{◌≡◌, sym, ap, ◌∙◌}
use mathlib.Core.List.{List}
use lib.ListN.{length, get_or}
use Rattle.image.specs.Plane.{pixel, part}
use Rattle.image.specs.PlaneLaws.{get_d_part, in_plane}
use Rattle.image.specs.FillLaws.{row_in_plane, lent_row}

module _ (ws : List ℕ) (at w h : ℕ) (room : at + w * h ≤ length ws) (y : ℕ) (t : y < h) where
  -- it lies in the workspace
  pub from_fits : at + y * w + w ≤ length ws
  from_fits = omega (arith, row_in_plane w h y t)

  module _ {r : List ℕ} (e : r ≡ part (at + y * w) (at + y * w + w - (at + y * w)) ws) where
    -- the part that is lent for it has the width, and its bytes are the plane's pixels
    pub from_long : length r ≡ w
    from_long = ap length e ∙ lent_row (at + y * w) w ws from_fits

    pub from_pixel : (x : ℕ) → x < w → get_or r x 0 ≡ pixel (part at (w * h) ws) w x y
    from_pixel x u =
        let q : at + y * w + x ≡ at + (y * w + x) = omega arith in
        ap (λ (z : List ℕ). get_or z x 0) (e ∙ ap (λ (n : ℕ). part (at + y * w) n ws) (add-sub_cancel_left (at + y * w) w))
        ∙ get_d_part (at + y * w) w ws from_fits x u
        ∙ ap (λ (n : ℕ). get_or ws n 0) q
        ∙ sym (get_d_part at (w * h) ws room (y * w + x) (in_plane w h x y u t))
