-- What `pack` and `unpack` leave where the layout is valid and the plane lies in the workspace: they are not refused
-- then. Assumes nothing.
use Rattle.std.specs.Prelude.{◌≡◌, List, ℕ, ◌+◌, ◌*◌, ◌≤◌, length}
use Rattle.std.proofs.Common.{sym, ap, ap₂, ◌∙◌, arith, le-ltb}
use Rattle.image.specs.declared.Geometry.{Geometry}
use Rattle.image.specs.Answers.{Answer, accepted, Bare, bare}
use Rattle.image.specs.Layout.{Kept, layout_of}
use Rattle.image.specs.LayoutLaws.{kept_valid}
use Rattle.image.specs.Plane.{picture, painted_on, part, overwritten}
use Rattle.image.specs.PlaneLaws.{length-overwritten, part_overwritten}
use Rattle.image.specs.Views.{length-picture}
use Rattle.image.specs.Copy.{copied_in, packed_in, unpacked_in, Packs, Unpacks}

-- such a copy is accepted
done : (len : ℕ) (g : Geometry) (at room : ℕ) → Kept len g → at + g.width * g.height ≤ room
    → copied_in (layout_of len g) at room ≡ accepted bare
done len g at room k l = rw (kept_valid k, le-ltb room (at + g.width * g.height) l)

module _ {src : List ℕ} {g : Geometry} {at : ℕ} {ws ws' : List ℕ} {r : Answer Bare}
    (k : Kept (length src) g) (l : at + g.width * g.height ≤ length ws) (p : Packs src g at ws r ws') where
  -- the workspace holds the packed picture from `at` on
  pub packs_done : ws' ≡ overwritten at (picture src g) ws
  packs_done = p.leaves ∙ ap (λ (c : Answer Bare). packed_in c g src at ws) (done (length src) g at (length ws) k l)

  -- the workspace keeps its length, and its plane at `at` is the picture
  pub packs_plane : (length ws' ≡ length ws) × (part at (g.width * g.height) ws' ≡ picture src g)
  packs_plane =
      let n = length-picture src g in
      let fits : at + length (picture src g) ≤ length ws = omega arith in (
        ap length packs_done ∙ length-overwritten at (picture src g) ws fits,
        ap₂ (λ (m : ℕ) (d : List ℕ). part at m d) (sym n) packs_done ∙ part_overwritten at (picture src g) ws fits,
      )

-- the destination has the plane in its rows
pub unpacks_done : {ws : List ℕ} {at : ℕ} {dst dst' : List ℕ} {g : Geometry} {r : Answer Bare}
    → Kept (length dst) g → at + g.width * g.height ≤ length ws → Unpacks ws at dst g r dst'
    → dst' ≡ painted_on dst g (part at (g.width * g.height) ws)
unpacks_done {ws} {at} {dst} {dst'} {g} k l p =
    p.leaves ∙ ap (λ (c : Answer Bare). unpacked_in c g ws at dst) (done (length dst) g at (length ws) k l)
