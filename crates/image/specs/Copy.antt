-- What `pack` and `unpack` promise: rows of a strided picture go into a packed plane of a workspace, and back out.
-- Definitions only.
use Rattle.std.specs.Prelude.{ℕ, ◌+◌, ◌*◌, ◌≡◌, cond, List, ltb, length, Ok, Err}
use Rattle.image.specs.declared.Geometry.{Geometry}
use Rattle.image.specs.declared.CopyError.{CopyError}
use Rattle.image.specs.declared.CopyError.TheVariants.{Image, WorkspaceTooSmall}
use Rattle.image.specs.Answers.{Answer, accepted, refused, Bare, bare}
use Rattle.image.specs.Layout.{Layout, layout_of, number_of}
use Rattle.image.specs.Plane.{picture, painted_on, part, overwritten}

-- the number of each refusal of a copy
abbrev pub copy_number : CopyError → ℕ
copy_number (Image e) = number_of e
copy_number WorkspaceTooSmall = 8

-- the answer of a copy: the layout's refusal; then 8 where the w × h bytes from `at` on do not lie in a workspace of
-- `room` bytes
abbrev pub copied_in : Layout → ℕ → ℕ → Answer Bare
copied_in (Err e) at room = refused (number_of e)
copied_in (Ok g) at room = cond (ltb room (at + g.width * g.height)) (refused 8) (accepted bare)

-- the workspace after `pack`: the packed picture from `at` on, or all as it was where the call is refused
abbrev pub packed_in : Answer Bare → Geometry → List ℕ → ℕ → List ℕ → List ℕ
packed_in (accepted v) g src at ws = overwritten at (picture src g) ws
packed_in (refused n) g src at ws = ws

-- the destination after `unpack`: the plane in its rows, or all as it was where the call is refused
abbrev pub unpacked_in : Answer Bare → Geometry → List ℕ → ℕ → List ℕ → List ℕ
unpacked_in (accepted v) g ws at dst = painted_on dst g (part at (g.width * g.height) ws)
unpacked_in (refused n) g ws at dst = dst

-- the contract of `pack`: the source's rows go to the workspace
pub record Packs (src : List ℕ) (g : Geometry) (at : ℕ) (before : List ℕ) (answer : Answer Bare) (after : List ℕ)
    : Type 0 where
  pub answers : answer ≡ copied_in (layout_of (length src) g) at (length before)
  pub leaves : after ≡ packed_in (copied_in (layout_of (length src) g) at (length before)) g src at before

-- the contract of `unpack`: a plane of the workspace goes to the destination's rows
pub record Unpacks (ws : List ℕ) (at : ℕ) (before : List ℕ) (g : Geometry) (answer : Answer Bare) (after : List ℕ)
    : Type 0 where
  pub answers : answer ≡ copied_in (layout_of (length before) g) at (length ws)
  pub leaves : after ≡ unpacked_in (copied_in (layout_of (length before) g) at (length ws)) g ws at before
