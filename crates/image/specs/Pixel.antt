-- What `get` and `set` promise: one pixel is read or written. Definitions only.
use Rattle.std.specs.Prelude.{ℕ, ◌+◌, ◌*◌, ◌≡◌, List, length, set, Ok, Err}
use Rattle.image.specs.declared.Geometry.{Geometry}
use Rattle.image.specs.Answers.{Answer, accepted, refused, Bare, bare}
use Rattle.image.specs.Layout.{Layout, number_of, pixel_layout}
use Rattle.image.specs.Plane.{pixel}

-- the answer of `get`: the pixel, or the refusal
abbrev pub value_in : Layout → List ℕ → ℕ → ℕ → Answer ℕ
value_in (Ok g) d x y = accepted (pixel d g.stride x y)
value_in (Err e) d x y = refused (number_of e)

-- the answer of `set`: a bare success, or the refusal
abbrev pub written_in : Layout → Answer Bare
written_in (Ok g) = accepted bare
written_in (Err e) = refused (number_of e)

-- the bytes after `set`: the pixel's byte is v, or all are as they were where the call is refused
abbrev pub bytes_in : Layout → List ℕ → ℕ → ℕ → ℕ → List ℕ
bytes_in (Ok g) d x y v = set d (y * g.stride + x) v
bytes_in (Err e) d x y v = d

-- the contract of `set`, which writes v at (x, y)
pub record Sets (before : List ℕ) (g : Geometry) (x y v : ℕ) (answer : Answer Bare) (after : List ℕ) : Type 0 where
  pub answers : answer ≡ written_in (pixel_layout (length before) g x y)
  pub leaves : after ≡ bytes_in (pixel_layout (length before) g x y) before x y v
