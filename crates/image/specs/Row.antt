-- What `row` and `row_mut` promise: they hand out the caller's own bytes, where these stand in the caller's memory.
-- Definitions only.
use Rattle.std.specs.Prelude.{ℕ, ◌+◌, ◌*◌, ◌≡◌, List, [], length, Ok, Err}
use Rattle.std.specs.Borrow.{Bor}
pub use denote.MutBor.{as_bor}
use Rattle.image.specs.declared.Geometry.{Geometry}
use Rattle.image.specs.Layout.{Layout, row_layout}
use Rattle.image.specs.Plane.{part}

-- the bytes of row y: `width` of them from y × stride on; none where the row is refused
abbrev pub row_in : Layout → List ℕ → ℕ → List ℕ
row_in (Ok g) d y = part (y * g.stride) g.width d
row_in (Err e) d y = []

-- where row y stands, if the slice stands at `place`, a block and an offset in it: y × stride bytes further on. The
-- empty part of a refused row stands where the slice does
abbrev pub row_at : Layout → ℕ × ℕ → ℕ → ℕ × ℕ
row_at (Ok g) place y = (place.0, y * g.stride + place.1)
row_at (Err e) place y = place

-- the contract of `row` and `row_mut`, which hand out r of the lent slice d: its bytes, and its place. A slice that may
-- be written is `as_bor` of its reference: the bytes and the place of that
pub record Hands (d : Bor (List ℕ)) (g : Geometry) (y : ℕ) (r : Bor (List ℕ)) : Type 0 where
  pub bytes : r.now ≡ row_in (row_layout (length d.now) g y) d.now y
  pub place : r.ref_ptr ≡ row_at (row_layout (length d.now) g y) d.ref_ptr y
