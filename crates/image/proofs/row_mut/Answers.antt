-- `row_mut` hands out the row's own bytes where they stand, or an empty part. Assumes nothing.
use native.Mathlib.Omega.{arith}
use lib.ListN.{length}
use Prim.Native.Nat.{◌+◌, ◌*◌, ◌≤◌}
use Rattle.image.proofs.Places.{row_place_lem}
use Rattle.image.proofs.row_mut.Goals as goal
use Rattle.image.proofs.row_mut.Goals.{In-Ok}

-- the row lies in the slice
place : (c : In-Ok) →
    c.args.y * c.in-Ok.g.stride + c.in-Ok.g.width
    ≤ length c.args.«data».now
place c =
    let a = c.args in
    row_place_lem (length a.«data».now) a.geometry a.y c.check_row.ensures c.in-Ok.is

pub overflow_mul-start : goal.overflow_mul-start
overflow_mul-start c = omega (arith, place (goal.at.overflow_mul-start c).In-Ok)

pub overflow_add-end : goal.overflow_add-end
overflow_add-end c = omega (arith, place (goal.at.overflow_add-end c).In-Ok)

pub slice_bounds-data-end-2 : goal.slice_bounds-data-end-2
slice_bounds-data-end-2 c = place (goal.at.slice_bounds-data-end-2 c).In-Ok
