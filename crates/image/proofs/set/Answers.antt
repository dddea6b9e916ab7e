-- `set` writes the pixel's byte and no other, or passes the refusal on. Assumes nothing.
use native.Mathlib.Omega.{arith}
use lib.ListN.{length}
use Rattle.image.proofs.Places.{pixel_place_lem}
use Prim.Native.Nat.{◌+◌, ◌*◌, ◌<◌}
use Rattle.image.proofs.set.Goals as goal
use Rattle.image.proofs.set.Goals.{In_ok-g}

-- the pixel's byte lies in the slice
place : (c : In_ok-g) →
    c.args.y * c.in_ok-g.g.stride + c.args.x
    < length c.args.«data».now
place c =
    let a = c.args in
    pixel_place_lem (length a.«data».now) a.geometry a.x a.y c.check_pixel.ensures c.in_ok-g.was

pub overflow_mul-data : goal.overflow_mul-data
overflow_mul-data c = omega (arith, place (goal.at.overflow_mul-data c).In_ok-g)

pub overflow_add-data : goal.overflow_add-data
overflow_add-data c = omega (arith, place (goal.at.overflow_add-data c).In_ok-g)

pub bounds-data-y : goal.bounds-data-y
bounds-data-y c = place (goal.at.bounds-data-y c).In_ok-g
