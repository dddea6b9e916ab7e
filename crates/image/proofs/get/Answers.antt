-- `get` reads the pixel's byte, or passes the refusal on. Assumes nothing.
use native.Mathlib.Omega.{arith}
use lib.ListN.{length}
use Rattle.image.proofs.Places.{pixel_place_lem}
use Prim.Native.Nat.{◌+◌, ◌*◌, ◌<◌}
use Rattle.image.proofs.get.Goals as goal
use Rattle.image.proofs.get.Goals.{In_ok-g}

-- the pixel's byte lies in the slice
place : (c : In_ok-g) →
    c.args.y * c.in_ok-g.g.stride + c.args.x
    < length c.args.«data».now
place c =
    let a = c.args in
    pixel_place_lem (length a.«data».now) a.geometry a.x a.y c.check_pixel.ensures c.in_ok-g.was

pub overflow_mul-result : goal.overflow_mul-result
overflow_mul-result c = omega (arith, place (goal.at.overflow_mul-result c).In_ok-g)

pub overflow_add-result : goal.overflow_add-result
overflow_add-result c = omega (arith, place (goal.at.overflow_add-result c).In_ok-g)

pub bounds-data-y : goal.bounds-data-y
bounds-data-y c = place (goal.at.bounds-data-y c).In_ok-g
