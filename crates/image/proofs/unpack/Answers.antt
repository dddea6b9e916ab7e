-- `unpack` refuses as the layout and the room say, and else paints the rows. Assumes nothing.
use native.Mathlib.Omega.{arith}
use mathlib.Core.Path.{sym, ap, ◌∙◌}
use lib.ListN.{length}
use Rattle.image.specs.declared.Geometry.{Geometry}
use Rattle.image.specs.Answers.{accepted, bare}
use Rattle.image.specs.Copy.{unpacked_in}
use Rattle.image.proofs.Rooms.{kept_here, same_here, area_fits, copied_done, unpacks}
use Rattle.image.proofs.unpack.Goals as goal

pub overflow_mul-width : goal.overflow_mul-width
overflow_mul-width c =
    let a = c.args in
    record { fits = area_fits (length a.dst.now) a.geometry a.at (length a.workspace.now) c.validate_layout.ensures c.in_ok-g.was }

pub unpack_rows-requires : goal.unpack_rows-requires
unpack_rows-requires c =
    let a = c.args in (
      kept_here (length a.dst.now) a.geometry a.at (length a.workspace.now) c.validate_layout.ensures c.in_ok-g.was,
      omega (arith, c.if-workspace-at-2.false, c.if-workspace-at.false),
    )

pub returns : goal.returns
returns c =
    let a = c.args in
    unpacks a.workspace.now a.at a.dst.now a.geometry
    (copied_done (length a.dst.now) a.geometry a.at (length a.workspace.now) c.validate_layout.ensures
    c.in_ok-g.was (omega (arith, c.if-workspace-at-2.false, c.if-workspace-at.false)))
    (c.unpack_rows.ensures ∙ ap (λ (u : Geometry). unpacked_in (accepted bare) u a.workspace.now a.at a.dst.now)
    (sym (same_here (length a.dst.now) a.geometry a.at (length a.workspace.now) c.validate_layout.ensures c.in_ok-g.was)))
