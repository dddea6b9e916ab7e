-- `pack` refuses where the plane does not lie in the workspace, and else packs the rows. Assumes nothing.
use Rattle.std.proofs.Common.{arith, refl, sym, length}
use Rattle.image.specs.LayoutLaws.{kept_valid}
use Rattle.image.proofs.Rooms.{copied_short, copied_done, packs}
use Rattle.image.proofs.view.Gray8View.pack.Goals as goal
use Rattle.image.proofs.view.Gray8View.pack.Goals.{
  then-workspace-at-via-then-workspace-at,
  then-workspace-at-via-else-workspace-at+then-workspace-at-2,
}

pub returns-then-workspace-at : goal.returns-then-workspace-at
returns-then-workspace-at c =
    let a = c.args in
    let s = a.self in
    let is = sym (kept_valid s.kept) in
    packs s.pixels.now s.geometry a.at a.workspace.now
    (elim c.then-workspace-at.branch [
      | then-workspace-at-via-then-workspace-at w ↦
          copied_short (length s.pixels.now) s.geometry a.at (length a.workspace.now) is refl (omega (arith, w.if-workspace-at.true))
      | then-workspace-at-via-else-workspace-at+then-workspace-at-2 w ↦
          copied_short (length s.pixels.now) s.geometry a.at (length a.workspace.now) is refl
          (omega (arith, w.if-workspace-at.false, w.if-workspace-at-2.true))
    ]) refl

pub returns : goal.returns
returns c =
    let a = c.args in
    let s = a.self in
    packs s.pixels.now s.geometry a.at a.workspace.now
    (copied_done (length s.pixels.now) s.geometry a.at (length a.workspace.now) (sym (kept_valid s.kept)) refl
    (omega (arith, c.if-workspace-at.false, c.if-workspace-at-2.false)))
    c.pack_rows.ensures
