-- `row` hands out the row's own bytes where they stand, or an empty part. Assumes nothing.
use Rattle.std.proofs.Common.{refl, sym}
use Rattle.image.specs.LayoutLaws.{row_asked}
use Rattle.image.proofs.Places.{row_found}
use Rattle.image.proofs.view.Gray8View.row.Goals as goal

pub returns : goal.returns
returns c =
    let s = c.args.self in
    row_found s.pixels s.geometry c.args.y (sym (row_asked s.kept c.args.y c.if-self-y.false)) refl refl refl
