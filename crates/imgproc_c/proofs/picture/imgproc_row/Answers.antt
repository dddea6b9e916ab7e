-- The export packs the row as a picture of one row. Assumes nothing.
use Rattle.imgproc_c.specs.Picture.{geometry}
use Rattle.imgproc_c.proofs.Numbers.{row_copied}
use Rattle.imgproc_c.proofs.picture.imgproc_row.Goals as goal

pub returns : goal.returns
returns c =
    let a = c.args in
    row_copied a.«data».now (geometry a.width a.height a.stride) a.y a.out.now c.check_row.ensures
    c.in_default.is c.row.ensures.bytes c.pack.ensures c.answer_number.ensures
