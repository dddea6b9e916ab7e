use Prim.Native.Nat.{◌+◌, ◌*◌, ◌≤◌}
use mathlib.Core.Path.{sym, ◌∙◌}
use lib.ListN.{length}
use Rattle.image.specs.FillLaws.{fill_start, fill_done, fill_fits, fill_next, lent_row}
use Rattle.image.specs.RowLaws.{row_long, row_pixel}
use Rattle.image.specs.Plane.{pixel, packed}
use Rattle.image.proofs.view.Gray8View.pack_rows.Goals as goal
use Rattle.image.proofs.view.Gray8View.pack_rows.Goals.{In-loop-y}

pub loop-y-init : goal.loop-y-init
loop-y-init c =
    let a = c.args in
    fill_start a.self.geometry.width a.self.geometry.height (pixel a.self.pixels.now a.self.geometry.stride) a.at a.workspace.now

-- row y lies in the workspace
fits : (c : In-loop-y) →
    let a = c.args in
    a.at + c.loop-y.y * a.self.geometry.width + a.self.geometry.width ≤ length c.loop-y.workspace
fits c =
    let a = c.args in
    fill_fits a.self.geometry.width a.self.geometry.height (pixel a.self.pixels.now a.self.geometry.stride) a.at a.workspace.now c.requires
    c.loop-y.y c.loop-y.invariant c.loop-y-test.true

pub copy_row-requires : goal.copy_row-requires
copy_row-requires c =
    let a = c.args in
    let to = a.at + c.loop-y.y * a.self.geometry.width in
    lent_row to a.self.geometry.width c.loop-y.workspace (fits (goal.at.copy_row-requires c).In-loop-y)
    ∙ sym (row_long a.self.pixels.now a.self.geometry c.args.self.kept c.loop-y.y c.loop-y-test.true c.row.ensures.bytes)

pub loop-y-preserved : goal.loop-y-preserved
loop-y-preserved c =
    let a = c.args in
    let row = c.copy_row.new.dst in
    let e = c.copy_row.ensures ∙ c.row.ensures.bytes in
    fill_next a.self.geometry.width a.self.geometry.height (pixel a.self.pixels.now a.self.geometry.stride) a.at a.workspace.now c.requires
    c.loop-y.y c.loop-y.invariant c.loop-y-test.true row c.args.self.kept.wide
    (row_long a.self.pixels.now a.self.geometry c.args.self.kept c.loop-y.y c.loop-y-test.true e)
    (row_pixel a.self.pixels.now a.self.geometry c.args.self.kept c.loop-y.y c.loop-y-test.true e)

pub returns : goal.returns
unfolding packed
returns c =
    let a = c.args in
    fill_done a.self.geometry.width a.self.geometry.height (pixel a.self.pixels.now a.self.geometry.stride) a.at a.workspace.now c.requires
    c.loop-y.y c.loop-y.invariant c.loop-y-test.false
