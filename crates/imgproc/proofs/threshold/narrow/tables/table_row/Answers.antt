-- `table_row` adds one row to both tables: each sum goes on modulo 2^32. Assumes nothing.
use Prim.Native.Nat.{ℕ, ◌≤◌, ◌<◌}
use native.Mathlib.Omega.{arith}
use mathlib.Core.Path.{◌≡◌, refl, ◌∙◌}
use lib.ListN.{get_or, length-set}
use Rattle.image.specs.RowLaws.{row_long, row_picture}
use Rattle.imgproc.specs.Tables.{narrow_modulus, pixels_of}
use Rattle.imgproc.proofs.threshold.tables.Entries.{rows_fit, row_start, row_step, row_end}
use Rattle.imgproc.proofs.threshold.narrow.tables.table_row.Goals as goal
use Rattle.imgproc.proofs.threshold.narrow.tables.table_row.Goals.{In-loop-i, Start}

abbrev pixels : Start → ℕ → ℕ → ℕ
pixels s = pixels_of s.args.source.pixels.now s.args.source.geometry

-- the row has the picture's width
inside : (t : In-loop-i) → t.loop-i.i < t.args.source.geometry.width
inside t =
    let s = t.args.source in
    omega (arith, row_long s.pixels.now s.geometry s.kept t.args.y t.requires.0 t.row-pixel-items.ensures.bytes, t.loop-i-test.true)

-- the byte at hand is pixel (i, y)
value-is : (t : In-loop-i) {v : ℕ} → v ≡ get_or t.row-pixel-items.result.now t.loop-i.i 0
    → v ≡ pixels_of t.args.source.pixels.now t.args.source.geometry t.loop-i.i t.args.y
value-is t e =
    let s = t.args.source in
    e ∙ row_picture s.pixels.now s.geometry s.kept t.args.y t.requires.0 t.row-pixel-items.ensures.bytes t.loop-i.i (inside t)

value-small : (t : In-loop-i) {v : ℕ} → v ≡ get_or t.row-pixel-items.result.now t.loop-i.i 0 → v ≤ 255
value-small t {v} e = omega (arith, e, t.type_inv.pixel-items t.loop-i.i)

pub loop-i-init : goal.loop-i-init
loop-i-init c = row_start narrow_modulus (pixels (goal.at.loop-i-init c).Start) _ _ _ _ c.requires.0 c.args.workspace.now c.requires.1.both

pub loop-i-preserved : goal.loop-i-preserved
loop-i-preserved c =
    let l = c.loop-i in
    let t = (goal.at.loop-i-preserved c).In-loop-i in
    row_step narrow_modulus (pixels (goal.at.loop-i-preserved c).Start) _ _ _ _ c.requires.0 l.workspace _ _ _ l.invariant (inside t) _ _ _ _ _
    (value-is t c.from-value.ensures) (value-small t c.from-value.ensures) refl refl refl refl

pub returns : goal.returns
returns c =
    let s = c.args.source in
    let long = row_long s.pixels.now s.geometry s.kept c.args.y c.requires.0 c.row-pixel-items.ensures.bytes in
    row_end c.requires.1 c.loop-i.invariant (omega (arith, long, c.loop-i.auto.i-end, c.loop-i-test.false))

pub bounds-workspace-squares-in-loop-i-2 : goal.bounds-workspace-squares-in-loop-i-2
bounds-workspace-squares-in-loop-i-2 c =
    let t = (goal.at.bounds-workspace-squares-in-loop-i-2 c).In-loop-i in
    omega (arith, inside t, rows_fit c.args.source.geometry.width c.args.source.geometry.height c.args.y c.requires.0, length-set {A = ℕ})
