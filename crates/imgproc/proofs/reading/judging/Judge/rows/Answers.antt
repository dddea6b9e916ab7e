use Prim.Native.Nat.{ℕ, ◌+◌, ◌*◌, ◌≤◌, ◌<◌}
use native.Mathlib.Omega.{arith}
use mathlib.Core.Path.{sym, ◌∙◌}
use mathlib.Core.List.{List}
use lib.ListN.{length}
use Rattle.image.specs.LayoutLaws.{area_small}
use Rattle.imgproc.specs.ReadingSteps.{marked_over}
use Rattle.image.specs.PaintRows.{rows_start, part_long, rows_next, row_within_as}
use Rattle.imgproc.proofs.reading.judging.Judgements.{none_counted, next_counted, room_for_row, marked_pixel}
use Rattle.imgproc.proofs.reading.judging.Judge.rows.Goals as goal
use Rattle.imgproc.proofs.reading.judging.Judge.rows.Goals.{In-loop-y, Start}

abbrev new : Start → List ℕ
new c =
    let s = c.args.self in marked_over s.config s.opened.geometry.width s.opened.geometry.height s.opened.pixels.now

-- the destination's rows are as wide as the picture
wide : (c : Start) → (0 < c.args.self.opened.geometry.width) × (c.args.self.opened.geometry.width ≤ c.args.dst_geometry.stride)
wide c = (c.args.self.opened.kept.wide, omega (arith, c.requires.to.stride, c.requires.wide))

-- row y of the destination
within : (t : In-loop-y)
    → t.loop-y.y * t.args.dst_geometry.stride + t.args.self.opened.geometry.width ≤ length t.args.dst.now
within t = row_within_as t.requires.to (sym t.requires.wide) (sym t.requires.high) t.loop-y.y t.loop-y-test.true

pub loop-y-init : goal.loop-y-init
loop-y-init c =
    let s = (goal.at.loop-y-init c).Start in
    let e = c.default-counts.ensures in
    (rows_start (new s) _ _ _ _, none_counted (wide s).0 e.0 e.1.0 e.1.1)

pub row-counts-requires : goal.row-counts-requires
row-counts-requires c =
    let l = c.loop-y in
    let s = (goal.at.row-counts-requires c).Start in (
      c.loop-y-test.true,
      (
        part_long (new s) _ _ _ c.args.dst.now l.y l.invariant.0 (wide s).0 (wide s).1 (within (goal.at.row-counts-requires c).In-loop-y),
        room_for_row (wide s).0 l.invariant.1 c.loop-y-test.true (area_small c.args.self.opened.kept),
      ),
    )

pub loop-y-preserved : goal.loop-y-preserved
loop-y-preserved c =
    let l = c.loop-y in
    let s = c.args.self in
    let g = s.opened.geometry in
    let p = new (goal.at.loop-y-preserved c).Start in
    let w = wide (goal.at.loop-y-preserved c).Start in
    let i = within (goal.at.loop-y-preserved c).In-loop-y in (
      rows_next p _ _ _ c.args.dst.now l.y l.invariant.0 w.0 w.1 i c.row-counts.new.out
          (c.row-counts.auto.out ∙ part_long p _ _ _ c.args.dst.now l.y l.invariant.0 w.0 w.1 i)
          (λ x u.
          c.row-counts.ensures.each x u
          ∙ sym (marked_pixel s.config g.width g.height s.opened.pixels.now x l.y u c.loop-y-test.true))
          c.loop-y-test.true,
      next_counted w.0 l.invariant.1 c.row-counts.ensures,
    )
