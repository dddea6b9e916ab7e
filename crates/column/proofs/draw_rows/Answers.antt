use Rattle.std.proofs.Common.{◌≡◌, sym, ap, ◌∙◌, ℕ, ◌+◌, ◌*◌, ◌<◌, List, arith, mul_comm, add-zero}
use Rattle.image.specs.Plane.{pixel, overwritten}
use Rattle.image.specs.PlaneLaws.{in_plane, plane_tabulated}
use Rattle.column.specs.Drawing.{row_byte}
use Rattle.column.specs.Steps.{ink_of}
use Rattle.column.proofs.Rows.{laid, row_long, row_pixel, none_drawn, drawing_more, laid_mark, laid_end}
use Rattle.column.proofs.draw_rows.Goals as goal

pub loop-y-init : goal.loop-y-init
loop-y-init c =
    let a = c.args in
    let z : 0 * (a.width + 1) ≡ 0 = omega arith in
    rw (z, add-zero a.at) (none_drawn a.pixels.now a.width a.at a.out.now)

pub loop-x-preserved : goal.loop-x-preserved
loop-x-preserved c =
    let a = c.args in
    let y = c.loop-y.y in
    let x = c.loop-x.x in
    let long = row_long a.pixels.now a.width a.height y c.requires.holds (omega arith) in
    let X : x < a.width = omega (arith, long, c.loop-x-test.true) in
    let e : c.ink.result ≡ laid a.pixels.now a.width (y * (a.width + 1) + x) =
    c.ink.ensures ∙ ap ink_of (row_pixel a.pixels.now a.width x y X) ∙ laid_mark a.pixels.now a.width x y X in
    let n : y * (a.width + 1) + (x + 1) ≡ y * (a.width + 1) + x + 1 = omega arith in
    let m : a.at + y * (a.width + 1) + (x + 1) ≡ a.at + y * (a.width + 1) + x + 1 = omega arith in
    rw (n, m) (drawing_more c.loop-x.invariant (omega (arith, c.requires.fits, in_plane (a.width + 1) a.height x y (omega arith) (omega arith))) e)

pub loop-y-preserved : goal.loop-y-preserved
loop-y-preserved c =
    let a = c.args in
    let y = c.loop-y.y in
    let long = row_long a.pixels.now a.width a.height y c.requires.holds (omega arith) in
    let x : c.loop-x.x ≡ a.width = omega (arith, long, c.loop-x-test.false) in
    let n : (y + 1) * (a.width + 1) ≡ y * (a.width + 1) + a.width + 1 = omega arith in
    let m : a.at + (y * (a.width + 1) + a.width + 1) ≡ a.at + y * (a.width + 1) + a.width + 1 = omega arith in
    rw (n, m) (drawing_more (rw x at c.loop-x.invariant) (omega (arith, c.requires.fits, in_plane (a.width + 1) a.height a.width y (omega arith) (omega arith))) (laid_end a.pixels.now a.width y))

pub returns : goal.returns
returns c =
    let a = c.args in
    let h : c.loop-y.y ≡ a.height = omega arith in
    let n : c.loop-y.y * (a.width + 1) ≡ (a.width + 1) * a.height = ap (λ (k : ℕ). k * (a.width + 1)) h ∙ mul_comm a.height (a.width + 1) in
    let d = rw n at c.loop-y.invariant in
    record {
      answers = ap (λ (k : ℕ). a.at + k) (mul_comm a.height (a.width + 1));
      leaves = d.written ∙ ap (λ (p : List ℕ). overwritten a.at p a.out.now) (sym (plane_tabulated (a.width + 1) a.height (row_byte (λ x y. ink_of (pixel a.pixels.now a.width x y)) a.width)));
    }
