-- `variance` meets its contract. Assumes nothing.
use mathlib.Core.Path.{sym, ap, ◌∙◌}
use mathlib.Core.Bool.{Bool, false, cond}
use lib.IntN.{pos}
use lib.Ieee.{fin, binary64, of_bits, sub, mul, div}
use Rattle.imgproc.specs.Grid.{whole}
use Rattle.imgproc.proofs.grid.base.Steps.{variance_is}
use Rattle.imgproc.proofs.grid.tiles.TileNumbers.variance.Goals as goal

pub returns-then-v : goal.returns-then-v
unfolding of_bits
returns-then-v c =
    let n = c.args.self in
    let m = c.mean-m in
    let v = sub binary64 (div binary64 (whole n.sum_sq) (whole n.count)) (mul binary64 m.result m.result) in
    sym (ap (λ (t : Bool). cond t (fin false 0 (pos 0)) v) c.if-v.true) ∙ variance_is n.sum n.sum_sq n.count m.result m.ensures

pub returns-else-v : goal.returns-else-v
unfolding of_bits
returns-else-v c =
    let n = c.args.self in
    let m = c.mean-m in
    let v = sub binary64 (div binary64 (whole n.sum_sq) (whole n.count)) (mul binary64 m.result m.result) in
    sym (ap (λ (t : Bool). cond t (fin false 0 (pos 0)) v) c.if-v.false) ∙ variance_is n.sum n.sum_sq n.count m.result m.ensures
