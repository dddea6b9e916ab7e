use mathlib.Core.Path.{ap, ◌∙◌}
use native.Mathlib.Omega.{arith}
use Rattle.image.specs.WriteLaws.{written_none, written_more}
use Rattle.imgproc.proofs.grid.bytes.write_bytes.Goals as goal

pub loop-t-init : goal.loop-t-init
loop-t-init g c = written_none _ c.args.to c.args.bytes.now

pub loop-t-preserved : goal.loop-t-preserved
loop-t-preserved g c =
    written_more _ c.args.to c.loop-t.t c.byte.result c.args.bytes.now c.loop-t.bytes (omega (arith, c.requires)) c.loop-t.invariant
    (c.byte.ensures ∙ ap (g.R.TileRule.byte_of c.args.rule) c.join_around-numbers.ensures.joined)
