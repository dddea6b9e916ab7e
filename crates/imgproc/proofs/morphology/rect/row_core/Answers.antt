use Prim.Native.Nat.{◌+◌, ◌≤◌}
use mathlib.Core.Path.{◌≡◌}
use native.Mathlib.Omega.{arith}
use Rattle.imgproc.proofs.morphology.Planes.{sweeping_ready, sweeping_more, sweeping_all}
use Rattle.imgproc.proofs.morphology.rect.row_core.Goals as goal

pub sweep_strip-t-requires : goal.sweep_strip-t-requires
sweep_strip-t-requires g c = rw c.strip.ensures (sweeping_ready c.requires _ c.loop-y.invariant (omega arith))

pub loop-y-preserved : goal.loop-y-preserved
loop-y-preserved g c =
    let whole : c.min-rows.result ≡ 32 = omega arith in
    let fits : c.loop-y.y + c.min-rows.result ≤ c.args.planes.height = omega arith in
    rw whole at (sweeping_more c.requires _ c.loop-y.invariant fits (rw c.strip.ensures at c.sweep_strip-t.ensures))

pub returns-2 : goal.returns-2
returns-2 g c =
    let fits : c.loop-y.y + c.min-rows.result ≤ c.args.planes.height = omega arith in
    sweeping_all c.requires (sweeping_more c.requires _ c.loop-y.invariant fits (rw c.strip.ensures at c.sweep_strip-t.ensures)) (omega arith)
