-- `running_extremum_1d` meets its contract: the three passes, one after another. Assumes nothing.
use mathlib.Core.Path.{◌∙◌}
use Prim.Native.Nat.{◌*◌}
use native.Mathlib.Omega.{arith}
use Rattle.imgproc.specs.Sweeps.{area}
use Rattle.imgproc.proofs.morphology.sweeps.Passes.{lines_swept, pass_again, passed_room}
use Rattle.imgproc.proofs.morphology.sweeps.running_extremum_1d.Goals as goal

pub backward_pass-b-requires : goal.backward_pass-b-requires
backward_pass-b-requires g c =
    let pre = c.requires in
    let said = c.forward_pass-a.ensures in
    pass_again pre.pass said.rest.long (passed_room pre.room said (omega arith))

pub join_pass-requires : goal.join_pass-requires
join_pass-requires g c =
    let pre = c.requires in
    let first = c.forward_pass-a.ensures in
    let second = c.backward_pass-b.ensures in
    pass_again pre.pass (second.rest.long ∙ first.rest.long)
    (passed_room (passed_room {l = 2 * area c.args.planes} pre.room first (omega arith)) second (omega arith))

pub returns : goal.returns
returns g c =
    let asked = c.requires.pass in
    lines_swept asked.kernel asked.source_apart c.forward_pass-a.ensures c.backward_pass-b.ensures c.join_pass.ensures
