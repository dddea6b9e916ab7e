use native.Mathlib.Omega.{arith}
use Rattle.imgproc.specs.Compared.{extreme}
use Rattle.imgproc.proofs.morphology.Lanes.{apart_within, line_order, down_none, down_room}
use Rattle.imgproc.proofs.morphology.sweeps.Passes.{join_line, prefix_apart, suffix_apart}
use Rattle.imgproc.proofs.morphology.sweeps.join_pass.Goals as goal

pub loop-y-init : goal.loop-y-init
loop-y-init g c = down_none

pub meet_lanes-t-requires : goal.meet_lanes-t-requires
meet_lanes-t-requires g c =
    let pre = c.requires in
    let w = c.args.planes.width in
    let h = c.args.planes.height in
    -- the line at low, that at high, and the one that a turn writes, are within the plane
    let l = line_order w c.low.result h (omega arith) in
    let u = line_order w c.high.result h (omega arith) in
    let f = line_order w c.loop-y.y h c.loop-y-test.true in
    let long = c.loop-y.invariant.lines.rest.long in
    record {
      left = omega arith;
      right = omega arith;
      target = omega arith;
      left_apart = apart_within _ _ _ _ (suffix_apart pre) (omega arith) (omega arith) (omega arith) (omega arith);
      right_apart = apart_within _ _ _ _ (prefix_apart pre) (omega arith) (omega arith) (omega arith) (omega arith);
      room = down_room pre.room c.loop-y.invariant c.loop-y-test.true;
    }

pub loop-y-preserved : goal.loop-y-preserved
loop-y-preserved g c =
    join_line (extreme _) _ _ _ _ _ _ (suffix_apart c.requires) (prefix_apart c.requires) _ _ c.loop-y.invariant c.loop-y-test.true c.low.ensures
    c.high.ensures c.meet_lanes-t.ensures.row c.meet_lanes-t.ensures.counted
