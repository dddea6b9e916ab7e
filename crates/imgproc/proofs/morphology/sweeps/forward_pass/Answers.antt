use mathlib.Core.Logic.{inl}
use native.Mathlib.Omega.{arith}
use Rattle.imgproc.proofs.morphology.sweeps.Blocks.{order, after}
use Rattle.imgproc.proofs.morphology.Lanes.{apart_within, line_order, line_before, down_none, down_room}
use Rattle.imgproc.proofs.morphology.sweeps.Passes.{forward_copy, forward_meet, forth_apart}
use Rattle.imgproc.proofs.morphology.sweeps.forward_pass.Goals as goal
use Rattle.imgproc.proofs.morphology.sweeps.forward_pass.Goals.{then-y-kernel-eq0, else-y-kernel-eq0}

pub loop-y-init : goal.loop-y-init
loop-y-init g c = down_none

pub meet_lanes-t-requires : goal.meet_lanes-t-requires
meet_lanes-t-requires g c =
    let pre = c.requires in
    let w = c.args.planes.width in
    let y = c.loop-y.y in
    let fits = line_order w y c.args.planes.height c.loop-y-test.true in
    let above = line_before w y (after _ _ c.if-y-kernel-eq0.false) in
    let long = c.loop-y.invariant.lines.rest.long in
    record {
      left = omega arith;
      right = omega arith;
      target = omega arith;
      left_apart = record { clear = inl (omega arith) };
      right_apart = apart_within _ _ _ _ (forth_apart pre) (omega arith) (omega arith) (omega arith) (omega arith);
      room = down_room pre.room c.loop-y.invariant c.loop-y-test.true;
    }

pub loop-y-preserved : goal.loop-y-preserved
loop-y-preserved g c =
    let pre = c.requires in
    let inv = c.loop-y.invariant in
    elim c.if-y-kernel-eq0.branch [
      | then-y-kernel-eq0 w ↦
          rw (w.ws-is, w.t-is)
          (forward_copy (order _) _ pre.kernel _ _ _ _ (forth_apart pre) _ _ inv c.loop-y-test.true w.if-y-kernel-eq0.true w.copy_lanes.ensures)
      | else-y-kernel-eq0 w ↦
          rw (w.ws-is, w.t-is)
          (forward_meet (order _) _ pre.kernel _ _ _ _ (forth_apart pre) _ _ inv c.loop-y-test.true w.if-y-kernel-eq0.false w.meet_lanes-t.ensures.row
          w.meet_lanes-t.ensures.counted)
    ]
