use Prim.Native.Nat.{◌-◌, ◌%◌}
use mathlib.Core.Path.{◌≡◌, sym, ◌∙◌}
use mathlib.Core.Bool.{true}
use mathlib.Core.Logic.{inl, inr}
use native.Mathlib.Omega.{arith}
use borrow.Author.Tests.{eqb-true, eqb-false, ne_eqb}
use Rattle.imgproc.specs.Reach.{backward_at}
use Rattle.imgproc.proofs.morphology.sweeps.Blocks.{order}
use Rattle.imgproc.proofs.morphology.Lanes.{apart_within, line_order, up_room, up_all}
use Rattle.imgproc.proofs.morphology.sweeps.Passes.{backward_copy, backward_meet, back_apart}
use Rattle.imgproc.proofs.morphology.sweeps.backward_pass.Goals as goal
use Rattle.imgproc.proofs.morphology.sweeps.backward_pass.Goals.{Else-y-height, then-y-kernel, else-y-kernel}

pub loop-y-preserved-then-y-height : goal.loop-y-preserved-then-y-height
loop-y-preserved-then-y-height g c =
    backward_copy (order _) _ c.requires.kernel _ _ _ _ (back_apart c.requires) _ _ c.loop-y.invariant c.loop-y-test.true c.loop-y.auto.y
    (elim c.if-y-kernel.branch [
      | then-y-kernel w ↦ inl w.if-y-kernel.true
      | else-y-kernel w ↦ inr (eqb-true _ _ (sym w.value-is ∙ c.if-y-height.true))
    ])
    c.copy_lanes.ensures

-- past both halves of the test
neither : (g : _) (c : Else-y-height g)
    → let a = c.args in
    let y = c.loop-y.y in
    ((y - 1) % a.kernel ≡ a.kernel - 1 → ⊥) × (y - 1 ≡ a.planes.height - 1 → ⊥)
neither g c =
    elim c.if-y-kernel.branch [
      | then-y-kernel w ↦ absurd (eqb-false _ _ (sym w.value-is ∙ c.if-y-height.false) w.if-y-kernel.true)
      | else-y-kernel w ↦ (w.if-y-kernel.false, eqb-false _ _ (sym w.value-is ∙ c.if-y-height.false))
    ]

pub meet_lanes-t-requires : goal.meet_lanes-t-requires
meet_lanes-t-requires g c =
    let pre = c.requires in
    let w = c.args.planes.width in
    let y = c.loop-y.y in
    let n = neither g (goal.at.meet_lanes-t-requires g c).Else-y-height in
    let fits = line_order w (y - 1) y (omega arith) in
    let under = line_order w y c.args.planes.height (omega (arith, n.1)) in
    let long = c.loop-y.invariant.lines.rest.long in
    let test : backward_at c.args.kernel c.args.planes.height (y - 1) ≡ true = simp (ne_eqb _ _ n.0, ne_eqb _ _ n.1) in
    record {
      left = omega arith;
      right = omega arith;
      target = omega arith;
      left_apart = record { clear = inr (omega arith) };
      right_apart = apart_within _ _ _ _ (back_apart pre) (omega arith) (omega arith) (omega arith) (omega arith);
      room = up_room pre.room c.loop-y.invariant c.loop-y-test.true test;
    }

pub loop-y-preserved : goal.loop-y-preserved
loop-y-preserved g c =
    let n = neither g (goal.at.loop-y-preserved g c).Else-y-height in
    backward_meet (order _) _ c.requires.kernel _ _ _ _ (back_apart c.requires) _ _ c.loop-y.invariant c.loop-y-test.true c.loop-y.auto.y n.0 n.1
    c.meet_lanes-t.ensures.row c.meet_lanes-t.ensures.counted

pub returns : goal.returns
returns g c = up_all c.loop-y.invariant (omega arith)
