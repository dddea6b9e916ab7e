-- `usable` meets its contract. Assumes nothing.
use mathlib.Core.Path.{◌≡◌, sym, ap, ◌∙◌}
use mathlib.Core.Bool.{Bool, ◌&&◌}
use lib.Ieee.{of_bits, lt}
use lib.Ieee.Scale.{finite}
use Rattle.imgproc.specs.Grid.{nought}
use Rattle.imgproc.proofs.grid.base.Floats.{finite_is}
use Rattle.imgproc.proofs.grid.base.usable.Goals as goal
use Rattle.imgproc.proofs.grid.base.usable.Goals.{Joined-is_finite, then-is_finite, else-is_finite}

-- the first two tests together
both : (c : Joined-is_finite) → c.if-is_finite.value ≡ (finite c.args.k && finite c.args.range)
both c =
    let k = c.is_finite.ensures.value ∙ finite_is c.args.k in
    elim c.if-is_finite.branch [
      | then-is_finite w ↦ w.value-is ∙ w.is_finite-then-is_finite.ensures.value ∙ finite_is c.args.range
          ∙ ap (λ (t : Bool). t && finite c.args.range) (sym w.if-is_finite.true ∙ k)
      | else-is_finite w ↦ w.value-is ∙ w.if-is_finite.false ∙ ap (λ (t : Bool). t && finite c.args.range) (sym w.if-is_finite.false ∙ k)
    ]

pub returns-then-is_finite-2 : goal.returns-then-is_finite-2
unfolding of_bits
returns-then-is_finite-2 c =
    ap (λ (t : Bool). t && lt nought c.args.range)
    (sym c.if-is_finite-2.true ∙ both (goal.at.returns-then-is_finite-2 c).Joined-is_finite)

pub returns-else-is_finite-2 : goal.returns-else-is_finite-2
returns-else-is_finite-2 c =
    c.if-is_finite-2.false
    ∙ ap (λ (t : Bool). t && lt nought c.args.range)
    (sym c.if-is_finite-2.false ∙ both (goal.at.returns-else-is_finite-2 c).Joined-is_finite)
