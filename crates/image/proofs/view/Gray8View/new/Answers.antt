-- `new` checks the layout, and keeps what a valid one says. Assumes nothing.
use Rattle.std.proofs.Common.{length, refl, sym, subst, ◌∙◌}
use Rattle.image.specs.declared.Geometry.{Geometry}
use Rattle.image.specs.Layout.{Kept}
use Rattle.image.specs.LayoutLaws.{kept_as}
use Rattle.image.proofs.view.Gray8View.new.Goals as goal

pub invariant_of-result : goal.invariant_of-result
invariant_of-result c =
    let len = length c.args.pixels.now in
    let k = kept_as len c.args.geometry _ (sym c.validate_layout.ensures ∙ c.in_ok-geometry.was) in
    record { kept = subst (λ (g : Geometry). Kept len g) k.1 k.0 }

pub returns : goal.returns
returns c =
    let k = kept_as (length c.args.pixels.now) c.args.geometry _ (sym c.validate_layout.ensures ∙ c.in_ok-geometry.was) in
    (refl, sym k.1, k.0)
