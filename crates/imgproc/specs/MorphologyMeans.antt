-- What opticians rely on, said of the calls and drawn from their contracts alone: an accepted opening leaves no pixel
-- above its source's and an accepted closing none below it, away from the border; and of two accepted calls, the second
-- over the cut of the first one's source, the second's rows are the cut of the first's. Assumes nothing.
use Rattle.std.specs.Prelude.{ℕ, ◌*◌, ◌<◌, ◌≡◌, false, List, map, length}
use Rattle.std.proofs.Common.{arith, sym, ap, ap₂, ◌∙◌, subst}
use Rattle.std.proofs.lemmas.List.{length-map}
use Rattle.image.specs.Plane.{pixel, packed}
use Rattle.image.specs.PlaneLaws.{packed_is}
use Rattle.image.specs.Views.{pixel_picture, length-picture}
use Rattle.imgproc.specs.declared.morphology.Operation.{Operation}
use Rattle.imgproc.specs.declared.morphology.Operation.TheVariants.{Open, Close}
use Rattle.imgproc.specs.declared.ImgProcError.TheVariants.{InvalidKernel}
use Rattle.imgproc.specs.Refusals.{refused_if, bad_kernel}
use Rattle.imgproc.specs.RefusalLaws.{both_accepted, not_refused, kernel_says, kernel_odd}
use Rattle.imgproc.specs.Extremes.{Low, High}
use Rattle.imgproc.specs.CallMeans.{
  AcceptedCall,
  settings_of,
  wide,
  high,
  source_of,
  source_pixel,
  left_pixel,
  pair,
  own_accepted,
  pixel_made,
  made_same,
  MappedSource,
  MappedRows,
}
use Rattle.imgproc.specs.MorphologyCalls.{operated, morphology, opening, closing}
use Rattle.imgproc.specs.MorphologyLaws.{length-operated}
use Rattle.imgproc.specs.UnderOver.{InnerBefore, InnerAtMost, cut, Monotone}
use Rattle.imgproc.specs.UnderOverLaws.{
  opened_under,
  closed_over,
  pixel_mapped,
  operated_commutes,
  cut_monotone,
}

module _ (operation : Operation) (a : AcceptedCall (morphology operation)) where
  -- its kernel is not bad
  kernel_fine : bad_kernel (settings_of a) ≡ false
  kernel_fine =
      let kernel = refused_if (bad_kernel (settings_of a)) InvalidKernel in
      not_refused (bad_kernel (settings_of a)) InvalidKernel (both_accepted kernel _ (own_accepted a)).0

  -- what holds between the picture that it makes and its source holds between what it left and what was lent
  left_before : (R : ℕ → ℕ → Type 0) {rx ry : ℕ}
      → InnerBefore R rx ry (wide a) (high a)
      (pixel (operated operation (settings_of a) (wide a) (high a) (source_of a)) (wide a)) (pixel (source_of a) (wide a))
      → InnerBefore R rx ry (wide a) (high a) (left_pixel a) (source_pixel a)
  left_before R law x y across down =
      let X : x < wide a = omega (arith, across.after) in
      let Y : y < high a = omega (arith, down.after) in
      let lent = pixel_picture a.lent.src a.lent.source x y X Y in
      let made = pixel (operated operation (settings_of a) (wide a) (high a) (source_of a)) (wide a) x y in
      subst (λ (n : ℕ). R n (source_pixel a x y)) (sym (pixel_made a x y X Y))
      (subst (λ (n : ℕ). R made n) lent (law x y across down))

-- ---- under and over

-- an accepted opening leaves no pixel above its source's, (k - 1)/2 or more pixels from each border
pub opening_under : (a : AcceptedCall opening)
    → InnerAtMost (settings_of a) (wide a) (high a) (left_pixel a) (source_pixel a)
opening_under a =
    left_before Open a Low
    (opened_under (settings_of a) (wide a) (high a) (kernel_odd (settings_of a) (kernel_fine Open a)) (source_of a))

-- an accepted closing leaves none below it
pub closing_over : (a : AcceptedCall closing)
    → InnerAtMost (settings_of a) (wide a) (high a) (source_pixel a) (left_pixel a)
closing_over a =
    left_before Close a High
    (closed_over (settings_of a) (wide a) (high a) (kernel_odd (settings_of a) (kernel_fine Close a)) (source_of a))

-- ---- maps and cuts

module _ (operation : Operation) (f : ℕ → ℕ) (monotone : Monotone f) (a b : AcceptedCall (morphology operation))
    (maps : MappedSource f a b) where
  -- the picture that the first makes
  abbrev made : List ℕ
  made = operated operation (settings_of a) (wide a) (high a) (source_of a)

  long : length (source_of a) ≡ wide a * high a
  long = length-picture a.lent.src a.lent.source

  mapped_source : packed b.lent.src (wide a) (high a) b.lent.source.stride ≡ map f (source_of a)
  mapped_source =
      packed_is b.lent.src (wide a) (high a) b.lent.source.stride (map f (source_of a))
      (pair a).from.wide (length-map (source_of a) f ∙ long)
      (λ x y X Y.
      pixel_mapped f (wide a) (high a) (source_of a) long x y X Y
      ∙ ap f (pixel_picture a.lent.src a.lent.source x y X Y)
      ∙ sym (maps.pixels x y X Y))

  -- the second makes the same, mapped
  mapped_made : operated operation (settings_of b) (wide b) (high b) (source_of b) ≡ map f made
  mapped_made =
      made_same (operated operation) b.lent.src b.lent.source.stride maps.settings maps.as_wide maps.as_high
      ∙ ap (operated operation (settings_of a) (wide a) (high a)) mapped_source
      ∙ operated_commutes f monotone (settings_of a) (wide a) (high a)
      (omega (arith, kernel_says (settings_of a) (kernel_fine operation a))) operation (source_of a) long

  -- so the second's rows are those of the first, mapped
  pub rows_mapped : MappedRows f a b
  rows_mapped x y X Y =
      pixel_made b x y (omega (arith, maps.as_wide)) (omega (arith, maps.as_high))
      ∙ ap₂ (λ (p : List ℕ) (w : ℕ). pixel p w x y) mapped_made maps.as_wide
      ∙ pixel_mapped f (wide a) (high a) made
      (length-operated operation (settings_of a) (wide a) (high a) (source_of a)) x y X Y
      ∙ ap f (sym (pixel_made a x y X Y))

-- the second over the cut of the first one's source: its rows are the cut of the first's, for each of the four calls
pub rows_cut : (operation : Operation) (level : ℕ) (a b : AcceptedCall (morphology operation))
    → MappedSource (cut level) a b → MappedRows (cut level) a b
rows_cut operation level a b = rows_mapped operation (cut level) (cut_monotone level) a b

-- openings
pub openings_cut : (level : ℕ) (a b : AcceptedCall opening) → MappedSource (cut level) a b → MappedRows (cut level) a b
openings_cut = rows_cut Open

-- closings
pub closings_cut : (level : ℕ) (a b : AcceptedCall closing) → MappedSource (cut level) a b → MappedRows (cut level) a b
closings_cut = rows_cut Close
