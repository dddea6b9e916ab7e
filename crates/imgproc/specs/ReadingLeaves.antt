-- What an accepted reading leaves, drawn from its contract alone: what each byte of the destination holds afterwards,
-- and that nothing but settings and pixels counts. Assumes nothing.
use Rattle.std.specs.Prelude.{ℕ, ◌/◌, ◌%◌, ◌<◌, ◌≡◌, refl, Bool, true, false, cond, ◌&&◌, ltb, length, get_or}
use Rattle.std.proofs.Common.{arith, sym, ap₂, ◌∙◌, ltb-true}
use Rattle.std.proofs.Math.Path.{ap}
use mathlib.Core.List.{List}
use Rattle.image.specs.LayoutLaws.{row_within}
use Rattle.image.specs.Plane.{pixel, packed, painted}
use Rattle.image.specs.PlaneLaws.{pixel_plane, same_pixels}
use Rattle.image.specs.PaintLaws.{length-painted, painted_byte, painted_pixel}
use Rattle.image.specs.Views.{painted_sides}
use Rattle.imgproc.specs.declared.reading.config.ReadingConfig.{ReadingConfig}
use Rattle.imgproc.specs.declared.reading.judging.Judgement.{Judgement}
use Rattle.imgproc.specs.declared.reading.judging.Judgement.TheVariants.{Dark, Light, Skipped}
use Rattle.imgproc.specs.Reading.{judged, reading_of, byte_of, marked}
use Rattle.imgproc.specs.ReadingMeans.{
  AcceptedReading,
  settings_of,
  wide,
  high,
  source_of,
  judged_here,
  said,
  pair,
  numbers_are,
}

module _ (a : AcceptedReading) where
  -- the stride of its destination
  abbrev stride : ℕ
  stride = a.lent.target.stride

  -- the marks are painted by the sides of its source
  left_is : a.left.dst
      ≡ painted (marked (settings_of a) (wide a) (high a) (source_of a)) (wide a) (high a) stride a.lent.dst
  left_is =
      let p = pair a in
      a.reads.leaves
      ∙ rw (said a).0 (sym (painted_sides a.lent.dst a.lent.target _ (sym p.wide) (sym p.high)))

  -- each pixel of the rows holds the byte of its judgement
  pub pixel_holds : (x y : ℕ) → x < wide a → y < high a
      → pixel a.left.dst stride x y ≡ byte_of (settings_of a).sauvola (judged_here a x y)
  unfolding marked
  pixel_holds x y X Y =
      let p = pair a in
      ap (λ (d : List ℕ). pixel d stride x y) left_is
      ∙ painted_pixel _ (wide a) (high a) stride a.lent.dst x y X Y
      (omega (arith, p.wide, p.to.stride))
      (omega (arith, p.wide, row_within p.to y (omega (arith, p.high))))
      ∙ pixel_plane (wide a) (high a) (λ x y. byte_of (settings_of a).sauvola (judged_here a x y)) x y X Y

  -- one judged dark holds dark_value
  pub dark_holds : (x y : ℕ) → x < wide a → y < high a → judged_here a x y ≡ Dark
      → pixel a.left.dst stride x y ≡ (settings_of a).sauvola.dark_value
  dark_holds x y X Y d = pixel_holds x y X Y ∙ ap (byte_of (settings_of a).sauvola) d

  -- every other one light_value
  pub other_holds : (x y : ℕ) → x < wide a → y < high a → (judged_here a x y ≡ Dark → ⊥)
      → pixel a.left.dst stride x y ≡ (settings_of a).sauvola.light_value
  other_holds x y X Y n = pixel_holds x y X Y ∙ other (judged_here a x y) n
    where
      other : (j : Judgement) → (j ≡ Dark → ⊥) → byte_of (settings_of a).sauvola j ≡ (settings_of a).sauvola.light_value
      other Dark n = absurd (n refl)
      other Light n = refl
      other Skipped n = refl

  -- each byte outside the rows what it held, and there are as many
  pub outside_holds : (i : ℕ) → i < length a.lent.dst → ((i % stride < wide a) × (i / stride < high a) → ⊥)
      → get_or a.left.dst i 0 ≡ get_or a.lent.dst i 0
  outside_holds i l n =
      ap (λ (d : List ℕ). get_or d i 0) left_is
      ∙ painted_byte _ (wide a) (high a) stride a.lent.dst i l
      ∙ kept _ _ (ltb (i % stride) (wide a)) (ltb (i / stride) (high a))
      (λ t. n (ltb-true _ _ t.0, ltb-true _ _ t.1))
    where
      kept : (b c : ℕ) (p q : Bool) → ((p ≡ true) × (q ≡ true) → ⊥) → cond (p && q) b c ≡ c
      kept b c true true n = absurd (n (refl, refl))
      kept b c true false n = refl
      kept b c false q n = refl

  pub as_long : length a.left.dst ≡ length a.lent.dst
  as_long = ap length left_is ∙ length-painted _ (wide a) (high a) stride a.lent.dst

-- equals for equals
module _ {s t : ReadingConfig} {w v h k : ℕ} {p q : List ℕ} (S : s ≡ t) (W : w ≡ v) (H : h ≡ k) (P : p ≡ q) where
  numbers_same : reading_of s w h p ≡ reading_of t v k q
  numbers_same = rw (S, W, H, P)

  byte_same : (x y : ℕ) → byte_of s.sauvola (judged s w h p x y) ≡ byte_of t.sauvola (judged t v k q x y)
  byte_same x y = rw (S, W, H, P)

-- two accepted readings with equal settings, whose sources have the same pixels, agree on all four numbers and on every
-- pixel of the rows: strides, padding, tails, workspaces and destinations may differ
module _ (a b : AcceptedReading) (settings : settings_of a ≡ settings_of b)
    (as_wide : wide a ≡ wide b) (as_high : high a ≡ high b)
    (same : (x y : ℕ) → x < wide a → y < high a
    → pixel a.lent.src a.lent.source.stride x y ≡ pixel b.lent.src b.lent.source.stride x y) where
  pub one_picture : source_of a ≡ source_of b
  one_picture =
      same_pixels (wide a) (high a) a.lent.src b.lent.src a.lent.source.stride b.lent.source.stride
      (pair a).from.wide same
      ∙ ap₂ (λ (w h : ℕ). packed b.lent.src w h b.lent.source.stride) as_wide as_high

  pub numbers_agree : a.numbers ≡ b.numbers
  numbers_agree = numbers_are a ∙ numbers_same settings as_wide as_high one_picture ∙ sym (numbers_are b)

  pub rows_agree : (x y : ℕ) → x < wide a → y < high a
      → pixel a.left.dst a.lent.target.stride x y ≡ pixel b.left.dst b.lent.target.stride x y
  rows_agree x y X Y =
      pixel_holds a x y X Y
      ∙ byte_same settings as_wide as_high one_picture x y
      ∙ sym (pixel_holds b x y (omega arith) (omega arith))
