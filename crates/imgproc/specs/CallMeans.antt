-- What an accepted call from picture to picture leaves, drawn from its contract alone: both layouts and its own
-- conditions are accepted, and each pixel of its destination is that of the picture that it makes. And when the source
-- of one such call is that of another, mapped, and the rows likewise. Assumes nothing.
use Rattle.std.specs.Prelude.{Ok}
use Rattle.std.specs.Prelude.{ℕ, ◌<◌, ◌≡◌, List, length}
use Rattle.std.proofs.Common.{arith, sym, ap, ◌∙◌}
use Rattle.image.specs.Answers.{accepted}
use Rattle.image.specs.Plane.{pixel, packed, picture}
use Rattle.image.specs.Views.{painted_on_pixel}
use Rattle.imgproc.specs.Refusals.{Conditions, first, pair_conditions}
use Rattle.imgproc.specs.RefusalLaws.{both_accepted, taken, pair_says}
use Rattle.imgproc.specs.Calls.{Loan, Left, Operator, Serves, conditions_of, made_of, Paired}

-- an accepted call: what was lent to it, its values, and what it left
pub record AcceptedCall {S A : Type 0} (operator : Operator S A) : Type 0 where
  pub lent : Loan S
  pub values : A
  pub left : Left
  pub serves : Serves operator lent (accepted values) left

module _ {S A : Type 0} {operator : Operator S A} (a : AcceptedCall operator) where
  abbrev pub settings_of : S
  settings_of = a.lent.settings

  abbrev pub wide : ℕ
  wide = a.lent.source.width

  abbrev pub high : ℕ
  high = a.lent.source.height

  -- its source, packed
  abbrev pub source_of : List ℕ
  source_of = picture a.lent.src a.lent.source

  -- pixel (x, y) of its source, and of its destination afterwards
  abbrev pub source_pixel : ℕ → ℕ → ℕ
  source_pixel x y = pixel a.lent.src a.lent.source.stride x y

  abbrev pub left_pixel : ℕ → ℕ → ℕ
  left_pixel x y = pixel a.left.dst a.lent.target.stride x y

  -- no condition of its list fits
  said : first (conditions_of operator a.lent) ≡ Ok tt
  said = (taken (first (conditions_of operator a.lent)) a.serves.answers).0

  -- the conditions of the pair, and those of its own
  abbrev pairs : Conditions
  pairs = pair_conditions (length a.lent.src) a.lent.source (length a.lent.dst) a.lent.target

  abbrev owns : Conditions
  owns = operator.own settings_of a.lent.source (length a.lent.workspace)

  pub pair : Paired (length a.lent.src) a.lent.source (length a.lent.dst) a.lent.target
  pair = pair_says _ a.lent.source _ a.lent.target (both_accepted pairs owns said).0

  pub own_accepted : first owns ≡ Ok tt
  own_accepted = (both_accepted pairs owns said).1

  -- each pixel of the rows is that of the picture that the call makes of its source
  pub pixel_made : (x y : ℕ) → x < wide → y < high
      → left_pixel x y ≡ pixel (operator.make settings_of wide high source_of) wide x y
  pixel_made x y X Y =
      let p = pair in
      let made = operator.make settings_of wide high source_of in
      let left : a.left.dst ≡ made_of operator a.lent = a.serves.leaves ∙ rw said in
      ap (λ (d : List ℕ). pixel d a.lent.target.stride x y) left
      ∙ painted_on_pixel a.lent.dst a.lent.target made p.to x y
      (omega (arith, p.wide)) (omega (arith, p.high))
      ∙ ap (λ (n : ℕ). pixel made n x y) (sym p.wide)

-- two accepted calls with the same settings and sides, where each pixel of the second one's source is that of the first
-- one's, mapped; they may be of different operators, and strides, padding, destinations and workspaces may differ
pub record MappedSource {S A B : Type 0} {o : Operator S A} {p : Operator S B}
    (f : ℕ → ℕ) (a : AcceptedCall o) (b : AcceptedCall p) : Type 0 where
  pub settings : settings_of b ≡ settings_of a
  pub as_wide : wide b ≡ wide a
  pub as_high : high b ≡ high a
  pub pixels : (x y : ℕ) → x < wide a → y < high a → source_pixel b x y ≡ f (source_pixel a x y)

-- each pixel that the second left is that which the first left, mapped
abbrev pub MappedRows : {S A B : Type 0} {o : Operator S A} {p : Operator S B} → (ℕ → ℕ)
    → (a : AcceptedCall o) (b : AcceptedCall p) → Type 0
MappedRows f a b = (x y : ℕ) → x < wide a → y < high a → left_pixel b x y ≡ f (left_pixel a x y)

-- equal settings and sides make the same of a picture
pub made_same : {S : Type 0} (make : S → ℕ → ℕ → List ℕ → List ℕ) (d : List ℕ) (stride : ℕ) {k k' : S} {w w' h h' : ℕ}
    → k ≡ k' → w ≡ w' → h ≡ h' → make k w h (packed d w h stride) ≡ make k' w' h' (packed d w' h' stride)
made_same make d stride K W H = rw (K, W, H)
