-- The ways out of the check that every call with two pictures makes first, one law each, and what a call comes to after
-- it. Assumes nothing.
use Rattle.std.proofs.Common.{◌≡◌, ◌⊎◌, inl, inr, ◌∙◌, ap, ℕ, not, false, ◌&&◌, Ok, Err, Result, eqb, eq-eqb, ne_eqb, MatchResult}
use Rattle.std.specs.Result.{IsErrAnd}
use Rattle.image.specs.declared.Geometry.{Geometry}
use Rattle.image.specs.declared.LumaError.{LumaError}
use Rattle.image.specs.Layout.{Kept, layout_of}
use Rattle.image.specs.LayoutLaws.{kept_valid}
use Rattle.imgproc.specs.declared.ImgProcError.{ImgProcError}
use Rattle.imgproc.specs.declared.ImgProcError.TheVariants.{Image, DimensionMismatch}
use Rattle.imgproc.specs.Refusals.{Conditions, first, refused_if, ◌then◌, view_conditions, pair_conditions}
use Rattle.imgproc.specs.Calls.{Paired}
use Rattle.imgproc.specs.RefusalLaws.{then_refused, then_accepted, refuses_last, view_refused, view_accepted, pair_taken}

-- an error that is told is what is said of it
pub told : {A : Type 0} (r : Result A ImgProcError) (P : A → Type 0) (Q : ImgProcError → Type 0) {e : ImgProcError}
    → IsErrAnd r (λ x. x ≡ e) → Q e → MatchResult r P Q
told (Ok v) P Q i q = absurd i
told (Err x) P Q i q = rw i q

module _ (a : ℕ) (s : Geometry) (b : ℕ) (t : Geometry) where
  abbrev sizes : Conditions
  sizes = refused_if (not (eqb s.width t.width && eqb s.height t.height)) DimensionMismatch

  -- the source's layout is refused
  pub by_source : {e : LumaError} → layout_of a s ≡ Err e → first (pair_conditions a s b t) ≡ Err (Image e)
  by_source r = then_refused (view_conditions a s) (view_conditions b t then sizes) (view_refused a s r)

  module _ (k : Kept a s) where
    source_in : first (pair_conditions a s b t) ≡ first (view_conditions b t then sizes)
    source_in = then_accepted (view_conditions a s) (view_conditions b t then sizes) (view_accepted a s (kept_valid k))

    -- the destination's is
    pub by_target : {e : LumaError} → layout_of b t ≡ Err e → first (pair_conditions a s b t) ≡ Err (Image e)
    by_target r = source_in ∙ then_refused (view_conditions b t) sizes (view_refused b t r)

    -- the sizes differ
    pub by_sizes : Kept b t
        → (s.width ≡ t.width → ⊥) ⊎ (s.width ≡ t.width × (s.height ≡ t.height → ⊥))
        → first (pair_conditions a s b t) ≡ Err DimensionMismatch
    by_sizes l d =
        source_in
        ∙ then_accepted (view_conditions b t) sizes (view_accepted b t (kept_valid l))
        ∙ refuses_last _ _ (ap not (differ d))
      where
        differ : (s.width ≡ t.width → ⊥) ⊎ (s.width ≡ t.width × (s.height ≡ t.height → ⊥))
            → (eqb s.width t.width && eqb s.height t.height) ≡ false
        differ (inl w) = rw (ne_eqb s.width t.width w)
        differ (inr h) = rw (eq-eqb s.width t.width h.0, ne_eqb s.height t.height h.1)

-- ---- after the pair, what is left to check decides
module _ (a : ℕ) (s : Geometry) (b : ℕ) (t : Geometry) (rest : Conditions) where
  pub past : Paired a s b t → first (pair_conditions a s b t then rest) ≡ first rest
  past p = then_accepted (pair_conditions a s b t) rest (pair_taken p.from p.to p.wide p.high)

  pub before : {e : ImgProcError} → first (pair_conditions a s b t) ≡ Err e
      → first (pair_conditions a s b t then rest) ≡ Err e
  before r = then_refused (pair_conditions a s b t) rest r

-- an error that is passed on is the answer
pub passed : {A : Type 0} (r : Result A ImgProcError) {e : ImgProcError} → IsErrAnd r (λ x. x ≡ e) → r ≡ Err e
passed (Ok v) i = absurd i
passed (Err x) i = ap Err i
