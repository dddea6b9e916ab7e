-- Lists of conditions: which refusal counts, and what an accepted list says of each condition. Assumes nothing.
use Rattle.std.specs.Prelude.{Ok, Err}
use Rattle.std.specs.Prelude.{ℕ, ◌%◌, ◌≤◌, ◌<◌, ◌≡◌, refl, Bool, true, false, cond, not, ◌&&◌, ◌||◌, List, [], ◌∷◌, eqb, ltb}
use Rattle.std.proofs.Common.{pos_of_ne-zero, arith, sym, ap, ap₂, ◌∙◌, ltb-false, eqb-true, eq-eqb}
use Rattle.std.proofs.lemmas.Bool.{eqb-false, not-false}
use Rattle.image.specs.declared.Geometry.{Geometry}
use Rattle.image.specs.declared.LumaError.{LumaError}
use Rattle.image.specs.Answers.{accepted, Condition}
use Rattle.image.specs.Layout.{Layout, Kept, layout_conditions, layout_by, layout_of}
use Rattle.image.specs.LayoutLaws.{neither, both, kept_as, kept_valid}
use Rattle.imgproc.specs.declared.illumination.BackgroundDivideConfig.{BackgroundDivideConfig}
use Rattle.imgproc.specs.declared.ImgProcError.{ImgProcError}
use Rattle.imgproc.specs.declared.ImgProcError.TheVariants.{Image, DimensionMismatch, InvalidConfiguration}
use Rattle.imgproc.specs.Refusals.{
  Check,
  Conditions,
  first,
  refused_if,
  ◌then◌,
  answer_by,
  passed_on,
  view_conditions,
  pair_conditions,
  bad_kernel,
  division_settings,
}
use Rattle.imgproc.specs.Calls.{Paired}

never : (e : ImgProcError) → ◌≡◌ {A = Check} (Err e) (Ok tt) → ⊥
never e p = let z : ◌≡◌ {A = ℕ} 0 1 = cc in omega arith

-- an accepted answer comes from an accepted check, and has its values
pub taken : {A : Type 0} (c : Check) {v u : A} → accepted v ≡ answer_by c u → (c ≡ Ok tt) × (v ≡ u)
taken (Ok _) p = (refl, cc)
taken (Err e) p = let z : ◌≡◌ {A = ℕ} 0 1 = cc in absurd (omega arith)

-- ---- one list after another

-- one check after another
abbrev follow : Check → Check → Check
follow (Ok u) c = c
follow (Err e) c = Err e

-- a list after another is checked after it
first_then : (a b : Conditions) → first (a then b) ≡ follow (first a) (first b)
unfolding first
first_then [] b = refl
first_then (c ∷ cs) b = step c.fits (first_then cs b)
  where
    step : (f : Bool) → first (cs then b) ≡ follow (first cs) (first b)
        → cond f (Err c.refusal) (first (cs then b))
        ≡ follow (cond f (Err c.refusal) (first cs)) (first b)
    step true p = refl
    step false p = p

-- a refusal of the first list counts
pub then_refused : (a b : Conditions) {e : ImgProcError} → first a ≡ Err e → first (a then b) ≡ Err e
then_refused a b p = first_then a b ∙ ap (λ (c : Check). follow c (first b)) p

-- after a list that accepts, the next one counts
pub then_accepted : (a b : Conditions) → first a ≡ Ok tt → first (a then b) ≡ first b
then_accepted a b p = first_then a b ∙ ap (λ (c : Check). follow c (first b)) p

-- lists that come to the same check, one after another
pub then_same : (a c b d : Conditions) → first a ≡ first c → first b ≡ first d → first (a then b) ≡ first (c then d)
then_same a c b d p q = first_then a b ∙ ap₂ follow p q ∙ sym (first_then c d)

-- where two lists accept, each does
pub both_accepted : (a b : Conditions) → first (a then b) ≡ Ok tt → (first a ≡ Ok tt) × (first b ≡ Ok tt)
both_accepted a b p = go (first a) (sym (first_then a b) ∙ p)
  where
    go : (c : Check) {d : Check} → follow c d ≡ Ok tt → (c ≡ Ok tt) × (d ≡ Ok tt)
    go (Ok u) q = (refl, q)
    go (Err e) q = absurd (never e q)

-- ---- one condition

-- it fits, or it does not and the rest counts
pub refuses : (f : Bool) (e : ImgProcError) (rest : Conditions) → f ≡ true → first (refused_if f e then rest) ≡ Err e
unfolding first
refuses f e rest p = rw p

pub passes : (f : Bool) (e : ImgProcError) (rest : Conditions) → f ≡ false
    → first (refused_if f e then rest) ≡ first rest
unfolding first
passes f e rest p = rw p

-- a condition that was not refused does not hold
pub not_refused : (f : Bool) (e : ImgProcError) → first (refused_if f e) ≡ Ok tt → f ≡ false
unfolding first
not_refused true e p = absurd (never e p)
not_refused false e p = refl

-- with nothing after it
pub refuses_last : (f : Bool) (e : ImgProcError) → f ≡ true → first (refused_if f e) ≡ Err e
refuses_last f e p = refuses f e [] p

pub passes_last : (f : Bool) (e : ImgProcError) → f ≡ false → first (refused_if f e) ≡ Ok tt
unfolding first
passes_last f e p = rw p

-- ---- a view's layout

abbrev layout_check : Layout → Check
layout_check (Ok g) = Ok tt
layout_check (Err e) = Err (Image e)

-- a layout's refusal is passed on, and a valid one passes
layout_on : (g : Geometry) (cs : List (Condition LumaError)) → first (passed_on cs) ≡ layout_check (layout_by g cs)
unfolding first
layout_on g [] = refl
layout_on g (c ∷ cs) = step c.fits (layout_on g cs)
  where
    step : (f : Bool) → first (passed_on cs) ≡ layout_check (layout_by g cs)
        → cond f (Err (Image c.refusal)) (first (passed_on cs))
        ≡ layout_check (cond f (Err c.refusal) (layout_by g cs))
    step true p = refl
    step false p = p

module _ (len : ℕ) (g : Geometry) where
  view_is : first (view_conditions len g) ≡ layout_check (layout_of len g)
  unfolding layout_of view_conditions
  view_is = layout_on g (layout_conditions len g)

  pub view_refused : {e : LumaError} → layout_of len g ≡ Err e → first (view_conditions len g) ≡ Err (Image e)
  view_refused p = view_is ∙ ap layout_check p

  pub view_accepted : {v : Geometry} → layout_of len g ≡ Ok v → first (view_conditions len g) ≡ Ok tt
  view_accepted p = view_is ∙ ap layout_check p

  pub view_kept : first (view_conditions len g) ≡ Ok tt → Kept len g
  view_kept a = go (layout_of len g) refl (sym view_is ∙ a)
    where
      go : (l : Layout) → layout_of len g ≡ l → layout_check l ≡ Ok tt → Kept len g
      go (Ok v) e p = (kept_as len g v e).0
      go (Err e) q p = absurd (never (Image e) p)

-- ---- settings

-- a kernel that was not refused is 3 at least
pub kernel_says : (k : ℕ) → bad_kernel k ≡ false → 3 ≤ k
kernel_says k p = ltb-false k 3 (neither (ltb k 3) _ p).0

-- and odd
pub kernel_odd : (k : ℕ) → bad_kernel k ≡ false → k % 2 ≡ 1
kernel_odd k p = omega (arith, eqb-false (k % 2) _ (neither (ltb k 3) _ p).1)

-- nor is the element of accepted settings below 3, and their floor is not 0
pub division_says : (d : BackgroundDivideConfig) → first (division_settings d) ≡ Ok tt
    → (3 ≤ d.structuring_element) × (0 < d.denominator_floor)
unfolding division_settings
division_says d p =
    let element = bad_kernel d.structuring_element in
    let floor = eqb d.denominator_floor 0 in
    let n = neither element floor (not_refused (element || floor) InvalidConfiguration p) in
    (kernel_says d.structuring_element n.0, pos_of_ne-zero (eqb-false d.denominator_floor 0 n.1))

-- ---- two pictures

-- the source's layout refuses before all else
pub source_refused : (src_len : ℕ) (src : Geometry) (dst_len : ℕ) (dst : Geometry) (rest : Conditions) {e : LumaError}
    → layout_of src_len src ≡ Err e → first (pair_conditions src_len src dst_len dst then rest) ≡ Err (Image e)
source_refused src_len src dst_len dst rest i =
    then_refused (pair_conditions src_len src dst_len dst) rest
    (then_refused (view_conditions src_len src) _ (view_refused src_len src i))

-- two layouts that their slices hold, of one size, are accepted
pub pair_taken : {src_len : ℕ} {src : Geometry} {dst_len : ℕ} {dst : Geometry} → Kept src_len src → Kept dst_len dst
    → src.width ≡ dst.width → src.height ≡ dst.height → first (pair_conditions src_len src dst_len dst) ≡ Ok tt
pair_taken {src_len} {src} {dst_len} {dst} s d w h =
    let last = refused_if (not (eqb src.width dst.width && eqb src.height dst.height)) DimensionMismatch in
    then_accepted (view_conditions src_len src) (view_conditions dst_len dst then last)
    (view_accepted src_len src (kept_valid s))
    ∙ then_accepted (view_conditions dst_len dst) last (view_accepted dst_len dst (kept_valid d))
    ∙ passes_last _ _ (rw (eq-eqb src.width dst.width w, eq-eqb src.height dst.height h))

-- what an accepted pair says
pub pair_says : (src_len : ℕ) (src : Geometry) (dst_len : ℕ) (dst : Geometry)
    → first (pair_conditions src_len src dst_len dst) ≡ Ok tt → Paired src_len src dst_len dst
pair_says src_len src dst_len dst p =
    let sizes = eqb src.width dst.width && eqb src.height dst.height in
    let last = refused_if (not sizes) DimensionMismatch in
    let a = both_accepted (view_conditions src_len src) (view_conditions dst_len dst then last) p in
    let b = both_accepted (view_conditions dst_len dst) last a.1 in
    let agree = not-false sizes (not_refused (not sizes) DimensionMismatch b.1) in
    let c = both (eqb src.width dst.width) (eqb src.height dst.height) agree in
    record {
      from = view_kept src_len src a.0;
      to = view_kept dst_len dst b.0;
      wide = eqb-true src.width dst.width c.0;
      high = eqb-true src.height dst.height c.1;
    }
