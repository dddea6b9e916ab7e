-- What a valid layout gives, and which layouts are valid. Assumes nothing.
use Rattle.std.specs.Prelude.{ℕ, ◌+◌, ◌-◌, ◌*◌, ◌≤◌, ◌<◌, ◌≡◌, refl, Bool, true, false, cond, ◌&&◌, ◌||◌, ltb, eqb}
use Rattle.std.proofs.Common.{mul_comm, mul-le-mul, mul-le-mul_right, pos_of_ne-zero, ne_of_gt, arith, sym, ◌∙◌, ltb-false, ne_eqb, le-ltb, lt-ltb}
use Rattle.std.proofs.lemmas.Bool.{eqb-false}
use Rattle.image.specs.declared.Geometry.{Geometry}
use Rattle.image.specs.declared.LumaError.{LumaError}
use Rattle.image.specs.declared.LumaError.TheVariants.{EmptyDimensions, OutsidePicture}
use Rattle.std.specs.Prelude.{Ok, Err}
use Rattle.image.specs.Layout.{
  Layout,
  Kept,
  needed_length,
  layout_of,
  asked_for,
  pixel_layout,
  row_layout,
  side_limit,
  area_limit,
}

-- a choice whose result is not its first branch took its second
passed : {A : Type 0} (b : Bool) (a x v : A) → (a ≡ v → ⊥) → cond b a x ≡ v → (b ≡ false) × (x ≡ v)
passed true a x v n e = absurd (n e)
passed false a x v n e = (refl, e)

-- where "one or the other" fails, neither test holds
pub neither : (a b : Bool) → (a || b) ≡ false → (a ≡ false) × (b ≡ false)
neither true b e = let z : ◌≡◌ {A = ℕ} 0 1 = cc in absurd (omega arith)
neither false b e = (refl, e)

-- where "one and the other" holds, both tests hold
pub both : (a b : Bool) → (a && b) ≡ true → (a ≡ true) × (b ≡ true)
both true b e = (refl, e)
both false b e = let z : ◌≡◌ {A = ℕ} 0 1 = cc in absurd (omega arith)

-- no layout is both invalid and valid
never : (e : LumaError) (g : Geometry) → Err e ≡ Ok g → ⊥
never e g p = let z : ◌≡◌ {A = ℕ} 0 1 = cc in omega arith

-- a valid layout keeps the geometry that it was asked for, and all that `Kept` says
pub kept_as : (len : ℕ) (g v : Geometry) → layout_of len g ≡ Ok v → Kept len g × (g ≡ v)
unfolding layout_of
kept_as len g v e =
    let p1 = passed (eqb g.width 0 || eqb g.height 0) _ _ _ (never _ v) e in
    let p2 = passed (ltb g.stride g.width) _ _ _ (never _ v) p1.1 in
    let p3 = passed (ltb len (needed_length g)) _ _ _ (never _ v) p2.1 in
    let p4 = passed (ltb side_limit g.width || ltb side_limit g.height) _ _ _ (never _ v) p3.1 in
    let sides = neither _ _ p1.0 in
    let limits = neither _ _ p4.0 in (
      record {
        wide = pos_of_ne-zero (eqb-false _ _ sides.0);
        high = pos_of_ne-zero (eqb-false _ _ sides.1);
        stride = ltb-false _ _ p2.0;
        fits = ltb-false _ _ p3.0;
        small_width = ltb-false _ _ limits.0;
        small_height = ltb-false _ _ limits.1;
      },
      same p4.1,
    )
  where
    same : {a b : Geometry} → ◌≡◌ {A = Layout} (Ok a) (Ok b) → a ≡ b
    same {a} {b} p = cc

-- a geometry for which `Kept` holds is valid
pub kept_valid : {len : ℕ} {g : Geometry} → Kept len g → layout_of len g ≡ Ok g
unfolding layout_of
kept_valid {len} {g} k =
    simp (
      ne_eqb g.width 0 (ne_of_gt k.wide),
      ne_eqb g.height 0 (ne_of_gt k.high),
      le-ltb g.stride g.width k.stride,
      le-ltb len (needed_length g) k.fits,
      le-ltb side_limit g.width k.small_width,
      le-ltb side_limit g.height k.small_height,
    )

-- and it is not refused
pub kept_taken : {len : ℕ} {g : Geometry} {e : LumaError} → Kept len g → layout_of len g ≡ Err e → ⊥
kept_taken {len} {g} {e} k r = never e g (sym r ∙ kept_valid k)

-- a side of 0 is refused before all else
pub no_sides : (len : ℕ) (g : Geometry) → (eqb g.width 0 || eqb g.height 0) ≡ true
    → layout_of len g ≡ Err EmptyDimensions
unfolding layout_of
no_sides len g e = rw e

-- two sides within the limit have an area within its limit
pub sides_small : (a b : ℕ) → a ≤ side_limit → b ≤ side_limit → a * b ≤ area_limit
sides_small a b A B = mul-le-mul {n₂ = side_limit} {m₂ = side_limit} A B

-- so has a picture whose layout is valid
pub area_small : {len : ℕ} {g : Geometry} → Kept len g → g.width * g.height ≤ area_limit
area_small {len} {g} k = sides_small g.width g.height k.small_width k.small_height

-- row y ends within the slice
pub row_within : {len : ℕ} {g : Geometry} → Kept len g → (y : ℕ) → y < g.height → y * g.stride + g.width ≤ len
row_within {len} {g} k y t =
    let rows = mul-le-mul_right {m = y} {n = g.height - 1} g.stride (omega arith) in
    omega (arith, k.fits, mul_comm g.stride (g.height - 1))

-- row y of a valid layout is not refused where y is below the height
pub row_asked : {len : ℕ} {g : Geometry} → Kept len g → (y : ℕ) → y < g.height → row_layout len g y ≡ Ok g
row_asked {len} {g} k y t = rw (kept_valid k, lt-ltb y g.height t)

-- where a place is not refused, the layout is valid and the place lies in the picture
module _ (len : ℕ) (g v : Geometry) where
  asked_inside : (l : Layout) (b : Bool) → asked_for l b ≡ Ok v → (l ≡ Ok v) × (b ≡ true)
  asked_inside (Ok u) true e = (e, refl)
  asked_inside (Ok u) false e = absurd (never OutsidePicture v e)
  asked_inside (Err r) b e = absurd (never r v e)

  pub row_inside : (y : ℕ) → row_layout len g y ≡ Ok v → (Kept len g × (g ≡ v)) × (ltb y g.height ≡ true)
  row_inside y e = let a = asked_inside (layout_of len g) (ltb y g.height) e in (kept_as len g v a.0, a.1)

  pub pixel_inside : (x y : ℕ) → pixel_layout len g x y ≡ Ok v
      → (Kept len g × (g ≡ v)) × ((ltb x g.width ≡ true) × (ltb y g.height ≡ true))
  pixel_inside x y e =
      let a = asked_inside (layout_of len g) (ltb x g.width && ltb y g.height) e in
      (kept_as len g v a.0, both _ _ a.1)
