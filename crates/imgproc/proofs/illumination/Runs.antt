-- The work of an accepted division: what is packed, closed, divided and painted is the contract's picture. Assumes nothing.
use Rattle.std.specs.Prelude.{true, false, Ok}
use mathlib.Core.Path.{◌≡◌, sym, ap, ap₂, ◌∙◌}
use mathlib.Core.List.{List}
use mathlib.Core.Logic.{inl}
use Prim.Native.Nat.{ℕ, ◌+◌, ◌*◌, ◌≤◌, ◌<◌}
use native.Mathlib.Omega.{arith}
use lib.ListN.{length, get_or}
use lib.Dec.{ltb}
use borrow.Author.Tests.{ltb-false}
use Rattle.imgproc.specs.RefusalLaws.{both_accepted, not_refused, division_says}
use Rattle.image.specs.declared.Geometry.{Geometry}
use Rattle.image.specs.Answers.{Answer, Bare}
use Rattle.image.specs.Layout.{Kept}
use Rattle.image.specs.Plane.{picture, part}
use Rattle.image.specs.PlaneLaws.{in_plane, is_plane, length_part, get_d_part}
use Rattle.image.specs.Copy.{Packs, Unpacks}
use Rattle.imgproc.specs.declared.illumination.BackgroundDivideConfig.{BackgroundDivideConfig}
use Rattle.imgproc.specs.declared.ImgProcError.TheVariants.{WorkspaceTooSmall}
use Rattle.imgproc.specs.declared.morphology.tally.Tally.{Tally}
use Rattle.imgproc.specs.declared.morphology.sweeps.Planes.{Planes}
use Rattle.imgproc.specs.Tallies.{Stands, raised_fresh}
use Rattle.imgproc.specs.Morphology.{closed}
use Rattle.imgproc.specs.Sweeps.{PairMorphed}
use Rattle.imgproc.specs.Refusals.{first, refused_if, division_settings, element_and_room}
use Rattle.imgproc.specs.Calls.{Loan, Works, Paired}
use Rattle.imgproc.specs.Division.{quotient, divided_by, divided, division, PlaneDivided, FlattenReady, Flattened, DivideReady}
use Rattle.image.specs.CopyLaws.{packs_plane}
use Rattle.imgproc.proofs.Serving.{unpacked_works}

-- the closing reads the first plane, writes the second, and has its scratch after both
abbrev first_to_second : ℕ → ℕ → Planes
first_to_second w h = record { from = 0; to = w * h; spare = 2 * (w * h); width = w; height = h }

-- ---- packed, closed, divided
module _ {tally : Tally} {src : List ℕ} {g : Geometry} {d : BackgroundDivideConfig} {ws : List ℕ} (kept : Kept (length src) g)
    (ready : FlattenReady tally g d ws) {r : Answer Bare} {first : List ℕ} (pack : Packs src g 0 ws r first) where
  plane : (length first ≡ length ws) × (part 0 (g.width * g.height) first ≡ picture src g)
  plane = packs_plane kept (omega (arith, ready.fits)) pack

  module _ {raised : Tally} {second : List ℕ}
      (close : let k = d.structuring_element in PairMorphed tally first (first_to_second g.width g.height) k k false true raised second) where
    close_long : length second ≡ length ws
    close_long = close.kept.long ∙ plane.0

    -- the closing leaves the packed picture in the first plane
    pixel_at : (i : ℕ) → i < g.width * g.height → get_or second (0 + i) 0 ≡ get_or (picture src g) i 0
    pixel_at i l =
        close.kept.same (0 + i) (record { off = inl (omega arith) }) (record { off = inl (omega arith) })
        ∙ sym (get_d_part 0 (g.width * g.height) first (omega (arith, plane.0, ready.fits)) i l)
        ∙ ap (λ (p : List ℕ). get_or p i 0) plane.1

    background_at : (i : ℕ) → i < g.width * g.height
        → get_or second (g.width * g.height + i) 0 ≡ get_or (closed d.structuring_element g.width g.height (picture src g)) i 0
    background_at i l =
        sym (get_d_part (g.width * g.height) (g.width * g.height) second (omega (arith, close_long, ready.fits)) i l)
        ∙ ap (λ (p : List ℕ). get_or p i 0) (close.leaves ∙ ap (closed d.structuring_element g.width g.height) plane.1)

    pub flattened : {third : List ℕ}
        → PlaneDivided d 0 (g.width * g.height) (g.width * g.height) second third
        → Flattened tally src g d ws raised third
    unfolding divided divided_by
    flattened {third} divide =
        let n = g.width * g.height in
        let long : length third ≡ length ws = divide.rest.long ∙ close_long in
        let fits : n + n ≤ length third = omega (arith, ready.fits) in
        record {
          leaves =
              is_plane g.width g.height _ (part n n third) kept.wide (length_part n n third fits)
              (λ x y X Y.
              let i = y * g.width + x in
              let l = in_plane g.width g.height x y X Y in
              get_d_part n n third fits i l ∙ divide.each i l ∙ ap₂ (quotient d) (pixel_at i l) (background_at i l));
          counted = close.counted;
          long = long;
        }

-- ---- and painted
module _ {lent : Loan BackgroundDivideConfig} (ready : DivideReady lent) {tally : Tally} (fresh : Stands tally 0) where
  pub divide_works : {raised : Tally} {ws dst : List ℕ} {r : Answer Bare}
      → Flattened tally lent.src lent.source lent.settings lent.workspace raised ws
      → Unpacks ws (lent.source.width * lent.source.height) lent.dst lent.target r dst
      → Works division lent raised (record { dst = dst; workspace = ws })
  divide_works flat unpack =
      unpacked_works ready.pair ready.fits flat.leaves (raised_fresh fresh flat.counted) flat.long unpack

-- ---- what accepted settings and room say
pub division_ready : {lent : Loan BackgroundDivideConfig}
    → Paired (length lent.src) lent.source (length lent.dst) lent.target
    → first (element_and_room lent.settings lent.source (length lent.workspace)) ≡ Ok tt
    → DivideReady lent
division_ready {lent} pair p =
    let short = ltb (length lent.workspace) (7 * (lent.source.width * lent.source.height)) in
    let both = both_accepted (division_settings lent.settings) (refused_if short WorkspaceTooSmall) p in
    let good = division_says lent.settings both.0 in
    record {
      pair = pair;
      kernel = omega (arith, good.0);
      floor = good.1;
      fits = omega (arith, ltb-false _ _ (not_refused short WorkspaceTooSmall both.1));
    }
