-- Why the law of opening and closing stops (k - 1)/2 pixels from the border and asks for an odd kernel, why it does not
-- hold the other way round, and what a cut does before and after: pictures that antt evaluates. Assumes nothing.
use Rattle.std.specs.Prelude.{◌≡◌, refl, cond, List, [], ◌∷◌, ◌++◌, map, ℕ, ◌≤◌, leb, get_or}
use Rattle.std.proofs.Common.{ap, arith}
use Rattle.image.specs.Plane.{pixel, plane}
use Rattle.imgproc.specs.Cases.{Case, ◌gives◌, wrong}
use Rattle.imgproc.specs.Extremes.{Low}
use Rattle.imgproc.specs.Morphology.{swept_rect, opened, closed}
use Rattle.imgproc.specs.UnderOver.{Inner, InnerBefore, InnerAtMost, cut, Commutes}

-- three equal rows
abbrev thrice : List ℕ → List ℕ
thrice row = row ++ (row ++ row)

-- rows for the kernel 3, the second with 0 and 7 exchanged
abbrev dark_end : List ℕ
dark_end = 0 ∷ 7 ∷ 7 ∷ 7 ∷ []

abbrev light_end : List ℕ
light_end = 7 ∷ 0 ∷ 0 ∷ 0 ∷ []

-- and for the kernel 4
abbrev dark_pair : List ℕ
dark_pair = 0 ∷ 0 ∷ 7 ∷ 7 ∷ 7 ∷ []

abbrev light_pair : List ℕ
light_pair = 7 ∷ 7 ∷ 0 ∷ 0 ∷ 0 ∷ []

-- columns of the same, so that the first of four rows is dark, or light
abbrev dark_top : List ℕ
dark_top = 0 ∷ 0 ∷ 0 ∷ 7 ∷ 7 ∷ 7 ∷ 7 ∷ 7 ∷ 7 ∷ 7 ∷ 7 ∷ 7 ∷ []

abbrev light_top : List ℕ
light_top = 7 ∷ 7 ∷ 7 ∷ 0 ∷ 0 ∷ 0 ∷ 0 ∷ 0 ∷ 0 ∷ 0 ∷ 0 ∷ 0 ∷ []

-- one light pixel in the dark, and one dark one
abbrev light_spot : List ℕ
light_spot = 0 ∷ 0 ∷ 0 ∷ 0 ∷ 7 ∷ 0 ∷ 0 ∷ 0 ∷ 0 ∷ []

abbrev dark_spot : List ℕ
dark_spot = 7 ∷ 7 ∷ 7 ∷ 7 ∷ 0 ∷ 7 ∷ 7 ∷ 7 ∷ 7 ∷ []

-- 5 by 4, with samples on both sides of 3 and at 3
abbrev slope : List ℕ
slope = 8 ∷ 6 ∷ 4 ∷ 6 ∷ 8 ∷ 7 ∷ 9 ∷ 9 ∷ 1 ∷ 4 ∷ 4 ∷ 7 ∷ 5 ∷ 2 ∷ 1 ∷ 3 ∷ 5 ∷ 4 ∷ 3 ∷ 3 ∷ []

unfoldable pub under_over_pictures : List Case
under_over_pictures =
    -- at the border an opening may lie above its source, and a closing below it
    (opened 3 4 1 dark_end gives 7 ∷ 7 ∷ 7 ∷ 7 ∷ []) ∷
    (closed 3 4 1 light_end gives 0 ∷ 0 ∷ 0 ∷ 0 ∷ []) ∷
    -- in 4 by 3 at (0, 1), where only x is too near the border
    (opened 3 4 3 (thrice dark_end) gives thrice (7 ∷ 7 ∷ 7 ∷ 7 ∷ [])) ∷
    (closed 3 4 3 (thrice light_end) gives thrice (0 ∷ 0 ∷ 0 ∷ 0 ∷ [])) ∷
    -- in 3 by 4 at (1, 0), where only y is
    (opened 3 3 4 dark_top gives 7 ∷ 7 ∷ 7 ∷ 7 ∷ 7 ∷ 7 ∷ 7 ∷ 7 ∷ 7 ∷ 7 ∷ 7 ∷ 7 ∷ []) ∷
    (closed 3 3 4 light_top gives 0 ∷ 0 ∷ 0 ∷ 0 ∷ 0 ∷ 0 ∷ 0 ∷ 0 ∷ 0 ∷ 0 ∷ 0 ∷ 0 ∷ []) ∷
    -- at the right border too, where the last block is whole
    (opened 3 6 1 (7 ∷ 7 ∷ 7 ∷ 7 ∷ 7 ∷ 0 ∷ []) gives 7 ∷ 7 ∷ 7 ∷ 7 ∷ 7 ∷ 7 ∷ []) ∷
    (closed 3 6 1 (0 ∷ 0 ∷ 0 ∷ 0 ∷ 0 ∷ 7 ∷ []) gives 0 ∷ 0 ∷ 0 ∷ 0 ∷ 0 ∷ 0 ∷ []) ∷
    -- with an even kernel away from the border too: k = 4, r = 1, at (1, 1) of 5 by 3
    (opened 4 5 3 (thrice dark_pair) gives thrice (7 ∷ 7 ∷ 7 ∷ 7 ∷ 7 ∷ [])) ∷
    (closed 4 5 3 (thrice light_pair) gives thrice (0 ∷ 0 ∷ 0 ∷ 0 ∷ 0 ∷ [])) ∷
    -- a cut at 3 before and after
    (opened 3 5 4 slope gives 4 ∷ 4 ∷ 4 ∷ 1 ∷ 1 ∷ 4 ∷ 4 ∷ 4 ∷ 1 ∷ 1 ∷ 4 ∷ 4 ∷ 4 ∷ 2 ∷ 1 ∷ 3 ∷ 3 ∷ 3 ∷ 2 ∷ 1 ∷ []) ∷
    (opened 3 5 4 (map (cut 3) slope) gives
    255 ∷ 255 ∷ 255 ∷ 0 ∷ 0 ∷ 255 ∷ 255 ∷ 255 ∷ 0 ∷ 0 ∷ 255 ∷ 255 ∷ 255 ∷ 0 ∷ 0 ∷ 0 ∷ 0 ∷ 0 ∷ 0 ∷ 0 ∷ []) ∷
    (closed 3 5 4 slope gives 9 ∷ 9 ∷ 9 ∷ 4 ∷ 4 ∷ 9 ∷ 9 ∷ 9 ∷ 4 ∷ 4 ∷ 7 ∷ 7 ∷ 5 ∷ 3 ∷ 3 ∷ 7 ∷ 7 ∷ 5 ∷ 3 ∷ 3 ∷ []) ∷
    (closed 3 5 4 (map (cut 3) slope) gives
    255 ∷ 255 ∷ 255 ∷ 255 ∷ 255 ∷ 255 ∷ 255 ∷ 255 ∷ 255 ∷ 255 ∷
    255 ∷ 255 ∷ 255 ∷ 0 ∷ 0 ∷ 255 ∷ 255 ∷ 255 ∷ 0 ∷ 0 ∷ []) ∷
    []

pub under_over_hold : wrong 1 under_over_pictures ≡ []
unfolding under_over_pictures swept_rect plane
under_over_hold = refl

-- ---- what these pictures refute

-- 7 is not at most 0
no : 7 ≤ 0 → ⊥
no l = omega arith

-- the middle of 3 and the second of 5 are inner with r = 1, which is that of the kernels 3 and 4
middle : Inner 1 3 1
middle = record { before = omega arith; after = omega arith }

second : Inner 1 5 1
second = record { before = omega arith; after = omega arith }

-- the first of 4 is so with r - 1
edge : Inner 0 4 0
edge = record { before = omega arith; after = omega arith }

-- the law claimed one pixel nearer to the border, along x alone or along y alone
pub opening_nearer_x : InnerBefore Low 0 1 4 3 (pixel (opened 3 4 3 (thrice dark_end)) 4) (pixel (thrice dark_end) 4) → ⊥
unfolding swept_rect plane
opening_nearer_x law = no (law 0 1 edge middle)

pub opening_nearer_y : InnerBefore Low 1 0 3 4 (pixel (opened 3 3 4 dark_top) 3) (pixel dark_top 3) → ⊥
unfolding swept_rect plane
opening_nearer_y law = no (law 1 0 middle edge)

pub closing_nearer_x :
    InnerBefore Low 0 1 4 3 (pixel (thrice light_end) 4) (pixel (closed 3 4 3 (thrice light_end)) 4) → ⊥
unfolding swept_rect plane
closing_nearer_x law = no (law 0 1 edge middle)

pub closing_nearer_y : InnerBefore Low 1 0 3 4 (pixel light_top 3) (pixel (closed 3 3 4 light_top) 3) → ⊥
unfolding swept_rect plane
closing_nearer_y law = no (law 1 0 middle edge)

-- the law claimed of an even kernel
pub opening_even : InnerAtMost 4 5 3 (pixel (opened 4 5 3 (thrice dark_pair)) 5) (pixel (thrice dark_pair) 5) → ⊥
unfolding swept_rect plane
opening_even law = no (law 1 1 second middle)

pub closing_even : InnerAtMost 4 5 3 (pixel (thrice light_pair) 5) (pixel (closed 4 5 3 (thrice light_pair)) 5) → ⊥
unfolding swept_rect plane
closing_even law = no (law 1 1 second middle)

-- the law claimed the other way round: source ≤ opening, closing ≤ source
pub opening_over : InnerAtMost 3 3 3 (pixel light_spot 3) (pixel (opened 3 3 3 light_spot) 3) → ⊥
unfolding swept_rect plane
opening_over law = no (law 1 1 middle middle)

pub closing_under : InnerAtMost 3 3 3 (pixel (closed 3 3 3 dark_spot) 3) (pixel dark_spot 3) → ⊥
unfolding swept_rect plane
closing_under law = no (law 1 1 middle middle)

-- the law of cuts claimed of a cut the other way round, which is not monotone
pub reversed_cut : Commutes (λ v. cond (leb v 3) 255 0) 3 3 (opened 3 3 3) → ⊥
unfolding swept_rect plane
reversed_cut law =
    let same : ◌≡◌ {A = ℕ} 0 255 = ap (λ (p : List ℕ). get_or p 0 0) (law light_spot refl) in omega arith
