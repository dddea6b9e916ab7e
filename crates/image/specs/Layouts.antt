-- Worked layouts, as one table that antt evaluates: the number of each, and 0 for a valid one. Assumes nothing.
use Rattle.std.specs.Prelude.{◌≡◌, refl, cond, List, [], ◌∷◌, ℕ, suc, ◌+◌, eqb}
use Rattle.image.specs.Answers.{answer_number}
use Rattle.image.specs.Layout.{Layout, side_limit, layout_of, layout_answer, pixel_layout, row_layout}

-- the number of a layout's refusal, and 0 for a valid one
abbrev number : Layout → ℕ
number l = answer_number (layout_answer l)

-- the number of a layout in a slice of len bytes
abbrev pub layout : ℕ → ℕ → ℕ → ℕ → ℕ
unfolding layout_of
layout len width height stride =
    number (layout_of len (record { width = width; height = height; stride = stride }))

infix 10 ◌gives◌
-- a worked layout: what is computed, and the number that is right
pub data Case : Type 0 where
  ◌gives◌ : ℕ → ℕ → Case

-- the places of the wrong cases, counted from n
abbrev pub wrong : ℕ → List Case → List ℕ
wrong n [] = []
wrong n ((computed gives stated) ∷ cs) = cond (eqb computed stated) (wrong (suc n) cs) (n ∷ wrong (suc n) cs)

unfoldable pub layouts : List Case
layouts =
    (layout 100 0 5 10 gives 1) ∷
    -- a zero side counts before a short stride
    (layout 0 10 0 5 gives 1) ∷
    (layout 100 10 5 9 gives 2) ∷
    -- 12 × 4 + 10 bytes are needed: the last row is short
    (layout 57 10 5 12 gives 3) ∷
    (layout 58 10 5 12 gives 0) ∷
    -- 2 × 2^63 + 1 bytes are needed, past 64 bits
    (layout 18446744073709551615 1 9223372036854775809 2 gives 3) ∷
    -- one row needs no stride
    (layout 1 1 1 18446744073709551615 gives 0) ∷
    -- a long side in a short slice is short first
    (layout side_limit (side_limit + 1) 1 (side_limit + 1) gives 3) ∷
    (layout (side_limit + 1) (side_limit + 1) 1 (side_limit + 1) gives 4) ∷
    (layout side_limit side_limit 1 side_limit gives 0) ∷
    (layout (side_limit + 1) 1 (side_limit + 1) 1 gives 4) ∷
    -- a place outside is 9 where the layout is valid, and has the layout's number where it is not
    (number (pixel_layout 6 (record { width = 2; height = 2; stride = 4 }) 1 1) gives 0) ∷
    (number (pixel_layout 6 (record { width = 2; height = 2; stride = 4 }) 2 0) gives 9) ∷
    (number (pixel_layout 6 (record { width = 2; height = 2; stride = 4 }) 0 2) gives 9) ∷
    (number (row_layout 5 (record { width = 2; height = 2; stride = 4 }) 7) gives 3) ∷
    []

-- no case is wrong
pub layouts_hold : wrong 1 layouts ≡ []
unfolding layouts layout_of
layouts_hold = refl
