-- Worked cases: what a definition computes beside what is stated, and which of a list of them are wrong.
-- Definitions only.
use Rattle.std.specs.Prelude.{Bool, true, false, cond, ◌&&◌, List, [], ◌∷◌, ℕ, suc, eqb}
use Rattle.image.specs.declared.Geometry.{Geometry}

infix 10 ◌gives◌
-- what is computed, and the answer that is right
pub data Case : Type 0 where
  ◌gives◌ : List ℕ → List ℕ → Case

-- two lists hold the same numbers
abbrev pub same : List ℕ → List ℕ → Bool
same [] [] = true
same [] (y ∷ ys) = false
same (x ∷ xs) [] = false
same (x ∷ xs) (y ∷ ys) = eqb x y && same xs ys

-- a case is right
abbrev pub right : Case → Bool
right (computed gives stated) = same computed stated

-- the places of the wrong cases, counted from n
abbrev pub wrong : ℕ → List Case → List ℕ
wrong n [] = []
wrong n (c ∷ cs) = cond (right c) (wrong (suc n) cs) (n ∷ wrong (suc n) cs)

-- w by h pixels at a stride
abbrev pub geometry : ℕ → ℕ → ℕ → Geometry
geometry w h stride = record { width = w; height = h; stride = stride }
