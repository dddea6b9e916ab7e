-- Worked texts, as one table that antt evaluates. Assumes nothing.
use Rattle.std.specs.Prelude.{◌≡◌, refl, Bool, true, false, cond, ◌&&◌, List, [], ◌∷◌, ℕ, suc, eqb}
use Rattle.pgm.specs.Decimal.{decimal, digits_of}
use Rattle.pgm.specs.Form.{header}
use Rattle.pgm.specs.Line.{line, refused_line}

infix 10 ◌gives◌
-- a worked text: what is computed, and its bytes as written down
pub data Case : Type 0 where
  ◌gives◌ : List ℕ → List ℕ → Case

-- whether two texts are the same
abbrev pub same : List ℕ → List ℕ → Bool
same [] [] = true
same [] (y ∷ ys) = false
same (x ∷ xs) [] = false
same (x ∷ xs) (y ∷ ys) = eqb x y && same xs ys

-- whether a case holds
abbrev pub right : Case → Bool
right (computed gives stated) = same computed stated

-- the places of the wrong cases, counted from n
abbrev pub wrong : ℕ → List Case → List ℕ
wrong n [] = []
wrong n (c ∷ cs) = cond (right c) (wrong (suc n) cs) (n ∷ wrong (suc n) cs)

-- decimal texts; the header "P5 2 1 255"; the lines "2 1 0 0 2 24" and "refused 11"
unfoldable pub cases : List Case
cases =
    (decimal 0 gives (48 ∷ [])) ∷
    (decimal 7 gives (55 ∷ [])) ∷
    (decimal 10 gives (49 ∷ 48 ∷ [])) ∷
    (decimal 60 gives (54 ∷ 48 ∷ [])) ∷
    (decimal 18446744073709551615 gives (
    49 ∷ 56 ∷ 52 ∷ 52 ∷ 54 ∷ 55 ∷ 52 ∷ 52 ∷ 48 ∷ 55 ∷ 51 ∷ 55 ∷ 48 ∷ 57 ∷ 53 ∷ 53 ∷ 49 ∷ 54 ∷ 49 ∷ 53 ∷ []
    )) ∷
    (header 2 1 gives (80 ∷ 53 ∷ 32 ∷ 50 ∷ 32 ∷ 49 ∷ 32 ∷ 50 ∷ 53 ∷ 53 ∷ 10 ∷ [])) ∷
    (header 60 0 gives (80 ∷ 53 ∷ 32 ∷ 54 ∷ 48 ∷ 32 ∷ 48 ∷ 32 ∷ 50 ∷ 53 ∷ 53 ∷ 10 ∷ [])) ∷
    (line (2 ∷ 1 ∷ 0 ∷ 0 ∷ 2 ∷ 24 ∷ []) gives (50 ∷ 32 ∷ 49 ∷ 32 ∷ 48 ∷ 32 ∷ 48 ∷ 32 ∷ 50 ∷ 32 ∷ 50 ∷ 52 ∷ 10 ∷ [])) ∷
    (refused_line 11 gives (114 ∷ 101 ∷ 102 ∷ 117 ∷ 115 ∷ 101 ∷ 100 ∷ 32 ∷ 49 ∷ 49 ∷ 10 ∷ [])) ∷
    []

-- no case is wrong
pub cases_hold : wrong 1 cases ≡ []
unfolding cases decimal digits_of
cases_hold = refl
