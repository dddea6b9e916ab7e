-- The decimal text of a number. Definitions only.
use Rattle.std.specs.Prelude.{ℕ, zero, suc, ◌+◌, ◌/◌, ◌%◌, Bool, true, false, List, [], ◌∷◌, ◌++◌, ltb}

-- the ASCII byte of a digit: '0' is 48
abbrev pub digit : ℕ → ℕ
digit d = 48 + d

-- the digits of n, where `small` says whether n is below 10: one digit, or the digits of n / 10 and then n % 10. `most`
-- bounds how many follow the first, so that the definition ends
unfoldable pub digits_of : (most : ℕ) (small : Bool) → ℕ → List ℕ
digits_of zero small n = digit n ∷ []
digits_of (suc most) true n = digit n ∷ []
digits_of (suc most) false n = digits_of most (ltb (n / 10) 10) (n / 10) ++ (digit (n % 10) ∷ [])

-- the decimal text of any number, without leading zeros: at most n digits follow its first
unfoldable pub decimal : ℕ → List ℕ
unfolding digits_of
decimal n = digits_of n (ltb n 10) n
