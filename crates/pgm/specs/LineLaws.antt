-- Every line of 64-bit numbers fits a buffer of `line_room` bytes; and no two refusals, nor a refusal and counts, have
-- the same line. Assumes nothing.
use Rattle.std.specs.Prelude.{ℕ, ◌^◌, ◌≤◌, ◌<◌, ◌≡◌, List, [], ◌∷◌, ◌++◌, length, drop}
use Rattle.std.proofs.Common.{arith, ap, length-append}
use Rattle.pgm.specs.Decimal.{decimal}
use Rattle.pgm.specs.DecimalLaws.{decimal_short, decimal_once, AllDigits, decimal_digits, Leads, decimal_leads}
use Rattle.pgm.specs.Line.{line, refused_line, line_room}

-- a number of 64 bits has at most 20 digits
pub word_short : (n : ℕ) → n < 2 ^ 64 → length (decimal n) ≤ 20
word_short n h = decimal_short n 19 (omega arith)

-- the line of six numbers fits
pub counts_fit : (a b c d e f : ℕ) → a < 2 ^ 64 → b < 2 ^ 64 → c < 2 ^ 64 → d < 2 ^ 64 → e < 2 ^ 64 → f < 2 ^ 64 →
    length (line (a ∷ b ∷ c ∷ d ∷ e ∷ f ∷ [])) ≤ line_room
counts_fit a b c d e f A B C D E F =
    simp length-append
    (omega (arith, word_short a A, word_short b B, word_short c C, word_short d D, word_short e E, word_short f F))

-- the line of a refusal fits
pub refused_fits : (n : ℕ) → n < 2 ^ 64 → length (refused_line n) ≤ line_room
refused_fits n h = simp length-append (omega (arith, word_short n h))

-- a refusal's line tells its number
pub refused_once : (n m : ℕ) → refused_line n ≡ refused_line m → n ≡ m
refused_once n m e = decimal_once n m 10 (ap (drop 8) e)

-- no line of numbers is a refusal's: it begins with a digit, and a refusal's with a letter
pub not_refused : (n m k : ℕ) (ns : List ℕ) → line (n ∷ m ∷ ns) ≡ refused_line k → ⊥
not_refused n m k ns e = first (decimal n) (decimal_leads n) (decimal_digits n) e
  where
    first : (ds : List ℕ) → Leads n ds → AllDigits ds → ds ++ (32 ∷ line (m ∷ ns)) ≡ refused_line k → ⊥
    first [] l a p = absurd l
    first (d ∷ ds) l a p = let q : d ≡ 114 = cc in omega (arith, a.0.1)
