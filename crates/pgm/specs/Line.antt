-- The lines that answer: the counts, or a refusal's number. Definitions only.
use Rattle.std.specs.Prelude.{ℕ, ◌≡◌, cond, List, [], ◌∷◌, ◌++◌, ltb, length, drop, Option, Some, None}
use Rattle.pgm.specs.Decimal.{decimal}

-- the length of a buffer that holds any line: six numbers of 64 bits take at most 126 bytes
abbrev pub line_room : ℕ
line_room = 128

-- the decimal texts of numbers, with single spaces between and a line feed at the end
abbrev pub line : List ℕ → List ℕ
line [] = 10 ∷ []
line (n ∷ []) = decimal n ++ (10 ∷ [])
line (n ∷ m ∷ ns) = decimal n ++ (32 ∷ line (m ∷ ns))

-- "refused "
abbrev pub refused_word : List ℕ
refused_word = 114 ∷ 101 ∷ 102 ∷ 117 ∷ 115 ∷ 101 ∷ 100 ∷ 32 ∷ []

-- "refused n" and a line feed
abbrev pub refused_line : ℕ → List ℕ
refused_line n = refused_word ++ line (n ∷ [])

-- the contract of a function that writes a line: a buffer of line_room bytes or more gets the line's bytes at its start,
-- and their count is the answer; a shorter buffer is left as it was, and there is no answer
pub record Writes (text before : List ℕ) (answer : Option ℕ) (after : List ℕ) : Type 0 where
  pub answers : answer ≡ cond (ltb (length before) line_room) None (Some (length text))
  pub leaves : after ≡ cond (ltb (length before) line_room) before (text ++ drop (length text) before)
