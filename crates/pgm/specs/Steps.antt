-- What the private functions promise: they read a side, and write bytes. Definitions only.
use Rattle.std.specs.Prelude.{ℕ, ◌+◌, ◌≤◌, ◌≡◌, List, ◌∷◌, ◌++◌, length}
use Rattle.image.specs.Plane.{overwritten}
use Rattle.pgm.specs.Decimal.{decimal}
use Rattle.pgm.specs.Form.{side_limit}

-- a text begins with a side in the limit and a space, and `rest` follows them
pub record Sided (text : List ℕ) (n : ℕ) (rest : List ℕ) : Type 0 where
  pub small : n ≤ side_limit
  pub begins : text ≡ decimal n ++ (32 ∷ rest)

-- a text begins with no such side
abbrev pub NoSide : List ℕ → Type 0
NoSide text = (n : ℕ) (rest : List ℕ) → Sided text n rest → ⊥

-- a text is written from `at` on, and the answer is the place after it
pub record Puts (text : List ℕ) (at : ℕ) (before : List ℕ) (answer : ℕ) (after : List ℕ) : Type 0 where
  pub answers : answer ≡ at + length text
  pub leaves : after ≡ overwritten at text before
