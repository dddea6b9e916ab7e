-- `read_side` reads one or two digits and a space, and answers None where no side stands. Assumes nothing.
use Rattle.std.proofs.Common.{◌≡◌, refl, ℕ, ◌-◌, ◌/◌, ◌%◌, ◌<◌, ◌≤◌, ◌⊎◌, inl, inr, ⊎_elim, arith, List, [], ◌∷◌, length, get_or, take, drop, ◌∙◌, take_all, length-drop}
use Rattle.pgm.specs.Decimal.{digit}
use Rattle.pgm.specs.DecimalLaws.{small_or, decimal_one, decimal_two}
use Rattle.pgm.specs.Form.{side_limit}
use Rattle.pgm.specs.Steps.{Sided}
use Rattle.pgm.proofs.read_side.Goals as goal

-- the bytes of a side of one digit
record One (text : List ℕ) (n : ℕ) : Type 0 where
  small : n < 10
  room : 2 ≤ length text
  first : get_or text 0 0 ≡ digit n
  space : get_or text 1 0 ≡ 32

-- the bytes of a side of two digits
record Two (text : List ℕ) (n : ℕ) : Type 0 where
  large : 10 ≤ n
  small : n ≤ side_limit
  room : 3 ≤ length text
  first : get_or text 0 0 ≡ digit (n / 10)
  second : get_or text 1 0 ≡ digit (n % 10)
  space : get_or text 2 0 ≡ 32

-- a text that begins with a side has the bytes of one digit or of two
told : (text : List ℕ) (n : ℕ) (rest : List ℕ) → Sided text n rest → One text n ⊎ Two text n
told text n rest s = ⊎_elim one two (small_or n)
  where
    one : n < 10 → One text n ⊎ Two text n
    one h =
        let e : text ≡ digit n ∷ 32 ∷ rest = s.begins ∙ rw (decimal_one n h) in
        inl (record { small = h; room = rw e (omega arith); first = rw e; space = rw e })

    two : 10 ≤ n → One text n ⊎ Two text n
    two h =
        let e : text ≡ digit (n / 10) ∷ digit (n % 10) ∷ 32 ∷ rest = s.begins ∙ rw (decimal_two n h (omega (arith, s.small))) in
        inr (record { large = h; small = s.small; room = rw e (omega arith); first = rw e; second = rw e; space = rw e })

-- the rest of a text, as the code hands it out
rest_is : (k : ℕ) (text : List ℕ) → take (length text - k) (drop k text) ≡ drop k text
rest_is k text = take_all (length text - k) (drop k text) (omega (arith, length-drop k text))

-- a text of two bytes or more, and one of three or more
two_bytes : (text : List ℕ) → 2 ≤ length text → text ≡ get_or text 0 0 ∷ get_or text 1 0 ∷ drop 2 text
two_bytes [] h = absurd (omega arith)
two_bytes (a ∷ []) h = absurd (omega arith)
two_bytes (a ∷ b ∷ rest) h = refl

three_bytes : (text : List ℕ) → 3 ≤ length text → text ≡ get_or text 0 0 ∷ get_or text 1 0 ∷ get_or text 2 0 ∷ drop 3 text
three_bytes [] h = absurd (omega arith)
three_bytes (a ∷ []) h = absurd (omega arith)
three_bytes (a ∷ b ∷ []) h = absurd (omega arith)
three_bytes (a ∷ b ∷ c ∷ rest) h = refl

-- a text with the bytes of one digit begins with that side, and so does one with those of two
one_sided : (text : List ℕ) (n : ℕ) → One text n → Sided text n (take (length text - 2) (drop 2 text))
one_sided text n o =
    let e : text ≡ digit n ∷ 32 ∷ drop 2 text = cc (two_bytes text o.room, o.first, o.space) in
    record { small = omega (arith, o.small); begins = rw (rest_is 2 text, decimal_one n o.small) e }

two_sided : (text : List ℕ) (n : ℕ) → Two text n → Sided text n (take (length text - 3) (drop 3 text))
two_sided text n o =
    let e : text ≡ digit (n / 10) ∷ digit (n % 10) ∷ 32 ∷ drop 3 text = cc (three_bytes text o.room, o.first, o.second, o.space) in
    record { small = o.small; begins = rw (rest_is 3 text, decimal_two n o.large (omega (arith, o.small))) e }

pub returns-then-side-le-SIDE_LIMIT : goal.returns-then-side-le-SIDE_LIMIT
returns-then-side-le-SIDE_LIMIT c = two_sided _ _ (record { large = omega arith; small = omega arith; room = omega arith; first = omega arith; second = omega arith; space = omega arith })

pub returns-else-side-le-SIDE_LIMIT : goal.returns-else-side-le-SIDE_LIMIT
returns-else-side-le-SIDE_LIMIT c n rest s = ⊎_elim (λ o. omega arith) (λ t. omega arith) (told _ n rest s)

pub returns-in-48-to-57 : goal.returns-in-48-to-57
returns-in-48-to-57 c = one_sided _ _ (record { small = grind arith; room = grind arith; first = grind arith; space = grind arith })

pub returns-in_default : goal.returns-in_default
returns-in_default c n rest s = ⊎_elim (λ o. grind arith) (λ t. grind arith) (told _ n rest s)
