-- What makes a decimal text right: its digits by cases, its value, that it has no leading zero, and how long it is.
-- Assumes nothing.
use Rattle.std.specs.Prelude.{ℕ, zero, suc, ◌+◌, ◌-◌, ◌*◌, ◌/◌, ◌%◌, ◌^◌, ◌≤◌, ◌<◌, ◌≡◌, refl, Bool, true, false, List, [], ◌∷◌, ◌++◌, ◌⊎◌, ltb, length}
use Rattle.std.proofs.Common.{pow-suc, arith, sym, ap, ◌∙◌, inl, inr, ⊎_elim, length-append, lt-ltb, le-ltb, ltb-true, ltb-false}
use Rattle.std.proofs.lemmas.Fmt.{decimal_by_steps}
use Rattle.std.specs.Fmt
use Rattle.pgm.specs.Decimal.{digit, digits_of, decimal}

-- ---- the digits by cases

-- the digits of n, at most f after the first
abbrev within : ℕ → ℕ → List ℕ
within f n = digits_of f (ltb n 10) n

-- a number below 10 has one digit; from 10 on the last digit follows those of n / 10
one_digit : (f n : ℕ) → n < 10 → within f n ≡ digit n ∷ []
unfolding digits_of
one_digit zero n h = refl
one_digit (suc f) n h = rw (lt-ltb n 10 h)

more_digits : (f n : ℕ) → 10 ≤ n → within (suc f) n ≡ within f (n / 10) ++ (digit (n % 10) ∷ [])
unfolding digits_of
more_digits f n h = rw (le-ltb n 10 h)

-- a number is below 10, or is not
pub small_or : (n : ℕ) → (n < 10) ⊎ (10 ≤ n)
small_or n = go (ltb n 10) refl
  where
    go : (b : Bool) → ltb n 10 ≡ b → (n < 10) ⊎ (10 ≤ n)
    go true e = inl (ltb-true n 10 e)
    go false e = inr (ltb-false n 10 e)

-- any bound that is not below n gives the same digits
enough : (f g n : ℕ) → n ≤ f → n ≤ g → within f n ≡ within g n
enough zero g n a b = one_digit 0 n (omega arith) ∙ sym (one_digit g n (omega arith))
enough (suc f) zero n a b = one_digit (suc f) n (omega arith) ∙ sym (one_digit 0 n (omega arith))
enough (suc f) (suc g) n a b =
    ⊎_elim
    (λ s. one_digit (suc f) n s ∙ sym (one_digit (suc g) n s))
    (λ l.
    more_digits f n l
    ∙ ap (λ (ds : List ℕ). ds ++ (digit (n % 10) ∷ [])) (enough f g (n / 10) (omega arith) (omega arith))
    ∙ sym (more_digits g n l))
    (small_or n)

-- the whole text, by cases: one digit, one more than n / 10 has, and two
pub decimal_one : (n : ℕ) → n < 10 → decimal n ≡ digit n ∷ []
unfolding decimal
decimal_one n h = one_digit n n h

-- the bound n serves n / 10 too
more : (n m : ℕ) → 10 ≤ n → n ≡ suc m → within n n ≡ within (n / 10) (n / 10) ++ (digit (n % 10) ∷ [])
more n m h e =
    ap (λ (k : ℕ). within k n) e ∙ more_digits m n h
    ∙ ap (λ (ds : List ℕ). ds ++ (digit (n % 10) ∷ [])) (enough m (n / 10) (n / 10) (omega arith) (omega arith))

pub decimal_more : (n : ℕ) → 10 ≤ n → decimal n ≡ decimal (n / 10) ++ (digit (n % 10) ∷ [])
unfolding decimal
decimal_more n h = more n (n - 1) h (omega arith)

pub decimal_two : (n : ℕ) → 10 ≤ n → n < 100 → decimal n ≡ digit (n / 10) ∷ digit (n % 10) ∷ []
decimal_two n l h =
    decimal_more n l ∙ ap (λ (ds : List ℕ). ds ++ (digit (n % 10) ∷ [])) (decimal_one (n / 10) (omega arith))

-- the text of a number of 64 bits is the one that std's `{}` writes
pub decimal_of_std : (n : ℕ) → n < 2 ^ 64 → Fmt.decimal n ≡ decimal n
decimal_of_std = decimal_by_steps (λ n ds. ds ≡ decimal n)
    (λ n h. sym (decimal_one n h))
    (λ n ds l e. ap (λ (cs : List ℕ). cs ++ (digit (n % 10) ∷ [])) e ∙ sym (decimal_more n l))

-- a fact holds of every decimal text if it holds of one digit, and goes over to one more digit at the end
module _ (P : ℕ → List ℕ → Type 0) (one : (n : ℕ) → n < 10 → P n (digit n ∷ []))
    (step : (n : ℕ) (ds : List ℕ) → 10 ≤ n → P (n / 10) ds → P n (ds ++ (digit (n % 10) ∷ [])))
  where
    each_within : (f n : ℕ) → n ≤ f → P n (within f n)
    each_within zero n h = rw (one_digit 0 n (omega arith)) (one n (omega arith))
    each_within (suc f) n h =
        ⊎_elim
        (λ s. rw (one_digit (suc f) n s) (one n s))
        (λ l. rw (more_digits f n l) (step n (within f (n / 10)) l (each_within f (n / 10) (omega arith))))
        (small_or n)

    pub each_decimal : (n : ℕ) → P n (decimal n)
    unfolding decimal
    each_decimal n = each_within n n (omega arith)

-- ---- the value

-- the number that digits name, read from the left
abbrev pub value_from : ℕ → List ℕ → ℕ
value_from v [] = v
value_from v (d ∷ ds) = value_from (v * 10 + (d - 48)) ds

-- a digit at the end makes ten times the number and the digit
value_from_last : (v : ℕ) (ds : List ℕ) (d : ℕ) → value_from v (ds ++ (d ∷ [])) ≡ value_from v ds * 10 + (d - 48)
value_from_last v [] d = refl
value_from_last v (e ∷ ds) d = value_from_last (v * 10 + (e - 48)) ds d

-- the text of n names n
pub decimal_value : (n : ℕ) → value_from 0 (decimal n) ≡ n
decimal_value n = each_decimal (λ n ds. value_from 0 ds ≡ n)
    (λ n s. omega arith)
    (λ n ds l e. value_from_last 0 ds (digit (n % 10)) ∙ omega arith)
    n

-- two numbers are the same if their texts are, with the same byte after each
pub decimal_once : (n m d : ℕ) → decimal n ++ (d ∷ []) ≡ decimal m ++ (d ∷ []) → n ≡ m
decimal_once n m d e =
    let v = sym (value_from_last 0 (decimal n) d) ∙ ap (value_from 0) e ∙ value_from_last 0 (decimal m) d in
    omega (arith, v, decimal_value n, decimal_value m)

-- ---- digits alone, and the first

-- every byte is a digit
abbrev pub AllDigits : List ℕ → Type 0
AllDigits [] = Unit
AllDigits (d ∷ ds) = ((48 ≤ d) × (d ≤ 57)) × AllDigits ds

-- a digit at the end leaves all of them digits
all_more : (ds : List ℕ) (d : ℕ) → 48 ≤ d → d ≤ 57 → AllDigits ds → AllDigits (ds ++ (d ∷ []))
all_more [] d a b h = ((a, b), tt)
all_more (e ∷ ds) d a b h = (h.0, all_more ds d a b h.1)

-- the text of a number has no byte but digits
pub decimal_digits : (n : ℕ) → AllDigits (decimal n)
decimal_digits n =
    each_decimal (λ n ds. AllDigits ds) (λ n s. ((omega arith, omega arith), tt))
    (λ n ds l h. all_more ds (digit (n % 10)) (omega arith) (omega arith) h)
    n

-- the text of a number other than 0 begins with a digit from 1 to 9
abbrev pub Leads : ℕ → List ℕ → Type 0
Leads n [] = ⊥
Leads n (d ∷ ds) = 0 < n → (49 ≤ d) × (d ≤ 57)

-- a digit at the end leaves the first as it is
leads_more : (n : ℕ) (ds : List ℕ) → 10 ≤ n → Leads (n / 10) ds → Leads n (ds ++ (digit (n % 10) ∷ []))
leads_more n [] h l = absurd l
leads_more n (e ∷ ds) h l = λ p. l (omega arith)

-- no number but 0 has a leading zero
pub decimal_leads : (n : ℕ) → Leads n (decimal n)
decimal_leads n = each_decimal Leads (λ n s p. omega arith) leads_more n

-- ---- how many digits

-- for every k from 1 on, a number below 10 ^ k has at most k digits
abbrev pub Short : ℕ → List ℕ → Type 0
Short n ds = (k : ℕ) → n < 10 ^ suc k → length ds ≤ suc k

-- no number has more digits than it needs
pub decimal_short : (n : ℕ) → Short n (decimal n)
decimal_short n = each_decimal Short (λ n s k h. omega arith) more' n
  where
    more' : (n : ℕ) (ds : List ℕ) → 10 ≤ n → Short (n / 10) ds → Short n (ds ++ (digit (n % 10) ∷ []))
    more' n ds l s zero h = absurd (omega arith)
    more' n ds l s (suc k) h = rw length-append (omega (arith, s k (omega (arith, pow-suc 10 (suc k)))))
