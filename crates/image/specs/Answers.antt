-- An answer in document 01's numbers, and the list of conditions that decides it. Definitions only.
use Rattle.std.specs.Prelude.{ℕ, Bool, cond, List, [], ◌∷◌, Result, Ok, Err}

-- an answer: accepted with its values, or refused with a number
pub data Answer (A : Type 0) : Type 0 where
  accepted : A → Answer A
  refused : ℕ → Answer A

-- the value of an accepted call that has nothing more to tell
abbrev pub Bare : Type 0
Bare = Unit

abbrev pub bare : Bare
bare = tt

-- what a result says: its value, or the number of its refusal
abbrev pub answered : {A E : Type 0} → (E → ℕ) → Result A E → Answer A
answered number (Ok v) = accepted v
answered number (Err e) = refused (number e)

-- the number of an answer: 0 where it is accepted
abbrev pub answer_number : {A : Type 0} → Answer A → ℕ
answer_number (accepted v) = 0
answer_number (refused n) = n

-- what a lent place for values holds after the call: the values of an accepted call, or what it held before
abbrev pub values_out : {A : Type 0} → Answer A → A → A
values_out (accepted v) held = v
values_out (refused n) held = held

-- a condition of a call's list: whether it fits, and the refusal that it carries
pub record Condition (Refusal : Type 0) : Type 0 where
  pub fits : Bool
  pub refusal : Refusal

-- a list of conditions with the number of each refusal in its place
abbrev pub numbered : {K : Type 0} → (K → ℕ) → List (Condition K) → List (Condition ℕ)
numbered number [] = []
numbered number (c ∷ cs) = record { fits = c.fits; refusal = number c.refusal } ∷ numbered number cs

-- the answer to a list of numbered conditions: refused with the number of the first that fits, accepted with the values
-- where none fits
unfoldable pub answer_to : {A : Type 0} → List (Condition ℕ) → A → Answer A
answer_to [] v = accepted v
answer_to (c ∷ cs) v = cond c.fits (refused c.refusal) (answer_to cs v)
