-- Answers to lists of conditions: one list after another, and the values of an accepted answer. Assumes nothing.
use Rattle.std.specs.Prelude.{ℕ, ◌≡◌, refl, Bool, true, false, cond, List, [], ◌∷◌, ◌++◌}
use Rattle.std.proofs.Common.{sym}
use Rattle.image.specs.Answers.{accepted, refused, Condition, answer_to}
use Rattle.image.specs.RefusedExactly.{differ}

-- a refusal by the first list counts, whatever the values
pub first_refuses : {A B : Type 0} (cs ds : List (Condition ℕ)) (u : A) (v : B) {n : ℕ}
    → refused n ≡ answer_to cs u → refused n ≡ answer_to (cs ++ ds) v
unfolding answer_to
first_refuses [] ds u v p = absurd (differ u (sym p))
first_refuses (c ∷ cs) ds u v {n} p = step c.fits p (λ q. first_refuses cs ds u v q)
  where
    step : (f : Bool) → refused n ≡ cond f (refused c.refusal) (answer_to cs u)
        → (refused n ≡ answer_to cs u → refused n ≡ answer_to (cs ++ ds) v)
        → refused n ≡ cond f (refused c.refusal) (answer_to (cs ++ ds) v)
    step true q r = cc
    step false q r = r q

-- after a list that accepts, the next one counts
pub first_accepts : {A B : Type 0} (cs ds : List (Condition ℕ)) (u : A) (v : B)
    → accepted u ≡ answer_to cs u → answer_to (cs ++ ds) v ≡ answer_to ds v
unfolding answer_to
first_accepts [] ds u v p = refl
first_accepts (c ∷ cs) ds u v p = step c.fits p (λ q. first_accepts cs ds u v q)
  where
    step : (f : Bool) → accepted u ≡ cond f (refused c.refusal) (answer_to cs u)
        → (accepted u ≡ answer_to cs u → answer_to (cs ++ ds) v ≡ answer_to ds v)
        → cond f (refused c.refusal) (answer_to (cs ++ ds) v) ≡ answer_to ds v
    step true q r = absurd (differ u q)
    step false q r = r q

-- an accepted answer has the values
pub accepted_is : {A : Type 0} (cs : List (Condition ℕ)) (v u : A) → answer_to cs v ≡ accepted u → v ≡ u
unfolding answer_to
accepted_is [] v u p = cc
accepted_is (c ∷ cs) v u p = step c.fits p (λ q. accepted_is cs v u q)
  where
    step : (f : Bool) → cond f (refused c.refusal) (answer_to cs v) ≡ accepted u
        → (answer_to cs v ≡ accepted u → v ≡ u) → v ≡ u
    step true q r = absurd (differ u (sym q))
    step false q r = r q
