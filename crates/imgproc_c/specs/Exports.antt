-- Says how an export tells an answer: it returns the number, and stores the values in lent places. Definitions only.
use Rattle.std.specs.Prelude.{ℕ, ◌≡◌, Bool}
use Rattle.image.specs.Answers.{Answer, accepted, refused, answer_number, values_out}
use Rattle.imgproc.specs.Fold.{bit}
use Rattle.imgproc.specs.Calls.{Operator, Loan, Left, answer_of, Serves}

-- an export returns the number of an answer, 0 where the call is accepted, and stores the values in a lent place; a
-- refused call leaves that place as it was
pub record Tells {A : Type 0} (told : Answer A) (held : A) (number : ℕ) (held' : A) : Type 0 where
  pub answers : number ≡ answer_number told
  pub hands_out : held' ≡ values_out told held

-- a yes or no goes out as a byte, 1 or 0
abbrev pub as_byte : Answer Bool → Answer ℕ
as_byte (accepted b) = accepted (bit b)
as_byte (refused n) = refused n

-- the export of a call from picture to picture leaves what the call leaves, and tells its answer
pub record Exports {S A : Type 0}
    (operator : Operator S A) (lent : Loan S) (held : A) (number : ℕ) (left : Left) (held' : A)
    : Type 0 where
  pub serves : Serves operator lent (answer_of operator lent) left
  pub tells : Tells (answer_of operator lent) held number held'
