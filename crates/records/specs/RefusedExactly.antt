-- When a call is refused: with n exactly when n is the number of the first condition of its list that fits, and then a
-- lent destination is as it was; accepted exactly when none fits. (FirstFits and Exactly are image's.) Assumes nothing.
use Rattle.std.specs.Prelude.{ℕ, ◌≡◌, refl, List, []}
use Rattle.std.proofs.Common.{sym, ◌∙◌}
use Rattle.image.specs.Answers.{Answer, refused, Bare, bare}
use Rattle.image.specs.Plane.{overwritten}
use Rattle.image.specs.RefusedExactly.{Exactly, exactly}
use Rattle.image.specs.AnswerLaws.{first_refuses}
use Rattle.records.specs.declared.record.Record.{Record}
use Rattle.records.specs.Format.{encoded, decoded}
use Rattle.records.specs.Refusals.{numbers, write_conditions, read_conditions, make_conditions}
use Rattle.records.specs.Calls.{Writes, read_from, made_of}

-- `write`
module _ {r : Record} {before after : List ℕ} {answer : Answer Bare} (writes : Writes r before answer after) where
  pub write_exactly : Exactly (numbers (write_conditions r before)) bare answer
  write_exactly = exactly bare (numbers (write_conditions r before)) writes.answers

  -- it changes no byte where it is refused
  pub write_keeps : {n : ℕ} → answer ≡ refused n → after ≡ before
  write_keeps {n} p =
      let cs = numbers (write_conditions r before) in
      writes.leaves
      ∙ rw (sym (first_refuses cs [] bare (overwritten 0 (encoded r) before) (sym p ∙ writes.answers)))

-- `read`
pub read_exactly : (d : List ℕ) → Exactly (numbers (read_conditions d)) (decoded d) (read_from d)
read_exactly d = exactly (decoded d) (numbers (read_conditions d)) refl

-- `Entry::record` and `of_reading`
pub make_exactly : (r : Record) → Exactly (numbers (make_conditions r)) r (made_of r)
make_exactly r = exactly r (numbers (make_conditions r)) refl
