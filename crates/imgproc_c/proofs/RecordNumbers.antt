-- Derives what a write of flat numbers answers and leaves from how a record is made of them, and written. Assumes nothing.
use Rattle.std.specs.Prelude.{ℕ, ◌≡◌, refl, ◌≤◌, ◌<◌, List, [], length}
use Rattle.std.proofs.Common.{sym, ap, subst, ◌∙◌, lt-ltb, le-ltb}
use Rattle.image.specs.Answers.{Answer, accepted, refused, Bare, bare, values_out, answer_to}
use Rattle.image.specs.AnswerLaws.{first_refuses, accepted_is}
use Rattle.image.specs.RefusedExactly.{NoneFits, none, next, exactly}
use Rattle.records.specs.declared.record.Record.{Record}
use Rattle.records.specs.Format.{record_bytes}
use Rattle.records.specs.Refusals.{numbers, make_conditions, write_conditions}
use Rattle.records.specs.Calls.{Writes, made_of}
use Rattle.records.specs.RefusedExactly.{make_exactly}
use Rattle.imgproc_c.specs.Records.{flat_conditions, flat_answer, flat_bytes}

module _ (r : Record) (before : List ℕ) where
  -- a destination that is too short
  module _ (short : length before < record_bytes) where
    to_short : {A : Type 0} (v : A) → refused 13 ≡ answer_to (numbers (flat_conditions r before)) v
    unfolding answer_to
    to_short v = rw (lt-ltb (length before) record_bytes short)

    pub short_answer : refused 13 ≡ flat_answer r before
    short_answer = to_short bare

    pub short_bytes : before ≡ flat_bytes r before
    short_bytes = ap (λ (a : Answer (List ℕ)). values_out a before) (to_short _)

  -- one that is long enough: only the numbers count
  module _ (long : record_bytes ≤ length before) where
    by_numbers : {A : Type 0} (v : A) → answer_to (numbers (flat_conditions r before)) v ≡ answer_to (numbers (make_conditions r)) v
    unfolding answer_to
    by_numbers v = rw (le-ltb (length before) record_bytes long)

    -- numbers of which no record is made
    module _ {n : ℕ} (unmade : refused n ≡ made_of r) where
      to_unmade : {A : Type 0} (v : A) → refused n ≡ answer_to (numbers (flat_conditions r before)) v
      to_unmade v = first_refuses (numbers (make_conditions r)) [] r v unmade ∙ sym (by_numbers v)

      pub unmade_answer : refused n ≡ flat_answer r before
      unmade_answer = to_unmade bare

      pub unmade_bytes : before ≡ flat_bytes r before
      unmade_bytes = ap (λ (a : Answer (List ℕ)). values_out a before) (to_unmade _)

    -- a record that is made, and written: a write has every condition of the list but the last
    module _ {made : Record} (is : accepted made ≡ made_of r) where
      made_is : r ≡ made
      made_is = accepted_is (numbers (make_conditions r)) r made (sym is)

      none_fits : NoneFits (numbers (make_conditions r))
      none_fits = (make_exactly r).accepted_exactly.0 (sym is ∙ ap accepted (sym made_is))

      none_left : NoneFits (numbers (make_conditions r)) → NoneFits (numbers (write_conditions r before))
      none_left (next sides (next sums (next fit none))) = next (le-ltb (length before) record_bytes long) (next sides (next sums none))

      as_written : {A : Type 0} (v : A) → answer_to (numbers (write_conditions r before)) v ≡ answer_to (numbers (flat_conditions r before)) v
      as_written v =
          (exactly v (numbers (write_conditions r before)) refl).accepted_exactly.1 (none_left none_fits)
          ∙ sym (by_numbers v ∙ (exactly v (numbers (make_conditions r)) refl).accepted_exactly.1 none_fits)

      module _ {answer : Answer Bare} {after : List ℕ} (writes : Writes made before answer after) where
        of_numbers : Writes r before answer after
        of_numbers = subst (λ (m : Record). Writes m before answer after) (sym made_is) writes

        pub made_answer : answer ≡ flat_answer r before
        made_answer = of_numbers.answers ∙ as_written bare

        pub made_bytes : after ≡ flat_bytes r before
        made_bytes = of_numbers.leaves ∙ ap (λ (a : Answer (List ℕ)). values_out a before) (as_written _)
