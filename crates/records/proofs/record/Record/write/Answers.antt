-- `write` refuses a short destination, then bad values, and else writes the bytes at the start. Assumes nothing.
use Rattle.std.proofs.Common.{◌≡◌, refl, sym, ℕ, ◌≤◌, List, [], ◌++◌, le-ltb, lt-ltb, length, drop}
use Rattle.std.proofs.lemmas.Result.{err_from_is_err_and}
use Rattle.image.specs.Answers.{accepted, refused, bare, answer_to}
use Rattle.image.specs.Plane.{overwritten}
use Rattle.image.specs.AnswerLaws.{first_refuses}
use Rattle.records.specs.declared.record.Record.{Record}
use Rattle.records.specs.Format.{record_bytes, spelled, encoded}
use Rattle.records.specs.Refusals.{numbers, value_conditions}
use Rattle.records.specs.Calls.{Writes}
use Rattle.records.specs.RefusalLaws.{values_same, values_say, values_good}
use Rattle.records.proofs.record.Record.write.Goals as goal

-- the answer to the values is that of a write to a destination that is long enough
module _ (r : Record) (before : List ℕ) (room : record_bytes ≤ length before) where
  refusing : {n : ℕ} → refused n ≡ answer_to (numbers (value_conditions r)) bare → Writes r before (refused n) before
  unfolding answer_to
  refusing p =
      let long = le-ltb (length before) record_bytes room in
      record {
        answers = rw long p;
        leaves = rw (long, sym (first_refuses (numbers (value_conditions r)) [] bare (overwritten 0 (encoded r) before) p));
      }

  accepting : {after : List ℕ} → accepted bare ≡ answer_to (numbers (value_conditions r)) bare
      → after ≡ overwritten 0 (encoded r) before → Writes r before (accepted bare) after
  unfolding answer_to
  accepting p q =
      let long = le-ltb (length before) record_bytes room in
      let g = values_say r p in
      record { answers = rw long p; leaves = rw (long, sym (values_good r g (overwritten 0 (encoded r) before))) q }

-- the bytes of a record before the bytes after its room are the bytes written at the start
written : (r : Record) (d : List ℕ) → encoded r ++ drop record_bytes d ≡ overwritten 0 (encoded r) d
unfolding encoded spelled
written r d = refl

pub returns-then-destination-lt-RECORD_BYTES : goal.returns-then-destination-lt-RECORD_BYTES
unfolding answer_to
returns-then-destination-lt-RECORD_BYTES c =
    let s = lt-ltb (length c.args.destination.now) record_bytes c.if-destination-lt-RECORD_BYTES.true in
    record { answers = rw s; leaves = rw s }

pub returns-in_err-check : goal.returns-in_err-check
returns-in_err-check c =
    let e = err_from_is_err_and c.from_residual.result c.from_residual.ensures.1 in
    rw (e.1, e.2) (refusing c.args.self c.args.destination.now c.if-destination-lt-RECORD_BYTES.false (values_same c.entry.ensures c.in_err-check.ensures))

pub returns : goal.returns
returns c =
    accepting c.args.self c.args.destination.now c.if-destination-lt-RECORD_BYTES.false (values_same c.entry.ensures c.in_ok-check.ensures)
    (rw (c.copy_from_slice.ensures.after, c.encode.ensures) (written c.args.self c.args.destination.now))
