-- `read` refuses bytes that are too few, then another mark, then bad values, and else answers the record that the bytes
-- hold. Assumes nothing.
use Rattle.std.proofs.Common.{◌≡◌, ◌∙◌, sym, ℕ, ◌≤◌, List, [], true, false, le-ltb, lt-ltb, length}
use Rattle.std.proofs.lemmas.Result.{err_from_is_err_and}
use Rattle.image.specs.Answers.{refused, bare, answer_to}
use Rattle.image.specs.AnswerLaws.{first_refuses}
use Rattle.records.specs.Format.{record_bytes, decoded}
use Rattle.records.specs.Refusals.{numbers, value_conditions, marked}
use Rattle.records.specs.Calls.{read_from}
use Rattle.records.specs.RefusalLaws.{values_same, values_say, values_good}
use Rattle.records.proofs.record.Record.read.Goals as goal

-- of bytes that are long enough: those with another mark are refused, and the values of others decide
module _ (d : List ℕ) (room : record_bytes ≤ length d) where
  unmarked : marked d ≡ false → refused 13 ≡ read_from d
  unfolding answer_to
  unmarked p = rw (le-ltb (length d) record_bytes room, p)

  by_values : marked d ≡ true → read_from d ≡ answer_to (numbers (value_conditions (decoded d))) (decoded d)
  unfolding answer_to
  by_values m = rw (le-ltb (length d) record_bytes room, m)

pub returns-then-source-lt-RECORD_BYTES : goal.returns-then-source-lt-RECORD_BYTES
unfolding answer_to
returns-then-source-lt-RECORD_BYTES c = rw (lt-ltb (length c.args.source.now) record_bytes c.if-source-lt-RECORD_BYTES.true)

pub returns-then-not-marked : goal.returns-then-not-marked
returns-then-not-marked c =
    unmarked c.args.source.now c.if-source-lt-RECORD_BYTES.false (sym c.marked.ensures ∙ c.if-not-marked.true)

pub returns-in_err-check : goal.returns-in_err-check
returns-in_err-check c =
    let d = c.args.source.now in
    let e = err_from_is_err_and c.from_residual.result c.from_residual.ensures.1 in
    let r = c.entry.ensures ∙ c.decode-record.ensures in
    let p = values_same r c.in_err-check.ensures in
    rw (e.1, e.2)
    (first_refuses (numbers (value_conditions (decoded d))) [] bare (decoded d) p
    ∙ sym (by_values d c.if-source-lt-RECORD_BYTES.false (sym c.marked.ensures ∙ c.if-not-marked.false)))

pub returns : goal.returns
returns c =
    let d = c.args.source.now in
    let r = c.entry.ensures ∙ c.decode-record.ensures in
    let g = values_say (decoded d) (values_same r c.in_ok-check.ensures) in
    rw c.decode-record.ensures
    (values_good (decoded d) g (decoded d) ∙ sym (by_values d c.if-source-lt-RECORD_BYTES.false (sym c.marked.ensures ∙ c.if-not-marked.false)))
