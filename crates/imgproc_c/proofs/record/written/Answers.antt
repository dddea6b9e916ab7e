-- The write refuses a short destination, makes the record of the numbers, and writes it. Assumes nothing.
use Rattle.std.proofs.lemmas.Result.{err_from_is_err_and}
use Rattle.records.specs.Calls.{entered}
use Rattle.imgproc_c.proofs.RecordNumbers.{
  short_answer,
  short_bytes,
  unmade_answer,
  unmade_bytes,
  made_answer,
  made_bytes,
}
use Rattle.imgproc_c.proofs.record.written.Goals as goal

pub returns-then-destination-lt-RECORD_BYTES-clause-answers : goal.returns-then-destination-lt-RECORD_BYTES-clause-answers
returns-then-destination-lt-RECORD_BYTES-clause-answers c =
    let a = c.args in
    short_answer (entered a.entry) a.destination.now c.if-destination-lt-RECORD_BYTES.true

pub returns-then-destination-lt-RECORD_BYTES-clause-leaves : goal.returns-then-destination-lt-RECORD_BYTES-clause-leaves
returns-then-destination-lt-RECORD_BYTES-clause-leaves c =
    let a = c.args in
    short_bytes (entered a.entry) a.destination.now c.if-destination-lt-RECORD_BYTES.true

pub returns-in_err-record-clause-answers : goal.returns-in_err-record-clause-answers
returns-in_err-record-clause-answers c =
    let a = c.args in
    let e = err_from_is_err_and c.from_residual.result c.from_residual.ensures.1 in
    rw (e.1, e.2) (unmade_answer (entered a.entry) a.destination.now c.if-destination-lt-RECORD_BYTES.false c.in_err-record.ensures)

pub returns-in_err-record-clause-leaves : goal.returns-in_err-record-clause-leaves
returns-in_err-record-clause-leaves c =
    let a = c.args in
    unmade_bytes (entered a.entry) a.destination.now c.if-destination-lt-RECORD_BYTES.false c.in_err-record.ensures

pub returns-clause-answers : goal.returns-clause-answers
returns-clause-answers c =
    let a = c.args in
    made_answer (entered a.entry) a.destination.now c.if-destination-lt-RECORD_BYTES.false c.in_ok-record.ensures c.write.ensures

pub returns-clause-leaves : goal.returns-clause-leaves
returns-clause-leaves c =
    let a = c.args in
    made_bytes (entered a.entry) a.destination.now c.if-destination-lt-RECORD_BYTES.false c.in_ok-record.ensures c.write.ensures
