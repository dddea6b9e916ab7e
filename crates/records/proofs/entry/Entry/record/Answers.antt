-- `Entry::record` checks the values, then that the comparisons fit; of checked numbers the others do. Assumes nothing.
use Rattle.std.proofs.Common.{◌∙◌, sym, arith, ◌+◌, ◌≤◌, le-ltb, lt-ltb}
use Rattle.std.proofs.lemmas.Result.{err_from_is_err_and}
use Rattle.image.specs.Answers.{bare, answer_to}
use Rattle.image.specs.Layout.{area_limit}
use Rattle.image.specs.AnswerLaws.{first_refuses, first_accepts}
use Rattle.records.specs.Refusals.{numbers, value_conditions, fitting}
use Rattle.records.specs.Calls.{entered}
use Rattle.records.specs.RefusalLaws.{GoodValues, values_say, counts_small, fit_where}
use Rattle.records.proofs.entry.Entry.record.Goals as goal
use Rattle.records.proofs.entry.Entry.record.Goals.{In_ok-check}

-- where the values were accepted, the sides and the counts are small
module _ (c : In_ok-check) where
  small : GoodValues (entered c.args.self)
  small = values_say (entered c.args.self) c.in_ok-check.ensures

  count : c.args.self.dark + c.args.self.light + c.args.self.skipped ≤ area_limit
  count = counts_small (entered c.args.self) small

pub returns-in_err-check : goal.returns-in_err-check
returns-in_err-check c =
    let r = entered c.args.self in
    let e = err_from_is_err_and c.from_residual.result c.from_residual.ensures.1 in
    rw (e.1, e.2) (first_refuses (numbers (value_conditions r)) (numbers (fitting r)) bare r c.in_err-check.ensures)

pub returns-in_default : goal.returns-in_default
unfolding answer_to
returns-in_default c =
    let r = entered c.args.self in
    let g = values_say r c.in_ok-check.ensures in
    sym (first_accepts (numbers (value_conditions r)) (numbers (fitting r)) bare r c.in_ok-check.ensures
    ∙ rw (fit_where r g (omega arith) (omega arith), le-ltb c.args.self.comparisons 4294967296 (omega arith)))

pub overflow_cast-result : goal.overflow_cast-result
overflow_cast-result c = omega (arith, (small (goal.at.overflow_cast-result c).In_ok-check).small_width)

pub overflow_cast-result-2 : goal.overflow_cast-result-2
overflow_cast-result-2 c = omega (arith, (small (goal.at.overflow_cast-result-2 c).In_ok-check).small_height)

pub overflow_cast-result-3 : goal.overflow_cast-result-3
overflow_cast-result-3 c = omega (arith, count (goal.at.overflow_cast-result-3 c).In_ok-check)

pub overflow_cast-result-4 : goal.overflow_cast-result-4
overflow_cast-result-4 c = omega (arith, count (goal.at.overflow_cast-result-4 c).In_ok-check)

pub overflow_cast-result-5 : goal.overflow_cast-result-5
overflow_cast-result-5 c = omega (arith, count (goal.at.overflow_cast-result-5 c).In_ok-check)

pub returns : goal.returns
unfolding answer_to
returns c =
    let r = entered c.args.self in
    let g = values_say r c.in_ok-check.ensures in
    rw c.in-Ok.ensures.1
    (sym (first_accepts (numbers (value_conditions r)) (numbers (fitting r)) bare r c.in_ok-check.ensures
    ∙ rw (fit_where r g (omega arith) (omega arith), lt-ltb c.args.self.comparisons 4294967296 c.in-Ok.ensures.0)))
