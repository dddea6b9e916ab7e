-- Says what the exports of records promise: they take and store a record as eight flat numbers. Definitions only.
use Rattle.std.specs.Prelude.{ℕ, ◌≡◌, List, ◌++◌}
use Rattle.image.specs.Answers.{Answer, answer_number, Bare, bare, values_out, answer_to}
use Rattle.image.specs.Plane.{overwritten}
use Rattle.records.specs.declared.record.Record.{Record}
use Rattle.records.specs.Format.{encoded}
use Rattle.records.specs.Refusals.{Conditions, numbers, too_short, make_conditions}

-- the record of flat numbers
abbrev pub record_from : ℕ → ℕ → ℕ → ℕ → ℕ → ℕ → ℕ → ℕ → Record
record_from flask pass w h dark light skipped comparisons = record {
  flask = flask;
  pass = pass;
  width = w;
  height = h;
  dark = dark;
  light = light;
  skipped = skipped;
  comparisons = comparisons;
}

-- a write checks the destination's length first; then the numbers, as where a record is made of them
abbrev pub flat_conditions : Record → List ℕ → Conditions
flat_conditions r before = too_short before ++ make_conditions r

-- the answer of a write of flat numbers
abbrev pub flat_answer : Record → List ℕ → Answer Bare
flat_answer r before = answer_to (numbers (flat_conditions r before)) bare

-- the bytes that it leaves: the record's at the destination's start and every other as it was, or all as they were
abbrev pub flat_bytes : Record → List ℕ → List ℕ
flat_bytes r before =
    values_out (answer_to (numbers (flat_conditions r before)) (overwritten 0 (encoded r) before)) before

-- the export returns the number of that answer, and leaves those bytes
pub record WritesNumber (r : Record) (before : List ℕ) (number : ℕ) (after : List ℕ) : Type 0 where
  pub answers : number ≡ answer_number (flat_answer r before)
  pub leaves : after ≡ flat_bytes r before
