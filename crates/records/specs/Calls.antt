-- The contracts of the calls: what is answered, and what is left of a lent destination. Definitions only.
use Rattle.std.specs.Prelude.{ℕ, ◌≡◌, List}
use Rattle.image.specs.Answers.{Answer, Bare, bare, values_out, answer_to}
use Rattle.image.specs.Plane.{overwritten}
use Rattle.image.specs.declared.Geometry.{Geometry}
use Rattle.imgproc.specs.Reading.{ReadingNumbers}
use Rattle.records.specs.declared.entry.Entry.{Entry}
use Rattle.records.specs.declared.record.Record.{Record}
use Rattle.records.specs.Format.{encoded, decoded}
use Rattle.records.specs.Refusals.{numbers, write_conditions, read_conditions, make_conditions}

-- the contract of a write: the record's bytes at the destination's start and every other byte as it was, or a refusal
-- and every byte as it was
pub record Writes (r : Record) (before : List ℕ) (answer : Answer Bare) (after : List ℕ) : Type 0 where
  pub answers : answer ≡ answer_to (numbers (write_conditions r before)) bare
  pub leaves :
      after ≡ values_out (answer_to (numbers (write_conditions r before)) (overwritten 0 (encoded r) before)) before

-- what a read answers: the record that the bytes hold, or a refusal
abbrev pub read_from : List ℕ → Answer Record
read_from d = answer_to (numbers (read_conditions d)) (decoded d)

-- what is answered where a record is made of numbers: the record that has them, or a refusal
abbrev pub made_of : Record → Answer Record
made_of r = answer_to (numbers (make_conditions r)) r

-- the numbers of an entry, as those of a record
abbrev pub entered : Entry → Record
entered e = record {
  flask = e.flask;
  pass = e.pass;
  width = e.width;
  height = e.height;
  dark = e.dark;
  light = e.light;
  skipped = e.skipped;
  comparisons = e.comparisons;
}

-- those of a flask, a pass, the sides of a picture and the counts of its reading
abbrev pub kept_of : ℕ → ℕ → Geometry → ReadingNumbers → Record
kept_of flask pass g counts = record {
  flask = flask;
  pass = pass;
  width = g.width;
  height = g.height;
  dark = counts.dark;
  light = counts.light;
  skipped = counts.skipped;
  comparisons = counts.comparisons;
}
