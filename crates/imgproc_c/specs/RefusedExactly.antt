-- When an export is refused that goes from picture to picture, takes the grid's method as a number, sets or clears a
-- skip by hand, or writes or reads a record: with n exactly when n is the number of the first condition of its list
-- that fits, and then every lent buffer, and for a record every lent number, is as it was. Assumes nothing.
use Rattle.std.specs.Prelude.{ℕ, ◌<◌, ◌≡◌, refl, ◌↔◌, List}
use Rattle.std.proofs.Common.{arith, sym, ap, ◌∙◌}
use Rattle.image.specs.Answers.{Answer, accepted, refused, answer_number, bare, Condition}
use Rattle.image.specs.Plane.{overwritten}
use Rattle.image.specs.RefusedExactly.{FirstFits, Exactly, differ, exactly}
use Rattle.imgproc.specs.declared.grid.TileCounts.{TileCounts}
use Rattle.imgproc.specs.GridCalls.{BuildLent, BuildLeft, tiles_from}
use Rattle.imgproc.specs.Calls.{Operator, Loan, Left, conditions_of, answer_of}
use Rattle.imgproc.specs.Reading.{ReadingLent, ReadingLeft, ReadingNumbers, numbers_from}
use Rattle.imgproc.specs.Blanking.{SkipLent, SkipLeft, skip_conditions}
use Rattle.imgproc.specs.RefusedExactly.{
  numbers,
  call_exactly,
  call_keeps,
  build_exactly,
  build_keeps,
  sets_exactly,
  sets_keeps,
  reading_exactly,
  reading_keeps,
}
use Rattle.records.specs.declared.record.Record.{Record}
use Rattle.records.specs.Format.{encoded}
use Rattle.records.specs.Refusals.{numbers as record_numbers, read_conditions as record_read_conditions}
use Rattle.records.specs.Calls.{read_from as record_read}
use Rattle.records.specs.RefusedExactly.{read_exactly}
use Rattle.imgproc_c.specs.Exports.{Tells, Exports}
use Rattle.imgproc_c.specs.Grid.{number_conditions, built_from, BuildsNumber, skip_answer, SetsSkipNumber}
use Rattle.imgproc_c.specs.Reading.{number_conditions as read_conditions, read_from, ReadsNumber}
use Rattle.imgproc_c.specs.Records.{flat_conditions, flat_answer, WritesNumber}

-- the build
module _ {method : ℕ} {lent : BuildLent} {held held' : TileCounts} {number : ℕ} {left : BuildLeft}
    (export : BuildsNumber method lent held number left held') where
  pub build_number_exactly :
      Exactly (numbers (number_conditions method lent)) (tiles_from lent) (built_from method lent)
  build_number_exactly = build_exactly export.builds

  pub build_number_keeps : {n : ℕ} → built_from method lent ≡ refused n
      → (left.workspace ≡ lent.workspace)
      × ((left.thresholds ≡ lent.thresholds)
      × ((left.skips ≡ lent.skips) × (left.open_tiles ≡ lent.open_tiles)))
  build_number_keeps = build_keeps export.builds

-- equal refusals have one number
same : {A : Type 0} {m n : ℕ} → ◌≡◌ {A = Answer A} (refused m) (refused n) → m ≡ n
same e = cc

-- the number of an answer is n, above 0, exactly when n is that of the first condition that fits
number_exactly : {A : Type 0} {cs : List (Condition ℕ)} {values : A} (answer : Answer A) → Exactly cs values answer
    → {number : ℕ} → number ≡ answer_number answer
    → (n : ℕ) → 0 < n → (number ≡ n) ↔ FirstFits cs n
number_exactly (accepted v) x e n p = (
  λ q. absurd (omega arith),
  λ f. absurd (differ v ((x.refused_exactly n).1 f)),
)
number_exactly (refused m) x e n p = (
  λ q. (x.refused_exactly n).0 (ap (λ (k : ℕ). refused k) (sym e ∙ q)),
  λ f. let r : m ≡ n = same ((x.refused_exactly n).1 f) in e ∙ r,
)

-- erosion, dilation, opening, closing, division, both calls of Sauvola: the number that is returned
module _ {S A : Type 0} {operator : Operator S A} {lent : Loan S} {held held' : A} {number : ℕ} {left : Left}
    (export : Exports operator lent held number left held') where
  pub call_number_exactly : (n : ℕ) → 0 < n → (number ≡ n) ↔ FirstFits (numbers (conditions_of operator lent)) n
  call_number_exactly =
      number_exactly (answer_of operator lent) (call_exactly export.serves) export.tells.answers

  pub call_number_keeps : (n : ℕ) → 0 < n → number ≡ n
      → (left.dst ≡ lent.dst) × (left.workspace ≡ lent.workspace)
  call_number_keeps n p q =
      call_keeps export.serves (((call_exactly export.serves).refused_exactly n).1 ((call_number_exactly n p).0 q))

-- the calls that set or clear a skip by hand
module _ {v : ℕ} {lent : SkipLent} {number : ℕ} {left : SkipLeft} (export : SetsSkipNumber v lent number left) where
  pub skip_number_exactly : (n : ℕ) → 0 < n → (number ≡ n) ↔ FirstFits (numbers (skip_conditions lent)) n
  skip_number_exactly = number_exactly (skip_answer lent) (sets_exactly export.sets) export.answers

  pub skip_number_keeps : (n : ℕ) → 0 < n → number ≡ n
      → (left.skips ≡ lent.skips) × (left.open_tiles ≡ lent.open_tiles)
  skip_number_keeps n p q =
      sets_keeps export.sets (((sets_exactly export.sets).refused_exactly n).1 ((skip_number_exactly n p).0 q))

-- the reading
module _ {method : ℕ} {lent : ReadingLent} {held held' : ReadingNumbers} {number : ℕ} {left : ReadingLeft}
    (export : ReadsNumber method lent held number left held') where
  pub reading_number_exactly :
      Exactly (numbers (read_conditions method lent)) (numbers_from lent) (read_from method lent)
  reading_number_exactly = reading_exactly export.reads

  pub reading_number_keeps : {n : ℕ} → read_from method lent ≡ refused n
      → (left.dst ≡ lent.dst)
      × ((left.bytes ≡ lent.bytes) × ((left.u64s ≡ lent.u64s) × (left.open_tiles ≡ lent.open_tiles)))
  reading_number_keeps = reading_keeps export.reads

-- the write of a record
module _ {r : Record} {before after : List ℕ} {number : ℕ} (export : WritesNumber r before number after) where
  pub record_write_exactly : (n : ℕ) → 0 < n
      → (number ≡ n) ↔ FirstFits (record_numbers (flat_conditions r before)) n
  record_write_exactly =
      number_exactly
      (flat_answer r before)
      (exactly bare (record_numbers (flat_conditions r before)) refl)
      export.answers

  pub record_write_keeps : (n : ℕ) → 0 < n → number ≡ n → after ≡ before
  record_write_keeps n p q =
      let x = exactly (overwritten 0 (encoded r) before) (record_numbers (flat_conditions r before)) refl in
      export.leaves ∙ rw ((x.refused_exactly n).1 ((record_write_exactly n p).0 q))

-- the read of a record
module _ (source : List ℕ) {held held' : Record} {number : ℕ}
    (export : Tells (record_read source) held number held') where
  pub record_read_exactly : (n : ℕ) → 0 < n
      → (number ≡ n) ↔ FirstFits (record_numbers (record_read_conditions source)) n
  record_read_exactly = number_exactly (record_read source) (read_exactly source) export.answers

  pub record_read_keeps : (n : ℕ) → 0 < n → number ≡ n → held' ≡ held
  record_read_keeps n p q =
      export.hands_out ∙ rw (((read_exactly source).refused_exactly n).1 ((record_read_exactly n p).0 q))
