-- When a call of this crate is refused: with n exactly when n is the number of the first condition of its list that
-- fits, and then every lent buffer is as it was; accepted exactly when none fits. (FirstFits and Exactly are image's.)
-- Assumes nothing.
use Rattle.std.specs.Prelude.{Ok, Err}
use Rattle.std.specs.Prelude.{ℕ, ◌≡◌, refl, Bool, true, false, cond, List, [], ◌∷◌, eqb, length, get_or}
use Rattle.std.proofs.Common.{sym, ◌∙◌}
use Rattle.image.specs.Answers.{Answer, Bare, bare, refused, Condition, numbered, answer_to}
use Rattle.image.specs.RefusedExactly.{Exactly, differ, exactly}
use Rattle.imgproc.specs.declared.ImgProcError.{ImgProcError}
use Rattle.imgproc.specs.declared.grid.queries.TileThresholdGrid.{TileThresholdGrid}
use Rattle.imgproc.specs.Refusals.{Check, error_number, Conditions, first, answer_by}
use Rattle.imgproc.specs.Calls.{Operator, Loan, Left, conditions_of, Serves}
use Rattle.imgproc.specs.declared.grid.TileCounts.{TileCounts}
use Rattle.imgproc.specs.GridCalls.{
  BuildLent,
  BuildLeft,
  tiles_from,
  BuildsBy,
  pixel_conditions,
  row_conditions,
  tile_of,
  tile_row_of,
  skipped,
  threshold_asked,
  skip_asked,
  row_skip_asked,
}
use Rattle.imgproc.specs.Blanking.{SkipLent, SkipLeft, skip_conditions, SetsSkip}
use Rattle.imgproc.specs.Reading.{ReadingNumbers, ReadingLent, ReadingLeft, numbers_from, ReadsBy}

-- a list of conditions by its numbers
abbrev pub numbers : Conditions → List (Condition ℕ)
numbers cs = numbered error_number cs

-- an answer by a check is the answer to its list
answer_is : {A : Type 0} (cs : Conditions) (v : A) → answer_by (first cs) v ≡ answer_to (numbers cs) v
unfolding first answer_to
answer_is [] v = refl
answer_is (c ∷ cs) v = step c.fits (answer_is cs v)
  where
    step : (f : Bool) → answer_by (first cs) v ≡ answer_to (numbers cs) v
        → answer_by (cond f (Err c.refusal) (first cs)) v
        ≡ cond f (refused (error_number c.refusal)) (answer_to (numbers cs) v)
    step true p = refl
    step false p = p

-- a check that refuses
record RefusedBy (c : Check) : Type 0 where
  kind : ImgProcError
  is : c ≡ Err kind

module _ {A : Type 0} (values : A) where
  by_list : (cs : Conditions) {answer : Answer A} → answer ≡ answer_by (first cs) values
      → Exactly (numbers cs) values answer
  by_list cs is = exactly values (numbers cs) (is ∙ answer_is cs values)

  -- a refused answer comes from a check that refuses
  refuses : (c : Check) {n : ℕ} → answer_by c values ≡ refused n → RefusedBy c
  refuses (Ok u) p = absurd (differ values p)
  refuses (Err e) p = record { kind = e; is = refl }

-- ---- erosion, dilation, opening, closing, division, Sauvola: every call from picture to picture
module _ {S A : Type 0} {operator : Operator S A} {lent : Loan S} {answer : Answer A} {left : Left}
    (serves : Serves operator lent answer left) where
  abbrev call_values : A
  call_values = operator.values lent.settings lent.source.width lent.source.height

  pub call_exactly : Exactly (numbers (conditions_of operator lent)) call_values answer
  call_exactly = by_list call_values (conditions_of operator lent) serves.answers

  pub call_keeps : {n : ℕ} → answer ≡ refused n → (left.dst ≡ lent.dst) × (left.workspace ≡ lent.workspace)
  call_keeps p =
      let r = (refuses call_values (first (conditions_of operator lent)) (sym serves.answers ∙ p)).is in
      (serves.leaves ∙ rw r, rw r at serves.keeps)

-- ---- the build of a grid, by its own list or by another
module _ {cs : Conditions} {lent : BuildLent} {answer : Answer TileCounts} {left : BuildLeft}
    (builds : BuildsBy cs lent answer left) where
  pub build_exactly : Exactly (numbers cs) (tiles_from lent) answer
  build_exactly = by_list (tiles_from lent) cs builds.answers

  pub build_keeps : {n : ℕ} → answer ≡ refused n
      → (left.workspace ≡ lent.workspace)
      × ((left.thresholds ≡ lent.thresholds) × ((left.skips ≡ lent.skips) × (left.open_tiles ≡ lent.open_tiles)))
  build_keeps p =
      let r = (refuses (tiles_from lent) (first cs) (sym builds.answers ∙ p)).is in (
        rw r at builds.workspace_left,
        (builds.thresholds_left ∙ rw r, (builds.skips_left ∙ rw r, builds.open_tiles_left ∙ rw r)),
      )

-- ---- the queries, which are lent nothing that they write to
module _ (q : TileThresholdGrid) (d : List ℕ) where
  pub threshold_exactly : (x y : ℕ)
      → Exactly (numbers (pixel_conditions q (length d) x y)) (get_or d (tile_of q x y) 0) (threshold_asked q d x y)
  threshold_exactly x y = by_list (get_or d (tile_of q x y) 0) (pixel_conditions q (length d) x y) refl

  pub skip_exactly : (x y : ℕ)
      → Exactly (numbers (pixel_conditions q (length d) x y)) (skipped d (tile_of q x y)) (skip_asked q d x y)
  skip_exactly x y = by_list (skipped d (tile_of q x y)) (pixel_conditions q (length d) x y) refl

  pub row_skip_exactly : (y : ℕ)
      → Exactly (numbers (row_conditions q (length d) y))
      (eqb (get_or d (tile_row_of q y) 0) 0)
      (row_skip_asked q d y)
  row_skip_exactly y = by_list (eqb (get_or d (tile_row_of q y) 0) 0) (row_conditions q (length d) y) refl

-- ---- the calls that set or clear a skip by hand
module _ {v : ℕ} {lent : SkipLent} {answer : Answer Bare} {left : SkipLeft} (sets : SetsSkip v lent answer left) where
  pub sets_exactly : Exactly (numbers (skip_conditions lent)) bare answer
  sets_exactly = by_list bare (skip_conditions lent) sets.answers

  pub sets_keeps : {n : ℕ} → answer ≡ refused n
      → (left.skips ≡ lent.skips) × (left.open_tiles ≡ lent.open_tiles)
  sets_keeps p =
      let r = (refuses bare (first (skip_conditions lent)) (sym sets.answers ∙ p)).is in
      (sets.skips_left ∙ rw r, sets.open_tiles_left ∙ rw r)

-- ---- the reading, by its own list or by another
module _ {cs : Conditions} {lent : ReadingLent} {answer : Answer ReadingNumbers} {left : ReadingLeft}
    (reads : ReadsBy cs lent answer left) where
  pub reading_exactly : Exactly (numbers cs) (numbers_from lent) answer
  reading_exactly = by_list (numbers_from lent) cs reads.answers

  pub reading_keeps : {n : ℕ} → answer ≡ refused n
      → (left.dst ≡ lent.dst)
      × ((left.bytes ≡ lent.bytes) × ((left.u64s ≡ lent.u64s) × (left.open_tiles ≡ lent.open_tiles)))
  reading_keeps p =
      let r = (refuses (numbers_from lent) (first cs) (sym reads.answers ∙ p)).is in (
        reads.leaves ∙ rw r,
        (rw r at reads.bytes_left, (rw r at reads.u64s_left, reads.open_tiles_left ∙ rw r)),
      )
